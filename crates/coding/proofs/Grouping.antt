-- The chunks of a group, in a list, and their sums. Assumes nothing.
use Rattle.std.proofs.Common.{◌≡◌, ℕ, ◌+◌, ◌*◌, ◌/◌, ◌%◌, ◌<◌, ◌≤◌, Bool, true, cond, ◌&&◌, eqb, sym, refl, ap, ◌∙◌, div-add-mod', arith, eq-eqb, eqb-true}
use Rattle.std.proofs.lemmas.Nat.{mul-add-lt, div-mul-add, mod-mul-add, mod_below, div_below}
use Rattle.field.specs.Arithmetic.{Arithmetic, Lawful}
use Rattle.field.specs.Sums.{total}
use Rattle.coding.specs.declared.group.Kind.{Kind}
use Rattle.coding.specs.declared.group.Kind.TheVariants.{Stripe, Row}
use Rattle.coding.specs.Schemes.{Scheme, Sound}
use Rattle.coding.specs.Groups.{groups, size, parities, member, chunk_of, index_of, share, parity, count}
use Rattle.coding.specs.Words.{missing_chunks}
use Rattle.coding.proofs.Listed.{Lists}
use Rattle.coding.proofs.Counting.{count_listed}
use Rattle.coding.proofs.Parities.{listed, listed_where}

-- a running sum takes one more term
pub one_more : (A : Arithmetic) → Lawful A → (old s n : ℕ) (f : ℕ → ℕ) →
    A.add (A.add old (A.add s (total A n f))) (f n) ≡ A.add old (A.add s (A.add (total A n f) (f n)))
one_more A L old s n f = L.add_assoc old (A.add s (total A n f)) (f n) ∙ ap (A.add old) (L.add_assoc s (total A n f) (f n))

module _ (A : Arithmetic) (p : Scheme) (sound : Sound A p) where
  pub of_a_stripe : (i : ℕ) → i < p.stripes → Lists p.chunks p.d (λ j. eqb (j / p.d) i) (λ e. i * p.d + e) (λ j. j % p.d)
  of_a_stripe i li =
      record {
        below = λ e le. omega (arith, mul-add-lt i p.d e p.stripes li le, sound.by_stripe);
        pass = λ e le. eq-eqb _ i (div-mul-add i p.d e le);
        place = λ e le. mod-mul-add i p.d e le;
        placed = λ j lj t. mod_below j p.d sound.some;
        back = λ j lj t. ap (λ (s : ℕ). s * p.d + j % p.d) (sym (eqb-true (j / p.d) i t)) ∙ div-add-mod' j p.d;
      }

  pub of_a_row : (i : ℕ) → i < p.rows → Lists p.chunks p.d' (λ j. eqb (p.row j) i) (p.chunk i) p.column
  of_a_row i li =
      record {
        below = λ c lc. sound.filled i c li lc;
        pass = λ c lc. eq-eqb _ i (sound.filled_row i c li lc);
        place = λ c lc. sound.filled_column i c li lc;
        placed = λ j lj t. sound.in_columns j lj;
        back = λ j lj t. ap (λ (s : ℕ). p.chunk s (p.column j)) (sym (eqb-true (p.row j) i t)) ∙ sound.back j lj;
      }

  -- the chunks of a group, in their order
  pub members : (t : Kind) (i : ℕ) → i < groups p t → Lists p.chunks (size p t) (member p t i) (chunk_of p t i) (index_of p t)
  members Stripe i li = of_a_stripe i li
  members Row i li = of_a_row i li

  pub index_below : (t : Kind) (j : ℕ) → j < p.chunks → index_of p t j < size p t
  index_below Stripe j lj = mod_below j p.d sound.some
  index_below Row j lj = sound.in_columns j lj

  -- every chunk is of a stripe and of a row
  abbrev pub group_of : Kind → ℕ → ℕ
  group_of Stripe j = j / p.d
  group_of Row j = p.row j

  pub group_below : (t : Kind) (j : ℕ) → j < p.chunks → group_of t j < groups p t
  group_below Stripe j lj = div_below j p.d p.stripes sound.some (omega (arith, sound.by_stripe))
  group_below Row j lj = sound.in_rows j lj

  pub member_is : (t : Kind) (j : ℕ) → member p t (group_of t j) j ≡ true
  member_is Stripe j = eq-eqb (j / p.d) (j / p.d) refl
  member_is Row j = eq-eqb (p.row j) (p.row j) refl

  pub group_is : (t : Kind) (i j : ℕ) → member p t i j ≡ true → group_of t j ≡ i
  group_is Stripe i j t = eqb-true (j / p.d) i t
  group_is Row i j t = eqb-true (p.row j) i t

  -- no two chunks of a group have one coefficient column
  pub apart : (t : Kind) (i : ℕ) (a b : ℕ) → a < p.chunks → b < p.chunks → member p t i a ≡ true → member p t i b ≡ true → p.x a ≡ p.x b → a ≡ b
  apart Stripe i a b la lb ta tb e = sound.stripe_apart a b la lb (eqb-true _ i ta ∙ sym (eqb-true _ i tb)) e
  apart Row i a b la lb ta tb e = sound.row_apart a b la lb (eqb-true _ i ta ∙ sym (eqb-true _ i tb)) e

  pub few_parities : (t : Kind) → parities p t ≤ 4
  few_parities Stripe = sound.few
  few_parities Row = sound.few'

  -- the chunks of a group that are out, by their places in it
  pub missing_is : (t : Kind) (i : ℕ) (out : ℕ → Bool) → i < groups p t → missing_chunks p t i out ≡ count (λ e. out (p.column (chunk_of p t i e))) (size p t)
  missing_is t i out li =
      count_listed p.chunks (size p t) (member p t i) (λ j. out (p.column j)) (chunk_of p t i) (index_of p t) (members t i li)

  module _ (L : Lawful A) (k : ℕ) (v : ℕ → ℕ) (i : ℕ) where
    -- the parity of a group is the sum over its chunks
    pub group_sum : (t : Kind) → i < groups p t → parity A p (member p t i) k v ≡ total A (size p t) (λ e. share A p k (chunk_of p t i e) (v (chunk_of p t i e)))
    group_sum t li = listed A L p k v (size p t) (member p t i) (chunk_of p t i) (index_of p t) (members t i li)

    -- over those of its chunks that pass a test
    pub group_sum_where : (t : Kind) (q : ℕ → Bool) → i < groups p t →
        parity A p (λ j. member p t i j && q j) k v ≡ total A (size p t) (λ e. cond (q (chunk_of p t i e)) (share A p k (chunk_of p t i e) (v (chunk_of p t i e))) 0)
    group_sum_where t q li = listed_where A L p k v (size p t) (member p t i) q (chunk_of p t i) (index_of p t) (members t i li)
