-- Any one module may be out: every group of a plan keeps pieces enough. Assumes nothing.
use Rattle.std.proofs.Common.{◌≡◌, ℕ, zero, suc, ◌+◌, ◌*◌, ◌<◌, ◌≤◌, Bool, true, false, cond, eqb, ◌≢◌, sym, refl, ap, ◌∙◌, ⊎_elim, arith}
use mathlib.Core.Logic.{by_cases}
use native.Mathlib.Decide.{ℕ_discrete}
use Rattle.std.proofs.lemmas.Bool.{eqb-true, eq-eqb, both_ways, cases_lt}
use Rattle.layout.specs.declared.plan.Plan.{Plan}
use Rattle.layout.specs.Placing.{column_at}
use Rattle.layout.specs.Promises.{counted, in_column}
use Rattle.layout.proofs.OfPlan as layout
use Rattle.coding.specs.declared.group.Kind.{Kind}
use Rattle.coding.specs.declared.group.Kind.TheVariants.{Stripe, Row}
use Rattle.coding.specs.Schemes.{scheme_of}
use Rattle.coding.specs.Groups.{groups, size, parities, chunk_of, count}
use Rattle.coding.specs.Words.{missing_pieces}
use Rattle.coding.proofs.Counting.{count_none, at_most_one}
use Rattle.coding.proofs.OfPlan as plan

counted_is : (f : ℕ → Bool) (n : ℕ) → counted f n ≡ count f n
unfolding counted
counted_is f zero = refl
counted_is f (suc n) = omega (arith, counted_is f n)

more : (f g : ℕ → Bool) (n : ℕ) (a b : Bool) → f n ≡ a → g n ≡ b → (f n ≡ true → g n ≡ true) → count f n ≤ count g n → count f (suc n) ≤ count g (suc n)
more f g n true true p q h l = omega (arith, ap (λ t. cond {A = ℕ} t 1 0) p, ap (λ t. cond {A = ℕ} t 1 0) q)
more f g n true false p q h l = absurd (both_ways (g n) q (h p))
more f g n false b p q h l = omega (arith, ap (λ t. cond {A = ℕ} t 1 0) p)

-- a test that is harder to pass
pub count_fewer : (f g : ℕ → Bool) (n : ℕ) → ((k : ℕ) → k < n → f k ≡ true → g k ≡ true) → count f n ≤ count g n
count_fewer f g zero h = omega arith
count_fewer f g (suc n) h = more f g n (f n) (g n) refl refl (h n (omega arith)) (count_fewer f g n (λ k l. h k (omega arith)))

-- no module but m is out
abbrev pub Only : (ℕ → Bool) → ℕ → Type 0
Only out m = (k : ℕ) → k ≢ m → out k ≡ false

only_is : (out : ℕ → Bool) (m k : ℕ) → Only out m → out k ≡ true → k ≡ m
only_is out m k only q = by_cases (ℕ_discrete k m) (λ (e : k ≡ m). e) (λ (ne : k ≢ m). absurd (both_ways (out k) (only k ne) q))

module _ (p : Plan) where
  -- how many chunks of a group lie in one column
  pub in_column_lem : (t : Kind) (i c : ℕ) → i < groups (scheme_of p) t → c < p.d2 →
      count (λ e. eqb ((scheme_of p).column (chunk_of (scheme_of p) t i e)) c) (size (scheme_of p) t) ≤ parities (scheme_of p) t
  unfolding in_column
  in_column_lem Stripe s c hs hc =
      omega (arith, (layout.promises p).few s c hs hc, counted_is (λ e. eqb (column_at p.d p.d2 (s * p.d + e)) c) p.d, p.losses)
  in_column_lem Row i c hi hc =
      let one =
      at_most_one (λ e. eqb ((scheme_of p).column ((scheme_of p).chunk i e)) c) p.d2
      (λ a b la lb qa qb.
      sym ((layout.promises p).filled_column i a hi la) ∙ eqb-true _ c qa ∙ sym (eqb-true _ c qb) ∙ (layout.promises p).filled_column i b hi lb) in
      let some = p.parity2_range.0 in
      omega arith

  some_parities : (t : Kind) → 1 ≤ parities (scheme_of p) t
  some_parities Stripe = p.parity_range.0
  some_parities Row = p.parity2_range.0

  module _ (t : Kind) (i : ℕ) (li : i < groups (scheme_of p) t) (out : ℕ → Bool) where
    column_lt : (e : ℕ) → e < size (scheme_of p) t → (scheme_of p).column (chunk_of (scheme_of p) t i e) < p.d2
    column_lt e h = (layout.promises p).in_columns _ (plan.group_chunk_lt p t i e li h)

    chunks_out : ℕ
    chunks_out = count (λ e. out ((scheme_of p).column (chunk_of (scheme_of p) t i e))) (size (scheme_of p) t)

    parities_out : ℕ
    parities_out = count (λ k. out (p.d2 + k)) (parities (scheme_of p) t)

    misses_is : missing_pieces (scheme_of p) t i out ≡ chunks_out + parities_out
    unfolding chunks_out parities_out
    misses_is = ap (λ (n : ℕ). n + count (λ k. out (p.d2 + k)) (parities (scheme_of p) t)) (plan.missing_is p t i out li)

    pub none_out : ((k : ℕ) → out k ≡ false) → missing_pieces (scheme_of p) t i out ≡ 0
    unfolding chunks_out parities_out
    none_out none =
        let a : chunks_out ≡ 0 = count_none _ (size (scheme_of p) t) (λ e _. none _) in
        let b : parities_out ≡ 0 = count_none _ (parities (scheme_of p) t) (λ k _. none _) in
        omega (arith, misses_is)

    pub one_out : (m : ℕ) → Only out m → missing_pieces (scheme_of p) t i out ≤ parities (scheme_of p) t
    unfolding chunks_out parities_out
    one_out m only =
        ⊎_elim
        (λ (l : m < p.d2).
        let a : chunks_out ≤ parities (scheme_of p) t =
        let f = count_fewer (λ e. out ((scheme_of p).column (chunk_of (scheme_of p) t i e))) (λ e. eqb ((scheme_of p).column (chunk_of (scheme_of p) t i e)) m) (size (scheme_of p) t)
        (λ e _ q. eq-eqb _ m (only_is out m _ only q)) in
        omega (arith, f, in_column_lem t i m li l) in
        let b : parities_out ≡ 0 = count_none (λ k. out (p.d2 + k)) (parities (scheme_of p) t) (λ k _. only (p.d2 + k) (λ e. omega arith)) in
        omega (arith, misses_is))
        (λ (l : p.d2 ≤ m).
        let a : chunks_out ≡ 0 =
        count_none (λ e. out ((scheme_of p).column (chunk_of (scheme_of p) t i e))) (size (scheme_of p) t) (λ e h. only _ (λ s. omega (arith, column_lt e h, s))) in
        let b : parities_out ≤ 1 =
        at_most_one (λ k. out (p.d2 + k)) (parities (scheme_of p) t)
        (λ j k _ _ qj qk. let x = only_is out m (p.d2 + j) only qj in let y = only_is out m (p.d2 + k) only qk in omega arith) in
        omega (arith, misses_is, some_parities t))
        (cases_lt m p.d2)
