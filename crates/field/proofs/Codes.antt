-- The codes of a lawful arithmetic are a field, and what holds in that field holds of the codes. Assumes nothing.
use Rattle.std.proofs.Common.{◌≡◌, ℕ, zero, suc, ◌<◌, ◌≤◌, ◌≢◌, List, get_or, sym, refl, ap, ◌∙◌, arith}
use mathlib.Core.Logic.{by_cases, dite, dif_pos, dif_neg}
use Prim.Native.Nat.{Fin}
use native.Mathlib.Bridge.{le_prop}
use native.Mathlib.Decide.{dec_lt, ℕ_discrete}
use Rattle.field.specs.Arithmetic.{Arithmetic, Lawful}
use Rattle.field.specs.Sums.{total, minus}
use Rattle.field.specs.Systems.{Codes, Solves}
use Rattle.field.proofs.Ring as ring
use Rattle.field.proofs.Ring.{Field}
use Rattle.field.proofs.Linear as linear

-- sums of products with equal first factors
pub sums_same : (A : Arithmetic) (n : ℕ) (f h u : ℕ → ℕ) → ((j : ℕ) → j < n → h j ≡ f j) → total A n (λ j. A.mul (h j) (u j)) ≡ total A n (λ j. A.mul (f j) (u j))
sums_same A zero f h u e = refl
sums_same A (suc n) f h u e =
    ap (λ z. A.add z (A.mul (h n) (u n))) (sums_same A n f h u (λ j l. e j (omega arith)))
    ∙ ap (λ z. A.add (total A n (λ j. A.mul (f j) (u j))) (A.mul z (u n))) (e n (omega arith))

module _ (A : Arithmetic) (L : Lawful A) where
  abbrev pub Code : Type 0
  Code = Fin A.order

  pub zero_below : 0 < A.order
  zero_below = omega (arith, L.two)

  abbrev pub nought : Code
  nought = (0, zero_below)

  abbrev pub field : Field Code
  field =
      record {
        𝟘 = nought;
        𝟙 = (1, L.two);
        add = λ a b. (A.add a.0 b.0, L.add-below a.0 b.0);
        mul = λ a b. (A.mul a.0 b.0, L.mul-below a.0 b.0);
        neg = λ a. (A.neg a.0, L.neg-below a.0);
        inv = λ a. (A.inv a.0, L.inv-below a.0);
        add_comm = λ a b. native.Mathlib.Fin.val_path (L.add_comm a.0 b.0);
        add_assoc = λ a b c. native.Mathlib.Fin.val_path (L.add_assoc a.0 b.0 c.0);
        add-zero = λ a. native.Mathlib.Fin.val_path (L.add-zero a.0 a.1);
        add-neg = λ a. native.Mathlib.Fin.val_path (L.add-neg a.0);
        mul_comm = λ a b. native.Mathlib.Fin.val_path (L.mul_comm a.0 b.0);
        mul_assoc = λ a b c. native.Mathlib.Fin.val_path (L.mul_assoc a.0 b.0 c.0);
        mul-one = λ a. native.Mathlib.Fin.val_path (L.mul-one a.0 a.1);
        mul-add = λ a b c. native.Mathlib.Fin.val_path (L.mul-add a.0 b.0 c.0);
        mul-inv = λ a h. let some : a.0 ≢ 0 = λ e. h (native.Mathlib.Fin.val_path e) in native.Mathlib.Fin.val_path (L.mul-inv a.0 (omega arith) a.1);
        one_nonzero = λ e. let z : ◌≡◌ {A = ℕ} 1 0 = ap (λ (q : Code). q.0) e in omega arith;
      }

  -- the code that a number counts as: itself, or 0 where it is none
  pub code : ℕ → Code
  code x = dite (dec_lt x A.order) (λ h. (x, h)) (λ _. nought)

  pub code_is : (x : ℕ) → x < A.order → (code x).0 ≡ x
  unfolding code
  code_is x h = let e : code x ≡ (x, h) = dif_pos (dec_lt x A.order) le_prop h (λ l. (x, l)) (λ _. nought) in ap (λ (q : Code). q.0) e

  pub code_else : (x : ℕ) → A.order ≤ x → code x ≡ nought
  unfolding code
  code_else x h = dif_neg (dec_lt x A.order) (λ l. omega arith) (λ l. (x, l)) (λ _. nought)

  pub code_zero : code 0 ≡ nought
  code_zero = native.Mathlib.Fin.val_path (code_is 0 zero_below)

  -- numbers that are equal as codes
  pub one_number : (a b : ℕ) → a < A.order → b < A.order → code a ≡ code b → a ≡ b
  one_number a b p q e = sym (code_is a p) ∙ ap (λ (z : Code). z.0) e ∙ code_is b q

  -- an operation does not tell a number from the code that it counts as
  reads : (f : ℕ → ℕ) → ((a : ℕ) → A.order ≤ a → f a ≡ f 0) → (a : ℕ) → f (code a).0 ≡ f a
  reads f else a =
      by_cases (dec_lt a A.order)
      (λ (h : a < A.order). ap f (code_is a h))
      (λ (ne : a < A.order → ⊥). let l : A.order ≤ a = omega arith in ap (λ (q : Code). f q.0) (code_else a l) ∙ sym (else a l))

  pub add_reads : (a b : ℕ) → A.add (code a).0 (code b).0 ≡ A.add a b
  add_reads a b =
      reads (λ x. A.add x (code b).0) (λ x h. L.add-else x (code b).0 h) a
      ∙ reads (A.add a) (λ x h. L.add_comm a x ∙ L.add-else x a h ∙ L.add_comm 0 a) b

  pub mul-reads : (a b : ℕ) → A.mul (code a).0 (code b).0 ≡ A.mul a b
  mul-reads a b =
      reads (λ x. A.mul x (code b).0) (λ x h. L.mul-else x (code b).0 h) a
      ∙ reads (A.mul a) (λ x h. L.mul_comm a x ∙ L.mul-else x a h ∙ L.mul_comm 0 a) b

  pub neg-reads : (a : ℕ) → A.neg (code a).0 ≡ A.neg a
  neg-reads = reads A.neg L.neg-else

  pub inv-reads : (a : ℕ) → A.inv (code a).0 ≡ A.inv a
  inv-reads = reads A.inv L.inv-else

  -- the operations on numbers are those of the field
  pub code_add : (a b : ℕ) → code (A.add a b) ≡ field.add (code a) (code b)
  code_add a b = native.Mathlib.Fin.val_path (code_is (A.add a b) (L.add-below a b) ∙ sym (add_reads a b))

  pub code_mul : (a b : ℕ) → code (A.mul a b) ≡ field.mul (code a) (code b)
  code_mul a b = native.Mathlib.Fin.val_path (code_is (A.mul a b) (L.mul-below a b) ∙ sym (mul-reads a b))

  pub code_neg : (a : ℕ) → code (A.neg a) ≡ field.neg (code a)
  code_neg a = native.Mathlib.Fin.val_path (code_is (A.neg a) (L.neg-below a) ∙ sym (neg-reads a))

  pub code_inv : (a : ℕ) → code (A.inv a) ≡ field.inv (code a)
  code_inv a = native.Mathlib.Fin.val_path (code_is (A.inv a) (L.inv-below a) ∙ sym (inv-reads a))

  pub code_minus : (a b : ℕ) → code (minus A a b) ≡ field.add (code a) (field.neg (code b))
  code_minus a b = code_add a (A.neg b) ∙ ap (λ z. field.add (code a) z) (code_neg b)

  pub zero-mul : (a : ℕ) → A.mul 0 a ≡ 0
  zero-mul a =
      sym (mul-reads 0 a) ∙ ap (λ (q : Code). A.mul q.0 (code a).0) code_zero ∙ ap (λ (q : Code). q.0) (ring.zero-mul field (code a))

  pub total_below : (n : ℕ) (f : ℕ → ℕ) → total A n f < A.order
  total_below zero f = zero_below
  total_below (suc n) f = L.add-below (total A n f) (f n)

  -- terms that are zero add nothing to a sum
  pub total_rest : (n m : ℕ) (f : ℕ → ℕ) → n ≤ m → ((j : ℕ) → n ≤ j → f j ≡ 0) → total A m f ≡ total A n f
  total_rest n zero f h none = let e : 0 ≡ n = omega arith in ap (λ (k : ℕ). total A k f) e
  total_rest n (suc m) f h none =
      by_cases (ℕ_discrete n (suc m))
      (λ (e : n ≡ suc m). ap (λ (k : ℕ). total A k f) (sym e))
      (λ (ne : n ≢ suc m).
      let l : n ≤ m = omega arith in
      ap (A.add (total A m f)) (none m l) ∙ L.add-zero (total A m f) (total_below m f) ∙ total_rest n m f l none)

  -- a sum of products is one in the field
  pub dot_is : (n : ℕ) (f u : ℕ → ℕ) → (linear.dot field n (λ j. code (f j)) (λ j. code (u j))).0 ≡ total A n (λ j. A.mul (f j) (u j))
  dot_is zero f u = refl
  dot_is (suc n) f u =
      ap (λ z. A.add z (A.mul (code (f n)).0 (code (u n)).0)) (dot_is n f u)
      ∙ ap (A.add (total A n (λ j. A.mul (f j) (u j)))) (mul-reads (f n) (u n))

  module _ (n : ℕ) (M : ℕ → ℕ → ℕ) (b u : List ℕ) (codes : Codes A n b) where
    -- a solution is one in the field, and the other way round
    pub up : Solves A n M b u → linear.Solves field n (λ i j. code (M i j)) (λ i. code (get_or b i 0)) (λ j. code (get_or u j 0))
    up s i h = native.Mathlib.Fin.val_path (dot_is n (M i) (λ j. get_or u j 0) ∙ s i h ∙ sym (code_is (get_or b i 0) (codes i h)))

    pub down : linear.Solves field n (λ i j. code (M i j)) (λ i. code (get_or b i 0)) (λ j. code (get_or u j 0)) → Solves A n M b u
    down s i h = sym (dot_is n (M i) (λ j. get_or u j 0)) ∙ ap (λ (q : Code). q.0) (s i h) ∙ code_is (get_or b i 0) (codes i h)
