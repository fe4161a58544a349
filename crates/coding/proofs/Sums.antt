-- Sums over the numbers below n. Assumes nothing.
use Rattle.std.proofs.Common.{◌≡◌, ℕ, zero, suc, ◌+◌, ◌<◌, Bool, true, false, cond, ◌&&◌, ◌||◌, eqb, ◌≢◌, sym, refl, ap, ◌∙◌, not-suc-le-zero, arith, eqb-true}
use mathlib.Core.Logic.{by_cases}
use native.Mathlib.Decide.{ℕ_discrete}
use borrow.Author.Tests.{eqb-false}
use Rattle.field.proofs.Ring as ring
use Rattle.field.proofs.Ring.{Field}
use Rattle.coding.proofs.Listed.{Lists}

-- what can be added, in any order
pub record Monoid (K : Type 0) : Type 0 where
  pub 𝟘 : K
  pub add : K → K → K
  pub add_comm : (a b : K) → add a b ≡ add b a
  pub add_assoc : (a b c : K) → add (add a b) c ≡ add a (add b c)
  pub add-zero : (a : K) → add a 𝟘 ≡ a

module _ {K : Type 0} (M : Monoid K) where
  open M use {𝟘, add as ◌⊕◌}

  infixl 6 ◌⊕◌
  abbrev pub sum : ℕ → (ℕ → K) → K
  sum zero f = 𝟘
  sum (suc n) f = sum n f ⊕ f n

  -- a where the test holds, else nothing
  abbrev pub only : Bool → K → K
  only b a = cond b a 𝟘

  add_comm : (a b : K) → a ⊕ b ≡ b ⊕ a
  add_comm = M.add_comm

  add_assoc : (a b c : K) → (a ⊕ b) ⊕ c ≡ a ⊕ (b ⊕ c)
  add_assoc = M.add_assoc

  add_left : (a b c : K) → a ⊕ (b ⊕ c) ≡ b ⊕ (a ⊕ c)
  add_left a b c = sym (add_assoc a b c) ∙ ap (λ x. x ⊕ c) (add_comm a b) ∙ add_assoc b a c

  add-zero : (a : K) → a ⊕ 𝟘 ≡ a
  add-zero = M.add-zero

  zero_add : (a : K) → 𝟘 ⊕ a ≡ a
  zero_add a = add_comm 𝟘 a ∙ add-zero a

  pub sum_same : (n : ℕ) (f g : ℕ → K) → ((j : ℕ) → j < n → f j ≡ g j) → sum n f ≡ sum n g
  sum_same zero f g h = refl
  sum_same (suc n) f g h = let a = sum_same n f g (λ j l. h j (omega arith)) in let b = h n (omega arith) in cc

  pub sum_none : (n : ℕ) (f : ℕ → K) → ((j : ℕ) → j < n → f j ≡ 𝟘) → sum n f ≡ 𝟘
  sum_none zero f h = refl
  sum_none (suc n) f h = let a = sum_none n f (λ j l. h j (omega arith)) in let b = h n (omega arith) in cc (add-zero 𝟘)

  either : (a b : Bool) (z : K) → (a && b) ≡ false → only (a || b) z ≡ only a z ⊕ only b z
  either true true z e = absurd (let y : ◌≡◌ {A = ℕ} 0 1 = cc in omega arith)
  either true false z e = sym (add-zero z)
  either false true z e = sym (zero_add z)
  either false false z e = sym (add-zero 𝟘)

  shuffle : (a b c d : K) → (a ⊕ b) ⊕ (c ⊕ d) ≡ (a ⊕ c) ⊕ (b ⊕ d)
  shuffle a b c d = add_assoc a b (c ⊕ d) ∙ ap (λ z. a ⊕ z) (add_left b c d) ∙ sym (add_assoc a c (b ⊕ d))

  pub sum_add : (n : ℕ) (f g : ℕ → K) → sum n (λ j. f j ⊕ g j) ≡ sum n f ⊕ sum n g
  sum_add zero f g = sym (add-zero 𝟘)
  sum_add (suc n) f g = ap (λ z. z ⊕ (f n ⊕ g n)) (sum_add n f g) ∙ shuffle (sum n f) (sum n g) (f n) (g n)

  pub sum_one : (n i : ℕ) (f : ℕ → K) → i < n → ((j : ℕ) → j < n → i ≢ j → f j ≡ 𝟘) → sum n f ≡ f i
  sum_one zero i f l h = absurd (not-suc-le-zero l)
  sum_one (suc n) i f l h =
      by_cases (ℕ_discrete i n)
      (λ (is : i ≡ n). ap (λ z. z ⊕ f n) (sum_none n f (λ j lj. h j (omega arith) (omega arith))) ∙ zero_add (f n) ∙ ap f (sym is))
      (λ (ne : i ≢ n).
      ap (λ z. z ⊕ f n) (sum_one n i f (omega arith) (λ j lj d. h j (omega arith) d)) ∙ ap (λ z. f i ⊕ z) (h n (omega arith) ne) ∙ add-zero (f i))

  pub sum_swap : (n m : ℕ) (f : ℕ → ℕ → K) → sum n (λ i. sum m (λ j. f i j)) ≡ sum m (λ j. sum n (λ i. f i j))
  sum_swap zero m f = sym (sum_none m (λ j. 𝟘) (λ j l. refl))
  sum_swap (suc n) m f = ap (λ z. z ⊕ sum m (λ j. f n j)) (sum_swap n m f) ∙ sym (sum_add m (λ j. sum n (λ i. f i j)) (λ j. f n j))

  module _ (l n : ℕ) (P : ℕ → Bool) (g h : ℕ → ℕ) (lists : Lists l n P g h) (f : ℕ → K) where
    met : ℕ → ℕ → K
    met j e = only (eqb (g e) j) (f (g e))

    met_not : (j e : ℕ) (b : Bool) → eqb (g e) j ≡ b → (g e ≡ j → ⊥) → met j e ≡ 𝟘
    unfolding met
    met_not j e true q ne = absurd (ne (eqb-true (g e) j q))
    met_not j e false q ne = ap (λ b. only b (f (g e))) q

    met_here : (j e : ℕ) (b : Bool) → eqb (g e) j ≡ b → g e ≡ j → met j e ≡ f (g e)
    unfolding met
    met_here j e true q is = ap (λ b. only b (f (g e))) q
    met_here j e false q is = absurd (eqb-false (g e) j q is)

    by_chunk : (j : ℕ) (b : Bool) → P j ≡ b → j < l → only (P j) (f j) ≡ sum n (λ e. met j e)
    by_chunk j true q lj =
        ap (λ b. only b (f j)) q ∙ ap f (sym (lists.back j lj q)) ∙ sym (met_here j (h j) (eqb (g (h j)) j) refl (lists.back j lj q))
        ∙ sym
        (sum_one n (h j) (λ e. met j e) (lists.placed j lj q)
        (λ e le ne. met_not j e (eqb (g e) j) refl (λ s. ne (ap h (sym s) ∙ lists.place e le))))
    by_chunk j false q lj =
        ap (λ b. only b (f j)) q
        ∙ sym
        (sum_none n (λ e. met j e)
        (λ e le. met_not j e (eqb (g e) j) refl (λ s. let z : true ≡ false = sym (lists.pass e le) ∙ ap P s ∙ q in let y : ◌≡◌ {A = ℕ} 0 1 = cc in omega arith)))

    by_place : (e : ℕ) → e < n → sum l (λ j. met j e) ≡ f (g e)
    by_place e le =
        sum_one l (g e) (λ j. met j e) (lists.below e le) (λ j lj ne. met_not j e (eqb (g e) j) refl ne)
        ∙ met_here (g e) e (eqb (g e) (g e)) refl refl

    -- a sum over what passes is a sum over its list
    pub listed : sum l (λ j. only (P j) (f j)) ≡ sum n (λ e. f (g e))
    listed =
        sum_same l (λ j. only (P j) (f j)) (λ j. sum n (λ e. met j e)) (λ j lj. by_chunk j (P j) refl lj)
        ∙ sum_swap l n met ∙ sum_same n (λ e. sum l (λ j. met j e)) (λ e. f (g e)) by_place

  -- two tests, of which one holds at most, and one that holds where either does
  pub sum_joined : (n : ℕ) (a b g : ℕ → Bool) (f : ℕ → K) → ((j : ℕ) → j < n → (a j && b j) ≡ false) → ((j : ℕ) → j < n → g j ≡ (a j || b j)) →
      sum n (λ j. only (g j) (f j)) ≡ sum n (λ j. only (a j) (f j)) ⊕ sum n (λ j. only (b j) (f j))
  sum_joined n a b g f apart is =
      sum_same n (λ j. only (g j) (f j)) (λ j. only (a j) (f j) ⊕ only (b j) (f j)) (λ j lj. ap (λ t. only t (f j)) (is j lj) ∙ either (a j) (b j) (f j) (apart j lj))
      ∙ sum_add n (λ j. only (a j) (f j)) (λ j. only (b j) (f j))

  -- a test that is the same for every term
  pub sum_only : (n : ℕ) (b : Bool) (f : ℕ → K) → only b (sum n f) ≡ sum n (λ j. only b (f j))
  sum_only n true f = refl
  sum_only n false f = sym (sum_none n (λ j. 𝟘) (λ j l. refl))

  pub nested : (b c : Bool) (z : K) → only (b && c) z ≡ only b (only c z)
  nested true c z = refl
  nested false c z = refl

  pub nothing : (b : Bool) → only b 𝟘 ≡ 𝟘
  nothing true = refl
  nothing false = refl

-- the numbers, and the elements of a field, with their sums
abbrev pub numbers : Monoid ℕ
numbers = record { 𝟘 = 0; add = λ a b. a + b; add_comm = λ a b. omega arith; add_assoc = λ a b c. omega arith; add-zero = λ a. omega arith }

abbrev pub elements : {K : Type 0} → Field K → Monoid K
elements F = record { 𝟘 = F.𝟘; add = F.add; add_comm = F.add_comm; add_assoc = F.add_assoc; add-zero = F.add-zero }

module _ {K : Type 0} (F : Field K) where
  open F use {𝟘, 𝟙, add as ◌⊕◌, mul as ◌⊗◌, neg, inv}

  infixl 6 ◌⊕◌
  infixl 7 ◌⊗◌
  neg_unique : (a b : K) → a ⊕ b ≡ 𝟘 → b ≡ neg a
  neg_unique a b e = ring.moved F b a 𝟘 (ring.add_comm F b a ∙ e) ∙ ring.zero_add F (neg a)

  pub mul-neg : (a b : K) → a ⊗ neg b ≡ neg (a ⊗ b)
  mul-neg a b = neg_unique (a ⊗ b) (a ⊗ neg b) (sym (ring.mul-add F a b (neg b)) ∙ ap (λ x. a ⊗ x) (ring.add-neg F b) ∙ ring.mul-zero F a)

  around : (a b : K) → a ⊕ (b ⊕ neg a) ≡ b
  around a b = ring.add_left F a b (neg a) ∙ ap (λ z. b ⊕ z) (ring.add-neg F a) ∙ ring.add-zero F b

  -- one term changes
  pub sum_changed : (n i : ℕ) (f g : ℕ → K) → i < n → ((j : ℕ) → j < n → i ≢ j → g j ≡ f j) → sum (elements F) n g ≡ sum (elements F) n f ⊕ (g i ⊕ neg (f i))
  sum_changed n i f g l h =
      sum_same (elements F) n g (λ j. f j ⊕ (g j ⊕ neg (f j))) (λ j lj. sym (around (f j) (g j)))
      ∙ sum_add (elements F) n f (λ j. g j ⊕ neg (f j))
      ∙ ap (λ z. sum (elements F) n f ⊕ z)
      (sum_one (elements F) n i (λ j. g j ⊕ neg (f j)) l (λ j lj ne. ap (λ z. z ⊕ neg (f j)) (h j lj ne) ∙ ring.add-neg F (f j)))

  pub only_less : (b : Bool) (c v w : K) → only (elements F) b (c ⊗ w) ⊕ neg (only (elements F) b (c ⊗ v)) ≡ only (elements F) b (c ⊗ (w ⊕ neg v))
  only_less true c v w = ap (λ z. c ⊗ w ⊕ z) (sym (mul-neg c v)) ∙ sym (ring.mul-add F c w (neg v))
  only_less false c v w = ring.add-neg F 𝟘
