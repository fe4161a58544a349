-- The laws of a field on its codes alone, and that they give the laws on all numbers once a number that is no code is read as 0.
-- Assumes nothing.
use Rattle.std.specs.Prelude.{◌≡◌, ℕ, ◌<◌, ◌≤◌, nat_lt}
use Rattle.std.proofs.Math.Path.{sym, ap, ap₂}
use Rattle.std.proofs.Common.{◌∙◌, arith}
use Rattle.std.proofs.lemmas.Bool.{cond_both, cond-true, cond-false, lt-ltb, le-ltb, ltb-true}
use Rattle.field.specs.Arithmetic.{Arithmetic, Lawful, code, reading}

pub record OnCodes (A : Arithmetic) : Type 0 where
  pub two : 1 < A.order
  pub fits : A.order < 65536
  pub add-below : (a b : ℕ) → a < A.order → b < A.order → A.add a b < A.order
  pub mul-below : (a b : ℕ) → a < A.order → b < A.order → A.mul a b < A.order
  pub neg-below : (a : ℕ) → a < A.order → A.neg a < A.order
  pub inv-below : (a : ℕ) → a < A.order → A.inv a < A.order
  pub add_comm : (a b : ℕ) → a < A.order → b < A.order → A.add a b ≡ A.add b a
  pub add_assoc : (a b c : ℕ) → a < A.order → b < A.order → c < A.order → A.add (A.add a b) c ≡ A.add a (A.add b c)
  pub add-zero : (a : ℕ) → a < A.order → A.add a 0 ≡ a
  pub add-neg : (a : ℕ) → a < A.order → A.add a (A.neg a) ≡ 0
  pub mul_comm : (a b : ℕ) → a < A.order → b < A.order → A.mul a b ≡ A.mul b a
  pub mul_assoc : (a b c : ℕ) → a < A.order → b < A.order → c < A.order → A.mul (A.mul a b) c ≡ A.mul a (A.mul b c)
  pub mul-one : (a : ℕ) → a < A.order → A.mul a 1 ≡ a
  pub mul-add : (a b c : ℕ) → a < A.order → b < A.order → c < A.order → A.mul a (A.add b c) ≡ A.add (A.mul a b) (A.mul a c)
  pub mul-inv : (a : ℕ) → 0 < a → a < A.order → A.mul a (A.inv a) ≡ 1
  pub inv-zero : A.inv 0 ≡ 0

pub code_below : (q a : ℕ) → 0 < q → code q a < q
code_below q a h = cond_both (nat_lt a q) a 0 (λ x. x < q) (λ e. ltb-true a q e) (λ e. h)

pub code_of : (q a : ℕ) → a < q → code q a ≡ a
code_of q a h = cond-true (nat_lt a q) a 0 (lt-ltb a q h)

pub code_else : (q a : ℕ) → q ≤ a → code q a ≡ 0
code_else q a h = cond-false (nat_lt a q) a 0 (le-ltb a q h)

module _ (A : Arithmetic) (L : OnCodes A) where
  pos : 0 < A.order
  pos = let h = L.two in omega arith

  at : ℕ → ℕ
  at a = code A.order a

  below : (a : ℕ) → at a < A.order
  unfolding at
  below a = code_below A.order a pos

  here : (a : ℕ) → a < A.order → at a ≡ a
  unfolding at
  here a h = code_of A.order a h

  -- what is read of a number that is no code is what is read of 0
  else : (a : ℕ) → A.order ≤ a → at a ≡ at 0
  unfolding at
  else a h = code_else A.order a h ∙ sym (code_of A.order 0 pos)

  pub reading_lawful : Lawful (reading A)
  unfolding at
  reading_lawful = record {
    two = L.two;
    fits = L.fits;
    add-below = λ a b. L.add-below (at a) (at b) (below a) (below b);
    mul-below = λ a b. L.mul-below (at a) (at b) (below a) (below b);
    neg-below = λ a. L.neg-below (at a) (below a);
    inv-below = λ a. L.inv-below (at a) (below a);
    add_comm = λ a b. L.add_comm (at a) (at b) (below a) (below b);
    add_assoc = λ a b c.
        ap (λ (x : ℕ). A.add x (at c)) (here (A.add (at a) (at b)) (L.add-below (at a) (at b) (below a) (below b)))
        ∙ L.add_assoc (at a) (at b) (at c) (below a) (below b) (below c)
        ∙ sym (ap (A.add (at a)) (here (A.add (at b) (at c)) (L.add-below (at b) (at c) (below b) (below c))));
    add-zero = λ a h. ap₂ A.add (here a h) (here 0 pos) ∙ L.add-zero a h;
    add-neg = λ a. ap (A.add (at a)) (here (A.neg (at a)) (L.neg-below (at a) (below a))) ∙ L.add-neg (at a) (below a);
    mul_comm = λ a b. L.mul_comm (at a) (at b) (below a) (below b);
    mul_assoc = λ a b c.
        ap (λ (x : ℕ). A.mul x (at c)) (here (A.mul (at a) (at b)) (L.mul-below (at a) (at b) (below a) (below b)))
        ∙ L.mul_assoc (at a) (at b) (at c) (below a) (below b) (below c)
        ∙ sym (ap (A.mul (at a)) (here (A.mul (at b) (at c)) (L.mul-below (at b) (at c) (below b) (below c))));
    mul-one = λ a h. ap₂ A.mul (here a h) (here 1 L.two) ∙ L.mul-one a h;
    mul-add = λ a b c.
        ap (A.mul (at a)) (here (A.add (at b) (at c)) (L.add-below (at b) (at c) (below b) (below c)))
        ∙ L.mul-add (at a) (at b) (at c) (below a) (below b) (below c)
        ∙ sym (ap₂ A.add (here (A.mul (at a) (at b)) (L.mul-below (at a) (at b) (below a) (below b)))
        (here (A.mul (at a) (at c)) (L.mul-below (at a) (at c) (below a) (below c))));
    mul-inv = λ a p h.
        ap₂ A.mul (here a h) (ap at (ap A.inv (here a h)) ∙ here (A.inv a) (L.inv-below a h))
        ∙ L.mul-inv a p h;
    inv-zero = ap A.inv (here 0 pos) ∙ L.inv-zero;
    add-else = λ a b h. ap (λ (x : ℕ). A.add x (at b)) (else a h);
    mul-else = λ a b h. ap (λ (x : ℕ). A.mul x (at b)) (else a h);
    neg-else = λ a h. ap A.neg (else a h);
    inv-else = λ a h. ap A.inv (else a h);
  }
