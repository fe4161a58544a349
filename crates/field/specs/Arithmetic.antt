-- What the arithmetic of a finite field is, over codes that are numbers. Assumes nothing.
use Rattle.std.specs.Prelude.{◌≡◌, ℕ, zero, suc, ◌<◌, ◌≤◌, cond, nat_lt}

-- the elements are the numbers below the order: the codes
pub record Arithmetic : Type 0 where
  pub order : ℕ
  pub add : ℕ → ℕ → ℕ
  pub neg : ℕ → ℕ
  pub mul : ℕ → ℕ → ℕ
  pub inv : ℕ → ℕ

-- the laws of a field whose order fits 16 bits; the last four say that a number which is no code counts as 0
pub record Lawful (A : Arithmetic) : Type 0 where
  pub two : 1 < A.order
  pub fits : A.order < 65536
  pub add-below : (a b : ℕ) → A.add a b < A.order
  pub neg-below : (a : ℕ) → A.neg a < A.order
  pub mul-below : (a b : ℕ) → A.mul a b < A.order
  pub inv-below : (a : ℕ) → A.inv a < A.order
  pub add_comm : (a b : ℕ) → A.add a b ≡ A.add b a
  pub add_assoc : (a b c : ℕ) → A.add (A.add a b) c ≡ A.add a (A.add b c)
  pub add-zero : (a : ℕ) → a < A.order → A.add a 0 ≡ a
  pub add-neg : (a : ℕ) → A.add a (A.neg a) ≡ 0
  pub mul_comm : (a b : ℕ) → A.mul a b ≡ A.mul b a
  pub mul_assoc : (a b c : ℕ) → A.mul (A.mul a b) c ≡ A.mul a (A.mul b c)
  pub mul-one : (a : ℕ) → a < A.order → A.mul a 1 ≡ a
  pub mul-add : (a b c : ℕ) → A.mul a (A.add b c) ≡ A.add (A.mul a b) (A.mul a c)
  pub mul-inv : (a : ℕ) → 0 < a → a < A.order → A.mul a (A.inv a) ≡ 1
  pub inv-zero : A.inv 0 ≡ 0
  pub add-else : (a b : ℕ) → A.order ≤ a → A.add a b ≡ A.add 0 b
  pub neg-else : (a : ℕ) → A.order ≤ a → A.neg a ≡ A.neg 0
  pub mul-else : (a b : ℕ) → A.order ≤ a → A.mul a b ≡ A.mul 0 b
  pub inv-else : (a : ℕ) → A.order ≤ a → A.inv a ≡ A.inv 0

-- the code that a number counts as: itself, or 0 where it is q or more
abbrev pub code : ℕ → ℕ → ℕ
code q a = cond (nat_lt a q) a 0

-- an arithmetic that is meant for codes alone, made to take every number
abbrev pub reading : Arithmetic → Arithmetic
reading A = record {
  order = A.order;
  add = λ a b. A.add (code A.order a) (code A.order b);
  neg = λ a. A.neg (code A.order a);
  mul = λ a b. A.mul (code A.order a) (code A.order b);
  inv = λ a. A.inv (code A.order a);
}

-- r times s to the power 2 + 4 + 8 + .. + 2 ^ k
unfoldable pub powers : (ℕ → ℕ → ℕ) → ℕ → ℕ → ℕ → ℕ
powers mul zero s r = r
powers mul (suc k) s r = powers mul k (mul s s) (mul r (mul s s))
