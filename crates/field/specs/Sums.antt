-- Sums in a field, and the coefficients of the parities. Assumes nothing.
use Rattle.std.specs.Prelude.{ℕ, zero, suc, ◌+◌}
use Rattle.field.specs.Arithmetic.{Arithmetic}

-- f 0 + f 1 + .. + f (n - 1)
abbrev pub total : Arithmetic → ℕ → (ℕ → ℕ) → ℕ
total A zero f = 0
total A (suc n) f = A.add (total A n f) (f n)

-- a minus b
abbrev pub minus : Arithmetic → ℕ → ℕ → ℕ
minus A a b = A.add a (A.neg b)

-- A(k, x): the inverse of code k minus code 4 + x. It is the weight in parity k of a chunk whose coefficient column is x.
abbrev pub coefficient : Arithmetic → ℕ → ℕ → ℕ
coefficient A k x = A.inv (minus A k (4 + x))
