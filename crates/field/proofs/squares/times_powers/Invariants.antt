use Rattle.std.proofs.Common.{◌≡◌, ℕ, ◌-◌}
use Rattle.field.specs.Arithmetic.{powers}
use Rattle.field.proofs.squares.times_powers.Given as goal

abbrev pub invariant-loop-i : goal.invariant-loop-i
invariant-loop-i g l =
    ((y : ℕ) → goal.F-pre g l.multiply l.square y)
    × ((y : ℕ) → goal.F-pre g l.multiply l.power y)
    × ((mul : ℕ → ℕ → ℕ) → ((x y r : ℕ) → goal.F-post g l.multiply x y r → r ≡ mul x y) → powers mul (l.n - l._i) l.square l.power ≡ powers mul l.n l.a l.fn.start)
