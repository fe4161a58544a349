use Rattle.std.proofs.Common.{◌≡◌, ◌<◌, length, get_or}
use Rattle.field.specs.Sums.{total}
use Rattle.field.proofs.sums.sum_of_products.Given as goal

abbrev pub invariant-loop-x : goal.invariant-loop-x
invariant-loop-x g l =
    let A = g.F.Field.arithmetic l.field in
    (l.sum < A.order) × (l.sum ≡ total A (length l.yielded) (λ j. A.mul (get_or l.a j 0) (get_or l.b j 0)))
