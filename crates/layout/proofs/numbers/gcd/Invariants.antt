use Rattle.std.proofs.Common.{◌≡◌}
use Rattle.layout.specs.Placing.{gcd_of}
use Rattle.layout.proofs.numbers.gcd.Given as goal

abbrev pub invariant-loop-y : goal.invariant-loop-y
invariant-loop-y l = gcd_of l.x l.y ≡ gcd_of l.initial.x l.initial.y

abbrev pub decreases-loop-y : goal.decreases-loop-y
decreases-loop-y l = l.y
