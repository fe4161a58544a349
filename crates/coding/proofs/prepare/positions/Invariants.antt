use Rattle.coding.proofs.Positions.{Found}
use Rattle.coding.proofs.prepare.positions.Given as goal

abbrev pub invariant-loop-e : goal.invariant-loop-e
invariant-loop-e l = Found l.xs l.e l.list l.n
