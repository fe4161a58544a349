use Rattle.std.proofs.Common.{◌≡◌, get_or}
use Rattle.coding.specs.Steps.{scattered}
use Rattle.coding.proofs.rebuild.scatter.Given as goal

abbrev pub invariant-loop-j : goal.invariant-loop-j
invariant-loop-j g l = (d : g.row.T.Denot) → l.all ≡ scattered l.fn.start l.places (λ j. get_or l.values j d) l.j
