use Rattle.std.proofs.Common.{◌≡◌, ◌+◌}
use Rattle.coding.proofs.Loops.{Filled}
use Rattle.pool.proofs.carry.Carrying.parities_at.Given as goal

abbrev pub invariant-loop-k : goal.invariant-loop-k
invariant-loop-k g l =
    g.R.Rack.valid l.rack →
    Filled 4 (λ k x. x ≡ (g.R.Rack.meaning l.rack).symbol (l.self.load.plan.d2 + k) l.self.load.group.index l.offset) (λ x. x ≡ x) 0 l.k l.parities
