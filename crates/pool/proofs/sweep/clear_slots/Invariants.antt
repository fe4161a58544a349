use Rattle.std.proofs.Common.{◌≡◌, ◌+◌}
use Rattle.pool.specs.Blocks.{zeroed, Blocked}
use Rattle.pool.proofs.sweep.clear_slots.Given as goal

abbrev pub invariant-loop-slot : goal.invariant-loop-slot
invariant-loop-slot g l =
    g.R.Rack.valid l.initial.rack →
    Blocked l.module (l.module + 1) l.first l.last l.until (g.R.Rack.meaning l.initial.rack) →
    (g.R.Rack.meaning l.rack ≡ zeroed l.module (l.module + 1) l.first l.slot l.until (g.R.Rack.meaning l.initial.rack))
    × g.R.Rack.valid l.rack
