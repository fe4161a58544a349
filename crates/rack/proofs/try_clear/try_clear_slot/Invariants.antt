use Rattle.std.proofs.Common.{◌≡◌}
use Rattle.rack.specs.Cleared.{cleared}
use Rattle.rack.proofs.try_clear.try_clear_slot.Given as goal

abbrev pub invariant-loop-offset : goal.invariant-loop-offset
invariant-loop-offset g l =
    g.R.Rack.valid l.initial.rack
    → g.R.Rack.valid l.rack
    × (g.R.Rack.meaning l.rack ≡ cleared (g.R.Rack.meaning l.initial.rack) l.module l.slot l.offset)
