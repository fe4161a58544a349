use Rattle.std.proofs.Common.{◌≡◌}
use Rattle.pool.specs.Blocks.{zeroed, Blocked}
use Rattle.pool.proofs.sweep.clear_block.Given as goal

abbrev pub invariant-loop-module : goal.invariant-loop-module
invariant-loop-module g l =
    g.R.Rack.valid l.initial.rack →
    Blocked l.low l.high l.first l.last l.until (g.R.Rack.meaning l.initial.rack) →
    (g.R.Rack.meaning l.rack ≡ zeroed l.low l.module l.first l.last l.until (g.R.Rack.meaning l.initial.rack))
    × g.R.Rack.valid l.rack
