use Rattle.pool.specs.Restored.{Goes}
use Rattle.pool.proofs.refit.Restoring.restore.Given as goal

abbrev pub invariant-loop-offset : goal.invariant-loop-offset
invariant-loop-offset g l =
    g.R.Rack.valid l.initial.rack
    → g.R.Rack.valid l.rack
    × Goes (g.F.Field.arithmetic l.self.field.now) l.self.repair l.self.module l.offset (g.R.Rack.meaning l.initial.rack) (g.R.Rack.meaning l.rack)
