use Rattle.std.proofs.Common.{◌≡◌}
use Rattle.coding.specs.Schemes.{scheme_of}
use Rattle.coding.specs.Steps.{flags}
use Rattle.pool.specs.Restored.{GoesThrough}
use Rattle.pool.proofs.refit.Refitting.restore.Given as goal

abbrev pub invariant-loop-index : goal.invariant-loop-index
invariant-loop-index g l =
    g.R.Rack.valid l.initial.rack
    → g.R.Rack.valid l.rack
    × ((g.F.Field.arithmetic l.self.field.now).order ≡ l.self.plan.order →
    GoesThrough (g.F.Field.arithmetic l.self.field.now) (scheme_of l.self.plan) l.self.kind (flags l.self.out) l.self.module l.index (g.R.Rack.meaning l.initial.rack) (g.R.Rack.meaning l.rack))
