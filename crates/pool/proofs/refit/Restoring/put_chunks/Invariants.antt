use Rattle.pool.specs.Restored.{PutsChunks}
use Rattle.pool.proofs.refit.Restoring.put_chunks.Given as goal

abbrev pub invariant-loop-e : goal.invariant-loop-e
invariant-loop-e g l =
    g.R.Rack.valid l.initial.rack
    → g.R.Rack.valid l.rack
    × PutsChunks l.self.repair.group l.self.module l.offset l.chunks l.e (g.R.Rack.meaning l.initial.rack) (g.R.Rack.meaning l.rack)
