use Rattle.std.proofs.Common.{◌≤◌, length}
use Rattle.pool.specs.Pools.{Held}
use Rattle.player.specs.Holding.{within}
use Rattle.player.specs.Sessions.{Plays}
use Rattle.player.proofs.session.Session.play_pooled.Given as goal

abbrev pub invariant-loop-pool : goal.invariant-loop-pool
invariant-loop-pool g l =
    record {
      falls : length l.self.left.now ≤ length l.initial.self.left.now;
      held : Held g.F.Field.arithmetic g.R.Rack.valid g.R.Rack.meaning l.pool;
      plays : Plays g.L.Language.writes l.initial.self (within g.F.Field.arithmetic g.R.Rack.valid g.R.Rack.meaning l.initial.pool) l.self (within g.F.Field.arithmetic g.R.Rack.valid g.R.Rack.meaning l.pool);
    }

abbrev pub decreases-loop-pool : goal.decreases-loop-pool
decreases-loop-pool g l = length l.self.left.now
