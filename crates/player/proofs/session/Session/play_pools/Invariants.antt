use Rattle.std.proofs.Common.{◌≤◌, length}
use Rattle.player.specs.Holding.{Startable, started}
use Rattle.player.specs.Sessions.{Plays}
use Rattle.player.proofs.session.Session.play_pools.Given as goal

abbrev pub invariant-loop-asked : goal.invariant-loop-asked
invariant-loop-asked g l =
    record {
      falls : length l.self.left.now ≤ length l.initial.self.left.now;
      valid : g.R.Rack.valid l.rack;
      fits : Startable l.start (g.R.Rack.meaning l.rack);
      plays : Plays g.L.Language.writes l.initial.self (started l.initial.start (g.R.Rack.meaning l.initial.rack)) l.self (started l.start (g.R.Rack.meaning l.rack));
    }

abbrev pub decreases-loop-asked : goal.decreases-loop-asked
decreases-loop-asked g l = length l.self.left.now
