use Rattle.std.proofs.Common.{◌≤◌, length}
use Rattle.std.specs.Option.{option_map}
use Rattle.player.specs.Holding.{Ready, alone}
use Rattle.player.specs.Sessions.{Plays}
use Rattle.player.proofs.session.Session.play_alone.Given as goal

abbrev pub invariant-loop-line : goal.invariant-loop-line
invariant-loop-line g l =
    record {
      falls : length l.self.left.now ≤ length l.initial.self.left.now;
      ready : Ready g.R.Rack.valid l.rack;
      plays : Plays g.L.Language.writes l.initial.self (alone (option_map g.R.Rack.meaning l.initial.rack)) l.self (alone (option_map g.R.Rack.meaning l.rack));
    }

abbrev pub decreases-loop-line : goal.decreases-loop-line
decreases-loop-line g l = length l.self.left.now
