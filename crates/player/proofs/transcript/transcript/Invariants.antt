use Rattle.std.proofs.Common.{◌≡◌, ◌+◌, ◌*◌, [], length, IfNone, None, vec_items}
use Rattle.player.specs.Answers.{state, nothing}
use Rattle.player.specs.Sessions.{kept, Sofar, lines_left, next_memory, Makeable}
use Rattle.player.specs.Transcripts.{lines}
use Rattle.player.proofs.Parts.{asks}
use Rattle.player.proofs.transcript.transcript.Given as goal

abbrev pub invariant-loop-asked : goal.invariant-loop-asked
invariant-loop-asked g l =
    record {
      makeable : Makeable l.asked;
      ended : IfNone l.asked (lines_left l.session ≡ []);
      sofar : Sofar g.L.Language.writes (state None nothing) (kept (lines l.script)) (state l.session.plan (next_memory l.asked)) (lines_left l.session) (vec_items l.session.out);
    }

abbrev pub decreases-loop-asked : goal.decreases-loop-asked
decreases-loop-asked g l = 2 * length l.session.left.now + asks l.asked
