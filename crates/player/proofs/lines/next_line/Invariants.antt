use Rattle.std.proofs.Common.{◌≡◌, ◌≤◌, length}
use Rattle.player.specs.Transcripts.{lines}
use Rattle.player.specs.Sessions.{kept}
use Rattle.player.proofs.lines.next_line.Given as goal

abbrev pub invariant-loop-left : goal.invariant-loop-left
invariant-loop-left l = record { same : kept (lines l.left) ≡ kept (lines l.text); falls : length l.left ≤ length l.text }

abbrev pub decreases-loop-left : goal.decreases-loop-left
decreases-loop-left l = length l.left
