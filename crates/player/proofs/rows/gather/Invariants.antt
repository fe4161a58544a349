use Rattle.std.proofs.Common.{◌≡◌, ℕ, List, ◌++◌, ◌≤◌, length, vec_items}
use Rattle.player.specs.Rows.{CallsIn}
use Rattle.player.specs.Sessions.{kept}
use Rattle.player.specs.Transcripts.{lines}
use Rattle.player.proofs.rows.gather.Given as goal

abbrev pub invariant-loop-line : goal.invariant-loop-line
invariant-loop-line g l = (length l.left ≤ length l.text) × (part : List (List ℕ)) × (kept (lines l.text) ≡ part ++ kept (lines l.left)) × CallsIn g.L.Language.writes part (vec_items l.calls)

abbrev pub decreases-loop-line : goal.decreases-loop-line
decreases-loop-line g l = length l.left
