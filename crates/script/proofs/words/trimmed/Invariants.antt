use Rattle.std.proofs.Common.{◌≡◌, length}
use Rattle.script.specs.Words.{trimmed}
use Rattle.script.proofs.words.trimmed.Given as goal

abbrev pub invariant-loop-left : goal.invariant-loop-left
invariant-loop-left l = trimmed l.left ≡ trimmed l.text

abbrev pub decreases-loop-left : goal.decreases-loop-left
decreases-loop-left l = length l.left
