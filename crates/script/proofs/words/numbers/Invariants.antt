use Rattle.std.proofs.Common.{◌≡◌, length, take}
use Rattle.script.proofs.Numerals.{Front}
use Rattle.script.proofs.words.numbers.Given as goal

abbrev pub invariant-loop-n : goal.invariant-loop-n
invariant-loop-n g l = (length l.n-items ≡ g.row.N) × Front l.text (take l.n-index l.n-items) l.left
