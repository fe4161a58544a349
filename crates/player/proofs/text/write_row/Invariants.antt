use Rattle.std.proofs.Common.{◌∷◌, ◌++◌, codes, decimal}
use Rattle.std.specs.Fmt.{HasWritten, IsPlainFormatter}
use Rattle.layout.specs.Placing.{chunk_at}
use Rattle.player.specs.Texts.{each}
use Rattle.player.proofs.text.write_row.Given as goal

abbrev pub invariant-loop-column : goal.invariant-loop-column
invariant-loop-column g l =
    IsPlainFormatter l.fn.f → HasWritten g.W.Write.write_str_gives l.fn.f ((10 ∷ codes "row " ++ (decimal l.fn.row ++ codes ":")) ++ each l.column (λ c. 32 ∷ decimal (chunk_at l.plan.d l.plan.d2 l.fn.row c))) l.f
