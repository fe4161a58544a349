use Rattle.std.proofs.Common.{◌∷◌, ◌++◌, codes, decimal}
use Rattle.std.specs.Fmt.{HasWritten, IsPlainFormatter}
use Rattle.layout.specs.Placing.{rows_of, home_of}
use Rattle.player.specs.Texts.{each, sizes_text, row_text}
use Rattle.player.proofs.text.MapDisplay.fmt.Given as goal

abbrev pub invariant-loop-row : goal.invariant-loop-row
invariant-loop-row g l = IsPlainFormatter l.fn.f → HasWritten g.W.Write.write_str_gives l.fn.f (sizes_text l.plan ++ each l.row (row_text l.plan)) l.f

abbrev pub invariant-loop-stripe : goal.invariant-loop-stripe
invariant-loop-stripe g l =
    IsPlainFormatter l.fn.f
    → HasWritten g.W.Write.write_str_gives l.fn.f (sizes_text l.plan ++ each (rows_of l.plan.d l.plan.d2) (row_text l.plan) ++ (10 ∷ codes "home:" ++ each l.stripe (λ s. 32 ∷ decimal (home_of l.plan.d l.plan.d2 s)))) l.f
