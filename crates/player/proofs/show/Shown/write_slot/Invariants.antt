use Rattle.std.proofs.Common.{◌∷◌, ◌++◌, codes, decimal}
use Rattle.std.specs.Fmt.{HasWritten, IsPlainFormatter}
use Rattle.player.specs.Texts.{each}
use Rattle.player.proofs.show.Shown.write_slot.Given as goal

abbrev pub invariant-loop-offset : goal.invariant-loop-offset
invariant-loop-offset g l =
    IsPlainFormatter l.fn.f
    → HasWritten g.W.Write.write_str_gives l.fn.f
    ((10 ∷ codes "module " ++ (decimal l.fn.«module» ++ (codes " slot " ++ (decimal l.fn.slot ++ codes ":")))) ++ each l.offset (λ o. 32 ∷ decimal ((g.R.Rack.meaning l.self.rack.now).symbol l.fn.«module» l.fn.slot o))) l.f
