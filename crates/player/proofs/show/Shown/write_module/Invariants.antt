use Rattle.std.specs.Fmt.{HasWritten, IsPlainFormatter}
use Rattle.player.specs.Shows.{slot_text}
use Rattle.player.specs.Texts.{each}
use Rattle.player.proofs.show.Shown.write_module.Given as goal

abbrev pub invariant-loop-slot : goal.invariant-loop-slot
invariant-loop-slot g l =
    IsPlainFormatter l.fn.f → HasWritten g.W.Write.write_str_gives l.fn.f (each l.slot (slot_text (g.R.Rack.meaning l.self.rack.now) l.self.plan.len l.fn.«module»)) l.f
