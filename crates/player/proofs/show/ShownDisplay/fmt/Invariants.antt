use Rattle.std.proofs.Common.{◌++◌}
use Rattle.std.specs.Fmt.{HasWritten, IsPlainFormatter}
use Rattle.layout.specs.Counts.{modules_of, slots_of}
use Rattle.player.specs.Shows.{phase_text, out_text, module_text}
use Rattle.player.specs.Texts.{each}
use Rattle.player.proofs.show.ShownDisplay.fmt.Given as goal

abbrev pub invariant-loop-module : goal.invariant-loop-module
invariant-loop-module g l =
    let s = l.self in
    IsPlainFormatter l.fn.f → HasWritten g.W.Write.write_str_gives l.fn.f (phase_text s.phase s.carried ++ each l.«module» (out_text (g.R.Rack.meaning s.rack.now))) l.f

abbrev pub invariant-loop-module-2 : goal.invariant-loop-module-2
invariant-loop-module-2 g l =
    let s = l.self in
    let p = s.plan in
    IsPlainFormatter l.fn.f
    → HasWritten g.W.Write.write_str_gives l.fn.f
    (phase_text s.phase s.carried ++ each (modules_of p.r p.d2 p.r2) (out_text (g.R.Rack.meaning s.rack.now)) ++ each l.«module» (module_text (g.R.Rack.meaning s.rack.now) p.len (slots_of p.d p.d2))) l.f
