use Rattle.std.proofs.Common.{refl, ◌/◌, ◌%◌, [], ◌∷◌, get_or, take}
use Rattle.std.specs.Char.{digit_char}
use Rattle.std.specs.Fmt.{HasWritten}
use Rattle.std.proofs.lemmas.Grind.{put_four}
use Rattle.player.specs.Texts.{hex_text}
use Rattle.player.proofs.Labels.{hex_more}
use Rattle.player.proofs.text.write_bytes.Goals as goal

pub loop-byte-preserved : goal.loop-byte-preserved
loop-byte-preserved g c plain =
    let T = g.W.Write.write_str_gives in
    let bytes = c.args.bytes.now in
    let i = c.loop-byte.byte-index in
    let b = get_or bytes i 0 in
    let inv = c.loop-byte.invariant plain in
    let space = c.in_ok-write_str.ensures.writes inv.plain refl in
    let high : HasWritten T c.write_str.new.self (digit_char (b / 16) ∷ []) c.write_str-in-loop-byte.new.self = rw c.hex_digit.ensures at (c.in_ok-write_str-2.ensures.writes space.plain refl) in
    let low : HasWritten T c.write_str-in-loop-byte.new.self (digit_char (b % 16) ∷ []) c.write_str-in-loop-byte-2.new.self = rw c.hex_digit-in-loop-byte.ensures at (c.in_ok-write_str-3.ensures.writes high.plain refl) in
    put_four T c.args.f.now c.loop-byte.f c.write_str.new.self c.write_str-in-loop-byte.new.self c.write_str-in-loop-byte-2.new.self (hex_text (take i bytes)) (32 ∷ []) (digit_char (b / 16) ∷ []) (digit_char (b % 16) ∷ []) _ inv space high low
    (hex_more bytes i c.loop-byte-test.true)
