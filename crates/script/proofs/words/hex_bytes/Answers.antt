use Rattle.std.proofs.Common.{◌∙◌, arith, length-set}
use Rattle.script.proofs.Hex.{hex_more, rest_digits, digit_of, no_bytes, rest_count}
use Rattle.script.proofs.words.hex_bytes.Goals as goal

pub unreachable-requires : goal.unreachable-requires
unreachable-requires c = omega (arith, c.loop-byte.invariant.count, c.loop-byte-test.true, c.in_default.len_below)

pub hex_byte-requires : goal.hex_byte-requires
hex_byte-requires c =
    record {
      first = digit_of 16 c.loop-byte.left.now 0 c.loop-byte.invariant.digits (omega (arith, c.loop-byte.invariant.count, c.loop-byte-test.true));
      second = digit_of 16 c.loop-byte.left.now 1 c.loop-byte.invariant.digits (omega (arith, c.loop-byte.invariant.count, c.loop-byte-test.true));
    }

pub loop-byte-preserved : goal.loop-byte-preserved
loop-byte-preserved c =
    let inv = c.loop-byte.invariant in
    record {
      out = length-set c.loop-byte.byte-items c.loop-byte.byte-index _ ∙ inv.out;
      digits = rest_digits c.loop-byte.left.now inv.digits;
      count = rest_count c.loop-byte.left.now c.loop-byte.byte-index inv.count c.loop-byte-test.true;
      bytes = hex_more c.loop-byte.left.now c.args.word.now c.loop-byte.byte-items c.loop-byte.byte-index _ inv.count c.loop-byte-test.true inv.out c.hex_byte.ensures inv.bytes;
    }

pub returns : goal.returns
returns c =
    let inv = c.loop-byte.invariant in
    no_bytes c.loop-byte.left.now c.args.word.now c.loop-byte.byte-items c.loop-byte.byte-index inv.out c.loop-byte-test.false inv.count inv.bytes
