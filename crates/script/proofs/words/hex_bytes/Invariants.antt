use Rattle.std.proofs.Common.{◌≡◌, ◌+◌, ◌*◌, ◌++◌, length, take}
use Rattle.std.specs.Str.Parse.{AllDigits}
use Rattle.script.specs.Words.{hex_bytes}
use Rattle.script.proofs.words.hex_bytes.Given as goal

abbrev pub invariant-loop-byte : goal.invariant-loop-byte
invariant-loop-byte l =
    record {
      out : length l.byte-items ≡ 16;
      digits : AllDigits 16 l.left;
      count : length l.left + 2 * l.byte-index ≡ 32;
      bytes : take l.byte-index l.byte-items ++ hex_bytes l.left ≡ hex_bytes l.word;
    }
