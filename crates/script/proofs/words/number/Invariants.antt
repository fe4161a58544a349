use Rattle.std.proofs.Common.{◌≡◌, ◌<◌, ◌^◌, take}
use Rattle.std.specs.Str.Parse.{AllDigits, digits_value}
use Rattle.script.proofs.words.number.Given as goal

abbrev pub invariant-loop-c : goal.invariant-loop-c
invariant-loop-c l = AllDigits 10 (take l.c-index l.word) × (l.n ≡ digits_value 10 (take l.c-index l.word)) × (l.n < 2 ^ 16)
