use Rattle.std.proofs.Common.{ℕ, rules, tests, arith, ◌<◌}
use Rattle.std.specs.Char.{digit_value, IsNotAsciiHexdigit}
use Rattle.std.proofs.lemmas.Bool.Decides.{nat_tests}
use Rattle.std.proofs.lemmas.Iterator.{YieldsList-from_slice, cases_from_all}
use Rattle.script.proofs.Hex.{hex_decided}
use Rattle.script.proofs.words.is_hex.Goals as goal

-- a byte in none of the ranges is no digit
no_digit : (c : ℕ) → IsNotAsciiHexdigit c → digit_value c < 16 → ⊥
no_digit c out small = grind (arith, nat_tests)

pub returns : goal.returns
returns c =
    hex_decided c.args.word.now c.all.result
    (cases_from_all _ _ c.all.result (λ x. digit_value x < 16) (λ x. digit_value x < 16 → ⊥) c.all.ensures.ran (YieldsList-from_slice _ c.iter.ensures.rest) (λ x q k. search (rules, tests)) (λ x q k. search (rules, tests, no_digit)))
