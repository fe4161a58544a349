use Rattle.std.proofs.Common.{◌≡◌, ℕ, ◌+◌, ◌*◌, ◌<◌, Some, None, Ok, Err, Option, Result, get_or, ◌∙◌, arith, length, take_all, false-eqb}
use Rattle.std.specs.Result.{OkIff, result_ok}
use Rattle.std.proofs.lemmas.Int.Digits.{digits_value_more, digits_more}
use Rattle.std.proofs.lemmas.Str.{digit_value_digit}
use Rattle.std.proofs.lemmas.Str.Parse.{digit_from_value}
use Rattle.script.proofs.Hex.{digit_of}
use Rattle.script.proofs.Numerals.{read_all, too_large}
use Rattle.script.proofs.words.number.Goals as goal

-- a number that is converted, if it fits
fits : {E : Type 0} (r : Result ℕ E) (P : Type 0) (v n : ℕ) (o : Option ℕ) → OkIff r P v → o ≡ result_ok r → o ≡ Some n → P × (n ≡ v)
fits (Ok x) P v n o h e s = (h.0, let q : n ≡ x = cc in q ∙ h.1)
fits (Err x) P v n o h e s = absurd (let z : ◌≡◌ {A = ℕ} 0 1 = cc in omega arith)

not_fits : {E : Type 0} (r : Result ℕ E) (P : Type 0) (v : ℕ) (o : Option ℕ) → OkIff r P v → o ≡ result_ok r → o ≡ None → P → ⊥
not_fits (Ok x) P v o h e s p = absurd (let z : ◌≡◌ {A = ℕ} 0 1 = cc in omega arith)
not_fits (Err x) P v o h e s p = h p

pub loop-c-preserved : goal.loop-c-preserved
loop-c-preserved c =
    let w = c.args.word.now in
    let i = c.loop-c.c-index in
    let small = c.if-not-is_ascii_digit.ensures.bound in
    let more = fits c.try_from.result (c.from.result * 10 + c.from-in-loop-c.result < 65536) (c.from.result * 10 + c.from-in-loop-c.result) c.in_ok-n.n c.ok.result c.try_from.ensures c.ok.ensures.value c.in_ok-n.was in (
      digits_more 10 w i c.loop-c-test.true c.loop-c.invariant.0 small,
      omega (arith, more.1, c.from.ensures, c.from-in-loop-c.ensures, c.loop-c.invariant.1, digits_value_more 10 w i c.loop-c-test.true, digit_value_digit (get_or w i 0) (digit_from_value (get_or w i 0) small)),
      omega (arith, more.0, more.1),
    )

pub returns-then-not-is_ascii_digit : goal.returns-then-not-is_ascii_digit
returns-then-not-is_ascii_digit c n x =
    let w = c.args.word.now in
    let i = c.loop-c.c-index in
    omega (arith, digit_from_value (get_or w i 0) (digit_of 10 w i x.0.1 c.loop-c-test.true), c.if-not-is_ascii_digit.ensures.cases)

pub returns-in_err-n : goal.returns-in_err-n
returns-in_err-n c =
    let w = c.args.word.now in
    let i = c.loop-c.c-index in
    let small = c.if-not-is_ascii_digit.ensures.bound in
    rw c.from_residual.ensures
    (λ n x.
    not_fits c.try_from.result (c.from.result * 10 + c.from-in-loop-c.result < 65536) (c.from.result * 10 + c.from-in-loop-c.result) c.ok.result c.try_from.ensures c.ok.ensures.value c.in_err-n.was
    (omega (arith, c.from.ensures, c.from-in-loop-c.ensures, digit_value_digit (get_or w i 0) (digit_from_value (get_or w i 0) small), too_large w i c.loop-c.n n c.loop-c-test.true c.loop-c.invariant.1 x)))

pub returns : goal.returns
returns c =
    let all = take_all c.loop-c.c-index c.args.word.now c.loop-c-test.false in
    read_all c.args.word.now c.loop-c.n (omega (arith, false-eqb (length c.args.word.now) 0 c.if-is_empty.ensures)) (rw all at c.loop-c.invariant.0) (rw all at c.loop-c.invariant.1) c.loop-c.invariant.2
