use Rattle.std.proofs.Common.{◌<◌, length, take, sym, refl, ◌∙◌, subst, add-one, arith, length-set, length-take-le, take_all, take-suc-set}
use lib.ListN.{length-replicate}
use Rattle.std.proofs.lemmas.Bool.Decides.{not_from_Decides}
use Rattle.script.specs.Words.{Numbered}
use Rattle.script.proofs.Numerals.{Front, front_more, front_all, front_stuck, front_long}
use Rattle.script.proofs.words.numbers.Goals as goal

pub loop-n-init : goal.loop-n-init
loop-n-init g c = (length-replicate g.row.N 0, refl)

pub loop-n-preserved : goal.loop-n-preserved
loop-n-preserved g c =
    let items = c.loop-n.n-items in
    let i = c.loop-n.n-index in
    let n = c.in_ok-n.field-0 in
    let here : i < length items = omega (arith, c.loop-n.invariant.0, c.loop-n-test.true) in
    let read : Numbered _ n = subst (λ w. Numbered w n) c.split_word.ensures.word c.in_ok-n.ensures in (
      length-set items i _ ∙ c.loop-n.invariant.0,
      rw (add-one i, take-suc-set items i n here, c.split_word.ensures.rest) (front_more c.args.text.now (take i items) c.loop-n.left.now n c.loop-n.invariant.1 read),
    )

pub returns-in_err-n : goal.returns-in_err-n
returns-in_err-n g c =
    rw c.from_residual.ensures
    (λ ns e h.
    front_stuck c.args.text.now (take c.loop-n.n-index c.loop-n.n-items) c.loop-n.left.now ns c.loop-n.invariant.1
    (omega (arith, e, c.loop-n-test.true, length-take-le c.loop-n.n-index c.loop-n.n-items (omega (arith, c.loop-n.invariant.0, c.loop-n-test.true))))
    (λ n r. c.in_err-n.ensures n (subst (λ w. Numbered w n) (sym c.split_word.ensures.word) r)) h)

pub returns-then-is_blank : goal.returns-then-is_blank
returns-then-is_blank g c =
    let all = take_all c.loop-n.n-index c.loop-n.n-items (omega (arith, c.loop-n.invariant.0, c.loop-n-test.false)) in
    (c.loop-n.invariant.0, front_all c.args.text.now c.loop-n.n-items c.loop-n.left.now (subst (λ ns. Front c.args.text.now ns c.loop-n.left.now) all c.loop-n.invariant.1) (c.is_blank.ensures.0 c.if-is_blank.true))

pub returns-else-is_blank : goal.returns-else-is_blank
returns-else-is_blank g c =
    let all = take_all c.loop-n.n-index c.loop-n.n-items (omega (arith, c.loop-n.invariant.0, c.loop-n-test.false)) in
    λ ns e h.
    front_long c.args.text.now c.loop-n.n-items c.loop-n.left.now ns (subst (λ xs. Front c.args.text.now xs c.loop-n.left.now) all c.loop-n.invariant.1)
    (c.loop-n.invariant.0 ∙ sym e)
    (not_from_Decides _ c.is_blank.ensures c.if-is_blank.false) h
