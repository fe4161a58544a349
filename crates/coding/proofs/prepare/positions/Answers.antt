use Rattle.std.proofs.Common.{◌<◌, length, ◌∙◌, arith}
use Rattle.coding.proofs.Positions.{begun, noted, passed, full, positions, found_le, found_as}
use Rattle.coding.proofs.prepare.positions.Goals as goal
use Rattle.coding.proofs.prepare.positions.Goals.{then-is_set, then-n-lt4, else-n-lt4, else-is_set}

pub loop-e-init : goal.loop-e-init
loop-e-init c = begun c.args.xs.now c.requires.some

pub overflow_add-n : goal.overflow_add-n
overflow_add-n c = omega (arith, found_le c.args.xs.now c.loop-e.e c.loop-e.list c.loop-e.n c.loop-e.invariant)

pub loop-e-preserved : goal.loop-e-preserved
loop-e-preserved c =
    let xs = c.args.xs.now in
    let e = c.loop-e.e in
    let list = c.loop-e.list in
    let n = c.loop-e.n in
    let inv = c.loop-e.invariant in
    let le : e < length xs = omega arith in
    elim c.if-is_set.branch [
      | then-is_set w ↦ elim w.if-n-lt4.branch [
        | then-n-lt4 w' ↦ found_as xs _ _ _ _ _ (w.list-is ∙ w'.list-is) w.n-is (noted xs e list n inv w.if-is_set.true w'.if-n-lt4.true le)
        | else-n-lt4 w' ↦ found_as xs _ _ _ _ _ (w.list-is ∙ w'.list-is) w.n-is (full xs e list n inv w.if-is_set.true w'.if-n-lt4.false)
      ]
      | else-is_set w ↦ found_as xs _ _ _ _ _ w.list-is w.n-is (passed xs e list n inv w.if-is_set.false)
    ]

pub returns : goal.returns
returns c = positions c.args.xs.now c.loop-e.e c.loop-e.list c.loop-e.n c.loop-e.invariant (omega arith)
