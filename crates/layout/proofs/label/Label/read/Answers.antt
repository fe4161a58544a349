use Rattle.std.proofs.Common.{refl, ◌∙◌, arith}
use Rattle.std.proofs.lemmas.Result.{err_from_is_err_and}
use Rattle.layout.proofs.Packing.{as_plan, reads}
use Rattle.layout.proofs.label.Label.read.Goals as goal

pub returns-in_err-plan : goal.returns-in_err-plan
returns-in_err-plan c =
    let failed = err_from_is_err_and c.from_residual.result c.from_residual.ensures.1 in
    rw (failed.1, failed.2)
    (as_plan c.args.bytes.now c.in-Some.numbers (c.in-Some.ensures.sized.0 refl) c.in-Some.ensures.numbers (omega arith) (omega arith) ∙ c.in_err-plan.ensures)

pub returns : goal.returns
returns c =
    reads c.args.bytes.now c.in-Some.numbers (c.in-Some.ensures.sized.0 refl) c.in-Some.ensures.numbers (omega arith) (omega arith)
    (λ k. omega (arith, c.type_inv.bytes k)) c.in_ok-plan.plan c.in_ok-plan.ensures
