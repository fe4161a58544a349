use Rattle.std.proofs.Common.{◌≡◌, false, get_or, Result, sym, ap, ◌∙◌, subst}
use Rattle.std.proofs.lemmas.Result.{err_from_is_err_and}
use Rattle.layout.specs.declared.plan.Plan.{Plan}
use Rattle.layout.specs.declared.refusal.Refusal.{Refusal}
use Rattle.coding.specs.Schemes.{scheme_of}
use Rattle.coding.proofs.OfPlan.{sound}
use Rattle.pool.specs.declared.words.Found.{Found}
use Rattle.pool.specs.Pools.{standing}
use Rattle.pool.specs.WordSteps.{Looked}
use Rattle.pool.proofs.WordGroups.{column_is}
use Rattle.pool.proofs.LookedUp.{rebuilt, too_much}
use Rattle.pool.proofs.pool.Pool.rebuild_word.Goals as goal

pub returns-in_err-repair : goal.returns-in_err-repair
returns-in_err-repair g c =
    λ held out.
    let x = c.args.self.now in
    let P = c.args.word.plan in
    let A = g.F.Field.arithmetic x.field in
    let order : A.order ≡ P.order = held.order_is ∙ ap (λ (q : Plan). q.order) (sym c.requires) in
    let s = standing g.F.Field.arithmetic g.R.Rack.valid g.R.Rack.meaning x in
    let j = c.args.word.chunk in
    let f : s.held.fitted ((scheme_of P).column j) ≡ false = ap s.held.fitted (sym (column_is P j c.args.word.cell c.args.word.placed)) ∙ out in
    let told = c.in_err-repair.ensures.prepared in
    let p = err_from_is_err_and c.from_residual.result c.from_residual.ensures.1 in
    subst (λ (r : Result Found Refusal). Looked A (scheme_of P) s j c.args.word.offset r) (sym p.1)
    (too_much A (scheme_of P) (sound P A order) s j c.args.word.offset c.outs-out.result (c.outs-out.ensures held.rack_is_valid) f
    c.settled-kind.result c.group.result p.0 c.in_err-repair.field-0.0 c.settled-kind.ensures c.group.ensures.is
    (told.0 c.group.ensures.inside) told.1 p.2)

pub returns : goal.returns
returns g c =
    λ held out.
    let x = c.args.self.now in
    let P = c.args.word.plan in
    let A = g.F.Field.arithmetic x.field in
    let order : A.order ≡ P.order = held.order_is ∙ ap (λ (q : Plan). q.order) (sym c.requires) in
    let s = standing g.F.Field.arithmetic g.R.Rack.valid g.R.Rack.meaning x in
    let j = c.args.word.chunk in
    let f : s.held.fitted ((scheme_of P).column j) ≡ false = ap s.held.fitted (sym (column_is P j c.args.word.cell c.args.word.placed)) ∙ out in
    let told = c.in_ok-repair.ensures.prepared in
    let t = c.settled-kind.result in
    let i = c.group.result in
    let ready = told.2 order in
    let a = c.pieces_at-pieces.result.chunks in
    rebuilt A (scheme_of P) (sound P A order) s j c.args.word.offset c.outs-out.result (c.outs-out.ensures held.rack_is_valid) f
    t i a _ c.settled-kind.ensures c.group.ensures.is told.1
    (c.pieces_at-pieces.ensures.chunks held.rack_is_valid held.kept.order_is (scheme_of P) t i _ ready)
    (ap (λ n. get_or a n 0) c.index.ensures.is)
    (c.pieces_at-pieces.ensures.parities held.rack_is_valid (scheme_of P) t i _ ready)
