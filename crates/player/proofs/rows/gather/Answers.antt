use Rattle.std.proofs.Common.{[], ◌∷◌, ◌++◌, vec_items, sym, ap, ◌∙◌, subst, append_assoc, arith}
use Rattle.player.specs.Rows.{CallsIn}
use Rattle.player.specs.Sessions.{kept, IsNextLine}
use Rattle.player.specs.Transcripts.{lines}
use Rattle.player.proofs.Calling.{calls_more}
use Rattle.player.proofs.rows.gather.Goals as goal

pub loop-line-preserved : goal.loop-line-preserved
loop-line-preserved g c =
    let W = g.L.Language.writes in
    let line = c.in-Some.line.now in
    let h : IsNextLine c.loop-line.left.now line c.in-Some.rest.now = c.in-Some.ensures in
    let inv = c.loop-line.invariant in
    let part = inv.1 in (
      omega (arith, h.1, inv.0),
      part ++ line ∷ [],
      inv.2 ∙ ap (λ l. part ++ l) h.0 ∙ sym (append_assoc part (line ∷ []) (kept (lines c.in-Some.rest.now))),
      subst (CallsIn W (part ++ line ∷ [])) (sym c.in_ok-push-in-Some-OnPool.ensures.items) (calls_more W line c.in-Some-OnPool.call part (vec_items c.loop-line.calls) (rw c.in-Some-OnPool.field-0-is at c.in-Some-OnPool.ensures) inv.3),
    )

pub returns : goal.returns
returns g c =
    let inv = c.loop-line.invariant in
    let left = kept (lines c.loop-line.left.now) in
    (record { part = inv.1; rest = left; are = inv.2; written = inv.3; after = c.in_default.ensures }, tt)
