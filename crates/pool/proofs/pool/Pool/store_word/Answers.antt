use Rattle.std.proofs.Common.{◌≡◌, ◌+◌, sym, ap, ◌∙◌, subst, arith}
use Rattle.layout.specs.declared.plan.Plan.{Plan}
use Rattle.layout.proofs.OfPlan as layout
use Rattle.coding.specs.Schemes.{scheme_of}
use Rattle.coding.proofs.OfPlan.{sound}
use Rattle.pool.specs.Pools.{standing}
use Rattle.pool.specs.Standing.{Kept}
use Rattle.pool.specs.Effects.{changed, written_symbol}
use Rattle.pool.proofs.WordGroups.{row_is, x_is}
use Rattle.pool.proofs.WordCalled.{wrote}
use Rattle.pool.proofs.WordWritten.{meant_of, settled_spans, settled_fetched, none_fetched, staged_spans, written_settled, written_staged}
use Rattle.pool.proofs.pool.Pool.store_word.Goals as goal

pub overflow_cast-cell : goal.overflow_cast-cell
overflow_cast-cell g c =
    let word = c.args.word in
    omega (arith, x_is word.plan word.chunk word.cell word.placed, layout.x_lt word.plan word.chunk word.placed.0)

pub overflow_add-staged : goal.overflow_add-staged
overflow_add-staged g c =
    let word = c.args.word in
    let P = word.plan in
    omega (arith, row_is P word.chunk word.cell word.placed, (layout.promises P).in_rows word.chunk word.placed.0, layout.rows_le P, layout.stripes_le P, c.stripes.ensures)

pub returns-then-is_staged : goal.returns-then-is_staged
returns-then-is_staged g c =
    λ held lv looked.
    let x = c.args.self.now in
    let P = c.args.word.plan in
    let A = g.F.Field.arithmetic x.field in
    let p = scheme_of P in
    let s = standing g.F.Field.arithmetic g.R.Rack.valid g.R.Rack.meaning x in
    let all = sound P A (held.order_is ∙ ap (λ (q : Plan). q.order) (sym c.requires)) in
    let kept = subst (λ (q : Plan). Kept A (scheme_of q) s) (sym c.requires) held.kept in
    let to_pool = λ (rack : _). subst (λ (q : Plan). g.R.Rack.meaning rack ≡ changed (g.R.Rack.meaning x.rack) (written_symbol A (scheme_of q) s c.args.word.chunk c.args.word.offset c.args.symbol c.args.old.symbol)) c.requires in
    let at = c.args.word.placed in
    let lo = c.args.word.inside in
    let j = c.args.word.chunk in
    let o = c.args.word.offset in
    let v = c.args.symbol in
    let old = c.args.old.symbol in
    let cell = c.args.word.cell in
    let slot = c.parity_slot.result in
    let n = c.parities.result in
    let change = c.sub-change.result in
    let most = c.most_parities-most.result in
    let shares = c.shares_of-shares.result in
    let meant = meant_of P A s j v old cell at c.settled-kind.result c.group.result slot n change most shares c.settled-kind.ensures c.group.ensures.is
    (c.parity_slot.ensures c.group.ensures.inside) c.parities.ensures c.sub-change.ensures.is c.most_parities-most.ensures.settled c.most_parities-most.ensures.staged c.shares_of-shares.ensures in
    let put = c.put.ensures held.rack_is_valid in
    let w = g.R.Rack.meaning c.put.new.self in
    let added = c.add_parities.ensures put.1
    (settled_spans A p all s kept j o v old at.0 lo lv cell.column cell.row slot n most shares meant w put.0.after)
    (settled_fetched A p all s kept j o v old at.0 lo lv cell.column cell.row slot n most shares meant w put.0.after c.args.old.parities looked.2) in
    let w' = g.R.Rack.meaning c.add_parities.new.rack in
    let more = c.add_parities-then-is_staged.ensures added.0
    (staged_spans A p all s kept j o v old at.0 lo lv cell.column cell.row slot n most shares meant w put.0.after w' added.1 c.stripes.result c.stripes.ensures)
    (λ k l. none_fetched (g.R.Rack.meaning c.add_parities.new.rack) (p.d' + k) (c.stripes.result + cell.row) o k) in
    wrote g.F.Field.arithmetic g.R.Rack.valid g.R.Rack.meaning x c.add_parities-then-is_staged.new.rack j o v old more.0
    (to_pool c.add_parities-then-is_staged.new.rack (written_staged A p all s kept j o v old at.0 lo lv cell.column cell.row slot n most shares meant w put.0.after w' added.1
    (g.R.Rack.meaning c.add_parities-then-is_staged.new.rack) c.stripes.result c.stripes.ensures more.1 c.if-is_staged.ensures))

pub returns-else-is_staged : goal.returns-else-is_staged
returns-else-is_staged g c =
    λ held lv looked.
    let x = c.args.self.now in
    let P = c.args.word.plan in
    let A = g.F.Field.arithmetic x.field in
    let p = scheme_of P in
    let s = standing g.F.Field.arithmetic g.R.Rack.valid g.R.Rack.meaning x in
    let all = sound P A (held.order_is ∙ ap (λ (q : Plan). q.order) (sym c.requires)) in
    let kept = subst (λ (q : Plan). Kept A (scheme_of q) s) (sym c.requires) held.kept in
    let to_pool = λ (rack : _). subst (λ (q : Plan). g.R.Rack.meaning rack ≡ changed (g.R.Rack.meaning x.rack) (written_symbol A (scheme_of q) s c.args.word.chunk c.args.word.offset c.args.symbol c.args.old.symbol)) c.requires in
    let at = c.args.word.placed in
    let lo = c.args.word.inside in
    let j = c.args.word.chunk in
    let o = c.args.word.offset in
    let v = c.args.symbol in
    let old = c.args.old.symbol in
    let cell = c.args.word.cell in
    let slot = c.parity_slot.result in
    let n = c.parities.result in
    let change = c.sub-change.result in
    let most = c.most_parities-most.result in
    let shares = c.shares_of-shares.result in
    let meant = meant_of P A s j v old cell at c.settled-kind.result c.group.result slot n change most shares c.settled-kind.ensures c.group.ensures.is
    (c.parity_slot.ensures c.group.ensures.inside) c.parities.ensures c.sub-change.ensures.is c.most_parities-most.ensures.settled c.most_parities-most.ensures.staged c.shares_of-shares.ensures in
    let put = c.put.ensures held.rack_is_valid in
    let w = g.R.Rack.meaning c.put.new.self in
    let added = c.add_parities.ensures put.1
    (settled_spans A p all s kept j o v old at.0 lo lv cell.column cell.row slot n most shares meant w put.0.after)
    (settled_fetched A p all s kept j o v old at.0 lo lv cell.column cell.row slot n most shares meant w put.0.after c.args.old.parities looked.2) in
    wrote g.F.Field.arithmetic g.R.Rack.valid g.R.Rack.meaning x c.add_parities.new.rack j o v old added.0
    (to_pool c.add_parities.new.rack (written_settled A p all s kept j o v old at.0 lo lv cell.column cell.row slot n most shares meant w put.0.after
    (g.R.Rack.meaning c.add_parities.new.rack) added.1 c.if-is_staged.ensures))
