use Rattle.std.proofs.Common.{length, drop, vec_items, sym, ap, ◌∙◌, subst}
use Rattle.coding.specs.Schemes.{scheme_of}
use Rattle.pool.specs.Law as law
use Rattle.pool.specs.Openings.{laid_over}
use Rattle.pool.specs.Pools.{standing}
use Rattle.player.specs.Answers.{bare, pooled}
use Rattle.player.specs.Holding.{Left, memory_by, within}
use Rattle.player.proofs.Calling.{front_is}
use Rattle.player.proofs.Parts.{row_played, plays_same, same_pool, then_ok}
use Rattle.player.proofs.session.Session.play_laid.Goals as goal

pub returns : goal.returns
returns g c =
    let W = g.L.Language.writes in
    let b = c.args.self.now in
    let s = c.print_row.new.self in
    let row = c.in_ok-calls.field-0 in
    let lay = c.lay-pool.ensures in
    let A = g.F.Field.arithmetic c.args.field in
    let p = c.args.by in
    let start = laid_over p (g.R.Rack.meaning c.args.rack) in
    let end = standing g.F.Field.arithmetic g.R.Rack.valid g.R.Rack.meaning c.lay-pool.result in
    let m = within g.F.Field.arithmetic g.R.Rack.valid g.R.Rack.meaning c.lay-pool.result in
    let told = c.as_slice-2.result.now in
    let plays : law.Plays A (scheme_of p) start (vec_items row.calls) told end =
    subst (λ cs. law.Plays A (scheme_of p) start cs told end) c.as_slice.ensures.value
    (subst (λ xs. law.Plays A (scheme_of p) start c.as_slice.result.now xs end)
    (sym (c.as_slice-2.ensures.value ∙ front_is c.in_ok-told.told.len c.lay-pool.new.told (drop (length c.lay-pool.new.told) c.in_ok-told.told.items) (lay.long ∙ c.as_mut_slice.ensures.len))) lay.plays) in
    let x = c.in_ok-calls.ensures.0 in
    let y = row_played W A p b s x.part x.rest (vec_items row.calls) told start end x.are x.written plays c.in_ok-print_row.ensures.printed c.print_row.ensures.plan in
    then_ok W c.play_pooled.result (λ x. x.0) (λ x. memory_by x.0 (bare (g.R.Rack.meaning x.1))) (λ x. Left g.R.Rack.valid g.R.Rack.meaning x.1 x.0) b s c.play_pooled.new.self (pooled A p start) m c.print_row.ensures.falls
    (plays_same W b (pooled A p start) s (pooled A p end) m (sym (same_pool (g.F.Field.arithmetic c.lay-pool.result.field) A c.lay-pool.result.plan p end (ap g.F.Field.arithmetic lay.same_field) lay.same_plan)) y.0)
    c.play_pooled.ensures
