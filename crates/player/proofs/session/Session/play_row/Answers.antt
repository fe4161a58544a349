use Rattle.std.proofs.Common.{vec_items, sym, ap, subst}
use Rattle.coding.specs.Schemes.{scheme_of}
use Rattle.pool.specs.Law as law
use Rattle.pool.specs.Pools.{standing}
use Rattle.player.specs.Answers.{pooled}
use Rattle.player.specs.Holding.{within}
use Rattle.player.specs.Rows.{ReadsNext}
use Rattle.player.proofs.Parts.{row_played, plays_same, same_pool}
use Rattle.player.proofs.session.Session.play_row.Goals as goal

pub returns-clause-played : goal.returns-clause-played
returns-clause-played g c =
    let W = g.L.Language.writes in
    let row = c.in_ok-calls.field-0 in
    let h = c.in_ok-told.ensures in
    let A = g.F.Field.arithmetic c.args.pool.now.field in
    let p = c.args.pool.now.plan in
    let s = standing g.F.Field.arithmetic g.R.Rack.valid g.R.Rack.meaning c.args.pool.now in
    let e = standing g.F.Field.arithmetic g.R.Rack.valid g.R.Rack.meaning c.replay.new.pool in
    let told = c.as_slice-2.result.now in
    let plays : law.Plays A (scheme_of p) s (vec_items row.calls) told e =
    subst (λ cs. law.Plays A (scheme_of p) s cs told e) c.as_slice.ensures.value (subst (λ xs. law.Plays A (scheme_of p) s c.as_slice.result.now xs e) (sym c.as_slice-2.ensures.value) h.3) in
    let x = c.in_ok-calls.ensures.0 in
    let y = row_played W A p c.args.self.now c.print_row.new.self x.part x.rest (vec_items row.calls) told s e x.are x.written plays c.in_ok-print_row.ensures.printed c.print_row.ensures.plan in (
      h.0,
      subst (λ l. ReadsNext W l row.next) (sym y.1) x.after,
      c.in_ok-calls.ensures.1,
      plays_same W c.args.self.now (within g.F.Field.arithmetic g.R.Rack.valid g.R.Rack.meaning c.args.pool.now) c.print_row.new.self (pooled A p e) (within g.F.Field.arithmetic g.R.Rack.valid g.R.Rack.meaning c.replay.new.pool)
          (sym (same_pool (g.F.Field.arithmetic c.replay.new.pool.field) A c.replay.new.pool.plan p e (ap g.F.Field.arithmetic h.2) h.1)) y.0,
    )
