use Rattle.std.proofs.Common.{◌≡◌, length, drop, sym, ◌∙◌, subst}
use Rattle.coding.specs.Schemes.{scheme_of}
use Rattle.pool.specs.Law.{Plays}
use Rattle.pool.specs.Pools.{standing}
use Rattle.player.proofs.Calling.{front_is, plays_whole}
use Rattle.player.proofs.rows.replay.Goals as goal

pub returns : goal.returns
returns g c =
    let h = c.replay.ensures.plays c.requires in
    let A = g.F.Field.arithmetic c.args.pool.now.field in
    let p = scheme_of c.args.pool.now.plan in
    let s = standing g.F.Field.arithmetic g.R.Rack.valid g.R.Rack.meaning c.args.pool.now in
    let e = standing g.F.Field.arithmetic g.R.Rack.valid g.R.Rack.meaning c.replay.new.self in
    let len : c.in_ok-told.told.len ≡ length c.args.calls.now = c.in_ok-told.ensures.len in
    let room : length c.deref_mut.result.now ≡ length c.args.calls.now = c.deref_mut.ensures.len ∙ len in (
      h.held,
      h.same_plan,
      h.same_field,
      subst (λ told. Plays A p s c.args.calls.now told e) (sym (front_is c.in_ok-told.told.len c.replay.new.told (drop (length c.replay.new.told) c.in_ok-told.told.items) (c.replay.ensures.long ∙ room ∙ sym len)))
          (plays_whole A p s e (length c.deref_mut.result.now) (length c.args.calls.now) c.args.calls.now c.replay.new.told (sym room) (c.replay.ensures.long ∙ room) h.plays),
    )
