use Rattle.std.proofs.Common.{◌≡◌, arith}
use Rattle.layout.proofs.OfPlan as layout
use Rattle.coding.specs.Schemes.{scheme_of}
use Rattle.pool.proofs.Growing.{carried_below, room_kept, carried_none, carried_more, carried_all}
use Rattle.pool.proofs.Loading.{inside}
use Rattle.pool.proofs.carry.Carrying.carry.Goals as goal

pub loop-offset-init : goal.loop-offset-init
loop-offset-init g c =
    λ v room.
    let A = g.F.Field.arithmetic c.args.self.now.field.now in
    let L = g.met.F.Field.lawful c.args.self.now.field.now in
    let x = c.args.self.now.load in
    let p = scheme_of x.plan in
    (v, carried_none A L p (layout.promises x.plan).in_columns x.group.index c.args.self.now.loaded.inside (inside A x c.args.self.now.loaded) (g.R.Rack.meaning c.args.rack.now))

pub loop-offset-preserved : goal.loop-offset-preserved
loop-offset-preserved g c =
    λ v room.
    let A = g.F.Field.arithmetic c.args.self.now.field.now in
    let L = g.met.F.Field.lawful c.args.self.now.field.now in
    let x = c.args.self.now.load in
    let p = scheme_of x.plan in
    let w = g.R.Rack.meaning c.args.rack.now in
    let w₁ = g.R.Rack.meaning c.loop-offset.rack in
    let inv = c.loop-offset.invariant v room in
    let step = c.carry_at.ensures inv.0 (room_kept A p w w₁ (carried_below A p x.group.index w c.loop-offset.offset) inv.1 room) c.loop-offset-test.true in (
      step.0,
      carried_more A L p (layout.promises x.plan).in_columns x.group.index c.args.self.now.loaded.inside (inside A x c.args.self.now.loaded)
          w w₁ (g.R.Rack.meaning c.carry_at.new.rack) c.loop-offset.offset inv.1 step.1,
    )

pub returns : goal.returns
returns g c =
    λ v room.
    let A = g.F.Field.arithmetic c.args.self.now.field.now in
    let L = g.met.F.Field.lawful c.args.self.now.field.now in
    let x = c.args.self.now.load in
    let p = scheme_of x.plan in
    let inv = c.loop-offset.invariant v room in
    let all : c.loop-offset.offset ≡ p.len = omega (arith, c.loop-offset-test.false, c.loop-offset.auto.offset-end) in (
      inv.0,
      carried_all A L p (layout.promises x.plan).in_columns x.group.index c.args.self.now.loaded.inside (inside A x c.args.self.now.loaded)
          (g.R.Rack.meaning c.args.rack.now) (g.R.Rack.meaning c.loop-offset.rack) c.loop-offset.offset all inv.1,
    )
