use Rattle.std.proofs.Common.{◌≡◌, ◌+◌, ◌<◌, [], get_or, sym, ◌∙◌, arith}
use Rattle.layout.proofs.OfPlan as layout
use Rattle.coding.specs.Schemes.{scheme_of}
use Rattle.pool.specs.Growth.{Whole, grown_symbol, grown, stripe_gain}
use Rattle.pool.specs.Effects.{chunks_at}
use Rattle.pool.proofs.Gains.{gain_below, untouched}
use Rattle.pool.proofs.Growing.{room_kept, room_below, same_rack, rows_below, rows_none, rows_more, rows_skip, rows_all}
use Rattle.pool.proofs.carry.Carrying.carry_at.Goals as goal
use Rattle.pool.proofs.carry.Carrying.carry_at.Goals.{then-self-row, else-self-row}

pub loop-row-init : goal.loop-row-init
loop-row-init g c =
    λ v room lo.
    let A = g.F.Field.arithmetic c.args.self.now.field.now in
    let L = g.met.F.Field.lawful c.args.self.now.field.now in
    let x = c.args.self.now.load in
    let p = scheme_of x.plan in
    let w = g.R.Rack.meaning c.args.rack.now in
    (v, rows_none A L p c.args.offset w (stripe_gain A p x.group.index w c.args.offset) (room_below A p w room (g.R.Rack.bounded c.args.rack.now v)))

pub bounds-self-row : goal.bounds-self-row
bounds-self-row g c = omega (arith, c.loop-row-test.true, c.args.self.now.loaded.rows_is, layout.rows_le c.args.self.now.load.plan)

pub bounds-gains-row : goal.bounds-gains-row
bounds-gains-row g c = omega (arith, c.loop-row-test.true, c.args.self.now.loaded.rows_is, layout.rows_le c.args.self.now.load.plan)

pub loop-row-preserved : goal.loop-row-preserved
loop-row-preserved g c =
    λ v room lo.
    let A = g.F.Field.arithmetic c.args.self.now.field.now in
    let L = g.met.F.Field.lawful c.args.self.now.field.now in
    let x = c.args.self.now.load in
    let p = scheme_of x.plan in
    let i = x.group.index in
    let w = g.R.Rack.meaning c.args.rack.now in
    let f = stripe_gain A p i w c.args.offset in
    let n = c.loop-row.row in
    let inv = c.loop-row.invariant v room lo in
    let within : n < p.rows = omega (arith, c.loop-row-test.true, c.args.self.now.loaded.rows_is) in
    let w₁ = g.R.Rack.meaning c.loop-row.rack in
    let next = grown A p w c.args.offset (rows_below f (n + 1)) in
    elim c.if-self-row.branch [
      | then-self-row t ↦
          let room₁ : Whole A p w₁ = room_kept A p w w₁ (grown_symbol A p w c.args.offset (rows_below f n)) inv.1 room in
          let put = t.add_to_row.ensures inv.0 room₁ lo in
          same_rack g.R.Rack.valid g.R.Rack.meaning c.if-self-row.rack t.add_to_row.new.rack next t.rack-is (
            put.0,
            rows_more A L p c.args.offset w f (λ k h. gain_below A L p i k h (w.symbol (p.d' + k) i c.args.offset) (chunks_at p w c.args.offset)) n
                (get_or c.gains_at-gains.result n []) w₁ (g.R.Rack.meaning t.add_to_row.new.rack)
                (λ k lk. c.gains_at-gains.ensures v room.order_is k n lk within) inv.1 put.1,
          )
      | else-self-row t ↦
          same_rack g.R.Rack.valid g.R.Rack.meaning c.if-self-row.rack c.loop-row.rack next t.rack-is (
            inv.0,
            rows_skip A L p c.args.offset w f n w₁
                (λ k lk. untouched A L p i k n (w.symbol (p.d' + k) i c.args.offset) (chunks_at p w c.args.offset) (sym (c.args.self.now.loaded.touched_are n within) ∙ t.if-self-row.false))
                inv.1,
          )
    ]

pub returns : goal.returns
returns g c =
    λ v room lo.
    let A = g.F.Field.arithmetic c.args.self.now.field.now in
    let L = g.met.F.Field.lawful c.args.self.now.field.now in
    let x = c.args.self.now.load in
    let p = scheme_of x.plan in
    let w = g.R.Rack.meaning c.args.rack.now in
    let inv = c.loop-row.invariant v room lo in
    let all : c.loop-row.row ≡ p.rows = omega (arith, c.loop-row-test.false, c.loop-row.auto.row-end, c.args.self.now.loaded.rows_is) in (
      inv.0,
      rows_all A L p c.args.offset w (stripe_gain A p x.group.index w c.args.offset) c.loop-row.row (g.R.Rack.meaning c.loop-row.rack) all inv.1,
    )
