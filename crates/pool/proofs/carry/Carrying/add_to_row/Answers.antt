use Rattle.std.proofs.Common.{◌≡◌, ℕ, ◌+◌, ◌<◌, ap, arith}
use Rattle.layout.proofs.OfPlan as layout
use Rattle.coding.specs.Schemes.{scheme_of}
use Rattle.pool.specs.Book.{modules}
use Rattle.pool.specs.Growth.{Whole, grown_symbol}
use Rattle.pool.specs.WordSteps.{Spans}
use Rattle.pool.proofs.Growing.{room_spans, room_kept, room_below, part_row, row_none, row_more, row_all}
use Rattle.pool.proofs.carry.Carrying.add_to_row.Goals as goal

pub overflow_add-slot : goal.overflow_add-slot
overflow_add-slot g c = omega (arith, c.args.self.now.loaded.base_is, c.requires, layout.stripes_le c.args.self.now.load.plan, layout.rows_le c.args.self.now.load.plan)

pub loop-k-init : goal.loop-k-init
loop-k-init g c =
    λ v room lo.
    let A = g.F.Field.arithmetic c.args.self.now.field.now in
    let L = g.met.F.Field.lawful c.args.self.now.field.now in
    let p = scheme_of c.args.self.now.load.plan in
    let w = g.R.Rack.meaning c.args.rack.now in
    (v, row_none A L p c.args.offset w c.args.row c.args.shares.now (room_below A p w room (g.R.Rack.bounded c.args.rack.now v)))

pub loop-k-preserved : goal.loop-k-preserved
loop-k-preserved g c =
    λ v room lo.
    let A = g.F.Field.arithmetic c.args.self.now.field.now in
    let L = g.met.F.Field.lawful c.args.self.now.field.now in
    let plan = c.args.self.now.load.plan in
    let p = scheme_of plan in
    let w = g.R.Rack.meaning c.args.rack.now in
    let w₁ = g.R.Rack.meaning c.loop-k.rack in
    let row = c.args.row in
    let n = c.loop-k.k in
    let inv = c.loop-k.invariant v room lo in
    let room₁ : Whole A p w₁ = room_kept A p w w₁ (grown_symbol A p w c.args.offset (part_row row c.args.shares.now n)) inv.1 room in
    let ln : n < p.r' = omega arith in
    let slot : c.args.self.now.load.base + row ≡ p.stripes + row = ap (λ (b : ℕ). b + row) c.args.self.now.loaded.base_is in
    let inside : p.d' + n < modules p = layout.row_parity_lt plan n ln in
    let spans : Spans A w₁ (p.d' + n + 1) (c.args.self.now.load.base + row) c.args.offset =
    room_spans A p w₁ room₁ (p.d' + n) (c.args.self.now.load.base + row) c.args.offset inside (omega (arith, slot, c.requires)) lo in
    let put = c.add_at.ensures inv.0 spans in (
      put.0,
      row_more A L p c.args.offset lo w (room_below A p w room (g.R.Rack.bounded c.args.rack.now v)) row c.requires c.args.shares.now n ln
          w₁ (g.R.Rack.meaning c.add_at.new.rack) (c.args.self.now.load.base + row) inv.1 slot (room.whole (p.d' + n) inside) put.1,
    )

pub returns : goal.returns
returns g c =
    λ v room lo.
    let A = g.F.Field.arithmetic c.args.self.now.field.now in
    let L = g.met.F.Field.lawful c.args.self.now.field.now in
    let p = scheme_of c.args.self.now.load.plan in
    let w = g.R.Rack.meaning c.args.rack.now in
    let inv = c.loop-k.invariant v room lo in
    let all : c.loop-k.k ≡ p.r' = omega (arith, c.loop-k-test.false, c.loop-k.auto.k-end) in (
      inv.0,
      row_all A L p c.args.offset w c.args.row c.args.shares.now c.loop-k.k (g.R.Rack.meaning c.loop-k.rack) all inv.1,
    )
