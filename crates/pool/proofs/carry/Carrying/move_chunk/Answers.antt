use Rattle.std.proofs.Common.{sym, ◌∙◌, arith}
use Rattle.layout.proofs.OfPlan as layout
use Rattle.coding.specs.Schemes.{scheme_of}
use Rattle.pool.specs.Effects.{chunks_at}
use Rattle.pool.proofs.Gains.{stays, moves}
use Rattle.pool.proofs.Loading.{row_below, slot_of_lem, home_below}
use Rattle.pool.proofs.carry.Carrying.move_chunk.Goals as goal
use Rattle.coding.specs.Pieces.{slot_at}

pub add_shares-requires : goal.add_shares-requires
add_shares-requires g c =
    omega (arith, home_below (g.F.Field.arithmetic c.args.self.now.field.now) c.args.self.now.load c.args.self.now.loaded, layout.rows_le c.args.self.now.load.plan)

pub add_shares-requires-2 : goal.add_shares-requires-2
add_shares-requires-2 g c =
    omega (arith, row_below (g.F.Field.arithmetic c.args.self.now.field.now) c.args.self.now.load c.args.self.now.loaded c.args.e c.requires, layout.rows_le c.args.self.now.load.plan)

pub returns-then-row-self : goal.returns-then-row-self
returns-then-row-self g c =
    λ v.
    let A = g.F.Field.arithmetic c.args.self.now.field.now in
    let L = g.met.F.Field.lawful c.args.self.now.field.now in
    let x = c.args.self.now.load in
    let p = scheme_of x.plan in
    let e = c.args.e in
    stays A L p x.group.index e (chunks_at p (g.R.Rack.meaning c.args.rack.now) c.args.offset) c.args.gains.now
    (sym (slot_of_lem A x c.args.self.now.loaded e c.requires) ∙ c.if-row-self.true ∙ c.args.self.now.loaded.home_is)

pub returns : goal.returns
returns g c =
    λ v.
    let A = g.F.Field.arithmetic c.args.self.now.field.now in
    let L = g.met.F.Field.lawful c.args.self.now.field.now in
    let x = c.args.self.now.load in
    let p = scheme_of x.plan in
    let e = c.args.e in
    moves A L p x.group.index e (chunks_at p (g.R.Rack.meaning c.args.rack.now) c.args.offset)
    x.plan.parity2_range.1 (layout.rows_le x.plan) (slot_at x.group e) (slot_of_lem A x c.args.self.now.loaded e c.requires) c.shares_at-shares.result (c.shares_at-shares.ensures v)
    x.home c.args.self.now.loaded.home_is c.if-row-self.false c.negated-taken.result c.negated-taken.ensures
    c.args.gains.now c.add_shares.new.gains c.add_shares-2.new.gains c.add_shares.ensures c.add_shares-2.ensures
