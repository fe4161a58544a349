use Rattle.std.proofs.Common.{◌<◌, ℕ, ◌+◌, arith}
use Rattle.layout.proofs.OfPlan as layout
use Rattle.coding.specs.Schemes.{scheme_of}
use Rattle.pool.proofs.Gains.{home_gains}
use Rattle.pool.proofs.Loading.{home_below}
use Rattle.pool.proofs.carry.Carrying.gain_parities.Goals as goal

pub bounds-gains-self : goal.bounds-gains-self
bounds-gains-self g c =
    let s = c.args.self.now in
    omega (arith, home_below (g.F.Field.arithmetic s.field.now) s.load s.loaded, layout.rows_le s.load.plan)

pub returns-then-self : goal.returns-then-self
returns-then-self g c =
    λ v.
    let s = c.args.self.now in
    let x = s.load in
    let p = scheme_of x.plan in
    let low : x.home < 14 = omega (arith, home_below (g.F.Field.arithmetic s.field.now) x s.loaded, layout.rows_le x.plan) in
    home_gains p x.group.index (λ (k : ℕ). (g.R.Rack.meaning c.args.rack.now).symbol (p.d' + k) x.group.index c.args.offset)
    c.if-self.true x.home s.loaded.home_is low c.parities_at.new.parities (c.parities_at.ensures v)
