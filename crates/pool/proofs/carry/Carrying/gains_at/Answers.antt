use Rattle.std.proofs.Common.{◌≡◌, ℕ, ◌+◌, arith}
use Rattle.coding.specs.Schemes.{scheme_of}
use Rattle.pool.specs.Effects.{chunks_at}
use Rattle.pool.proofs.Gains.{gains_begun, gains_more, gains_all}
use Rattle.pool.proofs.carry.Carrying.gains_at.Goals as goal

pub loop-e-init : goal.loop-e-init
loop-e-init g c =
    λ v order.
    let A = g.F.Field.arithmetic c.args.self.now.field.now in
    let L = g.met.F.Field.lawful c.args.self.now.field.now in
    let x = c.args.self.now.load in
    let p = scheme_of x.plan in
    let w = g.R.Rack.meaning c.args.rack.now in
    gains_begun A L p x.group.index (λ (k : ℕ). w.symbol (p.d' + k) x.group.index c.args.offset) (chunks_at p w c.args.offset) c.gain_parities-gains.result
    (λ k. omega (arith, order, (g.R.Rack.bounded c.args.rack.now v).below (p.d' + k) x.group.index c.args.offset)) (c.gain_parities-gains.ensures v)

pub loop-e-preserved : goal.loop-e-preserved
loop-e-preserved g c =
    λ v order.
    let A = g.F.Field.arithmetic c.args.self.now.field.now in
    let L = g.met.F.Field.lawful c.args.self.now.field.now in
    let x = c.args.self.now.load in
    let p = scheme_of x.plan in
    let w = g.R.Rack.meaning c.args.rack.now in
    gains_more A L p x.group.index (λ (k : ℕ). w.symbol (p.d' + k) x.group.index c.args.offset) (chunks_at p w c.args.offset) c.loop-e.gains
    c.loop-e.e c.gain_chunk.new.gains (c.loop-e.invariant v order) (c.gain_chunk.ensures v)

pub returns : goal.returns
returns g c =
    λ v order.
    let A = g.F.Field.arithmetic c.args.self.now.field.now in
    let L = g.met.F.Field.lawful c.args.self.now.field.now in
    let x = c.args.self.now.load in
    let p = scheme_of x.plan in
    let w = g.R.Rack.meaning c.args.rack.now in
    let all : c.loop-e.e ≡ p.d = omega (arith, c.loop-e-test.false, c.loop-e.auto.e-end, c.args.self.now.loaded.grouped.size_is) in
    gains_all A L p x.group.index (λ (k : ℕ). w.symbol (p.d' + k) x.group.index c.args.offset) (chunks_at p w c.args.offset) c.loop-e.gains
    c.loop-e.e all (c.loop-e.invariant v order)
