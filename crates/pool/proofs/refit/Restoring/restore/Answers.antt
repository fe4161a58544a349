use Rattle.std.proofs.Common.{◌≡◌, ℕ, subst, arith}
use Rattle.pool.specs.Restored.{Goes}
use Rattle.pool.proofs.Going.{going_space, going_order, going_on}
use Rattle.pool.proofs.refit.Restoring.restore.Goals as goal

pub loop-offset-init : goal.loop-offset-init
loop-offset-init g c = λ h. (h, λ p t i out was ready room lo holds going. going)

pub loop-offset-preserved : goal.loop-offset-preserved
loop-offset-preserved g c =
    λ h.
    let A = g.F.Field.arithmetic c.args.self.now.field.now in
    let m = c.args.self.now.module in
    let o = c.loop-offset.offset in
    let w1 = g.R.Rack.meaning c.loop-offset.rack in
    let w2 = g.R.Rack.meaning c.restore_at.new.rack in
    let inv = c.loop-offset.invariant h in
    let next = c.restore_at.ensures inv.0 in (
      next.0,
      λ p t i out was ready room lo holds going.
          let now = inv.1 p t i out was ready room (omega arith) holds going in
          going_on A p ready.sound t out m was room i o w1 w2 now (omega arith) holds
          (next.1 p t i out ready (going_space A p ready.sound t out m was room i o w1 w2 now (omega arith)) (going_order A p ready.sound t out m was room i o w1 w2 now)),
    )

pub returns : goal.returns
returns g c =
    λ h.
    let inv = c.loop-offset.invariant h in
    let e : c.loop-offset.offset ≡ c.args.len = omega arith in
    (inv.0, subst (λ (n : ℕ). Goes (g.F.Field.arithmetic c.args.self.now.field.now) c.args.self.now.repair c.args.self.now.module n (g.R.Rack.meaning c.args.rack.now) (g.R.Rack.meaning c.loop-offset.rack)) e inv.1)
