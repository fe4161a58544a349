use Rattle.std.proofs.Common.{◌≡◌, ℕ, subst, arith}
use Rattle.coding.specs.Groups.{groups}
use Rattle.coding.specs.Schemes.{scheme_of}
use Rattle.coding.specs.Steps.{flags}
use Rattle.pool.specs.Restored.{GoesThrough}
use Rattle.pool.proofs.refit.Refitting.restore.Goals as goal

pub loop-index-init : goal.loop-index-init
loop-index-init g c = λ h. (h, λ order was room fine going. going)

pub loop-index-preserved : goal.loop-index-preserved
loop-index-preserved g c =
    λ h.
    let inv = c.loop-index.invariant h in
    let next = c.restore_group.ensures inv.0 in (
      next.0,
      λ order was room fine going.
          next.1 order was room (omega arith) (fine c.loop-index.index (omega arith)) (inv.1 order was room (λ k lk. fine k (omega arith)) going),
    )

pub returns : goal.returns
returns g c =
    λ h.
    let inv = c.loop-index.invariant h in
    let p = scheme_of c.args.self.now.plan in
    let A = g.F.Field.arithmetic c.args.self.now.field.now in
    let e : c.loop-index.index ≡ groups p c.args.self.now.kind = omega arith in (
      inv.0,
      λ order.
          subst (λ (n : ℕ). GoesThrough A p c.args.self.now.kind (flags c.args.self.now.out) c.args.self.now.module n (g.R.Rack.meaning c.args.rack.now) (g.R.Rack.meaning c.loop-index.rack)) e (inv.1 order),
    )
