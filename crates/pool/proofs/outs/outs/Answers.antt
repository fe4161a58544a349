use Rattle.std.proofs.Common.{false, not, refl, ap, ◌∙◌, arith}
use Rattle.layout.proofs.OfPlan as plan
use Rattle.coding.proofs.Loops.{filled, begun}
use Rattle.pool.proofs.Asking.{asked}
use Rattle.pool.proofs.outs.outs.Goals as goal

pub loop-m-init : goal.loop-m-init
loop-m-init g c = λ v. begun 32 _ _ false false refl refl

pub loop-m-preserved : goal.loop-m-preserved
loop-m-preserved g c =
    λ v.
    filled 32 _ _ false c.loop-m.m c.loop-m.out _ (omega (arith, plan.modules_le c.args.plan.now)) (c.loop-m.invariant v)
    (ap not (c.ask.ensures v ∙ asked (g.R.Rack.meaning c.args.rack.now) (g.R.Rack.bounded c.args.rack.now v) c.loop-m.m))

pub returns : goal.returns
returns g c = λ v. record { are = λ m l. (c.loop-m.invariant v).done m (omega arith); rest = λ m l. (c.loop-m.invariant v).rest m (omega arith) }
