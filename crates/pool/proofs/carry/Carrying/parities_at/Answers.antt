use Rattle.std.proofs.Common.{refl, arith}
use Rattle.pool.proofs.carry.Carrying.parities_at.Goals as goal

pub loop-k-init : goal.loop-k-init
loop-k-init g c = λ v. record { size = omega arith; done = λ k h. absurd (omega (arith, h)); rest = λ k _. refl }
