use Rattle.std.proofs.Common.{◌≡◌, ℕ, subst, arith}
use Rattle.pool.specs.Restored.{PutsChunks}
use Rattle.pool.proofs.Putting.{none_put, more_put}
use Rattle.pool.proofs.refit.Restoring.put_chunks.Goals as goal

pub loop-e-init : goal.loop-e-init
loop-e-init g c = λ h. (h, λ A p t i sound li grouped space codes. none_put p t i c.args.self.now.module c.args.offset c.args.chunks (g.R.Rack.meaning c.args.rack.now))

pub loop-e-preserved : goal.loop-e-preserved
loop-e-preserved g c =
    λ h.
    let inv = c.loop-e.invariant h in
    let put = c.put_chunk.ensures inv.0 in (
      put.0,
      λ A p t i sound li grouped space codes.
          more_put A p sound t i li c.args.self.now.module c.args.offset (g.R.Rack.meaning c.args.rack.now) space c.args.self.now.repair.group grouped c.args.chunks codes c.loop-e.e
          _ _ (inv.1 A p t i sound li grouped space codes) put.1,
    )

pub returns : goal.returns
returns g c =
    λ h.
    let inv = c.loop-e.invariant h in
    let e : c.loop-e.e ≡ 14 = omega arith in
    (inv.0, subst (λ (n : ℕ). PutsChunks c.args.self.now.repair.group c.args.self.now.module c.args.offset c.args.chunks n (g.R.Rack.meaning c.args.rack.now) (g.R.Rack.meaning c.loop-e.rack)) e inv.1)
