use Rattle.std.proofs.Common.{ℕ, List, Option, refl, subst}
use Rattle.pool.specs.Restored.{WeightsOn}
use Rattle.pool.proofs.Putting.{parity_put, no_parity}
use Rattle.pool.proofs.refit.Restoring.put_parity.Goals as goal

pub returns-in-Some : goal.returns-in-Some
returns-in-Some g c =
    λ h.
    let put = c.put.ensures h in
    let on = subst (λ (q : Option (List ℕ)). WeightsOn (g.F.Field.arithmetic c.args.self.now.field.now) c.args.self.now.repair.group c.args.self.now.module q) c.in-Some.is c.requires in (
      put.1,
      λ p t i v sound li grouped space order are.
          parity_put (g.F.Field.arithmetic c.args.self.now.field.now) p sound t i li c.args.self.now.module c.args.offset (g.R.Rack.meaning c.args.rack.now) space
          c.args.self.now.repair.group grouped c.args.chunks v order are _ on.0 c.parity_of-symbol.result on.2 on.3 (c.parity_of-symbol.ensures.is c.args.self.now.repair.group on.0 on.4) c.parity_of-symbol.ensures.below put.0.after,
    )

pub returns-in_default : goal.returns-in_default
returns-in_default g c =
    λ h. (
      h,
      λ p t i v sound li grouped space order are.
          no_parity (g.F.Field.arithmetic c.args.self.now.field.now) p sound t i li c.args.self.now.module c.args.offset (g.R.Rack.meaning c.args.rack.now) space
          c.args.self.now.repair.group grouped c.args.chunks v order are _ (subst (λ (q : Option (List ℕ)). WeightsOn (g.F.Field.arithmetic c.args.self.now.field.now) c.args.self.now.repair.group c.args.self.now.module q) c.in_default.is c.requires) refl,
    )
