use Rattle.coding.proofs.Weighted.{parity_is}
use Rattle.coding.proofs.parity.parity_of.Goals as goal

pub returns : goal.returns
returns g c =
    record {
      sum = c.products.ensures.is;
      is = λ group k weights.
          parity_is (g.F.Field.arithmetic c.args.field.now) (g.met.F.Field.lawful c.args.field.now) group k c.args.weights c.args.chunks c.products.result weights
          c.products.ensures.is;
      below = c.products.ensures.below;
    }
