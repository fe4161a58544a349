use Rattle.std.proofs.Common.{[], arith}
use Rattle.layout.proofs.Packing.{flattened}
use Rattle.layout.proofs.label.pairs_of.Goals as goal

pub returns : goal.returns
returns c =
    flattened c.args.numbers c.map.result (omega (arith, c.map.ensures.items.long)) (λ i h. (c.map.ensures.items.at i 0 [] (omega (arith, h))).2.met)
