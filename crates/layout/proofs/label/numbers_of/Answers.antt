use Rattle.std.proofs.Common.{◌<◌, ◌/◌, [], length, ◌∙◌, arith}
use Rattle.layout.proofs.Packing.{numbered}
use Rattle.layout.proofs.label.numbers_of.Goals as goal

pub returns-clause-numbers : goal.returns-clause-numbers
returns-clause-numbers c i h =
    let chunk = c.in-Ok.ensures.1 in
    let within : i < length c.args.bytes.now / 2 = omega (arith, chunk.long, c.as_chunks.ensures.front_len) in
    (c.map.ensures.items.at i [] 0 h).2.met ∙ numbered _ _ _ i (chunk.same ∙ c.as_chunks.ensures.front) within
