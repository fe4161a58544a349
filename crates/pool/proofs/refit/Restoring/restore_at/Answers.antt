use Rattle.std.proofs.Common.{get_or, ap, ◌∙◌}
use Rattle.rack.specs.Meaning.{Meaning}
use Rattle.coding.specs.Groups.{index_of}
use Rattle.pool.proofs.Putting.{word_are, word_codes, put_back, same_space}
use Rattle.pool.proofs.refit.Restoring.restore_at.Goals as goal

pub returns : goal.returns
returns g c =
    λ h.
    let A = g.F.Field.arithmetic c.args.self.now.field.now in
    let L = g.met.F.Field.lawful c.args.self.now.field.now in
    let m = c.args.self.now.module in
    let u = c.args.offset in
    let w = g.R.Rack.meaning c.args.rack.now in
    let w1 = g.R.Rack.meaning c.put_chunks.new.rack in
    let w2 = g.R.Rack.meaning c.put_parity.new.rack in
    let a = c.chunks_at-chunks.result in
    let s = c.args.self.now.repair in
    let one = c.put_chunks.ensures h in
    let two = c.put_parity.ensures one.0 in (
      two.0,
      λ p t i out ready space order.
          let rebuilt = c.chunks_at-chunks.ensures h order p t i out ready in
          let put = one.1 A p t i ready.sound ready.inside ready.grouped space (word_codes A L p t i out s ready m u w space order a rebuilt) in
          put_back A L p t i out s ready m u w space order a rebuilt w1 w2 put
          (two.1 p t i (λ j. get_or a (index_of p t j) 0) ready.sound ready.inside ready.grouped (same_space p w w1 m u put.shape space)
          (ap (λ (z : Meaning). z.order) put.shape ∙ order) (word_are A L p t i out s ready m u w space order a rebuilt)),
    )
