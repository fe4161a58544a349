use Rattle.std.proofs.Common.{◌∙◌}
use Rattle.pool.proofs.Calls.{begun}
use Rattle.pool.proofs.pool.Pool.begin.Goals as goal

pub returns : goal.returns
returns g c =
    record {
      book =
          begun g.F.Field.arithmetic g.met.F.Field.lawful g.R.Rack.valid g.R.Rack.meaning c.args.self.now c.clear_block.new.rack
          c.stripes-stripes.result c.slots-slots.result c.stripes-stripes.ensures c.slots-slots.ensures c.clear_block.ensures
          c.in_ok-can_begin.ensures;
      number = c.of.ensures ∙ c.stripes-stripes.ensures;
    }
