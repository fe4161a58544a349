use Rattle.std.proofs.Common.{refl}
use Rattle.pool.proofs.Opened.{laid_pool}
use Rattle.pool.proofs.pool.Pool.lay.Goals as goal

pub returns : goal.returns
returns g c =
    let made = laid_pool g.F.Field.arithmetic g.met.F.Field.lawful g.R.Rack.valid g.R.Rack.meaning g.R.Rack.bounded c.args.plan c.args.field
    c.args.rack c.clear_block.new.rack c.modules-modules.result c.slots-slots.result c.modules-modules.ensures c.slots-slots.ensures c.requires.valid
    c.requires.fits c.clear_block.ensures in
    record { held = made.held; same_plan = refl; same_field = refl; stands = made.stands; agrees = made.agrees }
