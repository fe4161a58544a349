use Rattle.std.proofs.Common.{◌≡◌}
use Rattle.coding.specs.Schemes.{Scheme, scheme_of}
use Rattle.pool.specs.Effects.{changed}
use Rattle.pool.specs.Growth.{Whole}
use Rattle.pool.proofs.Growing.{carried_below}
use Rattle.pool.proofs.carry.Carrying.carry.Given as goal

abbrev pub invariant-loop-offset : goal.invariant-loop-offset
invariant-loop-offset g l =
    let A = g.F.Field.arithmetic l.self.field.now in
    let p : Scheme = scheme_of l.self.load.plan in
    let w = g.R.Rack.meaning l.initial.rack in
    g.R.Rack.valid l.initial.rack → Whole A p w →
    g.R.Rack.valid l.rack × (g.R.Rack.meaning l.rack ≡ changed w (carried_below A p l.self.load.group.index w l.offset))
