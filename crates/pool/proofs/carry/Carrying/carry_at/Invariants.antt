use Rattle.std.proofs.Common.{◌≡◌, ◌<◌}
use Rattle.coding.specs.Schemes.{Scheme, scheme_of}
use Rattle.pool.specs.Growth.{Whole, grown, stripe_gain}
use Rattle.pool.proofs.Growing.{rows_below}
use Rattle.pool.proofs.carry.Carrying.carry_at.Given as goal

abbrev pub invariant-loop-row : goal.invariant-loop-row
invariant-loop-row g l =
    let A = g.F.Field.arithmetic l.self.field.now in
    let p : Scheme = scheme_of l.self.load.plan in
    let w = g.R.Rack.meaning l.initial.rack in
    g.R.Rack.valid l.initial.rack → Whole A p w → l.offset < p.len →
    g.R.Rack.valid l.rack
    × (g.R.Rack.meaning l.rack ≡ grown A p w l.offset (rows_below (stripe_gain A p l.self.load.group.index w l.offset) l.row))
