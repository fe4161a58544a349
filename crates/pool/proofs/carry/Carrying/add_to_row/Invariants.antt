use Rattle.std.proofs.Common.{◌≡◌, ◌<◌}
use Rattle.coding.specs.Schemes.{Scheme, scheme_of}
use Rattle.pool.specs.Growth.{Whole, grown}
use Rattle.pool.proofs.Growing.{part_row}
use Rattle.pool.proofs.carry.Carrying.add_to_row.Given as goal

abbrev pub invariant-loop-k : goal.invariant-loop-k
invariant-loop-k g l =
    let A = g.F.Field.arithmetic l.self.field.now in
    let p : Scheme = scheme_of l.self.load.plan in
    g.R.Rack.valid l.initial.rack → Whole A p (g.R.Rack.meaning l.initial.rack) → l.offset < p.len →
    g.R.Rack.valid l.rack
    × (g.R.Rack.meaning l.rack ≡ grown A p (g.R.Rack.meaning l.initial.rack) l.offset (part_row l.row l.shares l.k))
