use Rattle.std.proofs.Common.{◌≡◌, ℕ, ◌+◌}
use Rattle.coding.specs.Schemes.{Scheme, scheme_of}
use Rattle.pool.specs.Effects.{chunks_at}
use Rattle.pool.specs.Growth.{Amounts}
use Rattle.pool.proofs.Gains.{so_far}
use Rattle.pool.proofs.carry.Carrying.gains_at.Given as goal

abbrev pub invariant-loop-e : goal.invariant-loop-e
invariant-loop-e g l =
    let A = g.F.Field.arithmetic l.self.field.now in
    let p : Scheme = scheme_of l.self.load.plan in
    let w = g.R.Rack.meaning l.rack in
    g.R.Rack.valid l.rack → w.order ≡ A.order →
    Amounts p (so_far A p l.self.load.group.index (λ (k : ℕ). w.symbol (p.d' + k) l.self.load.group.index l.offset) (chunks_at p w l.offset) l.e) l.gains
