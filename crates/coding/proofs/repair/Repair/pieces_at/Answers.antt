use Rattle.std.proofs.Common.{◌≡◌, ℕ, ◌<◌, List, length, get_or, None, Option, sym, subst, arith}
use Rattle.coding.specs.Repairs.{Rebuilt, used_parity}
use Rattle.coding.proofs.Solving.{rebuilt, uses}
use Rattle.coding.proofs.repair.Repair.pieces_at.Goals as goal

pub returns : goal.returns
returns g c =
    let A = g.F.Field.arithmetic c.args.field.now in
    let w = g.R.Rack.meaning c.args.rack.now in
    let L = g.met.F.Field.lawful c.args.field.now in
    let o = c.args.offset in
    let long : length c.known-known.result ≡ 14 = omega arith in
    record {
      chunks = λ v order p t i out ready.
          subst (λ (xs : List ℕ). Rebuilt A p t i out w o xs) (sym c.joined.ensures)
          (rebuilt A L p t i out c.args.self.now ready w (g.R.Rack.bounded c.args.rack.now v) order o
          c.known-known.result c.sources_at-symbols.result c.sides-sides.result c.unknowns-unknowns.result long (c.known-known.ensures v) (c.sources_at-symbols.ensures v)
          c.sides-sides.ensures c.unknowns-unknowns.ensures);
      parities = λ v p t i out ready.
          subst (λ (xs : List (Option ℕ)). (k : ℕ) → k < 4 → get_or xs k None ≡ used_parity p t i out w o k) (sym c.numbered.ensures)
          (uses A L p t i out c.args.self.now ready w o c.sources_at-symbols.result (c.sources_at-symbols.ensures v));
    }
