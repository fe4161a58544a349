use Rattle.std.proofs.Common.{ℕ, ◌<◌, ◌≡◌, [], get_or, arith, rules}
use Rattle.pool.proofs.Loading.{shares_are}
use Rattle.pool.proofs.carry.Carrying.shares_at.Goals as goal

pub returns : goal.returns
returns g c =
    let s = c.args.self.now in
    let each : (k : ℕ) → k < 4 → k < s.load.plan.r2 → get_or c.from_fn.result k 0 ≡ (g.F.Field.arithmetic s.field.now).mul (get_or (get_or s.load.weights k []) c.args.e 0) c.symbol-value.result = λ k h. let p = c.from_fn.ensures.items.at k 0 h in search rules in
    λ v k h.
    shares_are (g.F.Field.arithmetic s.field.now) s.load s.loaded (g.R.Rack.meaning c.args.rack.now) k c.args.e c.args.offset _
    c.symbol-value.result h c.requires (each k (omega (arith, s.load.plan.parity2_range.1)) h) (c.symbol-value.ensures v)
