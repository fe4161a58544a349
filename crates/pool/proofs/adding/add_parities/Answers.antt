use Rattle.std.proofs.Common.{◌≡◌, ℕ, get_or, None, arith}
use Rattle.pool.proofs.Added.{added_zero, more_spans, still_fetched, added_next, added_all}
use Rattle.pool.proofs.adding.add_parities.Goals as goal

pub loop-k-init : goal.loop-k-init
loop-k-init g c =
    λ v spans fetched.
    let to = c.args.parities in
    (v, added_zero (g.F.Field.arithmetic c.args.field.now) (g.R.Rack.meaning c.args.rack.now) to.first to.slot c.args.offset (λ k. get_or c.args.shares k 0))

pub loop-k-preserved : goal.loop-k-preserved
loop-k-preserved g c =
    λ v spans fetched.
    let A = g.F.Field.arithmetic c.args.field.now in
    let w = g.R.Rack.meaning c.args.rack.now in
    let f : ℕ → ℕ = λ k. get_or c.args.shares k 0 in
    let to = c.args.parities in
    let k = c.loop-k.k in
    let o = c.args.offset in
    let was = g.R.Rack.meaning c.loop-k.rack in
    let inv = c.loop-k.invariant v spans fetched in
    let step = c.add_parity.ensures inv.0 (more_spans A w to.first to.slot o f k to.count was c.loop-k-test.true spans inv.1)
    (still_fetched A w to.first to.slot o f k was (get_or to.fetched k None) inv.1 (fetched k c.loop-k-test.true)) in
    (step.0, added_next A w to.first to.slot o f k was (g.R.Rack.meaning c.add_parity.new.rack) inv.1 step.1)

pub returns : goal.returns
returns g c =
    λ v spans fetched.
    let inv = c.loop-k.invariant v spans fetched in
    let to = c.args.parities in
    let all : c.loop-k.k ≡ to.count = omega arith in (
      inv.0,
      added_all (g.F.Field.arithmetic c.args.field.now) (g.R.Rack.meaning c.args.rack.now) to.first to.slot c.args.offset (λ k. get_or c.args.shares k 0)
          c.loop-k.k to.count (g.R.Rack.meaning c.loop-k.rack) all inv.1,
    )
