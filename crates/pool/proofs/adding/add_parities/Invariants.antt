use Rattle.std.proofs.Common.{◌≡◌, ℕ, ◌+◌, ◌<◌, get_or, None}
use Rattle.pool.specs.Effects.{changed}
use Rattle.pool.specs.WordSteps.{added_to, Fetched, Spans}
use Rattle.pool.proofs.adding.add_parities.Given as goal

abbrev pub invariant-loop-k : goal.invariant-loop-k
invariant-loop-k g l =
    let A = g.F.Field.arithmetic l.field in
    let w = g.R.Rack.meaning l.initial.rack in
    let to = l.parities in
    g.R.Rack.valid l.initial.rack →
    Spans A w (to.first + to.count) to.slot l.offset →
    ((k : ℕ) → k < to.count → Fetched w (to.first + k) to.slot l.offset (get_or to.fetched k None)) →
    g.R.Rack.valid l.rack × (g.R.Rack.meaning l.rack ≡ changed w (added_to A w to.first to.slot l.k l.offset (λ k. get_or l.shares k 0)))
