use Rattle.std.proofs.Common.{◌≡◌, ℕ, ◌+◌, ◌<◌, ◌≤◌, List, length, take, drop, sym, refl, ap, ◌∙◌, subst, arith, length-set, length-take-le, drop-drop, drop-set-lt}
use Rattle.std.proofs.lemmas.List.{get_or-take, take_more, take_more_set}
use Rattle.pool.specs.declared.kinds.Call.{Call}
use Rattle.pool.specs.declared.kinds.Call.TheVariants.{Read}
use Rattle.pool.specs.Replies.{Answer}
use Rattle.pool.specs.Replays.{Replays}
use Rattle.pool.proofs.Replaying.{none_yet, one_more, take_short, drop_short}
use Rattle.pool.proofs.pool.Pool.replay.Goals as goal

pub loop-i-init : goal.loop-i-init
loop-i-init g c = (refl, refl, none_yet g.F.Field.arithmetic g.met.F.Field.lawful g.R.Rack.valid g.R.Rack.meaning c.args.self.now)

pub loop-i-preserved : goal.loop-i-preserved
loop-i-preserved g c =
    let i : ℕ = c.loop-i.i in
    let told : List Answer = c.loop-i.told in
    let n : ℕ = c.min-count.result in
    let long : length (take n c.args.calls.now) ≡ n = length-take-le _ _ (omega (arith, c.min-count.ensures)) in
    let low : i < n = omega (arith, long, c.loop-i-test.true) in
    let within : i < length c.args.calls.now = omega (arith, low, c.min-count.ensures) in
    let also : i < length told = omega (arith, low, c.min-count.ensures, c.loop-i.invariant.0) in
    let more = one_more g.F.Field.arithmetic g.met.F.Field.lawful g.R.Rack.valid g.R.Rack.meaning _ _ _ _ _ _ _ c.loop-i.invariant.2 c.perform.ensures in (
      length-set told i c.perform.result ∙ c.loop-i.invariant.0,
      drop-set-lt (i + 1) told i c.perform.result (omega arith) ∙ sym (drop-drop 1 i told) ∙ ap (drop 1) c.loop-i.invariant.1 ∙ drop-drop 1 i c.args.told.now,
      rw (take_more _ _ (Read 0 0), take_more_set, ← get_or-take n c.args.calls.now i (Read 0 0) low) more,
    )

pub returns : goal.returns
returns g c =
    let i : ℕ = c.loop-i.i in
    let calls : List Call = c.args.calls.now in
    let was : List Answer = c.args.told.now in
    let told : List Answer = c.loop-i.told in
    let n : ℕ = c.min-count.result in
    let long : length (take n calls) ≡ n = length-take-le _ _ (omega (arith, c.min-count.ensures)) in
    let is : i ≡ n = omega (arith, long, c.loop-i-test.false, c.loop-i.auto.i-end) in
    let in-calls : i ≤ length calls = omega (arith, is, c.min-count.ensures) in
    let in_told : i ≤ length was = omega (arith, is, c.min-count.ensures) in
    let full : i < length calls → length was ≤ i = λ l. omega (arith, is, c.min-count.ensures, l) in
    let all : i < length was → length calls ≤ i = λ l. omega (arith, is, c.min-count.ensures, l) in
    let full-now : i < length calls → length told ≤ i = λ l. omega (arith, c.loop-i.invariant.0, full l) in
    record {
      plays = subst (λ (l : List Call). Replays g.F.Field.arithmetic g.R.Rack.valid g.R.Rack.meaning c.args.self.now c.loop-i.self l (take (length calls) told)) (take_short i (length was) calls in_told all)
          (subst (λ (l : List Answer). Replays g.F.Field.arithmetic g.R.Rack.valid g.R.Rack.meaning c.args.self.now c.loop-i.self (take i calls) l) (take_short i (length calls) told in-calls full-now) c.loop-i.invariant.2);
      rest = sym (drop_short i (length calls) told in-calls full-now) ∙ c.loop-i.invariant.1 ∙ drop_short i (length calls) was in-calls full;
      long = c.loop-i.invariant.0;
    }
