use Rattle.std.proofs.Common.{ℕ, ◌<◌, Ok, subst, arith}
use Rattle.layout.specs.declared.plan.Plan.{Plan}
use Rattle.coding.specs.Schemes.{scheme_of}
use Rattle.pool.specs.declared.kinds.Call.TheVariants.{Write}
use Rattle.pool.specs.declared.kinds.Reply.TheVariants.{Done}
use Rattle.pool.specs.Pools.{standing, Called}
use Rattle.pool.specs.WordSteps.{Looked}
use Rattle.pool.proofs.WordCalled.{write_called}
use Rattle.pool.proofs.pool.Pool.write.Goals as goal

pub returns : goal.returns
returns g c =
    λ held.
    let x = c.args.self.now in
    let y = c.store_word.new.self in
    let A = g.F.Field.arithmetic x.field in
    let s = standing g.F.Field.arithmetic g.R.Rack.valid g.R.Rack.meaning x in
    let word = c.in_ok-word.word in
    let is = c.in_ok-word.ensures.is in
    let old = c.in_ok-old.old in
    let v = c.args.symbol in
    let looked = c.in_ok-old.ensures held in
    let lv : v < A.order = omega (arith, c.if-symbol-order.false, c.order.ensures) in
    let done =
    write_called g.F.Field.arithmetic g.R.Rack.valid g.R.Rack.meaning x y g.met.F.Field.lawful held word.chunk word.offset v old
    (subst (λ (q : Plan). word.chunk < (scheme_of q).chunks) is.0 word.placed.0) (subst (λ (q : Plan). word.offset < q.len) is.0 word.inside) lv
    (subst (λ (q : Plan). Looked A (scheme_of q) s word.chunk word.offset (Ok old)) is.0 looked) (c.store_word.ensures held lv looked) in
    subst (λ (o : ℕ). Called g.F.Field.arithmetic g.R.Rack.valid g.R.Rack.meaning x y (Write c.args.chunk o v) (Ok Done)) is.2
    (subst (λ (j : ℕ). Called g.F.Field.arithmetic g.R.Rack.valid g.R.Rack.meaning x y (Write j word.offset v) (Ok Done)) is.1 done)
