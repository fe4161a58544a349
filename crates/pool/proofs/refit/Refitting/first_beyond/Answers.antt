use Rattle.std.proofs.Common.{◌≡◌, ℕ, ◌<◌, Bool, true, false, ◌&&◌, sym, rules}
use Rattle.std.proofs.lemmas.Iterator.{first_from_Range}
use Rattle.coding.specs.Groups.{groups}
use Rattle.coding.specs.Schemes.{scheme_of}
use Rattle.coding.specs.Steps.{flags}
use Rattle.pool.specs.Book.{holds_piece, beyond}
use Rattle.pool.proofs.Sweeps.{lowest_is}
use Rattle.pool.proofs.refit.Refitting.first_beyond.Goals as goal

pub returns : goal.returns
returns g c =
    let s = c.args.self.now in
    let p = scheme_of s.plan in
    let n = groups p s.kind in
    let f : ℕ → Bool = λ i. holds_piece p s.kind s.module i && beyond p s.kind (flags s.out) i in
    rw (← c.groups.ensures)
    (lowest_is f c.groups.result c.find.result
    (first_from_Range _ _ _ c.find.result (λ i. i < c.groups.result → f i ≡ true) (λ i. i < c.groups.result → f i ≡ false) c.find.ensures.ran
    (λ i q k. λ l. let e : i < n → true ≡ f i = search rules in sym (e (rw (← c.groups.ensures) l)))
    (λ i q k. (search rules, λ l. let e : i < n → false ≡ f i = search rules in sym (e (rw (← c.groups.ensures) l))))))
