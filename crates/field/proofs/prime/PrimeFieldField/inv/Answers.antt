use Rattle.std.proofs.Common.{◌≡◌, ℕ, ◌<◌, sym, subst, rules}
use Rattle.field.specs.Prime.{prime}
use Rattle.field.specs.PrimeLaws.{prime_lawful}
use Rattle.field.proofs.prime.PrimeFieldField.inv.Goals as goal

pub returns-clause-below : goal.returns-clause-below
returns-clause-below c =
    let is : c.times_powers.result ≡ prime.inv c.args.a = search rules in
    subst (λ (x : ℕ). x < 257) (sym is) (prime_lawful.inv-below c.args.a)
