use Rattle.std.proofs.Common.{◌≡◌, ℕ, ◌-◌, ◌≤◌, length, sym, subst, ◌∙◌, arith}
use Rattle.std.proofs.lemmas.Bool.{false≢true}
use Rattle.field.specs.Systems.{Posed}
use Rattle.field.specs.Elimination.{Once}
use Rattle.field.proofs.Tests.{once, taken, posed, rows_once, columns_once}
use Rattle.field.proofs.posed.is_posed.Goals as goal

pub returns-then-distinct_below : goal.returns-then-distinct_below
returns-then-distinct_below g c =
    let A = g.F.Field.arithmetic c.args.field.now in
    let n = c.args.n in
    let ks = c.args.ks in
    let xs = c.args.xs in
    let limit : c.saturating_sub-limit.result ≡ A.order - 4 = cc in
    let ks-long : n ≤ length ks = omega arith in
    let xs-long : n ≤ length xs = omega arith in
    let few : n ≤ 4 = omega arith in (
      λ e.
          posed A n ks xs few (once n 4 ks ks-long (c.distinct_below.ensures.0 c.if-distinct_below.true))
          (subst (λ (q : ℕ). Once n q xs) limit (once n _ xs xs-long (c.distinct_below-then-distinct_below.ensures.0 e))),
      λ p.
          c.distinct_below-then-distinct_below.ensures.1
          (taken n _ xs xs-long (subst (λ (q : ℕ). Once n q xs) (sym limit) (columns_once A n ks xs p))),
    )

pub returns-else-distinct_below : goal.returns-else-distinct_below
returns-else-distinct_below g c =
    let A = g.F.Field.arithmetic c.args.field.now in
    let ks-long : c.args.n ≤ length c.args.ks = omega arith in (
      λ e. absurd {A = Posed A c.args.n c.args.ks c.args.xs} (false≢true (sym c.if-distinct_below.false ∙ e)),
      λ p. c.distinct_below.ensures.1 (taken c.args.n 4 c.args.ks ks-long (rows_once A c.args.n c.args.ks c.args.xs p)),
    )
