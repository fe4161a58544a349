use Rattle.std.proofs.Common.{◌≡◌, ℕ, ◌+◌, ◌<◌, ◌≤◌, length, get_or, refl, arith}
use Rattle.std.proofs.lemmas.Option.{MatchOption-at_some}
use Rattle.coding.specs.Schemes.{scheme_of}
use Rattle.coding.specs.Groups.{groups}
use Rattle.coding.specs.Pieces.{Grouped}
use Rattle.coding.specs.Steps.{flags}
use Rattle.coding.proofs.Counting.{count_le}
use Rattle.coding.proofs.OfPlan as plan
use Rattle.coding.proofs.Preparing as preparing
use Rattle.coding.proofs.Rebuilding as rebuilding
use Rattle.coding.proofs.prepare.prepare.Goals as goal

pub returns-in_err-group-clause-one_word : goal.returns-in_err-group-clause-one_word
returns-in_err-group-clause-one_word g c =
    let A = g.F.Field.arithmetic c.args.field.now in
    λ e. rebuilding.one_word A (g.met.F.Field.lawful c.args.field.now) (scheme_of c.args.plan.now) (plan.sound c.args.plan.now A e)

pub returns-then-held-count : goal.returns-then-held-count
returns-then-held-count g c =
    let p = c.args.plan.now in
    let A = g.F.Field.arithmetic c.args.field.now in
    let made : (c.args.index < groups (scheme_of p) c.args.kind) × Grouped (scheme_of p) c.args.kind c.args.index c.in_ok-group.group =
    MatchOption-at_some _ _ c.in_ok-group.group c.in_ok-group.ensures.ok_part c.of.ensures in
    let xl : length c.gone-gone.result ≡ 14 = omega arith in
    let yl : length c.left-left.result ≡ 4 = omega arith in
    record {
      prepared = (
        λ l. preparing.too_few p c.args.kind c.args.index l c.in_ok-group.group made.1 c.args.out
            c.gone-gone.result xl c.gone-gone.ensures c.left-left.result yl c.left-left.ensures
            c.positions-count.result.0 c.positions-count.result.1 c.positions-count.ensures c.positions-held.result.0 c.positions-held.result.1 c.positions-held.ensures
            c.if-held-count.true,
        refl,
      );
      one_word = λ e. rebuilding.one_word A (g.met.F.Field.lawful c.args.field.now) (scheme_of p) (plan.sound p A e);
    }

pub returns : goal.returns
returns g c =
    let p = c.args.plan.now in
    let A = g.F.Field.arithmetic c.args.field.now in
    let L = g.met.F.Field.lawful c.args.field.now in
    let made : (c.args.index < groups (scheme_of p) c.args.kind) × Grouped (scheme_of p) c.args.kind c.args.index c.in_ok-group.group =
    MatchOption-at_some _ _ c.in_ok-group.group c.in_ok-group.ensures.ok_part c.of.ensures in
    let xl : length c.gone-gone.result ≡ 14 = omega arith in
    let yl : length c.left-left.result ≡ 4 = omega arith in
    let sources : (j : ℕ) → j < 4 → get_or c.sources.result j 0 ≡ c.in_ok-group.group.first + get_or c.positions-held.result.0 j 0 =
    λ j l. omega (arith, c.sources.ensures j l, made.1.first_is, p.data2_range.1, c.positions-held.ensures.inside j l) in
    let few : c.positions-count.result.1 ≤ 4 =
    omega (arith, c.if-held-count.false, c.positions-held.ensures.count_is, count_le (flags c.left-left.result) (length c.left-left.result)) in
    record {
      prepared = (
        made.0,
        preparing.enough p c.args.kind c.args.index made.0 c.in_ok-group.group made.1 c.args.out
            c.gone-gone.result xl c.gone-gone.ensures c.left-left.result yl c.left-left.ensures
            c.positions-count.result.0 c.positions-count.result.1 c.positions-count.ensures c.positions-held.result.0 c.positions-held.result.1 c.positions-held.ensures
            c.if-held-count.false,
        λ e.
            preparing.ready p c.args.kind c.args.index made.0 c.in_ok-group.group made.1 c.args.out
            c.gone-gone.result xl c.gone-gone.ensures c.left-left.result yl c.left-left.ensures
            c.positions-count.result.0 c.positions-count.result.1 c.positions-count.ensures c.positions-held.result.0 c.positions-held.result.1 c.positions-held.ensures
            A L e c.if-held-count.false _ refl refl refl refl refl
            sources (λ j h. c.coefficients.ensures j (omega arith) h) c.columns-columns.ensures c.inverse_of.ensures,
      );
      one_word = λ e. rebuilding.one_word A L (scheme_of p) (plan.sound p A e);
    }
