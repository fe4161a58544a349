use Rattle.std.proofs.Common.{◌≡◌, ℕ, ◌<◌, ◌≤◌, cond, ltb, length, get_or, ◌∙◌, ⊎_elim, arith, rules}
use Rattle.std.proofs.lemmas.Bool.{cond-true, cond-false, lt-ltb, le-ltb, cases_lt}
use Rattle.std.proofs.lemmas.List.{get_or_past}
use Rattle.field.specs.Sums.{coefficient}
use Rattle.coding.specs.Pieces.{x_at}
use Rattle.coding.proofs.Made.{made}
use Rattle.coding.proofs.group.Group.weights.Goals as goal

pub returns : goal.returns
returns g c =
    let group = c.args.self.now in
    let long : length c.from_fn.result ≡ 14 = omega arith in
    let at : (e : ℕ) → e < 14 → get_or c.from_fn.result e 0 ≡ cond (ltb e group.size) (coefficient (g.F.Field.arithmetic c.args.field.now) c.args.k (x_at group e)) 0 =
    λ e l.
    made _ (λ e x. x ≡ cond (ltb e group.size) (coefficient (g.F.Field.arithmetic c.args.field.now) c.args.k (x_at group e)) 0) _ _ 14 (λ i y q h k. search rules)
    c.from_fn.ensures.items e 0 l in
    record {
      is = λ e h l. at e l ∙ cond-true _ _ _ (lt-ltb e group.size h);
      rest = λ e h. ⊎_elim (λ (l : e < 14). at e l ∙ cond-false _ _ _ (le-ltb e group.size h)) (λ (l : 14 ≤ e). get_or_past c.from_fn.result e 0 (omega arith)) (cases_lt e 14);
    }
