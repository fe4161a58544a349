use Rattle.std.proofs.Common.{◌≡◌, ℕ, ◌<◌, get_or, replicate, Some, None, ◌∙◌, arith, rules}
use Rattle.coding.proofs.Solving.{scattered_same}
use Rattle.coding.proofs.repair.Repair.numbered.Goals as goal

pub returns : goal.returns
returns c =
    let few = c.args.self.now.few in
    let each : (j : ℕ) → j < 4 → get_or c.from_fn-values.result j None ≡ Some (get_or c.args.symbols j 0) = λ j l. let k = c.from_fn-values.ensures.items.at j None l in search rules in
    c.scatter.ensures None
    ∙ scattered_same (replicate 4 None) c.args.self.now.parities (λ j. Some (get_or c.args.symbols j 0)) None (λ j. get_or c.from_fn-values.result j None) c.args.self.now.count
    (λ j h. each j (omega arith))
