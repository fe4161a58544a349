use Rattle.std.proofs.Common.{◌≡◌, ℕ, ◌<◌, ◌≤◌, cond, not, ◌&&◌, ltb, length, get_or, ap, ◌∙◌, ⊎_elim, arith, rules}
use Rattle.std.proofs.lemmas.Bool.{and_left, and_right, and_from, cond-true, cond-false, lt-ltb, le-ltb, cases_lt}
use Rattle.std.proofs.lemmas.List.{get_or_past}
use Rattle.coding.specs.Pieces.{module_at, slot_at}
use Rattle.coding.specs.Steps.{flags}
use Rattle.coding.proofs.Made.{made}
use Rattle.coding.proofs.repair.Repair.known.Goals as goal

pub returns : goal.returns
returns g c =
    λ v.
    let s = c.args.self.now in
    let w = g.R.Rack.meaning c.args.rack.now in
    let n = s.group.size in
    let long : length c.from_fn.result ≡ 14 = omega arith in
    let at : (e : ℕ) → e < 14 → get_or c.from_fn.result e 0 ≡ cond (ltb e n && not (flags s.gone e)) (w.symbol (module_at s.group e) (slot_at s.group e) c.args.offset) 0 =
    λ e l.
    made _ (λ e x. x ≡ cond (ltb e n && not (flags s.gone e)) (w.symbol (module_at s.group e) (slot_at s.group e) c.args.offset) 0) _ _ 14 (λ i y q h k. search rules)
    c.from_fn.ensures.items e 0 l in
    let past : (e : ℕ) → 14 ≤ e → get_or c.from_fn.result e 0 ≡ 0 = λ e l. get_or_past c.from_fn.result e 0 (omega arith) in
    record {
      is = λ e l h q. at e l ∙ cond-true _ _ _ (and_from _ _ (lt-ltb e n h) (ap not q));
      none = λ e q. ⊎_elim (λ (l : e < 14). at e l ∙ cond-false _ _ _ (and_right _ _ (ap not q))) (past e) (cases_lt e 14);
      rest = λ e h. ⊎_elim (λ (l : e < 14). at e l ∙ cond-false _ _ _ (and_left _ _ (le-ltb e n h))) (past e) (cases_lt e 14);
    }
