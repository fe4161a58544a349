use Rattle.std.proofs.Common.{◌≡◌, ℕ, ◌<◌, Bool, true, false, not, sym, ap, ◌∙◌, rules}
use Rattle.std.proofs.lemmas.Iterator.{first_from_Range}
use Rattle.rack.specs.Meaning.{pulls}
use Rattle.pool.proofs.Asking.{asked}
use Rattle.pool.proofs.Sweeps.{lowest_is}
use Rattle.pool.proofs.sweep.lowest_out.Goals as goal

pub returns : goal.returns
returns g c h =
    let w = g.R.Rack.meaning c.args.rack.now in
    let out : ℕ → Bool = λ m. not (w.fitted m) in
    let same : (m : ℕ) → not (pulls w m) ≡ out m = λ m. ap not (asked w (g.R.Rack.bounded c.args.rack.now h) m) in
    lowest_is out c.args.modules c.find.result
    (first_from_Range _ _ _ c.find.result (λ m. m < c.args.modules → out m ≡ true) (λ m. m < c.args.modules → out m ≡ false) c.find.ensures.ran
    (λ m q k. let e : true ≡ not (pulls w m) = search rules in λ _. sym (e ∙ same m)) (λ m q k. (search rules, let e : false ≡ not (pulls w m) = search rules in λ _. sym (e ∙ same m))))
