use Rattle.std.proofs.Common.{◌≡◌, ℕ, ◌<◌, ◌≤◌, length, get_or, set, sym, ap, ◌∙◌, add-one, arith}
use Rattle.std.proofs.lemmas.List.{get_or_default, set_past}
use Rattle.coding.specs.Steps.{scattered}
use Rattle.coding.proofs.Solving.{scattered_length}
use Rattle.coding.proofs.rebuild.scatter.Goals as goal
use Rattle.coding.proofs.rebuild.scatter.Goals.{then-place, else-place}

pub loop-j-preserved : goal.loop-j-preserved
loop-j-preserved g c =
    λ d.
    let j = c.loop-j.j in
    let us : ℕ → g.row.T.Denot = λ i. get_or c.args.values i d in
    let l : j < length c.args.values = omega arith in
    let at : ℕ = get_or c.args.places j 0 in
    let step : c.if-place.all ≡ set c.loop-j.all at (us j) =
    elim c.if-place.branch [
      | then-place w ↦
          w.all-is
          ∙ ap (λ x. set c.loop-j.all c.from-place.result x) (get_or_default c.args.values j _ d l)
          ∙ ap (λ (i : ℕ). set c.loop-j.all i (us j)) c.from-place.ensures
      | else-place w ↦
          let long : length c.loop-j.all ≡ length c.args.start = ap length (c.loop-j.invariant d) ∙ scattered_length c.args.start c.args.places us d j in
          let past : length c.loop-j.all ≤ at = omega (arith, long, w.if-place, c.from-place.ensures) in
          w.all-is ∙ sym (set_past c.loop-j.all at (us j) past)
    ] in
    step
    ∙ ap (λ xs. set xs at (us j)) (c.loop-j.invariant d)
    ∙ sym (ap (λ (i : ℕ). scattered c.args.start c.args.places us i) (add-one j))

pub returns : goal.returns
returns g c =
    λ d.
    let end : c.loop-j.j ≡ c.args.n = omega arith in
    c.loop-j.invariant d ∙ ap (scattered c.args.start c.args.places (λ i. get_or c.args.values i d)) end
