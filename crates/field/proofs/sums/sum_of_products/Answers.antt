use Rattle.std.proofs.Common.{◌≡◌, ℕ, [], ◌∷◌, length, get_or, sym, ap, ◌∙◌, add-one, length-append}
use Rattle.std.proofs.lemmas.Slice.Zip.{zip_turn, zip_end}
use Rattle.std.specs.Slice.Iter.{iter_rest}
use Rattle.std.specs.Iterator.Adapters.{zip_first, zip_second}
use Rattle.field.specs.Sums.{total}
use Rattle.field.proofs.sums.sum_of_products.Goals as goal

pub loop-x-preserved : goal.loop-x-preserved
loop-x-preserved g c =
    let A = g.F.Field.arithmetic c.args.field.now in
    let f : ℕ → ℕ = λ j. A.mul (get_or c.args.a.now j 0) (get_or c.args.b.now j 0) in
    let n = length c.loop-x.yielded in
    let first : iter_rest (zip_first c.into_iter-x-iterator.result) ≡ c.args.a.now = cc in
    let second : iter_rest (zip_second c.into_iter-x-iterator.result) ≡ c.args.b.now = cc in
    let turn =
    zip_turn c.args.a.now c.args.b.now c.loop-x.yielded c.into_iter-x-iterator.result c.loop-x.x-iterator c.next.new.self c.next.result
    first second c.loop-x.yielded_by (c.in-Some.x, c.in-Some.y) c.in-Some.is c.next.ensures.steps in
    let x_is = turn.2 0 in
    let y-is = turn.3 0 in
    let e : c.add-sum.result ≡ A.add (total A n f) (f n) = cc in
    (c.add-sum.ensures.below, e ∙ sym (ap (λ (m : ℕ). total A m f) (length-append c.loop-x.yielded (_ ∷ []) ∙ add-one n)))

pub returns : goal.returns
returns g c =
    let A = g.F.Field.arithmetic c.args.field.now in
    let first : iter_rest (zip_first c.into_iter-x-iterator.result) ≡ c.args.a.now = cc in
    let second : iter_rest (zip_second c.into_iter-x-iterator.result) ≡ c.args.b.now = cc in
    let end =
    zip_end c.args.a.now c.args.b.now c.loop-x.yielded c.into_iter-x-iterator.result c.loop-x.x-iterator c.next.new.self c.next.result
    first second c.loop-x.yielded_by c.in-None.is c.next.ensures.steps in
    record {
      is = c.loop-x.invariant.1 ∙ ap (λ (m : ℕ). total A m (λ j. A.mul (get_or c.args.a.now j 0) (get_or c.args.b.now j 0))) end;
      below = c.loop-x.invariant.0;
    }
