use Rattle.std.proofs.Common.{◌≡◌, ℕ, ◌<◌, ◌≢◌, [], get_or, refl, rules}
use Rattle.field.specs.Elimination.{Reduced}
use Rattle.field.specs.Systems.{at}
use Rattle.field.specs.Sums.{minus}
use Rattle.field.proofs.Parts.{stepped}
use Rattle.field.proofs.Steps.{same}
use Rattle.field.proofs.elimination.eliminate.Goals as goal

pub returns : goal.returns
returns g c =
    let A = g.F.Field.arithmetic c.args.field.now in
    let k = c.args.column in
    let top = c.scaled-top.result in
    let side = c.mul-side.result in
    let row : get_or c.from_fn-rows.result k [] ≡ top = let x = c.from_fn-rows.ensures.items.at k [] c.requires.within in search rules in
    let rows : (i : ℕ) → i < 4 → i ≢ k → Reduced A (at c.args.a i k) (get_or c.args.a i []) top (get_or c.from_fn-rows.result i []) = λ i h ne. let x = c.from_fn-rows.ensures.items.at i [] h in search rules in
    let side_is : get_or c.from_fn-sides.result k 0 ≡ side = let x = c.from_fn-sides.ensures.items.at k 0 c.requires.within in search rules in
    let sides : (i : ℕ) → i < 4 → i ≢ k → get_or c.from_fn-sides.result i 0 ≡ minus A (get_or c.args.b i 0) (A.mul (at c.args.a i k) side) = λ i h ne. let x = c.from_fn-sides.ensures.items.at i 0 h in search rules in
    let done =
    stepped A k c.args.a c.args.b c.inv-by.result top side c.from_fn-rows.result c.from_fn-sides.result
    c.inv-by.ensures.is c.scaled-top.ensures c.mul-side.ensures.is row rows side_is sides in
    record {
      step = done;
      same = λ n few l. same A (g.met.F.Field.lawful c.args.field.now) k c.args.a c.args.b _ _ done n few l c.requires.grid c.requires.codes c.requires.pivot;
    }
