use Rattle.std.proofs.Common.{◌≡◌, ℕ, ◌^◌, ◌<◌, sym, ◌∙◌, subst, arith}
use Rattle.field.specs.Binary.{product}
use Rattle.field.specs.Products.{product_turn, product_end, product_below, shifted_below}
use Rattle.field.proofs.binary.multiply.Goals as goal

pub loop-i-preserved : goal.loop-i-preserved
loop-i-preserved g c =
    let m = g.M.Modulus in
    let turn = product_turn m.DEGREE m.POLYNOMIAL m.DEGREE c.loop-i._i c.loop-i.sum c.loop-i.x c.loop-i.y (omega arith) in (
      rw c.shift-x.ensures (shifted_below m.DEGREE m.POLYNOMIAL c.loop-i.x m.degree.some m.degree.top c.loop-i.invariant.0),
      rw (c.shift-x.ensures, c.digit_times-sum.ensures) (turn ∙ c.loop-i.invariant.1),
    )

pub returns : goal.returns
returns g c =
    let m = g.M.Modulus in
    let is : c.loop-i.sum ≡ product m.DEGREE m.POLYNOMIAL m.DEGREE c.args.a c.args.b =
    sym (product_end m.DEGREE m.POLYNOMIAL m.DEGREE c.loop-i._i c.loop-i.sum c.loop-i.x c.loop-i.y (omega arith)) ∙ c.loop-i.invariant.1 in
    record {
      is = is;
      below = subst (λ (x : ℕ). x < 2 ^ m.DEGREE) (sym is) (product_below m.DEGREE m.POLYNOMIAL m.DEGREE c.args.a c.args.b m.degree.some m.degree.top c.requires);
    }
