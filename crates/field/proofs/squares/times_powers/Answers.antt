use Rattle.std.proofs.Common.{sym, ◌∙◌}
use Rattle.field.proofs.Powers.{powers_turn, powers_end}
use Rattle.field.proofs.squares.times_powers.Goals as goal

pub loop-i-preserved : goal.loop-i-preserved
loop-i-preserved g c = (
  λ y. c.requires.again c.loop-i.square c.loop-i.square c.multiply-square.result y c.multiply-square.ensures,
  λ y. c.requires.again c.loop-i.power c.multiply-square.result c.multiply-power.result y c.multiply-power.ensures,
  λ mul is.
      rw (is _ _ _ c.multiply-power.ensures, is _ _ _ c.multiply-square.ensures)
      (powers_turn mul c.args.n c.loop-i._i c.loop-i.square c.loop-i.power c.loop-i-test.true ∙ c.loop-i.invariant.2 mul is),
)

pub returns : goal.returns
returns g c =
    λ mul is. sym (powers_end mul c.args.n c.loop-i._i c.loop-i.square c.loop-i.power c.loop-i-test.false) ∙ c.loop-i.invariant.2 mul is
