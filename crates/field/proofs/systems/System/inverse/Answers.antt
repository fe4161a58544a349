use Rattle.field.proofs.Inverted.{inverted}
use Rattle.field.proofs.systems.System.inverse.Goals as goal

pub returns : goal.returns
returns g c =
    let s = c.args.self.now in
    inverted (g.F.Field.arithmetic s.field.now) (g.met.F.Field.lawful s.field.now) s.n s.ks s.xs s.posed
    c.unit_solutions.result c.unit_solutions.ensures c.transposed.result c.transposed.ensures
