use Rattle.std.proofs.Common.{arith}
use Rattle.rack.proofs.Flats.{flat_fit}
use Rattle.rack.proofs.flat.FlatRackRack.fit.Goals as goal

pub returns-clause-fits : goal.returns-clause-fits
returns-clause-fits c h =
    let range = c.module_cells.ensures in let clear = c.clear.ensures in
    flat_fit c.args.self.now.shape c.mark.new.self c.args.module c.args.self.now.cells.now c.clear.new.cells h
    c.if-not-mark.ensures.answer c.if-not-mark.ensures.after c.clear.auto.cells
    record {
      zero = λ k l u. clear.zero k (omega (arith, range.start)) (omega (arith, range.end));
      below = λ k u. clear.below k (omega (arith, range.start));
      above = λ k l. clear.above k (omega (arith, range.end));
    }
