use Rattle.std.proofs.Common.{false, get_or}
use Rattle.rack.specs.Flat.{at, FlatSound}
use Rattle.rack.proofs.Laids.{shaped_pull, by_marked}
use Rattle.rack.proofs.Flats.{flat_marked}
use Rattle.rack.proofs.flat.FlatRackRack.pull.Goals as goal

pub returns-clause-pulls : goal.returns-clause-pulls
returns-clause-pulls c h =
    let x = c.args.self.now.shape in let cells = c.args.self.now.cells.now in let m = c.args.module in
    let mark = c.mark.ensures in (
      shaped_pull x c.mark.new.self (λ size a b d. get_or cells (at size a b d) 0) m c.mark.result h.numbers mark.answer mark.after,
      by_marked (λ y. FlatSound y cells) x c.mark.new.self m false c.mark.result h (flat_marked m false h) mark.after,
    )
