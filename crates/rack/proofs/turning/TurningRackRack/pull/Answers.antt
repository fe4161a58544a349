use Rattle.std.proofs.Common.{false}
use Rattle.rack.specs.Turning.{paged, TurnSound}
use Rattle.rack.proofs.Laids.{shaped_pull, by_marked}
use Rattle.rack.proofs.Turns.{turn_marked}
use Rattle.rack.proofs.turning.TurningRackRack.pull.Goals as goal

pub returns-clause-pulls : goal.returns-clause-pulls
returns-clause-pulls c h =
    let x = c.args.self.now.shape in let map = c.args.self.now.map.now in let cells = c.args.self.now.cells.now in
    let m = c.args.module in let mark = c.mark.ensures in (
      shaped_pull x c.mark.new.self (λ size. paged size map cells) m c.mark.result h.numbers mark.answer mark.after,
      by_marked (λ y. TurnSound y map cells) x c.mark.new.self m false c.mark.result h (turn_marked m false h) mark.after,
    )
