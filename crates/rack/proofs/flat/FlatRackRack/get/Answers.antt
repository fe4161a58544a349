use Rattle.std.proofs.Common.{arith}
use Rattle.rack.proofs.Laids.{holds_parts}
use Rattle.rack.proofs.Flats.{place_lt}
use Rattle.rack.proofs.flat.FlatRackRack.get.Goals as goal

pub returns-in_err-number : goal.returns-in_err-number
returns-in_err-number c h =
    let x = c.args.self.now.shape in
    let p = holds_parts x c.args.module c.args.slot c.args.offset c.if-not-holds.ensures in
    absurd (omega (arith, place_lt p, h.room, c.place-at.ensures, c.in_err-number.ensures.lookup.3))
