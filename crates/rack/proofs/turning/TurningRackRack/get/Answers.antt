use Rattle.std.proofs.Common.{◌≡◌, ◌+◌, ◌*◌, get_or, ap, ◌∙◌, arith}
use Rattle.rack.specs.Turning.{pages_of, page_of}
use Rattle.rack.proofs.Laids.{slot_lt, holds_parts}
use Rattle.rack.proofs.Turns.{page_lt, once_below}
use Rattle.rack.proofs.turning.TurningRackRack.get.Goals as goal

pub returns-in_err-page : goal.returns-in_err-page
returns-in_err-page c h =
    let x = c.args.self.now.shape in let m = c.args.module in let s = c.args.slot in
    let p = holds_parts x m s c.args.offset c.if-not-holds.ensures in
    absurd (omega (arith, slot_lt x.size.modules x.size.slots m s p.module_inside p.slot_inside, h.entries, c.slot_number.ensures, c.in_err-page.ensures.lookup.3))

pub returns-in_err-number : goal.returns-in_err-number
returns-in_err-number c h =
    let x = c.args.self.now.shape in let map = c.args.self.now.map.now in
    let m = c.args.module in let s = c.args.slot in let o = c.args.offset in
    let p = holds_parts x m s o c.if-not-holds.ensures in
    let page : c.in_ok-page.field-0.now ≡ page_of x.size map m s = c.in_ok-page.ensures.lookup.3.1 0 ∙ ap (λ i. get_or map i 0) c.slot_number.ensures in
    let at : c.page_cell.result ≡ page_of x.size map m s * x.size.length + o = c.page_cell.ensures ∙ ap (λ q. q * x.size.length + o) page in
    let lt = once_below map (pages_of x.size) h.pages (m * x.size.slots + s) (omega (arith, slot_lt x.size.modules x.size.slots m s p.module_inside p.slot_inside)) in
    absurd (omega (arith, page_lt lt p.offset_inside h.room, at, c.in_err-number.ensures.lookup.3))
