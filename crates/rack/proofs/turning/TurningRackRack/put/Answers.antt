use Rattle.std.proofs.Common.{◌≡◌, ◌+◌, ◌*◌, ◌<◌, ◌≢◌, length, get_or, sym, ap, ◌∙◌, arith}
use Rattle.std.proofs.lemmas.Bool.{true≢false}
use Rattle.std.proofs.lemmas.List.Edits.{swap_is}
use Rattle.rack.specs.Turning.{exchanged, page_of, spare_of}
use Rattle.rack.proofs.Laids.{slot_lt, takes_parts}
use Rattle.rack.proofs.Turns.{page_room, once_below, once_once, turn_puts}
use Rattle.rack.proofs.turning.TurningRackRack.put.Goals as goal

pub bounds-self-entry : goal.bounds-self-entry
bounds-self-entry c =
    let x = c.args.self.now.shape in let m = c.args.module in let s = c.args.slot in
    let p = takes_parts x m s c.args.offset c.args.symbol c.if-not-takes.ensures in
    omega (arith, slot_lt x.size.modules x.size.slots m s p.0.module_inside p.0.slot_inside, c.if-last-self.false, c.slot_number-entry.ensures, c.slots_in_all-last.ensures)

pub swap-requires-clause-a_in_bounds : goal.swap-requires-clause-a_in_bounds
swap-requires-clause-a_in_bounds c =
    let x = c.args.self.now.shape in let m = c.args.module in let s = c.args.slot in
    let p = takes_parts x m s c.args.offset c.args.symbol c.if-not-takes.ensures in
    omega (arith, slot_lt x.size.modules x.size.slots m s p.0.module_inside p.0.slot_inside, c.if-last-self.false, c.slot_number-entry.ensures, c.slots_in_all-last.ensures)

pub returns-then-not-turn-clause-puts : goal.returns-then-not-turn-clause-puts
returns-then-not-turn-clause-puts c h =
    let x = c.args.self.now.shape in let map = c.args.self.now.map.now in let cells = c.args.self.now.cells.now in
    let m = c.args.module in let s = c.args.slot in let n = x.size.modules * x.size.slots in
    let entry = c.slot_number-entry.result in let last = c.slots_in_all-last.result in
    let p = takes_parts x m s c.args.offset c.args.symbol c.if-not-takes.ensures in
    let below = once_below map (n + 1) h.pages in
    let lt : entry < last =
    omega (arith, slot_lt x.size.modules x.size.slots m s p.0.module_inside p.0.slot_inside, c.slot_number-entry.ensures, c.slots_in_all-last.ensures) in
    let end : last < n + 1 = omega (arith, c.slots_in_all-last.ensures) in
    let apart : get_or map entry 0 ≢ get_or map last 0 =
    λ e. let same : entry ≡ last = once_once map (n + 1) h.pages entry last (omega (arith, lt, end), end, e) in omega (arith, same, lt) in
    let t = c.turn.ensures.answer apart
    (page_room (get_or map entry 0) (n + 1) x.size.length (length cells) (below entry (omega (arith, lt, end))) h.room)
    (page_room (get_or map last 0) (n + 1) x.size.length (length cells) (below last end) h.room) in
    absurd (true≢false (sym t ∙ c.if-not-turn.true))

pub returns-clause-puts : goal.returns-clause-puts
returns-clause-puts c h =
    let x = c.args.self.now.shape in let map = c.args.self.now.map.now in let cells = c.args.self.now.cells.now in
    let m = c.args.module in let s = c.args.slot in let o = c.args.offset in let v = c.args.symbol in
    let p = takes_parts x m s o v c.if-not-takes.ensures in
    let entry = c.slot_number-entry.result in let last = c.slots_in_all-last.result in let L = x.size.length in
    let lt = slot_lt x.size.modules x.size.slots m s p.0.module_inside p.0.slot_inside in
    let page : get_or map entry 0 ≡ page_of x.size map m s = ap (λ i. get_or map i 0) c.slot_number-entry.ensures in
    let spare : get_or map last 0 ≡ spare_of x.size map = ap (λ i. get_or map i 0) c.slots_in_all-last.ensures in
    let e = c.turn.ensures in let w = c.if-not-turn.false in
    turn_puts x map c.swap.new.self cells c.turn.new.cells m s o v p.0 p.1 h c.turn.auto.cells
    record {
      entries = c.swap.ensures.after
          ∙ sym (swap_is map entry last 0 (omega (arith, lt, c.if-last-self.false, c.slot_number-entry.ensures, c.slots_in_all-last.ensures)) c.if-last-self.false)
          ∙ ap (λ i. exchanged map i last) c.slot_number-entry.ensures
          ∙ ap (exchanged map (m * x.size.slots + s)) c.slots_in_all-last.ensures;
      changed = ap (λ q. get_or c.turn.new.cells (q * L + o) 0) (sym spare) ∙ e.changed w;
      copied = λ k l n. ap (λ q. get_or c.turn.new.cells (q * L + k) 0) (sym spare) ∙ e.copied w k l n ∙ ap (λ q. get_or cells (q * L + k) 0) page;
      others = λ q k l n. e.kept w q k l (λ z. n (z ∙ spare));
    }
