use Rattle.std.proofs.Common.{rules, get_or, set, sym, ap, ◌∙◌, arith, length-set}
use Rattle.std.proofs.lemmas.Bool.{cond-true}
use Rattle.rack.specs.Flat.{at, flat}
use Rattle.rack.proofs.Laids.{takes_parts, takes_laid}
use Rattle.rack.proofs.Flats.{place_lt, flat_put, flat_keeps}
use Rattle.rack.proofs.flat.FlatRackRack.put.Goals as goal

pub returns-then-not-takes-clause-puts : goal.returns-then-not-takes-clause-puts
returns-then-not-takes-clause-puts c h = let high = h.numbers.modules_high in search rules

pub returns-then-at-self-clause-puts : goal.returns-then-at-self-clause-puts
returns-then-at-self-clause-puts c h =
    let p = takes_parts c.args.self.now.shape c.args.module c.args.slot c.args.offset c.args.symbol c.if-not-takes.ensures in
    absurd (omega (arith, place_lt p.0, h.room, c.place-at.ensures, c.if-at-self.true))

pub returns-clause-puts : goal.returns-clause-puts
returns-clause-puts c h =
    let x = c.args.self.now.shape in let cells = c.args.self.now.cells.now in
    let m = c.args.module in let s = c.args.slot in let o = c.args.offset in let v = c.args.symbol in
    let p = takes_parts x m s o v c.if-not-takes.ensures in
    let t = takes_laid (λ a b d. get_or cells (at x.size a b d) 0) p.0 p.1 in (
      record {
        answer = sym t;
        after = ap (λ i. flat x (set cells i v)) c.place-at.ensures ∙ flat_put x cells m s o v p.0 p.1 h.room ∙ sym (cond-true _ _ _ t);
      },
      flat_keeps h (length-set cells c.place-at.result v),
    )
