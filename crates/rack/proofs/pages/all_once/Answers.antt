use Rattle.std.proofs.Common.{◌≡◌, ◌<◌, true, false, get_or, set, sym, refl, ap, ◌∙◌, arith, length-set}
use Rattle.std.proofs.lemmas.List.{get_or-replicate, get_or-take, length-take-le}
use Rattle.rack.specs.Turning.{named}
use Rattle.rack.proofs.Turns.{named_parts, named_more, once_more, once_stops}
use Rattle.rack.proofs.pages.all_once.Goals as goal
use Rattle.rack.proofs.pages.all_once.Goals.{then-page-pages-via-then-page-pages, then-page-pages-via-else-page-pages+then-seen-page}

pub loop-entry-init : goal.loop-entry-init
loop-entry-init c = (refl, (λ p h. get_or-replicate 2049 p false false (omega (arith, c.requires.few))), refl)

pub returns-then-page-pages : goal.returns-then-page-pages
returns-then-page-pages c =
    let map = c.args.map.now in let n = c.args.pages in let i = c.loop-entry.entry-index in
    let lt : i < n = omega (arith, c.loop-entry-test.true, length-take-le n map c.requires.entries) in
    let page : c.from-page.result ≡ get_or map i 0 = c.from-page.ensures ∙ get_or-take n map i 0 lt in
    sym (once_stops map n i n lt
    (λ f. elim c.then-page-pages.branch [
      | then-page-pages-via-then-page-pages w ↦ omega (arith, w.if-page-pages.true, f.0, page)
      | then-page-pages-via-else-page-pages+then-seen-page w ↦
          f.1 (named_parts map (get_or map i 0) i
          (ap (λ p. named map p i) (sym page) ∙ sym (c.loop-entry.invariant.1 c.from-page.result w.if-page-pages.false) ∙ w.if-seen-page.true))
    ]))

pub loop-entry-preserved : goal.loop-entry-preserved
loop-entry-preserved c =
    let map = c.args.map.now in let n = c.args.pages in let i = c.loop-entry.entry-index in
    let seen = c.loop-entry.seen in let v = c.loop-entry.invariant in
    let page : c.from-page.result ≡ get_or map i 0 =
    c.from-page.ensures ∙ get_or-take n map i 0 (omega (arith, c.loop-entry-test.true, length-take-le n map c.requires.entries)) in
    let lt : get_or map i 0 < n = omega (arith, c.if-page-pages.false, page) in (
      length-set seen c.from-page.result true ∙ v.0,
      (λ p h. ap (λ q. get_or (set seen q true) p false) page ∙ named_more map seen i p (omega (arith, lt, v.0, c.requires.few)) (v.1 p h)),
      once_more map n i v.2 lt (ap (λ p. named map p i) (sym page) ∙ sym (v.1 c.from-page.result c.if-page-pages.false) ∙ c.if-seen-page.false),
    )
