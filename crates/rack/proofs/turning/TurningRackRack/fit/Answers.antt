use Rattle.std.proofs.Common.{◌≡◌, ℕ, ◌+◌, ◌*◌, ◌<◌, ◌≤◌, ◌≢◌, true, get_or, sym, ap, ◌∙◌, subst, ⊎_elim, mul-le-mul_right, add-mul, arith}
use Rattle.std.proofs.lemmas.Bool.{cases_eq, cases_lt}
use Rattle.rack.specs.Meaning.{Fits}
use Rattle.rack.specs.Turning.{paged, turned, TurnSound}
use Rattle.rack.proofs.Laids.{outside_fit}
use Rattle.rack.proofs.Turns.{cleared_zero, cleared_other, pages_blanked, turn_fit}
use Rattle.rack.proofs.turning.TurningRackRack.fit.Goals as goal

pub returns-then-end-self-clause-fits : goal.returns-then-end-self-clause-fits
returns-then-end-self-clause-fits c h =
    let x = c.args.self.now.shape in let m = c.args.module in let S = x.size.slots in
    let out : x.size.modules ≤ m =
    ⊎_elim (λ (l : m < x.size.modules).
    absurd (omega (arith, add-mul m 1 S, mul-le-mul_right {m = m + 1} {n = x.size.modules} S (omega (arith, l)), h.entries, c.if-end-self.true, c.slot_number-end.ensures)))
    (λ (l : x.size.modules ≤ m). l) (cases_lt m x.size.modules) in
    (outside_fit x m (paged x.size c.args.self.now.map.now c.args.self.now.cells.now) out, h)

pub loop-entry-preserved : goal.loop-entry-preserved
loop-entry-preserved c =
    let f = c.args.self.now in let v = c.loop-entry.invariant in let j = c.loop-entry.entry in let w = f.shape.size.length in
    let page : ℕ → ℕ = λ i. get_or f.map.now i 0 in
    let xs = c.loop-entry.self.cells.now in let ys = c.clear.new.cells in let clear = c.clear.ensures in
    let same : get_or c.loop-entry.self.map.now j 0 * w ≡ page j * w = ap (λ (map : _). get_or map j 0 * w) v.1 in
    let start : c.page_cells.result.start ≡ page j * w = c.page_cells.ensures.start ∙ same in
    let end : c.page_cells.result.end ≡ page j * w + w = c.page_cells.ensures.end ∙ ap (λ q. q + w) same in
    let z : (k : ℕ) → page j * w ≤ k → k < page j * w + w → get_or ys k 0 ≡ 0 = λ k l u. clear.zero k (omega (arith, start)) (omega (arith, end)) in
    let b : (k : ℕ) → k < page j * w → get_or ys k 0 ≡ get_or xs k 0 = λ k u. clear.below k (omega (arith, start)) in
    let a : (k : ℕ) → page j * w + w ≤ k → get_or ys k 0 ≡ get_or xs k 0 = λ k l. clear.above k (omega (arith, end)) in
    let zero = cleared_zero (page j) w xs ys z b a in
    let other = cleared_other (page j) w xs ys z b a in (
      v.0,
      v.1,
      c.clear.auto.cells ∙ v.2,
      (λ i o l u ho.
          ⊎_elim (λ (e : page i ≡ page j). zero (page i) o e ho)
          (λ (n : page i ≢ page j). other (page i) o n ho ∙
          ⊎_elim (λ (e : i ≡ j). absurd (n (ap page e))) (λ (d : i ≢ j). v.3 i o l (omega arith) ho) (cases_eq i j))
          (cases_eq (page i) (page j))),
      (λ p o ho n.
          let d : p ≢ page j = λ e. n j c.loop-entry.auto.entry (omega arith) e in
          other p o d ho ∙ v.4 p o ho (λ i l u. n i l (omega arith))),
    )

pub returns-clause-fits : goal.returns-clause-fits
returns-clause-fits c h =
    let x = c.args.self.now.shape in let map = c.args.self.now.map.now in let cells = c.args.self.now.cells.now in let m = c.args.module in
    let v = c.loop-entry.invariant in let w = c.loop-entry.self in let mark = c.if-not-mark.ensures in
    let blanked = pages_blanked x.size m c.slot_number-first.result c.slot_number-end.result map cells w.cells.now c.slot_number-first.ensures c.slot_number-end.ensures
    (λ i k l u hk. v.3 i k l (omega (arith, c.loop-entry-test.false)) hk)
    (λ p k hk n. v.4 p k hk (λ i l u. n i l (omega (arith, c.loop-entry.auto.entry-end)))) in
    subst (λ y. Fits (turned x map cells) (turned w.shape y w.cells.now) m true × TurnSound w.shape y w.cells.now) (sym v.1)
    (turn_fit x w.shape m map cells w.cells.now h mark.answer (v.0 ∙ mark.after) v.2 blanked)

pub returns-clause-cells : goal.returns-clause-cells
returns-clause-cells c =
    let x = c.args.self.now.shape in let map = c.args.self.now.map.now in let cells = c.args.self.now.cells.now in
    let v = c.loop-entry.invariant in
    pages_blanked x.size c.args.module c.slot_number-first.result c.slot_number-end.result map cells c.loop-entry.self.cells.now c.slot_number-first.ensures c.slot_number-end.ensures
    (λ i k l u hk. v.3 i k l (omega (arith, c.loop-entry-test.false)) hk)
    (λ p k hk n. v.4 p k hk (λ i l u. n i l (omega (arith, c.loop-entry.auto.entry-end))))
