use Rattle.std.proofs.Common.{◌≡◌, ℕ, ◌<◌, true, false, ◌&&◌, eqb, leb, replicate, ◌∙◌, arith, length-set}
use Rattle.layout.proofs.OfPlan as layout
use Rattle.layout.specs.declared.plan.Plan.{Plan}
use Rattle.coding.specs.Schemes.{scheme_of}
use Rattle.pool.specs.Effects.{chunk_in}
use Rattle.pool.proofs.Loading.{first_slots, first_mark, more_marked, all_marked}
use Rattle.coding.specs.Pieces.{slot_at}
use Rattle.pool.proofs.carry.touched_rows.Goals as goal

home_below : (plan : Plan) (i home : ℕ) → i < (scheme_of plan).stripes → home ≡ (scheme_of plan).home i → home < 14
home_below plan i home l e = omega (arith, layout.rows_le plan, (layout.promises plan).home_in i l)

pub bounds-touched-home : goal.bounds-touched-home
bounds-touched-home c = home_below c.args.plan.now c.args.group.now.index c.args.home c.requires.inside c.requires.home

pub loop-piece-init : goal.loop-piece-init
loop-piece-init c = (
  length-set (replicate 14 false) c.args.home (leb c.args.plan.now.r2 c.args.plan.now.r),
  first_mark (leb c.args.plan.now.r2 c.args.plan.now.r) c.args.home
      (home_below c.args.plan.now c.args.group.now.index c.args.home c.requires.inside c.requires.home),
)

pub bounds-touched-from : goal.bounds-touched-from
bounds-touched-from c =
    let plan = c.args.plan.now in
    let i = c.args.group.now.index in
    let e = c.loop-piece.piece-index in
    let grouped = c.requires.grouped in
    let slots = first_slots c.args.group.now grouped.long c.from.result c.from.ensures (omega (arith, grouped.size_is, grouped.short)) in
    let low : e < c.from.result = omega (arith, slots.long, c.loop-piece-test.true) in
    let within : e < plan.d = omega (arith, low, c.from.ensures, grouped.size_is) in
    let is : c.from-in-loop-piece.result ≡ slot_at c.args.group.now e = c.from-in-loop-piece.ensures ∙ slots.at e low in
    omega (arith, is, grouped.slots_are e within, layout.rows_le plan, (layout.promises plan).in_rows (chunk_in (scheme_of plan) i e) (layout.chunk_lt plan i e c.requires.inside within))

pub loop-piece-preserved : goal.loop-piece-preserved
loop-piece-preserved c =
    let e = c.loop-piece.piece-index in
    let grouped = c.requires.grouped in
    let slots = first_slots c.args.group.now grouped.long c.from.result c.from.ensures (omega (arith, grouped.size_is, grouped.short)) in
    let is : c.from-in-loop-piece.result ≡ slot_at c.args.group.now e = c.from-in-loop-piece.ensures ∙ slots.at e (omega (arith, slots.long, c.loop-piece-test.true)) in (
      length-set c.loop-piece.touched c.from-in-loop-piece.result true ∙ c.loop-piece.invariant.0,
      λ h lh. rw is (more_marked c.loop-piece.touched (leb c.args.plan.now.r2 c.args.plan.now.r && eqb h c.args.home) (slot_at c.args.group.now) e h
          (omega (arith, c.loop-piece.invariant.0, is, bounds-touched-from c)) (c.loop-piece.invariant.1 h lh)),
    )

pub returns : goal.returns
returns c =
    λ h lh.
    let grouped = c.requires.grouped in
    let slots = first_slots c.args.group.now grouped.long c.from.result c.from.ensures (omega (arith, grouped.size_is, grouped.short)) in
    let all : c.loop-piece.piece-index ≡ c.args.plan.now.d = omega (arith, slots.long, c.from.ensures, c.loop-piece-test.false, c.loop-piece.auto.piece-index-end, grouped.size_is) in
    c.loop-piece.invariant.1 h (omega (arith, layout.rows_le c.args.plan.now))
    ∙ all_marked (scheme_of c.args.plan.now) c.args.group.now.index c.args.group.now c.requires.grouped c.args.home c.requires.home c.loop-piece.piece-index h all
