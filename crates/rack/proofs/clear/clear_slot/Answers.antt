use Rattle.std.proofs.Common.{◌≡◌, ◌<◌, ◌≤◌, true, arith}
use Rattle.rack.proofs.Clears.{cleared_none, cleared_more, fitted_from, clears_all}
use Rattle.rack.proofs.clear.clear_slot.Goals as goal

pub loop-offset-init : goal.loop-offset-init
loop-offset-init g c h = (h, cleared_none (g.R.Rack.meaning c.args.rack.now) c.args.module c.args.slot)

pub loop-offset-preserved : goal.loop-offset-preserved
loop-offset-preserved g c h =
    let w = g.R.Rack.meaning c.args.rack.now in let m = c.args.module in let s = c.args.slot in let n = c.loop-offset.offset in
    let hm : m < w.modules = omega (arith, c.if-module-modules.false, c.modules.ensures) in
    let hs : s < w.slots = omega (arith, c.if-slot-slots.false, c.slots.ensures) in
    let hn : n < w.length = omega (arith, c.loop-offset-test.true, c.if-until-length.false, c.length.ensures) in
    let hf : w.fitted m ≡ true = fitted_from w m (c.if-not-ask.ensures h) in
    let b = g.R.Rack.bounded c.args.rack.now h in
    let inv = c.loop-offset.invariant h in
    let put = c.put.ensures inv.0 in (
      put.1,
      cleared_more w (g.R.Rack.meaning c.loop-offset.rack) (g.R.Rack.meaning c.put.new.self) m s n hm hs hf (omega (arith, b.order_low)) hn
          inv.1 put.0.after,
    )

pub returns : goal.returns
returns g c h =
    let w = g.R.Rack.meaning c.args.rack.now in let m = c.args.module in let s = c.args.slot in
    let hm : m < w.modules = omega (arith, c.if-module-modules.false, c.modules.ensures) in
    let hs : s < w.slots = omega (arith, c.if-slot-slots.false, c.slots.ensures) in
    let hn : c.args.until ≤ w.length = omega (arith, c.if-until-length.false, c.length.ensures) in
    let he : c.loop-offset.offset ≡ c.args.until = omega (arith, c.loop-offset-test.false, c.loop-offset.auto.offset-end) in
    let hf : w.fitted m ≡ true = fitted_from w m (c.if-not-ask.ensures h) in
    let inv = c.loop-offset.invariant h in
    (clears_all w (g.R.Rack.meaning c.loop-offset.rack) m s c.loop-offset.offset c.args.until hm hs hn hf he inv.1, inv.0)
