use Rattle.std.proofs.Common.{string_bytes, sym, subst}
use Rattle.std.specs.Option.{option_copied, option_map}
use Rattle.player.specs.Holding.{PlanSet}
use Rattle.player.specs.declared.request.Wanted.TheVariants as wanted
use Rattle.player.proofs.Plans.{sets_plan, asks_lay, asks_open, lay_possible, pool_possible, none_possible, on_ok}
use Rattle.player.proofs.answer.respond_alike.Goals as goal

pub returns-in_ok-set_plan-in-Plan : goal.returns-in_ok-set_plan-in-Plan
returns-in_ok-set_plan-in-Plan g c ready =
    let a = c.only.result in
    let set = subst (λ t. PlanSet c.args.plan.now c.new-new.result c.set_plan.new.plan (string_bytes t)) (sym c.only.ensures.text) c.in_ok-set_plan-in-Plan.ensures in (
      λ m at. sets_plan c.args.command c.args.plan.now m c.in-Plan.order c.in-Plan.d c.in-Plan.r c.in-Plan.d2 c.in-Plan.r2 c.in-Plan.len c.new-new.result c.set_plan.new.plan a.request (string_bytes a.text)
          c.in-Plan.is c.new-new.ensures c.only.ensures.request set,
      none_possible a.request (option_map g.R.Rack.meaning (option_copied c.args.rack)) c.only.ensures.request,
    )

pub returns-in-Lay : goal.returns-in-Lay
returns-in-Lay g c ready =
    let o = option_map g.R.Rack.meaning (option_copied c.args.rack) in
    on_ok c.ask_lay.result
    (λ a h. (
      λ m at. asks_lay c.args.command c.args.plan.now o m c.in-Lay.field a.request (string_bytes a.text) c.in-Lay.is at h,
      lay_possible c.args.plan.now o c.in-Lay.field a.request (string_bytes a.text) h,
    ))
    (c.ask_lay.ensures ready)

pub returns-in-Open : goal.returns-in-Open
returns-in-Open g c ready =
    let o = option_map g.R.Rack.meaning (option_copied c.args.rack) in
    on_ok c.ask_pool.result
    (λ a h. (
      λ m at. asks_open c.args.command c.args.plan.now o m c.in-Open.field c.in-Open.bytes a.request (string_bytes a.text) c.in-Open.is at h,
      pool_possible (wanted.Open c.in-Open.bytes) o c.in-Open.field a.request (string_bytes a.text) h,
    ))
    (c.ask_pool.ensures ready)
