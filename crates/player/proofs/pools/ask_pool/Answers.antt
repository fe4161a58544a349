use Rattle.std.proofs.Common.{string_bytes, Some, sym, refl, subst}
use Rattle.std.specs.Option.{option_copied, option_map}
use Rattle.player.specs.declared.request.Request.TheVariants as request
use Rattle.player.specs.Holding.{Ready, PoolAsked}
use Rattle.player.proofs.Plans.{asked_started}
use Rattle.player.proofs.pools.ask_pool.Goals as goal

pub returns-in_ok-from_str-in-Ok : goal.returns-in_ok-from_str-in-Ok
returns-in_ok-from_str-in-Ok g c =
    let by = c.in-Ok.by in
    let e = c.in-Ok.ensures in
    let r = Some (request.Pool (record { field = c.args.field; by = by })) in
    let text = string_bytes c.in_ok-from_str-in-Ok.field-0 in
    subst (λ o. Ready g.R.Rack.valid (option_copied o) → PoolAsked c.args.field c.args.wanted (option_map g.R.Rack.meaning (option_copied o)) r text) (sym c.in-Some.is)
    (λ valid. asked_started c.args.wanted c.args.field (g.R.Rack.meaning c.in-Some.rack.now) by r text (e.why valid) e.starts (e.fits valid) refl c.in_ok-from_str-in-Ok.ensures.ok)
