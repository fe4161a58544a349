use Rattle.std.proofs.Common.{◌≡◌, ℕ, ◌<◌, ◌≤◌, true, false, Option, sym, refl, ap, ◌∙◌, arith, Ok}
use Rattle.coding.specs.Schemes.{scheme_of}
use Rattle.pool.specs.declared.kinds.Call.TheVariants.{Refit}
use Rattle.pool.specs.declared.kinds.Reply.TheVariants.{Done}
use Rattle.layout.specs.declared.refusal.Refusal.TheVariants.{NoModule, AlreadySo, BeyondRepair}
use Rattle.pool.specs.Book.{modules, refuse_at}
use Rattle.pool.specs.Pools.{standing}
use Rattle.pool.proofs.Asking.{asked}
use Rattle.coding.proofs.OfPlan.{sound}
use Rattle.pool.proofs.Calls.{called, called_refused}
use Rattle.pool.proofs.Refitting.{no_such, fitted_still, refusal_is, refit_does}
use Rattle.pool.proofs.pool.Pool.refit.Goals as goal

pub returns-then-module-modules : goal.returns-then-module-modules
returns-then-module-modules g c =
    λ h.
    let x = c.args.self.now in
    let arithmetic = g.F.Field.arithmetic in
    let valid = g.R.Rack.valid in
    let meaning = g.R.Rack.meaning in
    let m = c.args.module in
    let lm : modules (scheme_of x.plan) ≤ m = omega arith in
    called_refused arithmetic g.met.F.Field.lawful valid meaning x x h h.rack_is_valid refl refl (Refit m) (NoModule m)
    (no_such (arithmetic x.field) (scheme_of x.plan) (sound x.plan (arithmetic x.field) h.order_is) (standing arithmetic valid meaning x) m lm) refl

pub returns-then-ask : goal.returns-then-ask
returns-then-ask g c =
    λ h.
    let x = c.args.self.now in
    let arithmetic = g.F.Field.arithmetic in
    let valid = g.R.Rack.valid in
    let meaning = g.R.Rack.meaning in
    let m = c.args.module in
    let lm : m < modules (scheme_of x.plan) = omega arith in
    let fitted : (meaning x.rack).fitted m ≡ true = sym (asked (meaning x.rack) h.kept.bounded m) ∙ sym (c.if-ask.ensures h.rack_is_valid) in
    called_refused arithmetic g.met.F.Field.lawful valid meaning x x h h.rack_is_valid refl refl (Refit m) (AlreadySo m)
    (fitted_still (arithmetic x.field) (scheme_of x.plan) (sound x.plan (arithmetic x.field) h.order_is) (standing arithmetic valid meaning x) m lm fitted) refl

pub returns-in-Some : goal.returns-in-Some
returns-in-Some g c =
    λ h.
    let x = c.args.self.now in
    let arithmetic = g.F.Field.arithmetic in
    let valid = g.R.Rack.valid in
    let meaning = g.R.Rack.meaning in
    let m = c.args.module in
    let lm : m < modules (scheme_of x.plan) = omega arith in
    let pulled : (meaning x.rack).fitted m ≡ false = sym (asked (meaning x.rack) h.kept.bounded m) ∙ sym (c.if-ask.ensures h.rack_is_valid) in
    called_refused arithmetic g.met.F.Field.lawful valid meaning x x h h.rack_is_valid refl refl (Refit m) (BeyondRepair c.in-Some.i)
    (refusal_is (arithmetic x.field) (scheme_of x.plan) (sound x.plan (arithmetic x.field) h.order_is) (standing arithmetic valid meaning x) m lm pulled c.settled.result
    c.settled.ensures c.outs.result (c.outs.ensures h.rack_is_valid)
    ∙ ap (λ (o : Option ℕ). refuse_at o BeyondRepair) (sym c.in-Some.ensures))
    refl

pub returns : goal.returns
returns g c =
    λ h.
    let x = c.args.self.now in
    let arithmetic = g.F.Field.arithmetic in
    let valid = g.R.Rack.valid in
    let meaning = g.R.Rack.meaning in
    let m = c.args.module in
    let lm : m < modules (scheme_of x.plan) = omega arith in
    let pulled : (meaning x.rack).fitted m ≡ false = sym (asked (meaning x.rack) h.kept.bounded m) ∙ sym (c.if-ask.ensures h.rack_is_valid) in
    let fit = c.fit.ensures h.rack_is_valid in
    let done = c.restore.ensures fit.1 in
    called arithmetic g.met.F.Field.lawful valid meaning x (record { plan = x.plan; field = x.field; rack = c.restore.new.rack; phase = x.phase; carried = x.carried }) h done.0 refl refl (Refit m) (Ok Done)
    (refit_does (arithmetic x.field) (scheme_of x.plan) (sound x.plan (arithmetic x.field) h.order_is) (standing arithmetic valid meaning x) m lm pulled c.settled.result
    c.settled.ensures c.outs.result (c.outs.ensures h.rack_is_valid) h.kept (sym c.in_default.ensures) (meaning c.fit.new.self)
    (meaning c.restore.new.rack) fit.0.after (done.1 h.order_is))
