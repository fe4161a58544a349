use Rattle.std.proofs.Common.{◌≡◌, ◌<◌, sym, subst, arith}
use Rattle.layout.proofs.OfPlan as layout
use Rattle.coding.specs.declared.group.Kind.{Kind}
use Rattle.coding.specs.Schemes.{scheme_of}
use Rattle.coding.specs.Groups.{groups, slot_of}
use Rattle.coding.proofs.group.Kind.parity_slot.Goals as goal

pub returns-in-Row : goal.returns-in-Row
returns-in-Row c =
    let p = c.args.plan.now in
    subst (λ (t : Kind). c.args.index < groups (scheme_of p) t → c.saturating_add.result ≡ slot_of (scheme_of p) t c.args.index) (sym c.in-Row.is)
    (λ h. omega (arith, layout.stripes_le p, layout.rows_le p, c.stripes.ensures, c.saturating_add.ensures))
