use Rattle.pool.proofs.WordGroups.{of_stripe, of_row}
use Rattle.pool.proofs.word.Word.group.Goals as goal

pub returns-in-Stripe : goal.returns-in-Stripe
returns-in-Stripe c =
    let made = of_stripe c.args.self.now.plan c.args.self.now.chunk c.args.self.now.cell c.args.self.now.placed c.args.kind c.in-Stripe.is in
    record { is = made.is; inside = made.inside }

pub returns-in-Row : goal.returns-in-Row
returns-in-Row c =
    let made = of_row c.args.self.now.plan c.args.self.now.chunk c.args.self.now.cell c.args.self.now.placed c.args.kind c.in-Row.is in
    record { is = made.is; inside = made.inside }
