use Rattle.std.proofs.Common.{arith, rules}
use Rattle.layout.proofs.Facts.{placed}
use Rattle.layout.proofs.plan.Plan.new.Goals as goal

pub returns : goal.returns
returns c = (search rules, search rules, placed c.args.d c.args.d2 (omega arith))
