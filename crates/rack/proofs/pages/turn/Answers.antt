use Rattle.std.proofs.Common.{arith}
use Rattle.std.proofs.lemmas.Grind.{common_steps}
use Rattle.rack.proofs.Turns.{outside_page}
use Rattle.rack.proofs.pages.turn.Goals as goal

pub returns-clause-kept : goal.returns-clause-kept
returns-clause-kept c t p k h n = grind (arith, common_steps, outside_page p c.args.spare c.args.span k n h)
