use Rattle.std.proofs.Common.{rules, tests}
use Rattle.std.proofs.lemmas.Iterator.{cases_from_all, YieldsList-from_slice}
use Rattle.std.proofs.lemmas.Iterator.Consumers.{YieldsList-from_enumerate}
use Rattle.field.proofs.Tests.{Fresh, Stale, distinct_tested}
use Rattle.field.proofs.posed.distinct.Goals as goal

pub returns : goal.returns
returns c =
    let xs = c.args.xs.now in
    distinct_tested _ xs
    (cases_from_all _ _ _ (Fresh xs) (Stale xs) c.all.ensures.ran (YieldsList-from_enumerate (YieldsList-from_slice xs cc) cc)
    (λ x q k. search (rules, tests)) (λ x q k. search (rules, tests)))
