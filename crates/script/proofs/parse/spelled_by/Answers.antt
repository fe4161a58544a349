use Rattle.std.proofs.Common.{◌≡◌, rules, tests}
use Rattle.std.proofs.lemmas.Iterator.{YieldsList-from_slice, first_from_find}
use Rattle.std.proofs.lemmas.Iterator.Consumers.{YieldsList-from_copied}
use Rattle.script.proofs.Commands.{found_among}
use Rattle.script.proofs.parse.spelled_by.Goals as goal

pub returns : goal.returns
returns g c =
    let word = c.args.word.now in
    let spelled = g.T.Spelled.spelled in
    found_among c.among.result.now c.find.result (λ y. word ≡ spelled y) c.among.ensures
    (first_from_find _ _ c.find.result (λ y. word ≡ spelled y) (λ y. word ≡ spelled y → ⊥) c.find.ensures.ran (YieldsList-from_copied (YieldsList-from_slice c.among.result.now (cc))) (λ x q k. search (rules, tests)) (λ x q k. search (rules, tests)))
