use Rattle.std.proofs.Common.{◌≡◌, refl, rules, tests}
use Rattle.std.proofs.lemmas.Iterator.{YieldsList-from_slice, IsFirst-from_position, index_from_first}
use Rattle.player.proofs.Printing.{bare, bare_newline, bare_other, split_at, split_none}
use Rattle.player.proofs.lines.split_line.Goals as goal
use Rattle.player.proofs.lines.split_line.Goals.{In-Some, In-None}

pub returns-in-Some-clause-lines : goal.returns-in-Some-clause-lines
returns-in-Some-clause-lines c =
    let text = c.args.text.now in
    let first = IsFirst-from_position _ _ c.position.result (λ x. x ≡ 10) (λ x. x ≡ 10 → ⊥) c.position.ensures.ran (YieldsList-from_slice text c.iter.ensures.rest) (λ x q k. search (rules, tests)) (λ x q k. search (rules, tests)) in
    let end = index_from_first bare (λ x. x ≡ 10) (λ x. x ≡ 10 → ⊥) refl (λ x xs e. bare_newline x xs e) (λ x xs n. bare_other x xs n) text c.position.result first in
    split_at text c.position.result c.in-Some.end c.requires end c.in-Some.is

pub returns-in-None-clause-lines : goal.returns-in-None-clause-lines
returns-in-None-clause-lines c =
    let text = c.args.text.now in
    let first = IsFirst-from_position _ _ c.position.result (λ x. x ≡ 10) (λ x. x ≡ 10 → ⊥) c.position.ensures.ran (YieldsList-from_slice text c.iter.ensures.rest) (λ x q k. search (rules, tests)) (λ x q k. search (rules, tests)) in
    let end = index_from_first bare (λ x. x ≡ 10) (λ x. x ≡ 10 → ⊥) refl (λ x xs e. bare_newline x xs e) (λ x xs n. bare_other x xs n) text c.position.result first in
    split_none text c.position.result c.requires end c.in-None.is
