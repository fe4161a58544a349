use Rattle.std.proofs.Common.{◌≡◌, sym, refl, ap, ◌∙◌, take, drop, rules, tests}
use Rattle.std.proofs.lemmas.Iterator.{YieldsList-from_slice, IsFirst-from_position, index_from_first}
use Rattle.script.specs.Words.{front, behind}
use Rattle.script.proofs.Splits.{solid, solid_space, solid_other, front_is, behind_is}
use Rattle.script.proofs.words.split_word.Goals as goal

pub returns : goal.returns
returns c =
    let text = c.trimmed-text.result.now in
    let first = IsFirst-from_position _ _ c.position.result (λ x. x ≡ 32) (λ x. x ≡ 32 → ⊥) c.position.ensures.ran (YieldsList-from_slice text c.iter.ensures.rest) (λ x q k. search (rules, tests)) (λ x q k. search (rules, tests)) in
    let end : solid text ≡ c.unwrap_or-end.result = index_from_first solid (λ x. x ≡ 32) (λ x. x ≡ 32 → ⊥) refl (λ x xs e. solid_space x xs e) (λ x xs n. solid_other x xs n) text c.position.result first ∙ sym c.unwrap_or-end.ensures in
    record {
      word = c.split_at.ensures.front ∙ ap (λ n. take n text) (sym end) ∙ front_is text ∙ ap front c.trimmed-text.ensures;
      rest = c.split_at.ensures.back ∙ ap (λ n. drop n text) (sym end) ∙ behind_is text ∙ ap behind c.trimmed-text.ensures;
    }
