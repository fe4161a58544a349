use Rattle.std.proofs.Common.{length, sym, ap, ◌∙◌, eq-eqb, true-eqb}
use Rattle.script.proofs.Numerals.{empty_list}
use Rattle.script.proofs.words.is_blank.Goals as goal

pub returns : goal.returns
returns c = (
  λ e. sym c.split_word.ensures.word ∙ empty_list _ (true-eqb _ 0 (sym e ∙ c.is_empty.ensures)),
  λ e. c.is_empty.ensures ∙ eq-eqb _ 0 (ap length (c.split_word.ensures.word ∙ e)),
)
