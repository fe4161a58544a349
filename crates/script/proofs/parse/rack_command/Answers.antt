use Rattle.std.proofs.Common.{sym, refl, ◌∙◌, subst}
use Rattle.script.specs.Words.{Numbers}
use Rattle.script.specs.declared.command.Name.TheVariants as Name
use Rattle.script.proofs.Commands.{no_command}
use Rattle.script.proofs.Numerals.{firsts, numbers_are}
use Rattle.script.proofs.parse.rack_command.Goals as goal

pub returns : goal.returns
returns c = (
  refl,
  (sym c.split_word.ensures.word ∙ c.in_ok-kind.ensures, subst (λ t. Numbers t (firsts 4 c.in_ok-order.field-0)) c.split_word.ensures.rest (numbers_are 4 c.split_word.result.1.now c.in_ok-order.field-0 c.in_ok-order.ensures.0 c.in_ok-order.ensures.1)),
)

pub returns-in_err-order : goal.returns-in_err-order
returns-in_err-order c =
    rw c.from_residual-in_err-order.ensures
    (no_command Name.Rack c.args.text.now
    (λ k. c.in_err-order.ensures k.2.0 k.2.1 (subst (λ t. Numbers t k.2.0) (sym c.split_word.ensures.rest) k.2.2)))

pub returns-in_err-kind : goal.returns-in_err-kind
returns-in_err-kind c =
    rw c.from_residual.ensures (no_command Name.Rack c.args.text.now (λ k. c.in_err-kind.ensures k.0 (c.split_word.ensures.word ∙ k.1)))
