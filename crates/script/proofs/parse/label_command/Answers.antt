use Rattle.std.proofs.Common.{[], ◌∷◌, refl, subst, ⊎_elim, arith}
use Rattle.std.proofs.lemmas.Bool.Decides.{not_from_Decides}
use Rattle.layout.specs.Labels.{flag}
use Rattle.script.specs.Words.{Numbers}
use Rattle.script.specs.declared.command.Name.TheVariants as Name
use Rattle.script.proofs.Commands.{no_command}
use Rattle.script.proofs.Numerals.{numbers_are, flag_small}
use Rattle.script.proofs.parse.label_command.Goals as goal

pub returns-in-0 : goal.returns-in-0
returns-in-0 c =
    let h = c.in_ok-flag.ensures in
    (refl, subst (λ n. Numbers c.args.text.now (n ∷ [])) c.in-0.is (numbers_are 1 c.args.text.now c.in_ok-flag.field-0 h.0 h.1))

pub returns-in-1 : goal.returns-in-1
returns-in-1 c =
    let h = c.in_ok-flag.ensures in
    (refl, subst (λ n. Numbers c.args.text.now (n ∷ [])) c.in-1.is (numbers_are 1 c.args.text.now c.in_ok-flag.field-0 h.0 h.1))

pub returns-in_default : goal.returns-in_default
returns-in_default c =
    let h = c.in_ok-flag.ensures in
    let x = numbers_are 1 c.args.text.now c.in_ok-flag.field-0 h.0 h.1 in
    no_command Name.Label c.args.text.now
    (⊎_elim (not_from_Decides _ c.is_blank.ensures c.if-is_blank.false)
    (λ k. omega (arith, x.0.1, k.1.0.1, flag_small k.0)))

pub returns-in_err-flag : goal.returns-in_err-flag
returns-in_err-flag c =
    rw c.from_residual.ensures
    (no_command Name.Label c.args.text.now
    (⊎_elim (not_from_Decides _ c.is_blank.ensures c.if-is_blank.false)
    (λ k. c.in_err-flag.ensures (flag k.0 ∷ []) refl k.1)))
