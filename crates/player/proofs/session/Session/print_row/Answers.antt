use Rattle.std.proofs.Common.{◌≡◌, ◌+◌, ◌-◌, [], ◌∷◌, ◌++◌, length, get_or, drop, vec_items, codes, sym, ap, ◌∙◌, append-nil, add-one, arith, drop-cons, Ok}
use Rattle.pool.specs.declared.kinds.Reply.TheVariants.{Symbol}
use Rattle.player.specs.Shows.{answer_text}
use Rattle.player.specs.Rows.{row_text}
use Rattle.player.specs.Sessions.{kept, IsNextLine}
use Rattle.player.specs.Transcripts.{lines}
use Rattle.player.proofs.Calling.{line_less, none_left, empty}
use Rattle.player.proofs.Printing.{line_joined}
use Rattle.player.proofs.session.Session.print_row.Goals as goal

pub loop-answer-preserved : goal.loop-answer-preserved
loop-answer-preserved g c =
    let inv = c.loop-answer.invariant in
    let p = c.in_ok-print.ensures in
    let i = c.loop-answer.answer-index in
    let out = vec_items c.loop-answer.self.out in
    let line = c.in-Some.line.now in
    let told = c.args.told.now in
    let h : IsNextLine c.loop-answer.self.left.now line c.in-Some.rest.now = c.in-Some.ensures in
    record {
      falls = omega (arith, ap length p.left, h.1, inv.falls);
      plan = p.plan ∙ inv.plan;
      printed = λ part rest many are.
          let x = inv.printed part rest many are in
          let y = line_less line (kept (lines c.in-Some.rest.now)) x.0 rest (length told - (i + 1)) (omega (arith, x.1, c.loop-answer-test.true)) (sym h.0 ∙ x.2) in
          let d = drop (i + 1) told in
          let a = get_or told i (Ok (Symbol 0)) in
          let first : drop i told ≡ a ∷ d = drop-cons told i (Ok (Symbol 0)) c.loop-answer-test.true ∙ ap (λ n. a ∷ drop n told) (sym (add-one i)) in (
            y.tail,
            omega (arith, y.fewer, c.loop-answer-test.true),
            ap (λ t. kept (lines t)) p.left ∙ y.lines_are,
            ap (λ o. o ++ row_text y.tail d) (p.out ∙ ap (λ t. out ++ (line ++ (codes ": " ++ (t ++ 10 ∷ [])))) (c.as_str.ensures.value ∙ c.in_ok-text.ensures))
                ∙ line_joined out line (answer_text a) (row_text y.tail d)
                ∙ ap (λ t. out ++ row_text (line ∷ y.tail) t) (sym first)
                ∙ ap (λ t. out ++ row_text t (drop i told)) (sym y.is)
                ∙ x.3,
          );
    }

pub returns-in_default : goal.returns-in_default
returns-in_default g c =
    let inv = c.loop-answer.invariant in
    record {
      printed = λ part rest many are.
          let x = inv.printed part rest many are in
          absurd (omega (arith, none_left x.0 rest (sym x.2 ∙ c.in_default.ensures), x.1, c.loop-answer-test.true));
      falls = inv.falls;
      plan = inv.plan;
    }

pub returns : goal.returns
returns g c =
    let inv = c.loop-answer.invariant in
    record {
      printed = λ part rest many are.
          let x = inv.printed part rest many are in
          let none : x.0 ≡ [] = empty x.0 (omega (arith, x.1, c.loop-answer-test.false)) in (
            x.2 ∙ ap (λ t. t ++ rest) none,
            sym (append-nil (vec_items c.loop-answer.self.out)) ∙ ap (λ t. vec_items c.loop-answer.self.out ++ row_text t (drop c.loop-answer.answer-index c.args.told.now)) (sym none) ∙ x.3,
          );
      falls = inv.falls;
      plan = inv.plan;
    }
