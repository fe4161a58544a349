use Rattle.std.proofs.Common.{[], ◌∷◌, ◌++◌, length, vec_items, string_bytes, codes, sym, ap, ◌∙◌, subst, arith}
use Rattle.std.specs.Option.{option_map}
use Rattle.player.specs.Answers.{state, Replies}
use Rattle.player.specs.Holding.{alone, memory_by}
use Rattle.player.specs.Sessions.{IsNextLine}
use Rattle.player.proofs.Parts.{same_memory, ends_some, line_played}
use Rattle.player.proofs.session.Session.play_alone.Goals as goal

pub returns-then-is_some : goal.returns-then-is_some
returns-then-is_some g c =
    let inv = c.loop-line.invariant in
    let a = c.in_ok-text.field-0 in
    let r = c.in_ok-text.ensures inv.ready in
    let p = c.in_ok-print.ensures in
    let line = c.in-Some.line.now in
    let h : IsNextLine c.loop-line.self.left.now line c.in-Some.rest.now = c.in-Some.ensures in (
      r.1,
      r.2,
      ends_some a.request c.args.self.now c.print.new.self (sym c.is_some.ensures ∙ c.if-is_some.true) (omega (arith, ap length p.left, h.1, inv.falls)),
      line_played g.L.Language.writes c.args.self.now (alone (option_map g.R.Rack.meaning c.args.rack.now)) c.loop-line.self c.print.new.self (alone (option_map g.R.Rack.meaning c.loop-line.rack))
          (memory_by a.request (alone (option_map g.R.Rack.meaning c.answer.new.rack))) line c.in-Some.rest.now (string_bytes a.text) c.parse.result c.answer.new.plan inv.plays h.0 c.parse.ensures r.0 p.plan p.left
          (p.out ∙ ap (λ t. vec_items c.loop-line.self.out ++ (line ++ (codes ": " ++ (t ++ 10 ∷ [])))) c.as_str.ensures.value),
    )

pub loop-line-preserved : goal.loop-line-preserved
loop-line-preserved g c =
    let inv = c.loop-line.invariant in
    let a = c.in_ok-text.field-0 in
    let r = c.in_ok-text.ensures inv.ready in
    let p = c.in_ok-print.ensures in
    let line = c.in-Some.line.now in
    let m = alone (option_map g.R.Rack.meaning c.loop-line.rack) in
    let m' = alone (option_map g.R.Rack.meaning c.answer.new.rack) in
    let h : IsNextLine c.loop-line.self.left.now line c.in-Some.rest.now = c.in-Some.ensures in
    record {
      falls = omega (arith, ap length p.left, h.1, inv.falls);
      ready = r.1;
      plays = line_played g.L.Language.writes c.args.self.now (alone (option_map g.R.Rack.meaning c.args.rack.now)) c.loop-line.self c.print.new.self m m' line c.in-Some.rest.now (string_bytes a.text) c.parse.result c.answer.new.plan
          inv.plays h.0 c.parse.ensures
          (subst (λ x. Replies (state c.loop-line.self.plan m) c.parse.result (state c.answer.new.plan x) (string_bytes a.text)) (same_memory a.request m' (sym c.is_some.ensures ∙ c.if-is_some.false)) r.0) p.plan p.left
          (p.out ∙ ap (λ t. vec_items c.loop-line.self.out ++ (line ++ (codes ": " ++ (t ++ 10 ∷ [])))) c.as_str.ensures.value);
    }
