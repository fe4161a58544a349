use Rattle.std.proofs.Common.{[], ◌∷◌, ◌++◌, ◌<◌, length, Some, IfSome, vec_items, string_bytes, codes, sym, ap, ◌∙◌, subst, arith}
use Rattle.player.specs.Answers.{state, bare, Replies}
use Rattle.player.specs.Holding.{within, memory_by, Possible}
use Rattle.player.specs.Rows.{ReadsNext}
use Rattle.player.specs.Sessions.{lines_left}
use Rattle.player.proofs.Parts.{same_memory, by_rack, ends_some, line_played, plays_then, plays_same}
use Rattle.player.proofs.session.Session.play_pooled.Goals as goal

pub returns-then-is_some : goal.returns-then-is_some
returns-then-is_some g c =
    let W = g.L.Language.writes in
    let inv = c.loop-pool.invariant in
    let x = c.in_ok-next.ensures.played in
    let b = c.args.self.now in
    let s = c.play_row.new.self in
    let e = c.print.new.self in
    let m0 = within g.F.Field.arithmetic g.R.Rack.valid g.R.Rack.meaning c.args.pool in
    let m = within g.F.Field.arithmetic g.R.Rack.valid g.R.Rack.meaning c.play_row.new.pool in
    let a = c.in_ok-text.field-0 in
    let r = c.in_ok-text.ensures in
    let p = c.in_ok-print.ensures in
    let line = c.in-Some.next.line.now in
    let read = subst (ReadsNext W (lines_left s)) c.in-Some.is x.1 in
    let less = subst (λ o. IfSome o (λ n. length n.rest.now < length c.loop-pool.self.left.now)) c.in-Some.is x.2 in
    let before = plays_then W b m0 c.loop-pool.self s (within g.F.Field.arithmetic g.R.Rack.valid g.R.Rack.meaning c.loop-pool.pool) m inv.plays x.3 in
    let out = p.out ∙ ap (λ t. vec_items s.out ++ (line ++ (codes ": " ++ (t ++ 10 ∷ [])))) c.as_str.ensures.value in
    let some = sym c.is_some.ensures ∙ c.if-is_some.true in
    let back = c.into_rack-then-is_some.ensures in (
      (subst g.R.Rack.valid (sym back) x.0.rack_is_valid, subst (λ y. Possible a.request (Some (g.R.Rack.meaning y))) (sym back) r.1),
      ends_some a.request b e some (omega (arith, ap length p.left, less, inv.falls)),
      plays_same W b m0 e (memory_by a.request m) (memory_by a.request (bare (g.R.Rack.meaning c.into_rack-then-is_some.result)))
          (by_rack a.request m (bare (g.R.Rack.meaning c.into_rack-then-is_some.result)) some (ap (λ y. Some (g.R.Rack.meaning y)) (sym back)))
          (line_played W b m0 s e m (memory_by a.request m) line c.in-Some.next.rest.now (string_bytes a.text) c.in-Some.next.command c.answer_pooled.new.plan before read.0 read.1 r.0 p.plan p.left out),
    )

pub loop-pool-preserved : goal.loop-pool-preserved
loop-pool-preserved g c =
    let W = g.L.Language.writes in
    let inv = c.loop-pool.invariant in
    let x = c.in_ok-next.ensures.played in
    let b = c.args.self.now in
    let s = c.play_row.new.self in
    let e = c.print.new.self in
    let m0 = within g.F.Field.arithmetic g.R.Rack.valid g.R.Rack.meaning c.args.pool in
    let m = within g.F.Field.arithmetic g.R.Rack.valid g.R.Rack.meaning c.play_row.new.pool in
    let a = c.in_ok-text.field-0 in
    let r = c.in_ok-text.ensures in
    let p = c.in_ok-print.ensures in
    let line = c.in-Some.next.line.now in
    let read = subst (ReadsNext W (lines_left s)) c.in-Some.is x.1 in
    let less = subst (λ o. IfSome o (λ n. length n.rest.now < length c.loop-pool.self.left.now)) c.in-Some.is x.2 in
    let before = plays_then W b m0 c.loop-pool.self s (within g.F.Field.arithmetic g.R.Rack.valid g.R.Rack.meaning c.loop-pool.pool) m inv.plays x.3 in
    let out = p.out ∙ ap (λ t. vec_items s.out ++ (line ++ (codes ": " ++ (t ++ 10 ∷ [])))) c.as_str.ensures.value in
    let none = sym c.is_some.ensures ∙ c.if-is_some.false in
    record {
      falls = omega (arith, ap length p.left, less, inv.falls);
      held = x.0;
      plays = line_played W b m0 s e m m line c.in-Some.next.rest.now (string_bytes a.text) c.in-Some.next.command c.answer_pooled.new.plan before read.0 read.1
          (subst (λ y. Replies (state s.plan m) c.in-Some.next.command (state c.answer_pooled.new.plan y) (string_bytes a.text)) (same_memory a.request m none) r.0) p.plan p.left out;
    }
