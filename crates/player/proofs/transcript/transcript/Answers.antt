use Rattle.std.proofs.Common.{◌≡◌, ◌<◌, [], length, None, vec_items, refl, subst}
use Rattle.player.specs.Answers.{state, nothing}
use Rattle.player.specs.Sessions.{kept, Sofar, lines_left, next_memory}
use Rattle.player.specs.Transcripts.{lines}
use Rattle.player.proofs.Parts.{begun, ended, falls, if_none}
use Rattle.player.proofs.transcript.transcript.Goals as goal

pub loop-asked-init : goal.loop-asked-init
loop-asked-init g c =
    let h = c.in_ok-asked.ensures in
    let b = c.new-session.result in
    let e = c.play.new.self in
    let start = c.new-session.ensures in
    record {
      makeable = h.0;
      ended = if_none c.in_ok-asked.asked (lines_left e ≡ []) (length e.left.now < length b.left.now) h.1.how;
      sofar = begun g.L.Language.writes b e c.args.script.now _ (next_memory c.in_ok-asked.asked) start.out start.plan start.left (rw c.no_rack.ensures refl) h.2;
    }

pub loop-asked-smaller : goal.loop-asked-smaller
loop-asked-smaller g c = falls c.loop-asked.asked c.in_ok-asked-2.asked c.loop-asked.session c.play_on.new.self c.in-Some.is c.in_ok-asked-2.ensures.1

pub loop-asked-preserved : goal.loop-asked-preserved
loop-asked-preserved g c =
    let W = g.L.Language.writes in
    let h = c.in_ok-asked-2.ensures in
    let s = c.loop-asked.session in
    let e = c.play_on.new.self in
    record {
      makeable = h.0;
      ended = if_none c.in_ok-asked-2.asked (lines_left e ≡ []) (length e.left.now < length s.left.now) h.1.how;
      sofar = h.2 (state None nothing) (kept (lines c.args.script.now))
          (subst (λ r. Sofar W (state None nothing) (kept (lines c.args.script.now)) (state s.plan (next_memory r)) (lines_left s) (vec_items s.out)) c.in-Some.is c.loop-asked.invariant.sofar);
    }

pub returns : goal.returns
returns g c =
    let s = c.loop-asked.session in
    let inv = c.loop-asked.invariant in
    ended g.L.Language.writes s c.args.script.now (state s.plan (next_memory c.loop-asked.asked)) (rw c.in_default.is at inv.ended) inv.sofar
