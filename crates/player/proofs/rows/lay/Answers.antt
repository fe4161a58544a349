use Rattle.std.proofs.Common.{length, take, sym, ◌∙◌}
use Rattle.coding.specs.Schemes.{scheme_of}
use Rattle.pool.specs.Book.{blank}
use Rattle.pool.specs.Openings.{laid_over}
use Rattle.pool.specs.Pools.{standing}
use Rattle.player.proofs.Calling.{plays_whole, runs_play}
use Rattle.player.proofs.rows.lay.Goals as goal

pub returns : goal.returns
returns g c =
    let law = c.lay_and_replay.ensures.law in
    let s = laid_over c.args.plan (g.R.Rack.meaning c.args.rack) in
    let e = standing g.F.Field.arithmetic g.R.Rack.valid g.R.Rack.meaning c.lay_and_replay.result in
    record {
      held = law.held;
      same_plan = law.same_plan;
      same_field = law.same_field;
      long = c.lay_and_replay.ensures.long;
      plays = plays_whole (g.F.Field.arithmetic c.args.field) (scheme_of c.args.plan) s e (length c.args.told.now) (length c.args.calls.now) c.args.calls.now c.lay_and_replay.new.told
          (sym c.requires.room) (c.lay_and_replay.ensures.long ∙ c.requires.room)
          (runs_play (g.F.Field.arithmetic c.args.field) (scheme_of c.args.plan) s blank (take (length c.args.told.now) c.args.calls.now) (take (length c.args.calls.now) c.lay_and_replay.new.told) e law.law.each_call);
    }
