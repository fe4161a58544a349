use Rattle.std.proofs.Common.{length, take}
use Rattle.pool.proofs.Replaying.{laid_replayed}
use Rattle.pool.proofs.run.lay_and_replay.Goals as goal

pub returns : goal.returns
returns g c =
    let l = c.lay-pool.ensures in
    let r = c.replay.ensures in
    record {
      law = laid_replayed g.F.Field.arithmetic g.met.F.Field.lawful g.R.Rack.valid g.R.Rack.meaning c.args.plan c.args.field c.args.rack c.lay-pool.result c.replay.new.self
          (take (length c.args.told.now) c.args.calls.now) (take (length c.args.calls.now) c.replay.new.told) l.held l.same_plan l.same_field l.stands l.agrees r.plays;
      rest = r.rest;
      long = r.long;
    }
