use Rattle.std.proofs.Common.{◌≡◌, length, take, drop}
use Rattle.pool.specs.Replays.{Replays}
use Rattle.pool.proofs.pool.Pool.replay.Given as goal

abbrev pub invariant-loop-i : goal.invariant-loop-i
invariant-loop-i g l =
    (length l.told ≡ length l.initial.told)
    × (drop l.i l.told ≡ drop l.i l.initial.told)
    × Replays g.F.Field.arithmetic g.R.Rack.valid g.R.Rack.meaning l.initial.self l.self (take l.i l.calls) (take l.i l.told)
