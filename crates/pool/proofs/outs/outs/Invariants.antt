use Rattle.std.proofs.Common.{◌≡◌, false, not}
use Rattle.coding.proofs.Loops.{Filled}
use Rattle.pool.proofs.outs.outs.Given as goal

abbrev pub invariant-loop-m : goal.invariant-loop-m
invariant-loop-m g l = g.R.Rack.valid l.rack → Filled 32 (λ m x. x ≡ not ((g.R.Rack.meaning l.rack).fitted m)) (λ x. x ≡ false) false l.m l.out
