use Rattle.std.proofs.Common.{◌≡◌, ◌≤◌, not, eqb}
use Rattle.coding.specs.Groups.{count}
use Rattle.coding.specs.Pieces.{slot_at}
use Rattle.pool.proofs.carry.Carrying.outside_home.Given as goal

abbrev pub invariant-loop-piece : goal.invariant-loop-piece
invariant-loop-piece g l = (l.n ≤ l.piece-index) × (l.n ≡ count (λ e. not (eqb (slot_at l.self.load.group e) l.self.load.home)) l.piece-index)
