use Rattle.std.proofs.Common.{◌≡◌, ℕ, ◌<◌, false, ◌&&◌, ◌||◌, eqb, leb, length, get_or}
use Rattle.coding.specs.Pieces.{slot_at}
use Rattle.pool.specs.Growth.{some}
use Rattle.pool.proofs.carry.touched_rows.Given as goal

abbrev pub invariant-loop-piece : goal.invariant-loop-piece
invariant-loop-piece l =
    (length l.touched ≡ 14)
    × ((h : ℕ) → h < 14 → get_or l.touched h false ≡ ((leb l.plan.r2 l.plan.r && eqb h l.home) || some (λ e. eqb (slot_at l.group e) h) l.piece-index))
