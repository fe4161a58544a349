use Rattle.std.proofs.Common.{◌≡◌, ℕ, ◌<◌, true, false, length, get_or}
use Rattle.rack.specs.Turning.{named, each_once}
use Rattle.rack.proofs.pages.all_once.Given as goal

abbrev pub invariant-loop-entry : goal.invariant-loop-entry
invariant-loop-entry l =
    (length l.seen ≡ 2049)
    × ((p : ℕ) → p < l.pages → get_or l.seen p false ≡ named l.map p l.entry-index)
    × (each_once l.map l.pages l.entry-index ≡ true)
