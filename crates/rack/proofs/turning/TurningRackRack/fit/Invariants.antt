use Rattle.std.proofs.Common.{◌≡◌, ℕ, ◌+◌, ◌*◌, ◌<◌, ◌≤◌, ◌≢◌, length, get_or}
use Rattle.rack.proofs.turning.TurningRackRack.fit.Given as goal

abbrev pub invariant-loop-entry : goal.invariant-loop-entry
invariant-loop-entry l =
    (l.self.shape ≡ l.initial.self.shape)
    × (l.self.map.now ≡ l.initial.self.map.now)
    × (length l.self.cells.now ≡ length l.initial.self.cells.now)
    × ((i o : ℕ) → l.first ≤ i → i < l.entry → o < l.size.length → get_or l.self.cells.now (get_or l.initial.self.map.now i 0 * l.size.length + o) 0 ≡ 0)
    × ((p o : ℕ) → o < l.size.length → ((i : ℕ) → l.first ≤ i → i < l.entry → p ≢ get_or l.initial.self.map.now i 0)
    → get_or l.self.cells.now (p * l.size.length + o) 0 ≡ get_or l.initial.self.cells.now (p * l.size.length + o) 0)
