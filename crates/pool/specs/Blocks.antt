-- A block of places set to 0: some modules, some slots of each, and the offsets below a length. Assumes nothing.
use Rattle.std.specs.Prelude.{◌≡◌, ℕ, ◌<◌, ◌≤◌, Bool, true, cond, ◌&&◌, nat_le, nat_lt}
use Rattle.rack.specs.Meaning.{Meaning}
use Rattle.pool.specs.Effects.{changed}

-- the modules from m on and below m', the slots from s on and below s', the offsets below n
abbrev pub in_block : ℕ → ℕ → ℕ → ℕ → ℕ → ℕ → ℕ → ℕ → Bool
in_block m m' s s' n i slot u = (nat_le m i && nat_lt i m') && ((nat_le s slot && nat_lt slot s') && nat_lt u n)

-- the memory with the block all 0, and nothing else changed
abbrev pub zeroed : ℕ → ℕ → ℕ → ℕ → ℕ → Meaning → Meaning
zeroed m m' s s' n w = changed w (λ i slot u. cond (in_block m m' s s' n i slot u) 0 (w.symbol i slot u))

-- the block is there, and its modules are fitted
pub record Blocked (m m' s s' n : ℕ) (w : Meaning) : Type 0 where
  pub modules_rise : m ≤ m'
  pub modules_fit : m' ≤ w.modules
  pub slots_rise : s ≤ s'
  pub slots_fit : s' ≤ w.slots
  pub length_fits : n ≤ w.length
  pub whole : (i : ℕ) → m ≤ i → i < m' → w.fitted i ≡ true
