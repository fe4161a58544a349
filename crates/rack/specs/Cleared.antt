-- The start of one slot all 0, and nothing else changed. Assumes nothing.
use Rattle.std.specs.Prelude.{◌≡◌, ℕ, Bool, cond, ◌&&◌, ◌==◌, nat_le, nat_lt}
use Rattle.rack.specs.Meaning.{Meaning}

-- each offset below n of the slot is 0
abbrev pub cleared : Meaning → ℕ → ℕ → ℕ → Meaning
cleared w m s n = record {
  order = w.order;
  modules = w.modules;
  slots = w.slots;
  length = w.length;
  fitted = w.fitted;
  symbol = λ m' s' o'. cond (m' == m && (s' == s && nat_lt o' n)) 0 (w.symbol m' s' o');
}

-- whether the module and the slot are inside, the module fitted, and n at most the length
abbrev pub clears : Meaning → ℕ → ℕ → ℕ → Bool
clears w m s n = nat_lt m w.modules && (nat_lt s w.slots && (nat_le n w.length && w.fitted m))

-- what clearing a slot leaves, and what it answers
abbrev pub after_clear : Meaning → ℕ → ℕ → ℕ → Meaning
after_clear w m s n = cond (clears w m s n) (cleared w m s n) w

pub record Clears (w w' : Meaning) (m s n : ℕ) (r : Bool) : Type 0 where
  pub answer : r ≡ clears w m s n
  pub after : w' ≡ after_clear w m s n
