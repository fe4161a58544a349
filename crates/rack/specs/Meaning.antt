-- What a rack means. Assumes nothing.
use Rattle.std.specs.Prelude.{◌≡◌, ℕ, ◌<◌, ◌≤◌, Bool, true, false, cond, not, ◌&&◌, Some, None, Option, ◌==◌, nat_lt}

-- A rack is a memory of modules, which can be taken out and fitted again. A module has slots, and a slot has a symbol at each offset.
-- Its meaning is four fixed numbers, which modules are fitted, and the symbol at each module, slot and offset. Where a place is outside
-- or its module out, there is no symbol, and this has 0.
pub record Meaning : Type 0 where
  pub order : ℕ
  pub modules : ℕ
  pub slots : ℕ
  pub length : ℕ
  pub fitted : ℕ → Bool
  pub symbol : ℕ → ℕ → ℕ → ℕ

-- whether a place is inside the rack, in a module that is fitted
abbrev pub holds : Meaning → ℕ → ℕ → ℕ → Bool
holds w m s o = nat_lt m w.modules && (nat_lt s w.slots && (nat_lt o w.length && w.fitted m))

-- what holds of every meaning: the numbers are in their bounds, no module outside is fitted, a symbol is below the order
pub record Bounded (w : Meaning) : Type 0 where
  pub order_low : 2 ≤ w.order
  pub order_high : w.order ≤ 65535
  pub modules_low : 1 ≤ w.modules
  pub modules_high : w.modules ≤ 32
  pub slots_low : 1 ≤ w.slots
  pub slots_high : w.slots ≤ 64
  pub length_low : 1 ≤ w.length
  pub length_high : w.length ≤ 4096
  pub outside : (m : ℕ) → w.modules ≤ m → w.fitted m ≡ false
  pub below : (m s o : ℕ) → w.symbol m s o < w.order
  pub none : (m s o : ℕ) → holds w m s o ≡ false → w.symbol m s o ≡ 0

-- what `get` answers
abbrev pub symbol_at : Meaning → ℕ → ℕ → ℕ → Option ℕ
symbol_at w m s o = cond (holds w m s o) (Some (w.symbol m s o)) None

-- whether `put` stores v
abbrev pub takes : Meaning → ℕ → ℕ → ℕ → ℕ → Bool
takes w m s o v = holds w m s o && nat_lt v w.order

-- whether a module can be pulled, and whether one can be fitted
abbrev pub pulls : Meaning → ℕ → Bool
pulls w m = nat_lt m w.modules && w.fitted m

abbrev pub fits : Meaning → ℕ → Bool
fits w m = nat_lt m w.modules && not (w.fitted m)

-- v at one place, and nothing else changed
abbrev pub stored : Meaning → ℕ → ℕ → ℕ → ℕ → Meaning
stored w m s o v = record {
  order = w.order;
  modules = w.modules;
  slots = w.slots;
  length = w.length;
  fitted = w.fitted;
  symbol = λ m' s' o'. cond (m' == m && (s' == s && o' == o)) v (w.symbol m' s' o');
}

-- module m fitted or out, with no symbol but 0, and nothing else changed
abbrev pub flagged : Meaning → ℕ → Bool → Meaning
flagged w m b = record {
  order = w.order;
  modules = w.modules;
  slots = w.slots;
  length = w.length;
  fitted = λ m'. cond (m' == m) b (w.fitted m');
  symbol = λ m' s' o'. cond (m' == m) 0 (w.symbol m' s' o');
}

-- the meaning after each call
abbrev pub after_put : Meaning → ℕ → ℕ → ℕ → ℕ → Meaning
after_put w m s o v = cond (takes w m s o v) (stored w m s o v) w

abbrev pub after_pull : Meaning → ℕ → Meaning
after_pull w m = cond (pulls w m) (flagged w m false) w

abbrev pub after_fit : Meaning → ℕ → Meaning
after_fit w m = cond (fits w m) (flagged w m true) w

-- a call that changes the rack: its answer, and the meaning that it leaves
pub record Puts (w w' : Meaning) (m s o v : ℕ) (r : Bool) : Type 0 where
  pub answer : r ≡ takes w m s o v
  pub after : w' ≡ after_put w m s o v

pub record Pulls (w w' : Meaning) (m : ℕ) (r : Bool) : Type 0 where
  pub answer : r ≡ pulls w m
  pub after : w' ≡ after_pull w m

pub record Fits (w w' : Meaning) (m : ℕ) (r : Bool) : Type 0 where
  pub answer : r ≡ fits w m
  pub after : w' ≡ after_fit w m
