-- Memories in which some symbols are others. Assumes nothing.
use Rattle.std.proofs.Common.{◌≡◌, ℕ}
use Rattle.rack.specs.Meaning.{Meaning}
use Rattle.pool.specs.Effects.{changed}

-- two that have the same symbols are the same
pub same_symbols : (w : Meaning) (f h : ℕ → ℕ → ℕ → ℕ) → ((m s u : ℕ) → f m s u ≡ h m s u) → changed w f ≡ changed w h
same_symbols w f h same = λ i. record {
  order = w.order;
  modules = w.modules;
  slots = w.slots;
  length = w.length;
  fitted = w.fitted;
  symbol = λ m s u. same m s u i;
}
