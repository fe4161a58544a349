-- How a pool stands. Assumes nothing.
use Rattle.std.specs.Prelude.{◌≡◌, ℕ, ◌+◌, ◌<◌, ◌≤◌, Bool, true, not}
use Rattle.field.specs.Arithmetic.{Arithmetic}
use Rattle.rack.specs.Meaning.{Meaning, Bounded}
use Rattle.coding.specs.Schemes.{Scheme}
use Rattle.pool.specs.declared.kinds.Phase.{Phase}
use Rattle.pool.specs.declared.kinds.Phase.TheVariants.{UnderWay}
use Rattle.pool.specs.Book.{modules}

-- the phase, how many stripes are carried, and what the rack holds
pub record Standing : Type 0 where
  pub phase : Phase
  pub carried : ℕ
  pub held : Meaning

-- the modules that are out
abbrev pub out_of : Standing → ℕ → Bool
out_of s m = not (s.held.fitted m)

-- what holds of every pool, also of one that is opened over a memory that encodes nothing: the rack is large enough and has the
-- field's order, no more stripes are carried than there are, and while the changeover is under way all modules are fitted
pub record Kept (A : Arithmetic) (p : Scheme) (s : Standing) : Type 0 where
  pub bounded : Bounded s.held
  pub order_is : s.held.order ≡ A.order
  pub modules_fit : modules p ≤ s.held.modules
  pub slots_fit : p.stripes + p.rows ≤ s.held.slots
  pub length_fits : p.len ≤ s.held.length
  pub few_carried : s.carried ≤ p.stripes
  pub whole : s.phase ≡ UnderWay → (m : ℕ) → m < modules p → s.held.fitted m ≡ true
