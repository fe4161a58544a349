-- Which modules of a pool are out, as a list of flags. No contract of a public call rests on it. Assumes nothing.
use Rattle.std.specs.Prelude.{◌≡◌, ℕ, ◌<◌, ◌≤◌, Bool, false, not, List, slice_index_or}
use Rattle.rack.specs.Meaning.{Meaning}
use Rattle.coding.specs.Schemes.{Scheme}
use Rattle.pool.specs.Book.{modules}

-- the flag of each module of the pool says whether it is out; no flag is set past them
pub record Outs (p : Scheme) (w : Meaning) (flags : List Bool) : Type 0 where
  pub are : (m : ℕ) → m < modules p → slice_index_or flags m false ≡ not (w.fitted m)
  pub rest : (m : ℕ) → modules p ≤ m → slice_index_or flags m false ≡ false
