-- The ranges of a plan's numbers, and what the inner functions that count with them require. Assumes nothing.
use Rattle.std.specs.Prelude.{ℕ, ◌<◌, ◌≤◌}
use Rattle.layout.specs.Placing.{stripes_of, rows_of}

-- n is from low to high
abbrev pub Within : ℕ → ℕ → ℕ → Type 0
Within low high n = (low ≤ n) × (n ≤ high)

-- the sizes of a stripe and of a row
pub record Sized (d d' : ℕ) : Type 0 where
  pub low : 2 ≤ d
  pub high : d ≤ 14
  pub low' : 2 ≤ d'
  pub high' : d' ≤ 14

-- s is a stripe, and e an index in it
pub record Inside (d d' s e : ℕ) : Type 0 where
  pub stripe : s < stripes_of d d'
  pub index : e < d

-- i is a row, and c a column
pub record IsCell (d d' i c : ℕ) : Type 0 where
  pub row : i < rows_of d d'
  pub column : c < d'
