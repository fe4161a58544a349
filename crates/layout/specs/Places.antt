-- What the calls that look up places answer. Assumes nothing.
use Rattle.std.specs.Prelude.{◌≡◌, ℕ, ◌+◌, ◌<◌, ◌≤◌, Some, None, Option}
use Rattle.layout.specs.declared.plan.Cell.{Cell}
use Rattle.layout.specs.declared.plan.Place.{Place}
use Rattle.layout.specs.Placing.{chunks_of, stripes_of, rows_of, row_at, column_at, coeff_at, home_of, chunk_at}

-- the cell of chunk j; none where there is no such chunk
abbrev pub CellOf : ℕ → ℕ → ℕ → Option Cell → Type 0
CellOf d d' j (Some c) = (j < chunks_of d d') × (c ≡ record { row = row_at d d' j; column = column_at d d' j; x = coeff_at d d' j })
CellOf d d' j None = chunks_of d d' ≤ j

-- the home row of stripe s
abbrev pub HomeOf : ℕ → ℕ → ℕ → Option ℕ → Type 0
HomeOf d d' s (Some i) = (s < stripes_of d d') × (i ≡ home_of d d' s)
HomeOf d d' s None = stripes_of d d' ≤ s

-- the chunk in row i and column c
abbrev pub ChunkIn : ℕ → ℕ → ℕ → ℕ → Option ℕ → Type 0
ChunkIn d d' i c (Some j) = (i < rows_of d d') × (c < d') × (j ≡ chunk_at d d' i c)
ChunkIn d d' i c None = i < rows_of d d' → c < d' → ⊥

-- the place of chunk j: its column is its module, its row its slot
abbrev pub ChunkPlace : ℕ → ℕ → ℕ → Option Place → Type 0
ChunkPlace d d' j (Some p) = (j < chunks_of d d') × (p ≡ record { «module» = column_at d d' j; slot = row_at d d' j })
ChunkPlace d d' j None = chunks_of d d' ≤ j

-- the place of parity k of group i, one of n groups with r parities each, whose first slot is at
abbrev pub ParityPlace : ℕ → ℕ → ℕ → ℕ → ℕ → ℕ → Option Place → Type 0
ParityPlace d' at n r i k (Some p) = (i < n) × (k < r) × (p ≡ record { «module» = d' + k; slot = at + i })
ParityPlace d' at n r i k None = i < n → k < r → ⊥
