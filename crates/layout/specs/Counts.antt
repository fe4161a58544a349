-- What a changeover reads, and what a plan needs of a rack. Assumes nothing.
use Rattle.std.specs.Prelude.{ℕ, ◌+◌, ◌-◌, ◌*◌, ◌%◌, max, cond, nat_le}
use Rattle.layout.specs.Placing.{chunks_of, stripes_of, rows_of, beta_of}

-- the chunks outside the home rows, by the formula
unfoldable pub outside_of : ℕ → ℕ → ℕ
outside_of d d' = cond (nat_le d d') (beta_of d d' * (d - d' % d)) (stripes_of d d' * (d - d'))

-- the data chunks that a changeover reads: those outside the home rows, or all where there are more parities after than before
abbrev pub data_read : ℕ → ℕ → ℕ → ℕ → ℕ
data_read d r d' r' = cond (nat_le r' r) (outside_of d d') (chunks_of d d')

-- the parity chunks that it reads
abbrev pub parities_read : ℕ → ℕ → ℕ → ℕ → ℕ
parities_read d r d' r' = cond (nat_le r' r) (r' * stripes_of d d') 0

-- M, the modules: one for each column, and one for each parity of the larger number
abbrev pub modules_of : ℕ → ℕ → ℕ → ℕ
modules_of r d' r' = d' + max r r'

-- S, the slots: those of the stripes' parities, and behind them those of the rows' parities; a chunk has the slot of its row's number
abbrev pub slots_of : ℕ → ℕ → ℕ
slots_of d d' = stripes_of d d' + rows_of d d'
