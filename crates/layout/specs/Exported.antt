-- The numbers that the calls from C answer. Assumes nothing.
use Rattle.std.specs.Prelude.{ℕ, ◌+◌, ◌*◌, cond, Some, None, Option, nat_lt}
use Rattle.layout.specs.declared.refusal.Refusal.{Refusal}
use Rattle.layout.specs.Rules.{number}
use Rattle.layout.specs.Placing.{chunks_of, row_at, column_at}
use Rattle.layout.specs.Counts.{data_read, parities_read}

-- 0, or the number of the refusal
abbrev pub number_of : Option Refusal → ℕ
number_of None = 0
number_of (Some e) = number e

-- what is answered for a refused plan or chunk
abbrev pub nowhere : ℕ
nowhere = 4294967295

-- module * 256 + slot of chunk j
abbrev pub place_number : Option Refusal → ℕ → ℕ → ℕ → ℕ
place_number None d d' j = cond (nat_lt j (chunks_of d d')) (column_at d d' j * 256 + row_at d d' j) nowhere
place_number (Some e) d d' j = nowhere

-- data chunks * 65,536 + parity chunks that a changeover reads
abbrev pub counts_number : Option Refusal → ℕ → ℕ → ℕ → ℕ → ℕ
counts_number None d r d' r' = data_read d r d' r' * 65536 + parities_read d r d' r'
counts_number (Some e) d r d' r' = nowhere
