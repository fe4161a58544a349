-- Where each chunk of a plan lies, from its two sizes alone: d chunks in a stripe before the changeover, d' in a row after it.
-- A chunk is a part of the retained memory; the chunks are numbered from 0. A stripe is d chunks with numbers in sequence. A row is d'
-- chunks, one in each column. Stripes and rows have parities, so that chunks of them can be rebuilt. Assumes nothing.
use Rattle.std.specs.Prelude.{ℕ, zero, suc, ◌+◌, ◌-◌, ◌*◌, ◌/◌, ◌%◌, cond, nat_le, nat_lt}

-- the greatest common divisor, by Euclid's steps, at most k of them
unfoldable pub gcd_steps : ℕ → ℕ → ℕ → ℕ
gcd_steps zero a b = a
gcd_steps (suc k) a zero = a
gcd_steps (suc k) a (suc b) = gcd_steps k (suc b) (a % suc b)

unfoldable pub gcd_of : ℕ → ℕ → ℕ
gcd_of a b = gcd_steps (suc b) a b

-- l, the chunks of a plan: the least number that both sizes divide
unfoldable pub chunks_of : ℕ → ℕ → ℕ
chunks_of d d' = d * d' / gcd_of d d'

-- the stripes: chunk j has stripe j / d and index j % d
unfoldable pub stripes_of : ℕ → ℕ → ℕ
stripes_of d d' = chunks_of d d' / d

-- the rows
unfoldable pub rows_of : ℕ → ℕ → ℕ
rows_of d d' = chunks_of d d' / d'

-- A wide plan has d ≤ d'. With w = d' / d and z = d' % d, a row holds w whole stripes, and z cells more.
-- β: the rows whose z cells hold the beginning of one split stripe; those of the later rows hold the rest of the split stripes
unfoldable pub beta_of : ℕ → ℕ → ℕ
beta_of d d' = d' % d / gcd_of d d'

-- the column at which row i begins to be filled
unfoldable pub start_of : ℕ → ℕ → ℕ → ℕ
start_of d d' i = cond (nat_lt i (beta_of d d')) (i * (d - d' % d) % d') ((i - beta_of d d' + 1) * (d' % d) % d')

-- row and column of index e of stripe s in a wide plan. The stripe is whole if s < w * rows; else it is split, and is number
-- s - w * rows of the split ones.
unfoldable pub wide_row : ℕ → ℕ → ℕ → ℕ → ℕ
wide_row d d' s e =
    let w : ℕ = d' / d in
    let z : ℕ = d' % d in
    let i : ℕ = s - w * rows_of d d' in
    cond (nat_lt s (w * rows_of d d')) (s / w) (cond (nat_lt e z) i (beta_of d d' + (i * (d - z) + e - z) / z))

unfoldable pub wide_column : ℕ → ℕ → ℕ → ℕ → ℕ
wide_column d d' s e =
    let w : ℕ = d' / d in
    let z : ℕ = d' % d in
    let i : ℕ = s - w * rows_of d d' in
    cond (nat_lt s (w * rows_of d d')) ((start_of d d' (s / w) + s % w * d + e) % d')
    (cond (nat_lt e z) ((start_of d d' i + w * d + e) % d') ((i * (d - z) + e - z) % d'))

-- A narrow plan has d' < d. With w = d / d' and z = d % d', a stripe fills w rows, and leaves z chunks for the rows behind.
-- Row and column of index e of stripe s.
unfoldable pub narrow_row : ℕ → ℕ → ℕ → ℕ → ℕ
narrow_row d d' s e =
    let w : ℕ = d / d' in
    cond (nat_lt (e / d') w) (s * w + e / d') (w * stripes_of d d' + (s * (d % d') + e - w * d') / d')

unfoldable pub narrow_column : ℕ → ℕ → ℕ → ℕ → ℕ
narrow_column d d' s e =
    let w : ℕ = d / d' in
    cond (nat_lt (e / d') w) (e % d') ((s * (d % d') + e - w * d') % d')

-- row and column of index e of stripe s in any plan
unfoldable pub row_of : ℕ → ℕ → ℕ → ℕ → ℕ
row_of d d' s e = cond (nat_le d d') (wide_row d d' s e) (narrow_row d d' s e)

unfoldable pub column_of : ℕ → ℕ → ℕ → ℕ → ℕ
column_of d d' s e = cond (nat_le d d') (wide_column d d' s e) (narrow_column d d' s e)

-- the home row of a stripe, to which a changeover adds its parities: the row of its index 0, or the last row that it fills
unfoldable pub home_of : ℕ → ℕ → ℕ → ℕ
home_of d d' s = cond (nat_le d d') (wide_row d d' s 0) (s * (d / d') + d / d' - 1)

-- x, the coefficient column: it gives the weights of a chunk in the parities of its stripe and of its row alike
unfoldable pub coeff_of : ℕ → ℕ → ℕ → ℕ → ℕ
coeff_of d d' s e = cond (nat_le d d') (column_of d d' s e) (e / d' * d' + column_of d d' s e)

-- b, the most chunks of one stripe that a column may hold
unfoldable pub spread_of : ℕ → ℕ → ℕ
spread_of d d' = cond (nat_le d d') 1 (d / d' + 1)

-- the chunk in row i and column c
unfoldable pub wide_chunk : ℕ → ℕ → ℕ → ℕ → ℕ
wide_chunk d d' i c =
    let w : ℕ = d' / d in
    let z : ℕ = d' % d in
    let off : ℕ = (c + d' - start_of d d' i) % d' in
    let t : ℕ = (i - beta_of d d') * z + (off - w * d) in
    cond (nat_lt off (w * d)) (i * w * d + off)
    (cond (nat_lt i (beta_of d d')) ((w * rows_of d d' + i) * d + (off - w * d))
    ((w * rows_of d d' + t / (d - z)) * d + z + t % (d - z)))

unfoldable pub narrow_chunk : ℕ → ℕ → ℕ → ℕ → ℕ
narrow_chunk d d' i c =
    let w : ℕ = d / d' in
    let z : ℕ = d % d' in
    let t : ℕ = (i - w * stripes_of d d') * d' + c in
    cond (nat_lt i (w * stripes_of d d')) (i / w * d + i % w * d' + c) (t / z * d + w * d' + t % z)

unfoldable pub chunk_at : ℕ → ℕ → ℕ → ℕ → ℕ
chunk_at d d' i c = cond (nat_le d d') (wide_chunk d d' i c) (narrow_chunk d d' i c)

-- row, column and coefficient column of chunk j
unfoldable pub row_at : ℕ → ℕ → ℕ → ℕ
row_at d d' j = row_of d d' (j / d) (j % d)

unfoldable pub column_at : ℕ → ℕ → ℕ → ℕ
column_at d d' j = column_of d d' (j / d) (j % d)

unfoldable pub coeff_at : ℕ → ℕ → ℕ → ℕ
coeff_at d d' j = coeff_of d d' (j / d) (j % d)

-- what a proof names on its `unfolding` line to compute with all of these
unfoldable pub every_definition : ℕ
unfolding gcd_steps gcd_of chunks_of stripes_of rows_of beta_of start_of wide_row wide_column narrow_row narrow_column row_of column_of home_of coeff_of spread_of wide_chunk narrow_chunk chunk_at row_at column_at coeff_at
every_definition = 0
