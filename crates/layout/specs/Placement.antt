-- What a placement of chunks is, and the one that a plan has. Assumes nothing.
use Rattle.std.specs.Prelude.{ℕ}
use Rattle.layout.specs.Placing.{chunks_of, stripes_of, rows_of, spread_of, row_at, column_at, coeff_at, home_of, chunk_at}

-- a placement of chunks: each lies in a cell, which is a row and a column
pub record Placement : Type 0 where
  -- the chunks of a stripe
  pub d : ℕ
  -- the chunks of a row, and so the columns
  pub d' : ℕ
  pub chunks : ℕ
  pub stripes : ℕ
  pub rows : ℕ
  -- the most chunks of one stripe that a column may hold
  pub spread : ℕ
  -- of a chunk: its row, its column and its coefficient column
  pub row : ℕ → ℕ
  pub column : ℕ → ℕ
  pub x : ℕ → ℕ
  -- of a stripe: its home row
  pub home : ℕ → ℕ
  -- the chunk in a row and a column
  pub chunk : ℕ → ℕ → ℕ

-- the placement of a plan with the sizes d and d'
abbrev pub placement : ℕ → ℕ → Placement
placement d d' = record {
  d = d;
  d' = d';
  chunks = chunks_of d d';
  stripes = stripes_of d d';
  rows = rows_of d d';
  spread = spread_of d d';
  row = row_at d d';
  column = column_at d d';
  x = coeff_at d d';
  home = home_of d d';
  chunk = chunk_at d d';
}
