-- What the coding takes from a plan, and what it needs to hold of it. Assumes nothing.
use Rattle.std.specs.Prelude.{◌≡◌, ℕ, ◌+◌, ◌*◌, ◌/◌, ◌<◌, ◌≤◌}
use Rattle.field.specs.Arithmetic.{Arithmetic}
use Rattle.layout.specs.declared.plan.Plan.{Plan}
use Rattle.layout.specs.Placing.{chunks_of, stripes_of, rows_of, row_at, column_at, coeff_at, home_of, chunk_at}

-- the numbers of a plan, and where its chunks lie
pub record Scheme : Type 0 where
  -- chunks and parities of a stripe, chunks and parities of a row
  pub d : ℕ
  pub r : ℕ
  pub d' : ℕ
  pub r' : ℕ
  -- symbols of a chunk
  pub len : ℕ
  pub chunks : ℕ
  pub stripes : ℕ
  pub rows : ℕ
  -- of a chunk: row, column and coefficient column; of a stripe: the home row; the chunk in a row and a column
  pub row : ℕ → ℕ
  pub column : ℕ → ℕ
  pub x : ℕ → ℕ
  pub home : ℕ → ℕ
  pub chunk : ℕ → ℕ → ℕ

-- those of a plan
abbrev pub scheme_of : Plan → Scheme
scheme_of p = record {
  d = p.d;
  r = p.r;
  d' = p.d2;
  r' = p.r2;
  len = p.len;
  chunks = chunks_of p.d p.d2;
  stripes = stripes_of p.d p.d2;
  rows = rows_of p.d p.d2;
  row = row_at p.d p.d2;
  column = column_at p.d p.d2;
  x = coeff_at p.d p.d2;
  home = home_of p.d p.d2;
  chunk = chunk_at p.d p.d2;
}

-- the promises of a placement, and that the field has a point for every coefficient column
pub record Sound (A : Arithmetic) (p : Scheme) : Type 0 where
  pub some : 0 < p.d
  pub some' : 0 < p.d'
  pub by_stripe : p.stripes * p.d ≡ p.chunks
  pub by_row : p.rows * p.d' ≡ p.chunks
  pub few : p.r ≤ 4
  pub few' : p.r' ≤ 4
  pub in_rows : (j : ℕ) → j < p.chunks → p.row j < p.rows
  pub in_columns : (j : ℕ) → j < p.chunks → p.column j < p.d'
  pub back : (j : ℕ) → j < p.chunks → p.chunk (p.row j) (p.column j) ≡ j
  pub filled : (i c : ℕ) → i < p.rows → c < p.d' → p.chunk i c < p.chunks
  pub filled_row : (i c : ℕ) → i < p.rows → c < p.d' → p.row (p.chunk i c) ≡ i
  pub filled_column : (i c : ℕ) → i < p.rows → c < p.d' → p.column (p.chunk i c) ≡ c
  pub home_in : (s : ℕ) → s < p.stripes → p.home s < p.rows
  pub points : (j : ℕ) → j < p.chunks → 4 + p.x j < A.order
  pub stripe_apart : (i j : ℕ) → i < p.chunks → j < p.chunks → i / p.d ≡ j / p.d → p.x i ≡ p.x j → i ≡ j
  pub row_apart : (i j : ℕ) → i < p.chunks → j < p.chunks → p.row i ≡ p.row j → p.x i ≡ p.x j → i ≡ j
