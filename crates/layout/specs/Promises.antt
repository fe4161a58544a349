-- What a placement promises to the coding. Assumes nothing.
use Rattle.std.specs.Prelude.{◌≡◌, ℕ, zero, suc, ◌+◌, ◌-◌, ◌*◌, ◌/◌, ◌%◌, ◌<◌, ◌≤◌, Bool, cond, not, ◌==◌, nat_eq}
use Rattle.layout.specs.Placing.{gcd_of, stripes_of, beta_of, home_of}
use Rattle.layout.specs.Placement.{Placement, placement}

-- how many numbers below n pass a test
unfoldable pub counted : (ℕ → Bool) → ℕ → ℕ
counted f zero = 0
counted f (suc n) = cond (f n) 1 0 + counted f n

-- how many chunks of stripe s lie in column c
unfoldable pub in_column : Placement → ℕ → ℕ → ℕ
in_column p s c = counted (λ e. nat_eq (p.column (s * p.d + e)) c) p.d

-- how many chunks lie outside the home row of their stripe
unfoldable pub outside_home : Placement → ℕ
outside_home p = counted (λ j. not (p.row j == p.home (j / p.d))) p.chunks

-- what a placement promises
pub record Promises (p : Placement) : Type 0 where
  pub by_stripe : p.stripes * p.d ≡ p.chunks
  pub by_row : p.rows * p.d' ≡ p.chunks
  -- every chunk lies in a cell, and every cell holds one chunk
  pub in_rows : (j : ℕ) → j < p.chunks → p.row j < p.rows
  pub in_columns : (j : ℕ) → j < p.chunks → p.column j < p.d'
  pub back : (j : ℕ) → j < p.chunks → p.chunk (p.row j) (p.column j) ≡ j
  pub filled : (i c : ℕ) → i < p.rows → c < p.d' → p.chunk i c < p.chunks
  pub filled_row : (i c : ℕ) → i < p.rows → c < p.d' → p.row (p.chunk i c) ≡ i
  pub filled_column : (i c : ℕ) → i < p.rows → c < p.d' → p.column (p.chunk i c) ≡ c
  pub home_in : (s : ℕ) → s < p.stripes → p.home s < p.rows
  -- the chunks of a stripe have coefficient columns of their own, and so have those of a row
  pub x_below : (j : ℕ) → j < p.chunks → p.x j < p.spread * p.d'
  pub stripe_apart : (i j : ℕ) → i < p.chunks → j < p.chunks → i / p.d ≡ j / p.d → p.x i ≡ p.x j → i ≡ j
  pub row_apart : (i j : ℕ) → i < p.chunks → j < p.chunks → p.row i ≡ p.row j → p.x i ≡ p.x j → i ≡ j
  -- a module that is lost takes few pieces of a stripe
  pub few : (s c : ℕ) → s < p.stripes → c < p.d' → in_column p s c ≤ p.spread

-- what holds of the placement of the sizes d and d' besides
pub record Placed (d d' : ℕ) : Type 0 where
  pub promises : Promises (placement d d')
  pub divides : (d % gcd_of d d' ≡ 0) × (d' % gcd_of d d' ≡ 0)
  pub greatest : (k : ℕ) → d % k ≡ 0 → d' % k ≡ 0 → k ≤ gcd_of d d'
  -- the home row of a wide plan has the stripe's index 0; of a narrow plan it is the last that the stripe fills
  pub home_wide : d ≤ d' → (s : ℕ) → s < stripes_of d d' → home_of d d' s ≡ (placement d d').row (s * d)
  pub home_narrow : d' < d → (s : ℕ) → s < stripes_of d d' → home_of d d' s ≡ s * (d / d') + d / d' - 1
  pub outside_wide : d ≤ d' → outside_home (placement d d') ≡ beta_of d d' * (d - d' % d)
  pub outside_narrow : d' < d → outside_home (placement d d') ≡ stripes_of d d' * (d - d')
