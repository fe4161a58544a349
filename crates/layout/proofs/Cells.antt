-- How large the numbers on the way to the chunk in a cell are, and the definitions' clauses as equations. Assumes nothing.
use Rattle.std.proofs.Common.{ℕ, ◌+◌, ◌-◌, ◌*◌, ◌/◌, ◌%◌, ◌<◌, ◌≤◌, div-le_self, arith}
use native.Mathlib.Nat.{mod-le}
use Rattle.std.proofs.lemmas.Nat.{mul-le}
use Rattle.layout.specs.Placing.{stripes_of, rows_of, beta_of, start_of}
use Rattle.layout.specs.Sizes.{Sized, IsCell}
use Rattle.layout.proofs.Bounds.{stripes_le, rows_le, behind_pos}
use Rattle.layout.proofs.Small.{wide_w_le, w_rows_le, w_stripes_le, narrow_fill_le}

module _ {d n i : ℕ} (z : Sized d n) (h : i < rows_of d n) where
  i_le : i ≤ 13
  i_le = omega (arith, rows_le z, h)

  pub times_w_le : i * (n / d) ≤ 13 * 14
  times_w_le = mul-le i (n / d) 13 14 i_le (wide_w_le z)

  pub times_wd_le : i * (n / d) * d ≤ 13 * 14 * 14
  times_wd_le = mul-le (i * (n / d)) d (13 * 14) 14 times_w_le z.high

  pub split_le : (n / d * rows_of d n + i) * d ≤ 209 * 14
  split_le = mul-le (n / d * rows_of d n + i) d 209 14 (omega (arith, w_rows_le z, i_le)) z.high

  pub rests_le : (i - beta_of d n) * (n % d) ≤ 13 * 14
  rests_le = mul-le (i - beta_of d n) (n % d) 13 14 (omega (arith, i_le)) (omega (arith, mod-le n d, z.high'))

  pub stripe_le : i / (d / n) * d ≤ 13 * 14
  stripe_le = mul-le (i / (d / n)) d 13 14 (omega (arith, div-le_self i (d / n), i_le)) z.high

  pub lines_le : i % (d / n) * n ≤ 13 * 14
  lines_le = mul-le (i % (d / n)) n 13 14 (omega (arith, mod-le i (d / n), i_le)) z.high'

  pub behind_le : (i - d / n * stripes_of d n) * n ≤ 13 * 14
  behind_le = mul-le (i - d / n * stripes_of d n) n 13 14 (omega (arith, i_le)) z.high'

  -- a row behind those that stripes fill: there is a rest
  pub narrow_rest_pos : d / n * stripes_of d n ≤ i → 0 < d % n
  narrow_rest_pos past = behind_pos z (omega (arith, h))

module _ {d n i c : ℕ} (z : Sized d n) (h : IsCell d n i c) where
  behind_all : (i - d / n * stripes_of d n) * n + c ≤ 210
  behind_all = omega (arith, behind_le z h.row, h.column, z.high')

  pub narrow_tail_le : ((i - d / n * stripes_of d n) * n + c) / (d % n) * d ≤ 210 * 14
  narrow_tail_le = mul-le _ d 210 14 (omega (arith, behind_all, div-le_self ((i - d / n * stripes_of d n) * n + c) (d % n))) z.high

  pub narrow_rest_le : ((i - d / n * stripes_of d n) * n + c) % (d % n) ≤ 210
  narrow_rest_le = omega (arith, behind_all, mod-le ((i - d / n * stripes_of d n) * n + c) (d % n))

  rests_all : (i - beta_of d n) * (n % d) + ((c + n - start_of d n i) % n - n / d * d) ≤ 210
  rests_all = omega (arith, rests_le z h.row, z.high')

  pub wide_tail_le : n / d * rows_of d n + ((i - beta_of d n) * (n % d) + ((c + n - start_of d n i) % n - n / d * d)) / (d - n % d) ≤ 406
  wide_tail_le =
      omega (
        arith,
        w_rows_le z,
        rests_all,
        div-le_self ((i - beta_of d n) * (n % d) + ((c + n - start_of d n i) % n - n / d * d)) (d - n % d),
      )

  pub wide_base_le : (n / d * rows_of d n + ((i - beta_of d n) * (n % d) + ((c + n - start_of d n i) % n - n / d * d)) / (d - n % d)) * d ≤ 406 * 14
  wide_base_le = mul-le _ d 406 14 wide_tail_le z.high

  pub wide_rest_le : ((i - beta_of d n) * (n % d) + ((c + n - start_of d n i) % n - n / d * d)) % (d - n % d) ≤ 210
  wide_rest_le =
      omega (arith, rests_all, mod-le ((i - beta_of d n) * (n % d) + ((c + n - start_of d n i) % n - n / d * d)) (d - n % d))

-- what keeps the numbers on the way to a chunk small
pub ruleset on_the_way = (rows_le, w_rows_le, w_stripes_le, narrow_fill_le, times_w_le, times_wd_le, split_le, rests_le, stripe_le, lines_le, behind_le, narrow_rest_pos, narrow_tail_le, narrow_rest_le, wide_tail_le, wide_base_le, wide_rest_le)
