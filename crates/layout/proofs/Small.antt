-- How large the numbers on the way to a place are, and the definitions' clauses as equations. Assumes nothing.
use Rattle.std.proofs.Common.{ℕ, ◌-◌, ◌*◌, ◌/◌, ◌%◌, ◌<◌, ◌≤◌, le-div_iff_mul-le, div-le_self, arith}
use native.Mathlib.Nat.{mod-le}
use Rattle.std.proofs.lemmas.Nat.{mul-le}
use Rattle.layout.specs.Placing.{stripes_of, rows_of, beta_of}
use Rattle.layout.specs.Sizes.{Sized}
use Rattle.layout.proofs.Bounds.{stripes_le, rows_le, split, rest_pos}

module _ {d n : ℕ} (z : Sized d n) where
  pub wide_w_le : n / d ≤ 14
  wide_w_le = omega (arith, div-le_self n d, z.high')

  pub narrow_w_le : d / n ≤ 14
  narrow_w_le = omega (arith, div-le_self d n, z.high)

  pub w_rows_le : n / d * rows_of d n ≤ 14 * 14
  w_rows_le = mul-le (n / d) (rows_of d n) 14 14 wide_w_le (rows_le z)

  pub w_stripes_le : d / n * stripes_of d n ≤ 14 * 14
  w_stripes_le = mul-le (d / n) (stripes_of d n) 14 14 narrow_w_le (stripes_le z)

  pub narrow_fill_le : d / n * n ≤ 14 * 14
  narrow_fill_le = mul-le (d / n) n 14 14 narrow_w_le z.high'

  pub beta_le : d ≤ n → beta_of d n ≤ 14
  beta_le wide = omega (arith, split z wide, stripes_le z)

  pub past_whole : (e : ℕ) → d / n ≤ e / n → d / n * n ≤ e
  past_whole e = (le-div_iff_mul-le {k = n} (omega (arith, z.low'))).0

  pub wide_outside_le : d ≤ n → beta_of d n * (d - n % d) ≤ 14 * 14
  wide_outside_le wide = mul-le _ _ 14 14 (beta_le wide) (omega (arith, z.high))

  pub narrow_outside_le : stripes_of d n * (d - n) ≤ 14 * 14
  narrow_outside_le = mul-le _ _ 14 14 (stripes_le z) (omega (arith, z.high))

module _ {d n s : ℕ} (z : Sized d n) (h : s < stripes_of d n) where
  pub s_le : s ≤ 13
  s_le = omega (arith, stripes_le z, h)

  pub s_mod_le : s * (d % n) ≤ 13 * 14
  s_mod_le = mul-le s (d % n) 13 14 s_le (omega (arith, mod-le d n, z.high))

  pub s_div_le : s * (d / n) ≤ 13 * 14
  s_div_le = mul-le s (d / n) 13 14 s_le (narrow_w_le z)

  pub i_rest_le : (s - n / d * rows_of d n) * (d - n % d) ≤ 13 * 14
  i_rest_le = mul-le _ _ 13 14 (omega (arith, s_le)) (omega (arith, z.high))

  -- a stripe past the whole ones: there is a rest
  pub wide_rest_pos : d ≤ n → n / d * rows_of d n ≤ s → 0 < n % d
  wide_rest_pos wide past = rest_pos z (omega (arith, split z wide, h))

-- what keeps the numbers on the way to a place small
pub ruleset on_the_way = (stripes_le, narrow_w_le, w_rows_le, w_stripes_le, beta_le, past_whole, s_mod_le, s_div_le, i_rest_le, wide_rest_pos)
