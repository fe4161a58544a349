-- What holds of the numbers and places of a plan. Assumes nothing.
use Rattle.std.proofs.Common.{◌≡◌, ℕ, ◌+◌, ◌*◌, ◌/◌, ◌%◌, ◌<◌, ◌≤◌, false, None, ◌∙◌, arith}
use Rattle.std.proofs.lemmas.Nat.{mul-le, mul-add-lt}
use Rattle.std.proofs.lemmas.Bool.{cond-false, or_from, le-ltb}
use Rattle.layout.specs.Counts.{modules_of, slots_of}
use Rattle.layout.specs.Placement.{placement}
use Rattle.layout.specs.Placing.{chunks_of, stripes_of, rows_of, row_at, column_at, coeff_at}
use Rattle.layout.specs.Promises.{Promises, Placed}
use Rattle.layout.specs.Refusals.{outside, plan_refusal}
use Rattle.layout.specs.Sizes.{Sized, Inside}
use Rattle.layout.specs.declared.plan.Plan.{Plan}
use Rattle.layout.proofs.Bounds as bounds
use Rattle.layout.proofs.Facts as facts
use Rattle.layout.proofs.Within as within

in_range : (low high n : ℕ) → low ≤ n → n ≤ high → outside low high n ≡ false
in_range low high n p q = or_from _ _ (le-ltb n low p) (le-ltb high n q)

module _ (p : Plan) where
  pub sized : Sized p.d p.d2
  sized = record { low = p.data_range.0; high = p.data_range.1; low' = p.data2_range.0; high' = p.data2_range.1 }

  pub placed : Placed p.d p.d2
  placed = facts.placed p.d p.d2 sized

  pub promises : Promises (placement p.d p.d2)
  promises = placed.promises

  -- the numbers of a plan are not refused
  pub planned : plan_refusal p.order p.d p.r p.d2 p.r2 p.len ≡ None
  planned =
      cond-false _ _ _ (in_range 2 14 p.d p.data_range.0 p.data_range.1) ∙
      (cond-false _ _ _ (in_range 1 4 p.r p.parity_range.0 p.parity_range.1) ∙
      (cond-false _ _ _ (in_range 2 14 p.d2 p.data2_range.0 p.data2_range.1) ∙
      (cond-false _ _ _ (in_range 1 4 p.r2 p.parity2_range.0 p.parity2_range.1) ∙
      (cond-false _ _ _ (in_range 1 4096 p.len p.len_range.0 p.len_range.1) ∙
      (cond-false _ _ _ (le-ltb p.r _ p.losses) ∙ cond-false _ _ _ (le-ltb p.order _ p.points))))))

  pub chunks_le : chunks_of p.d p.d2 ≤ 182
  chunks_le = bounds.chunks_le sized

  pub stripes_le : stripes_of p.d p.d2 ≤ 14
  stripes_le = bounds.stripes_le sized

  pub rows_le : rows_of p.d p.d2 ≤ 14
  rows_le = bounds.rows_le sized

  pub slots_le : slots_of p.d p.d2 ≤ 28
  slots_le = omega (arith, stripes_le, rows_le)

  pub modules_le : modules_of p.r p.d2 p.r2 ≤ 18
  modules_le = omega (arith, p.data2_range.1, p.parity_range.1, p.parity2_range.1)

  pub stripe_parities_le : p.r2 * stripes_of p.d p.d2 ≤ 4 * 14
  stripe_parities_le = mul-le _ _ 4 14 p.parity2_range.1 stripes_le

  pub stripes_pos : 0 < stripes_of p.d p.d2
  stripes_pos = bounds.stripes_pos sized

  pub rows_pos : 0 < rows_of p.d p.d2
  rows_pos = bounds.rows_pos sized

  -- chunk j has a stripe and an index
  pub inside : (j : ℕ) → j < chunks_of p.d p.d2 → Inside p.d p.d2 (j / p.d) (j % p.d)
  inside j h = within.inside p.d p.d2 j sized h

  -- index e of stripe s is a chunk
  pub chunk_lt : (s e : ℕ) → s < stripes_of p.d p.d2 → e < p.d → s * p.d + e < chunks_of p.d p.d2
  chunk_lt s e hs he = omega (arith, mul-add-lt s p.d e (stripes_of p.d p.d2) hs he, bounds.by_stripe sized)

  -- a coefficient column is below 28, and there is a code for it besides those of four parities
  pub x_lt : (j : ℕ) → j < chunks_of p.d p.d2 → coeff_at p.d p.d2 j < 28
  x_lt j h = omega (arith, promises.x_below j h, bounds.reach_le sized)

  pub code_lt : (j : ℕ) → j < chunks_of p.d p.d2 → 4 + coeff_at p.d p.d2 j < p.order
  code_lt j h = omega (arith, promises.x_below j h, p.points)

  -- the places of chunks and parities lie in a rack of the plan's modules and slots
  pub row_lt : (j : ℕ) → j < chunks_of p.d p.d2 → row_at p.d p.d2 j < slots_of p.d p.d2
  row_lt j h = omega (arith, promises.in_rows j h)

  pub column_lt : (j : ℕ) → j < chunks_of p.d p.d2 → column_at p.d p.d2 j < modules_of p.r p.d2 p.r2
  column_lt j h = omega (arith, promises.in_columns j h)

  pub stripe_parity_lt : (k : ℕ) → k < p.r → p.d2 + k < modules_of p.r p.d2 p.r2
  stripe_parity_lt k h = omega (arith, h)

  pub row_parity_lt : (k : ℕ) → k < p.r2 → p.d2 + k < modules_of p.r p.d2 p.r2
  row_parity_lt k h = omega (arith, h)

  pub stripe_slot_lt : (s : ℕ) → s < stripes_of p.d p.d2 → s < slots_of p.d p.d2
  stripe_slot_lt s h = omega (arith, h)

  pub row_slot_lt : (i : ℕ) → i < rows_of p.d p.d2 → stripes_of p.d p.d2 + i < slots_of p.d p.d2
  row_slot_lt i h = omega (arith, h)
