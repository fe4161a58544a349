-- Worked figures, one table for all libraries: each follows from the definitions that the contracts cite. Assumes nothing.
use Rattle.std.specs.Prelude.{◌≡◌, ℕ, Bool, ◌||◌, [], ◌∷◌, Some, None, ◌==◌, slice_index}
use Rattle.field.specs.Arithmetic.{Arithmetic}
use Rattle.field.specs.Binary.{byte, nibble}
use Rattle.field.specs.Prime.{prime}
use Rattle.field.specs.Sums.{coefficient, minus}
use Rattle.layout.specs.declared.plan.Plan.{Plan}
use Rattle.layout.specs.Counts.{data_read, parities_read}
use Rattle.layout.specs.Placing.{chunks_of, row_at, column_at}
use Rattle.layout.specs.Refusals.{plan_refusal, Has}
use Rattle.layout.specs.declared.refusal.Refusal.TheVariants.{TooFewParities, TooFewCodes, BeyondRepair}
use Rattle.coding.specs.declared.group.Kind.{Kind}
use Rattle.coding.specs.declared.group.Kind.TheVariants.{Stripe, Row}
use Rattle.coding.specs.Schemes.{Scheme, scheme_of}
use Rattle.coding.specs.Groups.{member, share, parity}
use Rattle.pool.specs.declared.kinds.Phase.TheVariants.{Before}
use Rattle.pool.specs.declared.kinds.Call.TheVariants.{Read}
use Rattle.pool.specs.Book.{refusal}

-- chunk j of the plan with the sizes d and d' lies in this row and column
abbrev pub Lies : ℕ → ℕ → ℕ → ℕ → ℕ → Type 0
Lies d d' j row column = (row_at d d' j ≡ row) × (column_at d d' j ≡ column)

-- a changeover of (d, r, d', r') reads this many data and parity chunks
abbrev pub Counts : ℕ → ℕ → ℕ → ℕ → ℕ → ℕ → Type 0
Counts d r d' r' data-chunks parity-chunks = (data_read d r d' r' ≡ data-chunks) × (parities_read d r d' r' ≡ parity-chunks)

-- the chunks of the worked pool, which has the plan (2, 2, 3, 2) and one symbol to a chunk
abbrev pub worked : ℕ → ℕ
worked j = slice_index (1 ∷ 2 ∷ 3 ∷ 4 ∷ 5 ∷ 7 ∷ []) j

-- parity k of its group i
abbrev pub worked_parity : Arithmetic → Scheme → Kind → ℕ → ℕ → ℕ
worked_parity A p t i k = parity A p (member p t i) k worked

-- parities 0 and 1 of its group i
abbrev pub Parities : Arithmetic → Scheme → Kind → ℕ → ℕ → ℕ → Type 0
Parities A p t i a b = (worked_parity A p t i 0 ≡ a) × (worked_parity A p t i 1 ≡ b)

-- the modules out where it is read with losses
abbrev pub lost : ℕ → Bool
lost m = m == 0 || m == 1 || m == 3

-- the worked pool in the byte field
pub record BytePool (p : Scheme) : Type 0 where
  pub stripe_0 : Parities byte p Stripe 0 20 41
  pub stripe_1 : Parities byte p Stripe 1 1 27
  pub stripe_2 : Parities byte p Stripe 2 71 58
  pub row_0 : Parities byte p Row 0 155 65
  pub row_1 : Parities byte p Row 1 201 73
  -- before the changeover, with modules 0, 1 and 3 out: chunks 2 and 3 are read, chunk 0 is refused by 14
  pub chunk_2 : refusal p 256 Before 0 lost (Read 2 0) ≡ None
  pub chunk_3 : refusal p 256 Before 0 lost (Read 3 0) ≡ None
  pub chunk_0 : refusal p 256 Before 0 lost (Read 0 0) ≡ Some (BeyondRepair 0)

-- the worked pool in the prime field
pub record PrimePool (p : Scheme) : Type 0 where
  pub stripe_0 : worked_parity prime p Stripe 0 0 ≡ 115
  pub stripe_2 : worked_parity prime p Stripe 2 0 ≡ 233
  pub row_0 : worked_parity prime p Row 0 0 ≡ 157
  -- Row 0 is the home row of stripes 0 and 2, and chunk 5 of stripe 2 lies in row 1, so that a changeover subtracts it.
  -- In the other two fields to add it would be the same; here it gives 25.
  pub homes : (p.home 0 ≡ 0) × (p.home 2 ≡ 0) × (p.row 5 ≡ 1)
  pub subtracted : minus prime (prime.add 115 233) (share prime p 0 5 (worked 5)) ≡ 157
  pub added : prime.add (prime.add 115 233) (share prime p 0 5 (worked 5)) ≡ 25

pub record Figures : Type 0 where
  -- placement: (4, 2, 5, 2) is wide, (5, 2, 4, 2) narrow
  pub wide_chunks : chunks_of 4 5 ≡ 20
  pub wide_11 : Lies 4 5 11 2 0
  pub wide_17 : Lies 4 5 17 1 0
  pub narrow_5 : Lies 5 4 5 1 0
  pub narrow_9 : Lies 5 4 9 4 1
  -- what a changeover reads
  pub counts_wide : Counts 12 3 14 3 10 21
  pub counts_narrow : Counts 14 4 10 3 20 15
  pub counts_doubled : Counts 7 2 14 1 0 2
  pub counts_more_parities : Counts 4 1 5 2 20 0
  -- the coefficients A(0, 0) and A(0, 1)
  pub byte_coefficients : (coefficient byte 0 0 ≡ 71) × (coefficient byte 0 1 ≡ 167)
  pub nibble_coefficients : (coefficient nibble 0 0 ≡ 13) × (coefficient nibble 0 1 ≡ 11)
  pub prime_coefficients : (coefficient prime 0 0 ≡ 64) × (coefficient prime 0 1 ≡ 154)
  -- refused plans, with chunks of one symbol: in the byte field (12, 2, 6, 2) is, (12, 3, 6, 3) is not;
  -- in the nibble field (6, 2, 12, 2) is not, (6, 2, 13, 2) is
  pub refused_by_3 : plan_refusal 256 12 2 6 2 1 ≡ Some TooFewParities
  pub not_refused_by_3 : plan_refusal 256 12 3 6 3 1 ≡ None
  pub not_refused_by_4 : plan_refusal 16 6 2 12 2 1 ≡ None
  pub refused_by_4 : plan_refusal 16 6 2 13 2 1 ≡ Some TooFewCodes

-- the worked pool, of every plan with the numbers (2, 2, 3, 2) and one symbol to a chunk; there is one
pub record WorkedPools : Type 0 where
  pub worked_plans : (plan_refusal 256 2 2 3 2 1 ≡ None) × (plan_refusal 257 2 2 3 2 1 ≡ None)
  pub byte_pool : (p : Plan) → Has 256 2 2 3 2 1 p → BytePool (scheme_of p)
  pub prime_pool : (p : Plan) → Has 257 2 2 3 2 1 p → PrimePool (scheme_of p)
