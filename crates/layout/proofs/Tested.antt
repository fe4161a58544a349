-- The tests, one for each fact of the placing, that are computed at every pair of 2..14. Assumes nothing.
use Rattle.std.proofs.Common.{ℕ, ◌+◌, ◌-◌, ◌*◌, ◌%◌, Bool, cond, T, eqb, ltb, leb}
use Rattle.layout.specs.Placing.{every_definition, gcd_of, chunks_of, stripes_of, rows_of, beta_of, row_at, column_at, coeff_at, chunk_at, home_of, spread_of}
use Rattle.layout.specs.Placement.{placement}
use Rattle.layout.specs.Promises.{counted, in_column, outside_home}
use Rattle.layout.proofs.Range.{both, every, either, notb}

-- every pair of the table
abbrev pub table : (ℕ → ℕ → Bool) → Bool
table f = every (λ a. every (λ b. f a b) 2 13) 2 13

unfoldable pub stands : ℕ → ℕ → ℕ → Bool
stands d d' j = both (ltb (row_at d d' j) (rows_of d d')) (both (ltb (column_at d d' j) d') (eqb (chunk_at d d' (row_at d d' j) (column_at d d' j)) j))

unfoldable pub filled : ℕ → ℕ → ℕ → ℕ → Bool
filled d d' i c = both (ltb (chunk_at d d' i c) (chunks_of d d')) (both (eqb (row_at d d' (chunk_at d d' i c)) i) (eqb (column_at d d' (chunk_at d d' i c)) c))

unfoldable pub coefficient : ℕ → ℕ → ℕ → Bool
coefficient d d' j = both (ltb (coeff_at d d' j) (spread_of d d' * d')) (eqb (column_at d d' j) (coeff_at d d' j % d'))

unfoldable pub apart : ℕ → ℕ → ℕ → ℕ → ℕ → Bool
apart d d' s e f = either (notb (eqb (coeff_at d d' (s * d + e)) (coeff_at d d' (s * d + f)))) (eqb e f)

unfoldable pub home_right : ℕ → ℕ → ℕ → Bool
home_right d d' s = both (ltb (home_of d d' s) (rows_of d d')) (either (notb (leb d d')) (eqb (home_of d d' s) (row_at d d' (s * d))))

unfoldable pub common : ℕ → ℕ → ℕ → Bool
common d d' k = either (notb (both (eqb (d % k) 0) (eqb (d' % k) 0))) (leb k (gcd_of d d'))

pub stands_pass : T (table (λ d d'. every (λ j. stands d d' j) 0 (chunks_of d d')))
unfolding every_definition stands every
stands_pass = tt

pub filled_pass : T (table (λ d d'. every (λ i. every (λ c. filled d d' i c) 0 d') 0 (rows_of d d')))
unfolding every_definition filled every
filled_pass = tt

pub coefficient_pass : T (table (λ d d'. every (λ j. coefficient d d' j) 0 (chunks_of d d')))
unfolding every_definition coefficient every
coefficient_pass = tt

pub apart_pass : T (table (λ d d'. every (λ s. every (λ e. every (λ f. apart d d' s e f) 0 d) 0 d) 0 (stripes_of d d')))
unfolding every_definition apart every
apart_pass = tt

pub home_right_pass : T (table (λ d d'. every (λ s. home_right d d' s) 0 (stripes_of d d')))
unfolding every_definition home_right every
home_right_pass = tt

pub few_pass : T (table (λ d d'. every (λ s. every (λ c. leb (in_column (placement d d') s c) (spread_of d d')) 0 d') 0 (stripes_of d d')))
unfolding every_definition every counted in_column
few_pass = tt

pub outside_pass : T (table (λ d d'. eqb (outside_home (placement d d')) (cond (leb d d') (beta_of d d' * (d - d' % d)) (stripes_of d d' * (d - d')))))
unfolding every_definition every counted outside_home
outside_pass = tt

pub divides_pass : T (table (λ d d'. both (eqb (d % gcd_of d d') 0) (eqb (d' % gcd_of d d') 0)))
unfolding every_definition every
divides_pass = tt

pub greatest_pass : T (table (λ d d'. every (λ k. common d d' k) 0 15))
unfolding every_definition every common
greatest_pass = tt
