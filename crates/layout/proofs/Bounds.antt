-- How large a plan's numbers are: tests over the table, and the facts from them. Assumes nothing.
use Rattle.std.proofs.Common.{◌≡◌, ℕ, ◌+◌, ◌*◌, ◌/◌, ◌%◌, ◌<◌, ◌≤◌, Bool, T, eqb, ltb, leb, arith, le→leb, eqb→eq, ltb→lt, lt→ltb, leb→le}
use Rattle.layout.specs.Placing.{every_definition, gcd_of, chunks_of, stripes_of, rows_of, beta_of, spread_of}
use Rattle.layout.specs.Sizes.{Sized}
use Rattle.layout.proofs.Range.{every, at, implied, either, notb}
use Rattle.layout.proofs.Tested.{table}

pub of : (f : ℕ → ℕ → Bool) → T (table f) → {d d' : ℕ} → Sized d d' → T (f d d')
of f t {d} {d'} z =
    at (λ b. f d b) 2 13 (at (λ a. every (λ b. f a b) 2 13) 2 13 t d z.low (omega arith)) d' z.low' (omega arith)

gcd_t : T (table (λ a b. ltb 0 (gcd_of a b)))
unfolding every_definition every
gcd_t = tt

chunks_t : T (table (λ a b. leb (chunks_of a b) 182))
unfolding every_definition every
chunks_t = tt

stripes_t : T (table (λ a b. leb (stripes_of a b) 14))
unfolding every_definition every
stripes_t = tt

rows_t : T (table (λ a b. leb (rows_of a b) 14))
unfolding every_definition every
rows_t = tt

stripes_pos_t : T (table (λ a b. ltb 0 (stripes_of a b)))
unfolding every_definition every
stripes_pos_t = tt

rows_pos_t : T (table (λ a b. ltb 0 (rows_of a b)))
unfolding every_definition every
rows_pos_t = tt

by_stripe_t : T (table (λ a b. eqb (stripes_of a b * a) (chunks_of a b)))
unfolding every_definition every
by_stripe_t = tt

by_row_t : T (table (λ a b. eqb (rows_of a b * b) (chunks_of a b)))
unfolding every_definition every
by_row_t = tt

split_t : T (table (λ a b. either (notb (leb a b)) (eqb (stripes_of a b) (b / a * rows_of a b + beta_of a b))))
unfolding every_definition every
split_t = tt

rest_t : T (table (λ a b. either (notb (ltb 0 (beta_of a b))) (ltb 0 (b % a))))
unfolding every_definition every
rest_t = tt

behind_t : T (table (λ a b. either (notb (ltb (a / b * stripes_of a b) (rows_of a b))) (ltb 0 (a % b))))
unfolding every_definition every
behind_t = tt

reach_t : T (table (λ a b. leb (spread_of a b * b) 28))
unfolding every_definition every
reach_t = tt

pub gcd_pos : {d d' : ℕ} → Sized d d' → 0 < gcd_of d d'
gcd_pos {d} {d'} z = ltb→lt 0 (gcd_of d d') (of (λ a b. ltb 0 (gcd_of a b)) gcd_t z)

pub chunks_le : {d d' : ℕ} → Sized d d' → chunks_of d d' ≤ 182
chunks_le {d} {d'} z = leb→le (chunks_of d d') 182 (of (λ a b. leb (chunks_of a b) 182) chunks_t z)

pub stripes_le : {d d' : ℕ} → Sized d d' → stripes_of d d' ≤ 14
stripes_le {d} {d'} z = leb→le (stripes_of d d') 14 (of (λ a b. leb (stripes_of a b) 14) stripes_t z)

pub rows_le : {d d' : ℕ} → Sized d d' → rows_of d d' ≤ 14
rows_le {d} {d'} z = leb→le (rows_of d d') 14 (of (λ a b. leb (rows_of a b) 14) rows_t z)

pub stripes_pos : {d d' : ℕ} → Sized d d' → 0 < stripes_of d d'
stripes_pos {d} {d'} z = ltb→lt 0 (stripes_of d d') (of (λ a b. ltb 0 (stripes_of a b)) stripes_pos_t z)

pub rows_pos : {d d' : ℕ} → Sized d d' → 0 < rows_of d d'
rows_pos {d} {d'} z = ltb→lt 0 (rows_of d d') (of (λ a b. ltb 0 (rows_of a b)) rows_pos_t z)

pub by_stripe : {d d' : ℕ} → Sized d d' → stripes_of d d' * d ≡ chunks_of d d'
by_stripe {d} {d'} z = eqb→eq _ _ (of (λ a b. eqb (stripes_of a b * a) (chunks_of a b)) by_stripe_t z)

pub by_row : {d d' : ℕ} → Sized d d' → rows_of d d' * d' ≡ chunks_of d d'
by_row {d} {d'} z = eqb→eq _ _ (of (λ a b. eqb (rows_of a b * b) (chunks_of a b)) by_row_t z)

-- the stripes of a wide plan are the whole ones and β split ones
pub split : {d d' : ℕ} → Sized d d' → d ≤ d' → stripes_of d d' ≡ d' / d * rows_of d d' + beta_of d d'
split {d} {d'} z h =
    eqb→eq _ _
    (implied (leb d d') (eqb (stripes_of d d') (d' / d * rows_of d d' + beta_of d d'))
    (of (λ a b. either (notb (leb a b)) (eqb (stripes_of a b) (b / a * rows_of a b + beta_of a b))) split_t z)
    (le→leb d d' h))

pub rest_pos : {d d' : ℕ} → Sized d d' → 0 < beta_of d d' → 0 < d' % d
rest_pos {d} {d'} z h =
    ltb→lt _ _
    (implied (ltb 0 (beta_of d d')) (ltb 0 (d' % d)) (of (λ a b. either (notb (ltb 0 (beta_of a b))) (ltb 0 (b % a))) rest_t z)
    (lt→ltb 0 (beta_of d d') h))

-- a narrow plan has rows behind those that stripes fill only where a stripe leaves a rest
pub behind_pos : {d d' : ℕ} → Sized d d' → d / d' * stripes_of d d' < rows_of d d' → 0 < d % d'
behind_pos {d} {d'} z h =
    ltb→lt _ _
    (implied (ltb (d / d' * stripes_of d d') (rows_of d d')) (ltb 0 (d % d'))
    (of (λ a b. either (notb (ltb (a / b * stripes_of a b) (rows_of a b))) (ltb 0 (a % b))) behind_t z)
    (lt→ltb _ _ h))

pub reach_le : {d d' : ℕ} → Sized d d' → spread_of d d' * d' ≤ 28
reach_le {d} {d'} z = leb→le _ 28 (of (λ a b. leb (spread_of a b * b) 28) reach_t z)
