-- A fact of each number of a range, from one computed test. Assumes nothing.
use Rattle.std.proofs.Common.{◌≡◌, ℕ, zero, suc, ◌+◌, ◌-◌, ◌<◌, ◌≤◌, Bool, true, false, T, sym, ◌∙◌, subst, le_of_suc-le-suc, not-suc-le-zero, add-zero, add-suc, suc-add, arith}

abbrev pub both : Bool → Bool → Bool
both true b = b
both false b = false

pub both_left : (a b : Bool) → T (both a b) → T a
both_left true b t = tt
both_left false b t = t

pub both_right : (a b : Bool) → T (both a b) → T b
both_right true b t = t
both_right false b t = absurd t

-- the test f passes at each of the n numbers from i on
unfoldable pub every : (ℕ → Bool) → ℕ → ℕ → Bool
every f i zero = true
every f i (suc n) = both (f i) (every f (suc i) n)

step : (f : ℕ → Bool) (i n : ℕ) → T (every f i n) → (k : ℕ) → k < n → T (f (i + k))
unfolding every
step f i zero t k h = absurd (not-suc-le-zero h)
step f i (suc n) t zero h = subst (λ (m : ℕ). T (f m)) (sym (add-zero i)) (both_left (f i) (every f (suc i) n) t)
step f i (suc n) t (suc k) h =
    subst (λ (m : ℕ). T (f m)) (suc-add i k ∙ sym (add-suc i k))
    (step f (suc i) n (both_right (f i) (every f (suc i) n) t) k (le_of_suc-le-suc h))

pub at : (f : ℕ → Bool) (i n : ℕ) → T (every f i n) → (k : ℕ) → i ≤ k → k < i + n → T (f k)
at f i n t k h g =
    let e : i + (k - i) ≡ k = omega arith in
    subst (λ (m : ℕ). T (f m)) e (step f i n t (k - i) (omega arith))

abbrev pub either : Bool → Bool → Bool
either true b = true
either false b = b

abbrev pub notb : Bool → Bool
notb true = false
notb false = true

-- from zero on
pub below : (f : ℕ → Bool) (n : ℕ) → T (every f 0 n) → (k : ℕ) → k < n → T (f k)
below f n t k h = at f 0 n t k (omega arith) (omega arith)

-- an implication as a test
pub implied : (a b : Bool) → T (either (notb a) b) → T a → T b
implied true b t u = t
implied false b t u = absurd u
