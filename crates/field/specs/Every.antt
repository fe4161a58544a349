-- A test that antt computes at each number below a bound. Assumes nothing.
use Rattle.std.proofs.Common.{sym, subst, ⊎_elim, not-suc-le-zero, le_of_suc-le-suc, eq-or-lt_of_le}
use Rattle.std.specs.Prelude.{ℕ, zero, suc, ◌<◌, Bool, true, false, T}

abbrev pub both : Bool → Bool → Bool
both true b = b
both false b = false

pub both_left : (a b : Bool) → T (both a b) → T a
both_left true b t = tt
both_left false b t = t

pub both_right : (a b : Bool) → T (both a b) → T b
both_right true b t = t
both_right false b t = absurd t

abbrev pub every : ℕ → (ℕ → Bool) → Bool
every zero f = true
every (suc n) f = both (f n) (every n f)

pub every_at : (n : ℕ) (f : ℕ → Bool) → T (every n f) → (i : ℕ) → i < n → T (f i)
every_at zero f t i h = absurd (not-suc-le-zero h)
every_at (suc n) f t i h =
    ⊎_elim (λ e. subst (λ (k : ℕ). T (f k)) (sym e) (both_left (f n) (every n f) t))
    (λ l. every_at n f (both_right (f n) (every n f) t) i l)
    (eq-or-lt_of_le (le_of_suc-le-suc h))
