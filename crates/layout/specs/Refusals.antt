-- When a plan is refused. Assumes nothing.
use Rattle.std.specs.Prelude.{◌≡◌, ℕ, ◌+◌, ◌*◌, Bool, cond, ◌||◌, Some, None, Ok, Err, Option, Result, nat_lt}
use Rattle.layout.specs.declared.plan.Plan.{Plan}
use Rattle.layout.specs.declared.refusal.Refusal.{Refusal}
use Rattle.layout.specs.declared.refusal.Refusal.TheVariants.{OutOfRange, TooFewParities, TooFewCodes}
use Rattle.layout.specs.Placing.{spread_of}
use Rattle.layout.specs.Promises.{Placed}

-- n is below low or above high
abbrev pub outside : ℕ → ℕ → ℕ → Bool
outside low high n = nat_lt n low || nat_lt high n

-- the first rule that the numbers of a plan break
abbrev pub plan_refusal : ℕ → ℕ → ℕ → ℕ → ℕ → ℕ → Option Refusal
plan_refusal q d r d' r' L =
    cond (outside 2 14 d) (Some (OutOfRange 1))
    (cond (outside 1 4 r) (Some (OutOfRange 2))
    (cond (outside 2 14 d') (Some (OutOfRange 3))
    (cond (outside 1 4 r') (Some (OutOfRange 4))
    (cond (outside 1 4096 L) (Some (OutOfRange 5))
    (cond (nat_lt r (spread_of d d')) (Some TooFewParities)
    (cond (nat_lt q (4 + spread_of d d' * d')) (Some TooFewCodes) None))))))

-- the plan has these numbers
pub record Has (q d r d' r' L : ℕ) (p : Plan) : Type 0 where
  pub order_is : p.order ≡ q
  pub d_is : p.d ≡ d
  pub r_is : p.r ≡ r
  pub d2_is : p.d2 ≡ d'
  pub r2_is : p.r2 ≡ r'
  pub len_is : p.len ≡ L

-- what making a plan answers; the placement of a plan that is made keeps its promises
abbrev pub Judged : ℕ → ℕ → ℕ → ℕ → ℕ → ℕ → Result Plan Refusal → Type 0
Judged q d r d' r' L (Ok p) = (plan_refusal q d r d' r' L ≡ None) × Has q d r d' r' L p × Placed d d'
Judged q d r d' r' L (Err e) = plan_refusal q d r d' r' L ≡ Some e
