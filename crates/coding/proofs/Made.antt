-- Arrays that `array::from_fn` makes. Assumes nothing.
use Rattle.std.proofs.Common.{◌≡◌, ℕ, zero, suc, ◌+◌, ◌<◌, ◌≤◌, ◌≢◌, List, get_or, sym, refl, subst, arith}
use mathlib.Core.Logic.{by_cases}
use native.Mathlib.Decide.{ℕ_discrete}
use denote.Param.Members.{Mut, Called}
use Rattle.std.specs.Array.{IsFromFnResult, IsFromFnResultFrom}

module _ {F B : Type 0} (g : Mut F (ℕ × Unit {0}) B) (P : ℕ → B → Type 0) (f : F) (ys : List B) (m : ℕ) (step : (i : ℕ) (y : B) (q : F) → i < m → Called g f (i, tt) y q → (q ≡ f) × P i y) where
  made_from : (n a : ℕ) (f' : F) → f' ≡ f → a + n ≤ m → IsFromFnResultFrom g f' ys a n → (k : ℕ) → a ≤ k → k < a + n → (d : B) → P k (get_or ys k d)
  made_from zero a f' e within calls k low high d = absurd (omega arith)
  made_from (suc n) a f' e within (q, y, element, call, calls) k low high d =
      let here = step a y q (omega arith) (subst (λ (s : F). Called g s (a, tt) y q) e call) in
      by_cases (ℕ_discrete k a)
      (λ (is : k ≡ a). subst (λ (j : ℕ). P j (get_or ys j d)) (sym is) (subst (P a) (sym (element.1 d)) here.1))
      (λ (ne : k ≢ a). made_from n (a + 1) q here.0 (omega arith) calls k (omega arith) (omega arith) d)

  -- what one call at each index gives, where the calls change nothing
  pub made : IsFromFnResult g f ys m → (k : ℕ) (d : B) → k < m → P k (get_or ys k d)
  made is k d h = made_from m 0 f refl (omega arith) is.each k (omega arith) (omega arith) d
