-- A loop that writes the elements of an array, one after the other. Assumes nothing.
use Rattle.std.proofs.Common.{◌≡◌, ℕ, ◌+◌, ◌<◌, ◌≤◌, Bool, true, false, ◌&&◌, ◌≢◌, List, length, get_or, set, replicate, sym, refl, ◌∙◌, subst, ⊎_elim, not-suc-le-zero, arith, length-set, get_or-set_other, get_or-set_same}
use mathlib.Core.Logic.{by_cases}
use native.Mathlib.Decide.{ℕ_discrete}
use lib.ListN.{get_or-replicate, length-replicate}
use Rattle.std.proofs.lemmas.List.{get_or_past}
use Rattle.std.proofs.lemmas.Bool.{cases_lt}

-- P holds of each of the m elements below j, and the others, which are yet to be written, hold Q; d stands for what is past the end
pub record Filled {X : Type 0} (m : ℕ) (P : ℕ → X → Type 0) (Q : X → Type 0) (d : X) (j : ℕ) (xs : List X) : Type 0 where
  pub size : length xs ≡ m
  pub done : (k : ℕ) → k < j → P k (get_or xs k d)
  pub rest : (k : ℕ) → j ≤ k → Q (get_or xs k d)

pub written : {X : Type 0} (P : ℕ → X → Type 0) (xs : List X) (d : X) (j : ℕ) (v : X) → j < length xs → ((k : ℕ) → k < j → P k (get_or xs k d)) → P j v →
    (k : ℕ) → k < j + 1 → P k (get_or (set xs j v) k d)
written P xs d j v l before here k h =
    by_cases (ℕ_discrete k j)
    (λ (e : k ≡ j).
    subst (λ (i : ℕ). P i (get_or (set xs j v) i d)) (sym e) (subst (P j) (sym (get_or-set_same xs j v d l)) here))
    (λ (ne : k ≢ j). subst (P k) (sym (get_or-set_other xs j k v d ne)) (before k (omega arith)))

pub filled : {X : Type 0} (m : ℕ) (P : ℕ → X → Type 0) (Q : X → Type 0) (d : X) (j : ℕ) (xs : List X) (v : X) → j < m → Filled m P Q d j xs → P j v →
    Filled m P Q d (j + 1) (set xs j v)
filled m P Q d j xs v l f here =
    record {
      size = length-set xs j v ∙ f.size;
      done = written P xs d j v (omega (arith, f.size)) f.done here;
      rest = λ k h. let ne : k ≢ j = omega arith in subst Q (sym (get_or-set_other xs j k v d ne)) (f.rest k (omega arith));
    }

-- the start: the same element everywhere
pub begun : {X : Type 0} (m : ℕ) (P : ℕ → X → Type 0) (Q : X → Type 0) (d x : X) → Q x → Q d → Filled m P Q d 0 (replicate m x)
begun m P Q d x q e =
    record {
      size = length-replicate m x;
      done = λ k h. absurd (not-suc-le-zero h);
      rest = λ k _. ⊎_elim (λ l. subst Q (sym (get_or-replicate m k x d l)) q) (λ l. subst Q (sym (get_or_past (replicate m x) k d (omega (arith, length-replicate m x)))) e) (cases_lt k m);
    }

pub and_is : (x y : Bool) → x ≡ true → (x && y) ≡ y
and_is true y e = refl
and_is false y e = absurd (let z : ◌≡◌ {A = ℕ} 0 1 = cc in omega arith)
