-- A Cauchy system has at most one solution, and the solutions for the unit sides give those for all sides. Assumes nothing.
use Rattle.std.proofs.Common.{◌≡◌, ℕ, zero, suc, ◌+◌, ◌<◌, ◌≢◌, sym, refl, ap, ◌∙◌, subst, arith}
use mathlib.Core.Logic.{ite, if_pos, if_neg}
use native.Mathlib.Decide.{ℕ_discrete}
use Rattle.field.proofs.Ring.{Field, ring, mul-zero, zero-mul, add-zero}
use Rattle.field.proofs.Linear.{dot, Solves, Step, Shape, Points, dot_one, pivoted, next, keeps, solved, start}

module _ {K : Type 0} (F : Field K) where
  open F use {𝟘, 𝟙, add as ◌⊕◌, mul as ◌⊗◌, neg, inv}

  infixl 6 ◌⊕◌
  infixl 7 ◌⊗◌
  joined : (x y f u w t : K) → (x ⊕ y ⊗ t) ⊕ f ⊗ (u ⊕ w ⊗ t) ≡ (x ⊕ f ⊗ u) ⊕ (y ⊕ f ⊗ w) ⊗ t
  joined x y f u w t = simp ring

  dot_sum : (n : ℕ) (f u w : ℕ → K) (t : K) → dot F n f (λ j. u j ⊕ w j ⊗ t) ≡ dot F n f u ⊕ dot F n f w ⊗ t
  dot_sum zero f u w t = sym (ap (λ z. 𝟘 ⊕ z) (zero-mul F t) ∙ add-zero F 𝟘)
  dot_sum (suc n) f u w t =
      ap (λ z. z ⊕ f n ⊗ (u n ⊕ w n ⊗ t)) (dot_sum n f u w t) ∙ joined (dot F n f u) (dot F n f w) (f n) (u n) (w n) t

  dot_nothing : (n : ℕ) (f : ℕ → K) → dot F n f (λ j. 𝟘) ≡ 𝟘
  dot_nothing zero f = refl
  dot_nothing (suc n) f =
      ap (λ z. z ⊕ f n ⊗ 𝟘) (dot_nothing n f) ∙ ap (λ z. 𝟘 ⊕ z) (mul-zero F (f n)) ∙ add-zero F 𝟘

  exchange : (n m : ℕ) (f s : ℕ → K) (W : ℕ → ℕ → K) → dot F n f (λ j. dot F m (λ k. W k j) s) ≡ dot F m (λ k. dot F n f (W k)) s
  exchange n zero f s W = dot_nothing n f
  exchange n (suc m) f s W =
      dot_sum n f (λ j. dot F m (λ k. W k j) s) (W m) (s m) ∙ ap (λ z. z ⊕ dot F n f (W m) ⊗ s m) (exchange n m f s W)

  -- W k solves the system whose side k is one and whose others are zero
  pub record Units (n : ℕ) (M : ℕ → ℕ → K) (W : ℕ → ℕ → K) : Type 0 where
    pub one : (i : ℕ) → i < n → dot F n (M i) (W i) ≡ 𝟙
    pub none : (i k : ℕ) → i < n → k < n → i ≢ k → dot F n (M i) (W k) ≡ 𝟘

  pub combine : (n : ℕ) (M : ℕ → ℕ → K) (s : ℕ → K) (W : ℕ → ℕ → K) → Units n M W → Solves F n M s (λ j. dot F n (λ k. W k j) s)
  combine n M s W units i hi =
      exchange n n (M i) s W ∙ dot_one F n i (λ k. dot F n (M i) (W k)) s hi (units.one i hi) (λ k hk ne. units.none i k hi hk ne)

  module _ (n c : ℕ) (M : ℕ → ℕ → K) (r : ℕ → K) where
    top : ℕ → K
    top j = inv (M c c) ⊗ M c j

    cleared : ℕ → ℕ → K
    cleared i j = ite (ℕ_discrete i c) (top j) (M i j ⊕ neg (M i c ⊗ top j))

    sides : ℕ → K
    sides i = ite (ℕ_discrete i c) (inv (M c c) ⊗ r c) (r i ⊕ neg (M i c ⊗ (inv (M c c) ⊗ r c)))

    cleared_top : (j : ℕ) → cleared c j ≡ top j
    unfolding cleared
    cleared_top j = if_pos (ℕ_discrete c c) refl (top j) (M c j ⊕ neg (M c c ⊗ top j))

    sides_top : sides c ≡ inv (M c c) ⊗ r c
    unfolding sides
    sides_top = if_pos (ℕ_discrete c c) refl (inv (M c c) ⊗ r c) (r c ⊕ neg (M c c ⊗ (inv (M c c) ⊗ r c)))

    stepped : Step F n c M r cleared sides
    unfolding cleared sides top
    stepped =
        record {
          row = λ j _. cleared_top j;
          side = sides_top;
          rows = λ i j _ _ ne.
              if_neg (ℕ_discrete i c) ne (top j) (M i j ⊕ neg (M i c ⊗ top j)) ∙ ap (λ z. M i j ⊕ neg (M i c ⊗ z)) (sym (cleared_top j));
          sides = λ i _ ne.
              if_neg (ℕ_discrete i c) ne (inv (M c c) ⊗ r c) (r i ⊕ neg (M i c ⊗ (inv (M c c) ⊗ r c))) ∙ ap (λ z. r i ⊕ neg (M i c ⊗ z)) (sym sides_top);
        }

  -- d columns are yet to be cleared
  unique_from : (d n c : ℕ) (x y : ℕ → K) (M : ℕ → ℕ → K) (r u v : ℕ → K) → c + d ≡ n → Points F n x y → Shape F n c x y M →
      Solves F n M r u → Solves F n M r v → (i : ℕ) → i < n → u i ≡ v i
  unique_from zero n c x y M r u v e points shape su sv i hi =
      let end : c ≡ n = omega arith in
      let s = subst (λ (k : ℕ). Shape F n k x y M) end shape in
      sym (solved F n x y M u s i hi) ∙ su i hi ∙ sym (sv i hi) ∙ solved F n x y M v s i hi
  unique_from (suc d) n c x y M r u v e points shape su sv i hi =
      let l : c < n = omega arith in
      let pivot = pivoted F n c x y M l points shape in
      let step = stepped n c M r in
      unique_from d n (c + 1) x y (cleared n c M r) (sides n c M r) u v (omega arith) points
      (next F n c x y M r (cleared n c M r) (sides n c M r) l points shape step)
      (keeps F n c M r (cleared n c M r) (sides n c M r) l pivot step u su)
      (keeps F n c M r (cleared n c M r) (sides n c M r) l pivot step v sv)
      i hi

  -- a Cauchy system has at most one solution
  pub unique : (n : ℕ) (x y : ℕ → K) (M : ℕ → ℕ → K) (r u v : ℕ → K) → Points F n x y → ((i j : ℕ) → i < n → j < n → M i j ≡ inv (x i ⊕ neg (y j))) →
      Solves F n M r u → Solves F n M r v → (i : ℕ) → i < n → u i ≡ v i
  unique n x y M r u v points is su sv i hi = unique_from n n 0 x y M r u v (omega arith) points (start F n x y M is) su sv i hi
