-- Systems of equations over a field, and one step of Gauss and Jordan's elimination on a Cauchy system. Assumes nothing.
use Rattle.std.proofs.Common.{◌≡◌, ℕ, zero, suc, ◌+◌, ◌<◌, ◌≤◌, ◌≢◌, sym, refl, ap, ◌∙◌, subst, not-suc-le-zero, arith}
use mathlib.Core.Logic.{by_cases}
use native.Mathlib.Decide.{ℕ_discrete}
use Rattle.field.proofs.Ring.{Field, ring, mul_comm, mul_assoc, mul-add, add-zero, zero_add, mul-one, one-mul, mul-zero, zero-mul, add-neg, mul-inv, moved, back, product, inverse, schur}

module _ {K : Type 0} (F : Field K) where
  open F use {𝟘, 𝟙, add as ◌⊕◌, mul as ◌⊗◌, neg, inv}

  infixl 6 ◌⊕◌
  infixl 7 ◌⊗◌
  abbrev pub dot : ℕ → (ℕ → K) → (ℕ → K) → K
  dot zero f u = 𝟘
  dot (suc n) f u = dot n f u ⊕ f n ⊗ u n

  abbrev pub Solves : ℕ → (ℕ → ℕ → K) → (ℕ → K) → (ℕ → K) → Type 0
  Solves n M r u = (i : ℕ) → i < n → dot n (M i) u ≡ r i

  -- column c of the n by n system M, r is cleared but for its pivot, which becomes one: M', r'
  pub record Step (n c : ℕ) (M : ℕ → ℕ → K) (r : ℕ → K) (M' : ℕ → ℕ → K) (r' : ℕ → K) : Type 0 where
    pub row : (j : ℕ) → j < n → M' c j ≡ inv (M c c) ⊗ M c j
    pub side : r' c ≡ inv (M c c) ⊗ r c
    pub rows : (i j : ℕ) → i < n → j < n → i ≢ c → M' i j ≡ M i j ⊕ neg (M i c ⊗ M' c j)
    pub sides : (i : ℕ) → i < n → i ≢ c → r' i ≡ r i ⊕ neg (M i c ⊗ r' c)

  -- `simp` sorts the terms, so it wants variables in the place of calls that compute
  joined : (x y g h u s : K) → (x ⊕ s ⊗ y) ⊕ (g ⊕ s ⊗ h) ⊗ u ≡ (x ⊕ g ⊗ u) ⊕ s ⊗ (y ⊕ h ⊗ u)
  joined x y g h u s = simp ring

  dot_scale : (n : ℕ) (f g u : ℕ → K) (s : K) → ((j : ℕ) → j < n → g j ≡ s ⊗ f j) → dot n g u ≡ s ⊗ dot n f u
  dot_scale zero f g u s h = sym (mul-zero F s)
  dot_scale (suc n) f g u s h =
      let ih = dot_scale n f g u s (λ j l. h j (omega arith)) in
      let e : g n ≡ s ⊗ f n = h n (omega arith) in
      ap (λ x. x ⊕ g n ⊗ u n) ih ∙ ap (λ x. s ⊗ dot n f u ⊕ x ⊗ u n) e
      ∙ ap (λ x. s ⊗ dot n f u ⊕ x) (mul_assoc F s (f n) (u n)) ∙ sym (mul-add F s (dot n f u) (f n ⊗ u n))

  dot_less : (n : ℕ) (f g h u : ℕ → K) (s : K) → ((j : ℕ) → j < n → f j ≡ g j ⊕ s ⊗ h j) → dot n f u ≡ dot n g u ⊕ s ⊗ dot n h u
  dot_less zero f g h u s e = sym (ap (λ x. 𝟘 ⊕ x) (mul-zero F s) ∙ add-zero F 𝟘)
  dot_less (suc n) f g h u s e =
      ap (λ x. x ⊕ f n ⊗ u n) (dot_less n f g h u s (λ j l. e j (omega arith)))
      ∙ ap (λ x. dot n g u ⊕ s ⊗ dot n h u ⊕ x ⊗ u n) (e n (omega arith))
      ∙ joined (dot n g u) (dot n h u) (g n) (h n) (u n) s

  module _ (n c : ℕ) (M : ℕ → ℕ → K) (r : ℕ → K) (M' : ℕ → ℕ → K) (r' : ℕ → K) (within : c < n) (pivot : M c c ≡ 𝟘 → ⊥) (step : Step n c M r M' r') where
    undone : (i j : ℕ) → i < n → j < n → i ≢ c → M i j ≡ M' i j ⊕ M i c ⊗ M' c j
    undone i j hi hj ne = sym (back F (M' i j) (M i c ⊗ M' c j) (M i j) (step.rows i j hi hj ne))

    pub keeps : (u : ℕ → K) → Solves n M r u → Solves n M' r' u
    keeps u s i hi =
        let top : dot n (M' c) u ≡ r' c =
        dot_scale n (M c) (M' c) u (inv (M c c)) step.row ∙ ap (λ x. inv (M c c) ⊗ x) (s c within) ∙ sym step.side in
        by_cases (ℕ_discrete i c)
        (λ (e : i ≡ c). subst (λ (k : ℕ). dot n (M' k) u ≡ r' k) (sym e) top)
        (λ (ne : i ≢ c).
        let all = dot_less n (M i) (M' i) (M' c) u (M i c) (λ j hj. undone i j hi hj ne) in
        moved F (dot n (M' i) u) (M i c ⊗ dot n (M' c) u) (r i) (sym all ∙ s i hi)
        ∙ ap (λ x. r i ⊕ neg (M i c ⊗ x)) top ∙ sym (step.sides i hi ne))

    pub gives : (u : ℕ → K) → Solves n M' r' u → Solves n M r u
    gives u s i hi =
        let p = M c c in
        let unscale : (x : K) → p ⊗ (inv p ⊗ x) ≡ x =
        λ x. sym (mul_assoc F p (inv p) x) ∙ ap (λ y. y ⊗ x) (mul-inv F p pivot) ∙ one-mul F x in
        let top : dot n (M c) u ≡ r c =
        sym (unscale (dot n (M c) u)) ∙ ap (λ x. p ⊗ x) (sym (dot_scale n (M c) (M' c) u (inv p) step.row) ∙ s c within ∙ step.side) ∙ unscale (r c) in
        by_cases (ℕ_discrete i c)
        (λ (e : i ≡ c). subst (λ (k : ℕ). dot n (M k) u ≡ r k) (sym e) top)
        (λ (ne : i ≢ c).
        dot_less n (M i) (M' i) (M' c) u (M i c) (λ j hj. undone i j hi hj ne)
        ∙ ap (λ x. x ⊕ M i c ⊗ dot n (M' c) u) (s i hi) ∙ ap (λ x. r' i ⊕ M i c ⊗ x) (s c within)
        ∙ back F (r' i) (M i c ⊗ r' c) (r i) (step.sides i hi ne))

  -- n rows and n columns of points: no difference of a row's and a column's is zero, and each stands once
  pub record Points (n : ℕ) (x y : ℕ → K) : Type 0 where
    pub apart : (i j : ℕ) → i < n → j < n → x i ⊕ neg (y j) ≡ 𝟘 → ⊥
    pub x_once : (i j : ℕ) → i < n → j < n → i ≢ j → x i ≡ x j → ⊥
    pub y_once : (i j : ℕ) → i < n → j < n → i ≢ j → y i ≡ y j → ⊥

  -- the first c columns are cleared, and the rest of the later rows is a Cauchy matrix with its rows scaled by A and its columns by B
  pub record Shape (n c : ℕ) (x y : ℕ → K) (M : ℕ → ℕ → K) : Type 0 where
    pub A : ℕ → K
    pub B : ℕ → K
    pub A-some : (i : ℕ) → c ≤ i → i < n → A i ≡ 𝟘 → ⊥
    pub B-some : (j : ℕ) → c ≤ j → j < n → B j ≡ 𝟘 → ⊥
    pub rest : (i j : ℕ) → c ≤ i → i < n → c ≤ j → j < n → M i j ≡ A i ⊗ B j ⊗ inv (x i ⊕ neg (y j))
    pub one : (i : ℕ) → i < c → M i i ≡ 𝟙
    pub none : (i j : ℕ) → i < n → j < c → i ≢ j → M i j ≡ 𝟘

  pub start : (n : ℕ) (x y : ℕ → K) (M : ℕ → ℕ → K) → ((i j : ℕ) → i < n → j < n → M i j ≡ inv (x i ⊕ neg (y j))) → Shape n 0 x y M
  start n x y M h =
      record {
        A = λ i. 𝟙;
        B = λ j. 𝟙;
        A-some = λ i _ _. F.one_nonzero;
        B-some = λ j _ _. F.one_nonzero;
        rest = λ i j _ hi _ hj. h i j hi hj ∙ sym (ap (λ z. z ⊗ inv (x i ⊕ neg (y j))) (mul-one F 𝟙) ∙ one-mul F (inv (x i ⊕ neg (y j))));
        one = λ i l. absurd (not-suc-le-zero l);
        none = λ i j _ l _. absurd (not-suc-le-zero l);
      }

  pub pivoted : (n c : ℕ) (x y : ℕ → K) (M : ℕ → ℕ → K) → c < n → Points n x y → Shape n c x y M → M c c ≡ 𝟘 → ⊥
  pivoted n c x y M h points s e =
      product F (s.A c ⊗ s.B c) (inv (x c ⊕ neg (y c))) (product F (s.A c) (s.B c) (s.A-some c (omega arith) h) (s.B-some c (omega arith) h))
      (inverse F (x c ⊕ neg (y c)) (points.apart c c h h))
      (sym (s.rest c c (omega arith) h (omega arith) h) ∙ e)

  -- a difference that is zero is of equals
  pub equal : (a b : K) → a ⊕ neg b ≡ 𝟘 → a ≡ b
  equal a b e = sym (back F 𝟘 b a (sym e)) ∙ zero_add F b

  -- k - y = (k₀ - y₀) + (k - k₀) + (y₀ - y)
  around : (k k₀ y y₀ : K) → (k₀ ⊕ neg y₀) ⊕ (k ⊕ neg k₀) ⊕ (y₀ ⊕ neg y) ≡ k ⊕ neg y
  around k k₀ y y₀ =
      (let r : (k₀ ⊕ neg y₀) ⊕ (k ⊕ neg k₀) ⊕ (y₀ ⊕ neg y) ≡ (k ⊕ neg y) ⊕ ((k₀ ⊕ neg k₀) ⊕ (y₀ ⊕ neg y₀)) = simp ring in r)
      ∙ ap (λ z. (k ⊕ neg y) ⊕ (z ⊕ (y₀ ⊕ neg y₀))) (add-neg F k₀) ∙ ap (λ z. (k ⊕ neg y) ⊕ (𝟘 ⊕ z)) (add-neg F y₀)
      ∙ ap (λ z. (k ⊕ neg y) ⊕ z) (add-zero F 𝟘) ∙ add-zero F (k ⊕ neg y)

  around_row : (k k₀ y₀ : K) → (k₀ ⊕ neg y₀) ⊕ (k ⊕ neg k₀) ≡ k ⊕ neg y₀
  around_row k k₀ y₀ =
      (let r : (k₀ ⊕ neg y₀) ⊕ (k ⊕ neg k₀) ≡ (k ⊕ neg y₀) ⊕ (k₀ ⊕ neg k₀) = simp ring in r)
      ∙ ap (λ z. (k ⊕ neg y₀) ⊕ z) (add-neg F k₀) ∙ add-zero F (k ⊕ neg y₀)

  around_column : (k₀ y y₀ : K) → (k₀ ⊕ neg y₀) ⊕ (y₀ ⊕ neg y) ≡ k₀ ⊕ neg y
  around_column k₀ y y₀ =
      (let r : (k₀ ⊕ neg y₀) ⊕ (y₀ ⊕ neg y) ≡ (k₀ ⊕ neg y) ⊕ (y₀ ⊕ neg y₀) = simp ring in r)
      ∙ ap (λ z. (k₀ ⊕ neg y) ⊕ z) (add-neg F y₀) ∙ add-zero F (k₀ ⊕ neg y)

  module _ (n c : ℕ) (x y : ℕ → K) (M : ℕ → ℕ → K) (r : ℕ → K) (M' : ℕ → ℕ → K) (r' : ℕ → K) (within : c < n) (points : Points n x y)
      (s : Shape n c x y M) (step : Step n c M r M' r') where
    A' : ℕ → K
    A' i = s.A i ⊗ ((x i ⊕ neg (x c)) ⊗ inv (x i ⊕ neg (y c)))

    B' : ℕ → K
    B' j = s.B j ⊗ ((y c ⊕ neg (y j)) ⊗ inv (x c ⊕ neg (y j)))

    pivot : M c c ≡ 𝟘 → ⊥
    pivot = pivoted n c x y M within points s

    top_one : M' c c ≡ 𝟙
    top_one = step.row c within ∙ mul_comm F (inv (M c c)) (M c c) ∙ mul-inv F (M c c) pivot

    rest' : (i j : ℕ) → c < i → i < n → c < j → j < n → M' i j ≡ A' i ⊗ B' j ⊗ inv (x i ⊕ neg (y j))
    unfolding A' B'
    rest' i j ci hi cj hj =
        let ne : i ≢ c = omega arith in
        let invs : (a b : K) → a ≡ b → (b ≡ 𝟘 → ⊥) → a ⊗ inv b ≡ 𝟙 = λ a b e q. ap (λ z. z ⊗ inv b) e ∙ mul-inv F b q in
        let key =
        schur F (s.A i) (s.B j) (s.A c) (s.B c) (x c ⊕ neg (y c)) (x i ⊕ neg (x c)) (y c ⊕ neg (y j))
        (inv (x i ⊕ neg (y j))) (inv (x c ⊕ neg (y j))) (inv (x i ⊕ neg (y c))) (inv (x c ⊕ neg (y c))) (inv (M c c))
        (invs _ _ (around (x i) (x c) (y j) (y c)) (points.apart i j hi hj))
        (invs _ _ (around_column (x c) (y j) (y c)) (points.apart c j within hj))
        (invs _ _ (around_row (x i) (x c) (y c)) (points.apart i c hi within))
        (mul-inv F (x c ⊕ neg (y c)) (points.apart c c within within))
        (ap (λ z. z ⊗ inv (M c c)) (sym (s.rest c c (omega arith) within (omega arith) within)) ∙ mul-inv F (M c c) pivot) in
        step.rows i j hi hj ne
        ∙ sym
        (moved F (A' i ⊗ B' j ⊗ inv (x i ⊕ neg (y j))) (M i c ⊗ M' c j) (M i j)
        (ap (λ z. A' i ⊗ B' j ⊗ inv (x i ⊕ neg (y j)) ⊕ z ⊗ M' c j) (s.rest i c (omega arith) hi (omega arith) within)
        ∙ ap (λ z. A' i ⊗ B' j ⊗ inv (x i ⊕ neg (y j)) ⊕ s.A i ⊗ s.B c ⊗ inv (x i ⊕ neg (y c)) ⊗ z)
        (step.row j hj ∙ ap (λ z. inv (M c c) ⊗ z) (s.rest c j (omega arith) within (omega arith) hj))
        ∙ key ∙ sym (s.rest i j (omega arith) hi (omega arith) hj)))

    -- taking away nothing
    same : (a w z : K) → z ≡ 𝟘 → a ⊕ neg (w ⊗ z) ≡ a
    same a w z e = ap (λ q. a ⊕ neg (w ⊗ q)) e ∙ ap (λ q. a ⊕ neg q) (mul-zero F w) ∙ sym (moved F a 𝟘 a (add-zero F a))

    low : (j : ℕ) → j < c → M' c j ≡ 𝟘
    low j h =
        step.row j (omega arith) ∙ ap (λ z. inv (M c c) ⊗ z) (s.none c j within h (omega arith)) ∙ mul-zero F (inv (M c c))

    one' : (i : ℕ) → i < c + 1 → M' i i ≡ 𝟙
    one' i h =
        by_cases (ℕ_discrete i c)
        (λ (e : i ≡ c). subst (λ (k : ℕ). M' k k ≡ 𝟙) (sym e) top_one)
        (λ (ne : i ≢ c).
        let l : i < c = omega arith in
        step.rows i i (omega arith) (omega arith) ne ∙ same (M i i) (M i c) (M' c i) (low i l) ∙ s.one i l)

    none' : (i j : ℕ) → i < n → j < c + 1 → i ≢ j → M' i j ≡ 𝟘
    none' i j hi hj ne =
        by_cases (ℕ_discrete j c)
        (λ (e : j ≡ c).
        let ic : i ≢ c = omega arith in
        subst (λ (k : ℕ). M' i k ≡ 𝟘) (sym e)
        (step.rows i c hi within ic ∙ ap (λ z. M i c ⊕ neg (M i c ⊗ z)) top_one ∙ ap (λ z. M i c ⊕ neg z) (mul-one F (M i c)) ∙ add-neg F (M i c)))
        (λ (jc : j ≢ c).
        let l : j < c = omega arith in
        by_cases (ℕ_discrete i c)
        (λ (e : i ≡ c). subst (λ (k : ℕ). M' k j ≡ 𝟘) (sym e) (low j l))
        (λ (ic : i ≢ c). step.rows i j hi (omega arith) ic ∙ same (M i j) (M i c) (M' c j) (low j l) ∙ s.none i j hi l ne))

    pub next : Shape n (c + 1) x y M'
    unfolding A' B'
    next =
        record {
          A = A';
          B = B';
          A-some = λ i ci hi.
              product F (s.A i) ((x i ⊕ neg (x c)) ⊗ inv (x i ⊕ neg (y c))) (s.A-some i (omega arith) hi)
              (product F (x i ⊕ neg (x c)) (inv (x i ⊕ neg (y c)))
              (λ e. points.x_once i c hi within (omega arith) (equal (x i) (x c) e))
              (inverse F (x i ⊕ neg (y c)) (points.apart i c hi within)));
          B-some = λ j cj hj.
              product F (s.B j) ((y c ⊕ neg (y j)) ⊗ inv (x c ⊕ neg (y j))) (s.B-some j (omega arith) hj)
              (product F (y c ⊕ neg (y j)) (inv (x c ⊕ neg (y j)))
              (λ e. points.y_once c j within hj (omega arith) (equal (y c) (y j) e))
              (inverse F (x c ⊕ neg (y j)) (points.apart c j within hj)));
          rest = λ i j ci hi cj hj. rest' i j (omega arith) hi (omega arith) hj;
          one = one';
          none = none';
        }

  -- a row that is zero but for a one
  pub dot_none : (n : ℕ) (f u : ℕ → K) → ((j : ℕ) → j < n → f j ≡ 𝟘) → dot n f u ≡ 𝟘
  dot_none zero f u h = refl
  dot_none (suc n) f u h =
      ap (λ z. z ⊕ f n ⊗ u n) (dot_none n f u (λ j l. h j (omega arith))) ∙ ap (λ z. 𝟘 ⊕ z ⊗ u n) (h n (omega arith))
      ∙ ap (λ z. 𝟘 ⊕ z) (zero-mul F (u n)) ∙ add-zero F 𝟘

  pub dot_one : (n i : ℕ) (f u : ℕ → K) → i < n → f i ≡ 𝟙 → ((j : ℕ) → j < n → i ≢ j → f j ≡ 𝟘) → dot n f u ≡ u i
  dot_one zero i f u l e h = absurd (not-suc-le-zero l)
  dot_one (suc n) i f u l e h =
      by_cases (ℕ_discrete i n)
      (λ (is : i ≡ n).
      ap (λ z. z ⊕ f n ⊗ u n) (dot_none n f u (λ j lj. h j (omega arith) (omega arith)))
      ∙ ap (λ z. 𝟘 ⊕ z ⊗ u n) (subst (λ (k : ℕ). f k ≡ 𝟙) is e)
      ∙ ap (λ z. 𝟘 ⊕ z) (one-mul F (u n)) ∙ zero_add F (u n) ∙ ap u (sym is))
      (λ (ne : i ≢ n).
      ap (λ z. z ⊕ f n ⊗ u n) (dot_one n i f u (omega arith) e (λ j lj d. h j (omega arith) d))
      ∙ ap (λ z. u i ⊕ z ⊗ u n) (h n (omega arith) ne) ∙ ap (λ z. u i ⊕ z) (zero-mul F (u n)) ∙ add-zero F (u i))

  -- every column is cleared: the right sides are the solution
  pub solved : (n : ℕ) (x y : ℕ → K) (M : ℕ → ℕ → K) (u : ℕ → K) → Shape n n x y M → (i : ℕ) → i < n → dot n (M i) u ≡ u i
  solved n x y M u s i hi = dot_one n i (M i) u hi (s.one i hi) (λ j hj ne. s.none i j hi hj ne)
