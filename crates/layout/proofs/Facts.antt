-- The facts of the placing, from the tests. Assumes nothing.
use Rattle.std.proofs.Common.{◌≡◌, ℕ, ◌+◌, ◌-◌, ◌*◌, ◌/◌, ◌%◌, ◌<◌, ◌≤◌, Bool, true, false, cond, T, eqb, ltb, leb, ◌⊎◌, sym, ap, ◌∙◌, subst, inl, inr, mod-eq_of_lt, arith, le→leb, eqb→eq, ltb→lt, leb→le}
use lib.Dec.{eqb_refl}
use Rattle.std.proofs.lemmas.Nat.{div_below, mod_below, div-add-mod'}
use Rattle.std.proofs.lemmas.Bool.{cases_lt, cond-true, cond-false, le-leb, lt-leb}
use Rattle.layout.specs.Placing.{gcd_of, chunks_of, stripes_of, rows_of, beta_of, row_at, column_at, chunk_at, coeff_at, home_of, spread_of}
use Rattle.layout.specs.Placement.{placement}
use Rattle.layout.specs.Promises.{Promises, Placed, in_column, outside_home}
use Rattle.layout.specs.Sizes.{Sized}
use Rattle.layout.proofs.Bounds.{of, by_stripe, by_row}
use Rattle.layout.proofs.Range.{both, both_left, both_right, every, below, implied, either, notb}
use Rattle.layout.proofs.Tested as tested
use Rattle.layout.proofs.Tested.{stands, filled, coefficient, apart, home_right, common}

-- the test a ≡ b holds
same : (a b : ℕ) → a ≡ b → T (eqb a b)
same a b e = subst (λ (x : ℕ). T (eqb a x)) e (eqb_refl a)

both_from : (a b : Bool) → T a → T b → T (both a b)
both_from true b t u = u
both_from false b t u = absurd t

-- a divisor of d is at most 14
small : (d k : ℕ) → 2 ≤ d → d ≤ 14 → d % k ≡ 0 → k < 15
small d k lo hi e = at_most (cases_lt d k)
  where
    at_most : (d < k) ⊎ (k ≤ d) → k < 15
    at_most (inl h) = absurd (let q : d % k ≡ d = mod-eq_of_lt h in omega arith)
    at_most (inr h) = omega arith

module _ (d d' : ℕ) (z : Sized d d') where
  stands_is : (j : ℕ) → j < chunks_of d d' →
      (row_at d d' j < rows_of d d') × (column_at d d' j < d') × (chunk_at d d' (row_at d d' j) (column_at d d' j) ≡ j)
  unfolding stands
  stands_is j h =
      let a : Bool = ltb (row_at d d' j) (rows_of d d') in
      let b : Bool = ltb (column_at d d' j) d' in
      let c : Bool = eqb (chunk_at d d' (row_at d d' j) (column_at d d' j)) j in
      let t : T (both a (both b c)) =
      below (λ j. stands d d' j) (chunks_of d d') (of (λ a b. every (λ j. stands a b j) 0 (chunks_of a b)) tested.stands_pass z) j h in
      let r = both_right a (both b c) t in
      (ltb→lt _ _ (both_left a (both b c) t), ltb→lt _ _ (both_left b c r), eqb→eq _ _ (both_right b c r))

  filled_is : (i c : ℕ) → i < rows_of d d' → c < d' →
      (chunk_at d d' i c < chunks_of d d') × (row_at d d' (chunk_at d d' i c) ≡ i) × (column_at d d' (chunk_at d d' i c) ≡ c)
  unfolding filled
  filled_is i c hi hc =
      let a : Bool = ltb (chunk_at d d' i c) (chunks_of d d') in
      let b : Bool = eqb (row_at d d' (chunk_at d d' i c)) i in
      let e : Bool = eqb (column_at d d' (chunk_at d d' i c)) c in
      let t : T (both a (both b e)) =
      below (λ c. filled d d' i c) d'
      (below (λ i. every (λ c. filled d d' i c) 0 d') (rows_of d d')
      (of (λ a b. every (λ i. every (λ c. filled a b i c) 0 b) 0 (rows_of a b)) tested.filled_pass z) i hi) c hc in
      let r = both_right a (both b e) t in
      (ltb→lt _ _ (both_left a (both b e) t), eqb→eq _ _ (both_left b e r), eqb→eq _ _ (both_right b e r))

  coefficient_is : (j : ℕ) → j < chunks_of d d' → (coeff_at d d' j < spread_of d d' * d') × (column_at d d' j ≡ coeff_at d d' j % d')
  unfolding coefficient
  coefficient_is j h =
      let a : Bool = ltb (coeff_at d d' j) (spread_of d d' * d') in
      let b : Bool = eqb (column_at d d' j) (coeff_at d d' j % d') in
      let t : T (both a b) =
      below (λ j. coefficient d d' j) (chunks_of d d') (of (λ a b. every (λ j. coefficient a b j) 0 (chunks_of a b)) tested.coefficient_pass z) j h in
      (ltb→lt _ _ (both_left a b t), eqb→eq _ _ (both_right a b t))

  apart_is : (s e f : ℕ) → s < stripes_of d d' → e < d → f < d → coeff_at d d' (s * d + e) ≡ coeff_at d d' (s * d + f) → e ≡ f
  unfolding apart
  apart_is s e f hs he hf p =
      eqb→eq e f
      (implied (eqb (coeff_at d d' (s * d + e)) (coeff_at d d' (s * d + f))) (eqb e f)
      (below (λ f. apart d d' s e f) d
      (below (λ e. every (λ f. apart d d' s e f) 0 d) d
      (below (λ s. every (λ e. every (λ f. apart d d' s e f) 0 d) 0 d) (stripes_of d d')
      (of (λ a b. every (λ s. every (λ e. every (λ f. apart a b s e f) 0 a) 0 a) 0 (stripes_of a b)) tested.apart_pass z) s hs) e he) f hf)
      (same _ _ p))

  home_right_is : (s : ℕ) → s < stripes_of d d' → (home_of d d' s < rows_of d d') × (d ≤ d' → home_of d d' s ≡ row_at d d' (s * d))
  unfolding home_right
  home_right_is s h =
      let a : Bool = ltb (home_of d d' s) (rows_of d d') in
      let e : Bool = eqb (home_of d d' s) (row_at d d' (s * d)) in
      let b : Bool = either (notb (leb d d')) e in
      let t : T (both a b) =
      below (λ s. home_right d d' s) (stripes_of d d') (of (λ a b. every (λ s. home_right a b s) 0 (stripes_of a b)) tested.home_right_pass z) s h in
      (ltb→lt _ _ (both_left a b t), λ w. eqb→eq _ _ (implied (leb d d') e (both_right a b t) (le→leb d d' w)))

  greatest_is : (k : ℕ) → d % k ≡ 0 → d' % k ≡ 0 → k ≤ gcd_of d d'
  unfolding common
  greatest_is k p q =
      leb→le k (gcd_of d d')
      (implied (both (eqb (d % k) 0) (eqb (d' % k) 0)) (leb k (gcd_of d d'))
      (below (λ k. common d d' k) 15 (of (λ a b. every (λ k. common a b k) 0 15) tested.greatest_pass z) k (small d k z.low z.high p))
      (both_from (eqb (d % k) 0) (eqb (d' % k) 0) (same _ _ p) (same _ _ q)))

  divides_is : (d % gcd_of d d' ≡ 0) × (d' % gcd_of d d' ≡ 0)
  divides_is =
      let a : Bool = eqb (d % gcd_of d d') 0 in
      let b : Bool = eqb (d' % gcd_of d d') 0 in
      let t : T (both a b) = of (λ a b. both (eqb (a % gcd_of a b) 0) (eqb (b % gcd_of a b) 0)) tested.divides_pass z in
      (eqb→eq _ _ (both_left a b t), eqb→eq _ _ (both_right a b t))

  -- the count of the chunks outside the home rows is the formula's
  pub outside_is : outside_home (placement d d') ≡ cond (leb d d') (beta_of d d' * (d - d' % d)) (stripes_of d d' * (d - d'))
  outside_is =
      eqb→eq _ _
      (of (λ a b. eqb (outside_home (placement a b)) (cond (leb a b) (beta_of a b * (a - b % a)) (stripes_of a b * (a - b)))) tested.outside_pass z)

  few_is : (s c : ℕ) → s < stripes_of d d' → c < d' → in_column (placement d d') s c ≤ spread_of d d'
  few_is s c hs hc =
      leb→le _ _
      (below (λ c. leb (in_column (placement d d') s c) (spread_of d d')) d'
      (below (λ s. every (λ c. leb (in_column (placement d d') s c) (spread_of d d')) 0 d') (stripes_of d d')
      (of (λ a b. every (λ s. every (λ c. leb (in_column (placement a b) s c) (spread_of a b)) 0 b) 0 (stripes_of a b)) tested.few_pass z) s hs) c hc)

  stripe_apart_is : (i j : ℕ) → i < chunks_of d d' → j < chunks_of d d' → i / d ≡ j / d → coeff_at d d' i ≡ coeff_at d d' j → i ≡ j
  stripe_apart_is i j hi hj s p =
      let x = coeff_at d d' in
      let at_i : i / d * d + i % d ≡ i = div-add-mod' i d in
      let at_j : i / d * d + j % d ≡ j = rw s (div-add-mod' j d) in
      let q : i % d ≡ j % d =
      apart_is (i / d) (i % d) (j % d) (div_below i d (stripes_of d d') (omega (arith, z.low)) (omega (arith, hi, by_stripe z)))
      (mod_below i d (omega (arith, z.low))) (mod_below j d (omega (arith, z.low))) (ap x at_i ∙ (p ∙ sym (ap x at_j))) in
      sym at_i ∙ (ap (λ (e : ℕ). i / d * d + e) q ∙ at_j)

  row_apart_is : (i j : ℕ) → i < chunks_of d d' → j < chunks_of d d' → row_at d d' i ≡ row_at d d' j → coeff_at d d' i ≡ coeff_at d d' j → i ≡ j
  row_apart_is i j hi hj r p =
      let c : column_at d d' i ≡ column_at d d' j =
      (coefficient_is i hi).1 ∙ (ap (λ (x : ℕ). x % d') p ∙ sym (coefficient_is j hj).1) in
      sym (stands_is i hi).2 ∙ (ap (λ (a : ℕ). chunk_at d d' a (column_at d d' i)) r ∙ (ap (chunk_at d d' (row_at d d' j)) c ∙ (stands_is j hj).2))

  promised : Promises (placement d d')
  promised = record {
    by_stripe = by_stripe z;
    by_row = by_row z;
    in_rows = λ j h. (stands_is j h).0;
    in_columns = λ j h. (stands_is j h).1;
    back = λ j h. (stands_is j h).2;
    filled = λ i c hi hc. (filled_is i c hi hc).0;
    filled_row = λ i c hi hc. (filled_is i c hi hc).1;
    filled_column = λ i c hi hc. (filled_is i c hi hc).2;
    home_in = λ s h. (home_right_is s h).0;
    x_below = λ j h. (coefficient_is j h).0;
    stripe_apart = stripe_apart_is;
    row_apart = row_apart_is;
    few = few_is;
  }

  home_narrow_is : d' < d → (s : ℕ) → home_of d d' s ≡ s * (d / d') + d / d' - 1
  unfolding home_of
  home_narrow_is h s = cond-false (leb d d') _ _ (lt-leb d d' h)

  pub placed : Placed d d'
  placed = record {
    promises = promised;
    divides = divides_is;
    greatest = greatest_is;
    home_wide = λ w s h. (home_right_is s h).1 w;
    home_narrow = λ w s h. home_narrow_is w s;
    outside_wide = λ w. outside_is ∙ cond-true (leb d d') _ _ (le-leb d d' w);
    outside_narrow = λ w. outside_is ∙ cond-false (leb d d') _ _ (lt-leb d d' w);
  }
