-- The elimination of a posed system, step by step, on the codes. Assumes nothing.
use Rattle.std.proofs.Common.{◌≡◌, ℕ, ◌+◌, ◌<◌, ◌≤◌, ◌≢◌, List, length, get_or, sym, ap, ◌∙◌, subst, arith}
use mathlib.Core.Logic.{by_cases}
use native.Mathlib.Decide.{dec_lt, ℕ_discrete}
use Rattle.std.proofs.lemmas.List.{get_or_past}
use Rattle.field.specs.Arithmetic.{Arithmetic, Lawful}
use Rattle.field.specs.Sums.{minus}
use Rattle.field.specs.Systems.{at, Codes, Solves, Solution, cauchy, Posed}
use Rattle.field.specs.Elimination.{Grid, First, Coefficients, Stepped, Same}
use Rattle.field.proofs.Codes.{Code, nought, zero_below, zero-mul, field, code, code_is, code_zero, code_mul, code_inv, code_minus, one_number, sums_same, up, down}
use Rattle.field.proofs.Linear as linear

module _ (A : Arithmetic) (L : Lawful A) where
  abbrev K : ℕ → Code A L
  K = code A L

  module _ (c : ℕ) (a : List (List ℕ)) (b : List ℕ) (a' : List (List ℕ)) (b' : List ℕ) (step : Stepped A c a b a' b') where
    -- a step gives codes
    pub stepped_grid : Grid A a'
    stepped_grid i j hi hj =
        by_cases (ℕ_discrete i c)
        (λ (e : i ≡ c). subst (λ (k : ℕ). at a' k j < A.order) (sym e) (subst (λ (x : ℕ). x < A.order) (sym (step.row j hj)) (L.mul-below _ _)))
        (λ (ne : i ≢ c). subst (λ (x : ℕ). x < A.order) (sym (step.rows i j hi hj ne)) (L.add-below _ _))

    pub stepped_codes : Codes A 4 b'
    stepped_codes i hi =
        by_cases (ℕ_discrete i c)
        (λ (e : i ≡ c). subst (λ (k : ℕ). get_or b' k 0 < A.order) (sym e) (subst (λ (x : ℕ). x < A.order) (sym step.side) (L.mul-below _ _)))
        (λ (ne : i ≢ c). subst (λ (x : ℕ). x < A.order) (sym (step.sides i hi ne)) (L.add-below _ _))

    -- it is a step in the field
    pub stepped_up : (n : ℕ) → n ≤ 4 → c < n →
        linear.Step (field A L) n c (λ i j. K (at a i j)) (λ i. K (get_or b i 0)) (λ i j. K (at a' i j)) (λ i. K (get_or b' i 0))
    stepped_up n few l =
        record {
          row = λ j hj. ap K (step.row j (omega arith)) ∙ code_mul A L _ _ ∙ ap (λ z. (field A L).mul z (K (at a c j))) (code_inv A L (at a c c));
          side = ap K step.side ∙ code_mul A L _ _ ∙ ap (λ z. (field A L).mul z (K (get_or b c 0))) (code_inv A L (at a c c));
          rows = λ i j hi hj ne.
              ap K (step.rows i j (omega arith) (omega arith) ne) ∙ code_minus A L _ _
              ∙ ap (λ z. (field A L).add (K (at a i j)) ((field A L).neg z)) (code_mul A L (at a i c) (at a' c j));
          sides = λ i hi ne.
              ap K (step.sides i (omega arith) ne) ∙ code_minus A L _ _
              ∙ ap (λ z. (field A L).add (K (get_or b i 0)) ((field A L).neg z)) (code_mul A L (at a i c) (get_or b' c 0));
        }

    -- at a pivot that is not zero it keeps the solutions
    pub same : (n : ℕ) → n ≤ 4 → c < n → Grid A a → Codes A 4 b → (at a c c ≡ 0 → ⊥) → Same A n a b a' b'
    same n few l grid codes some =
        let up_step = stepped_up n few l in
        let pivot : K (at a c c) ≡ nought A L → ⊥ = λ e. some (sym (code_is A L (at a c c) (grid c c (omega arith) (omega arith))) ∙ ap (λ (q : Code A L). q.0) e) in
        let b-n : Codes A n b = λ i hi. codes i (omega arith) in
        let b-n' : Codes A n b' = λ i hi. stepped_codes i (omega arith) in
        record {
          keeps = λ u e.
              down A L n (at a') b' u b-n'
              (linear.keeps (field A L) n c (λ i j. K (at a i j)) (λ i. K (get_or b i 0)) (λ i j. K (at a' i j)) (λ i. K (get_or b' i 0)) l pivot up_step (λ j. K (get_or u j 0))
              (up A L n (at a) b u b-n e));
          gives = λ u e.
              down A L n (at a) b u b-n
              (linear.gives (field A L) n c (λ i j. K (at a i j)) (λ i. K (get_or b i 0)) (λ i j. K (at a' i j)) (λ i. K (get_or b' i 0)) l pivot up_step (λ j. K (get_or u j 0))
              (up A L n (at a') b' u b-n' e));
        }

  -- a row of zeros stays one
  nothing_less : (x : ℕ) → minus A 0 (A.mul 0 x) ≡ 0
  nothing_less x = ap (λ (z : ℕ). A.add 0 (A.neg z)) (zero-mul A L x) ∙ L.add-neg 0

  module _ (n : ℕ) (ks xs : List ℕ) where
    -- the points of the rows and the columns
    abbrev pub xpoint : ℕ → Code A L
    xpoint i = K (get_or ks i 0)

    abbrev pub ypoint : ℕ → Code A L
    ypoint j = K (4 + get_or xs j 0)

    -- the coefficients are inverses of differences of points
    pub cauchy_is : (i j : ℕ) → K (cauchy A ks xs i j) ≡ (field A L).inv ((field A L).add (xpoint i) ((field A L).neg (ypoint j)))
    cauchy_is i j = code_inv A L _ ∙ ap (field A L).inv (code_minus A L (get_or ks i 0) (4 + get_or xs j 0))

    -- the elimination of the system with the sides b has come to column c, with the matrix a and the sides s
    pub record Progress (b : List ℕ) (c : ℕ) (a : List (List ℕ)) (s : List ℕ) : Type 0 where
      pub size : length s ≡ 4
      pub grid : Grid A a
      pub codes : Codes A 4 s
      pub rows_rest : (i j : ℕ) → n ≤ i → i < 4 → j < 4 → at a i j ≡ 0
      pub sides_rest : (i : ℕ) → n ≤ i → i < 4 → get_or s i 0 ≡ 0
      pub shape : linear.Shape (field A L) n c xpoint ypoint (λ i j. K (at a i j))
      pub keeps : (u : List ℕ) → Solves A n (cauchy A ks xs) b u → Solves A n (at a) s u
      pub gives : (u : List ℕ) → Solves A n (at a) s u → Solves A n (cauchy A ks xs) b u

    module _ (posed : Posed A n ks xs) where
      rows_below : (i : ℕ) → i < n → get_or ks i 0 < A.order
      rows_below i h = omega (arith, posed.rows i h, posed.columns i h)

      pub points : linear.Points (field A L) n xpoint ypoint
      points =
          record {
            apart = λ i j hi hj e.
                let same : get_or ks i 0 ≡ 4 + get_or xs j 0 =
                one_number A L (get_or ks i 0) (4 + get_or xs j 0) (rows_below i hi) (posed.columns j hj) (linear.equal (field A L) (xpoint i) (ypoint j) e) in
                omega (arith, posed.rows i hi);
            x_once = λ i j hi hj ne e. posed.ks_once i j hi hj ne (one_number A L (get_or ks i 0) (get_or ks j 0) (rows_below i hi) (rows_below j hj) e);
            y_once = λ i j hi hj ne e.
                let same : 4 + get_or xs i 0 ≡ 4 + get_or xs j 0 = one_number A L (4 + get_or xs i 0) (4 + get_or xs j 0) (posed.columns i hi) (posed.columns j hj) e in
                posed.xs_once i j hi hj ne (omega arith);
          }

      pub begin : (b : List ℕ) (a : List (List ℕ)) (s : List ℕ) → Coefficients A n ks xs a → Codes A n b → First n b s → length s ≡ 4 → Progress b 0 a s
      begin b a s coefficients codes first size =
          let few = posed.few in
          let is : (i j : ℕ) → i < n → j < n → at a i j ≡ cauchy A ks xs i j = λ i j hi hj. (coefficients i (omega arith) j (omega arith)).is hi hj in
          record {
            size = size;
            grid = λ i j hi hj.
                by_cases (dec_lt i n)
                (λ (li : i < n).
                by_cases (dec_lt j n)
                (λ (lj : j < n). subst (λ (x : ℕ). x < A.order) (sym (is i j li lj)) (L.inv-below _))
                (λ (nj : j < n → ⊥). subst (λ (x : ℕ). x < A.order) (sym ((coefficients i hi j hj).column_rest (omega arith))) (zero_below A L)))
                (λ (ni : i < n → ⊥). subst (λ (x : ℕ). x < A.order) (sym ((coefficients i hi j hj).row_rest (omega arith))) (zero_below A L));
            codes = λ i hi.
                by_cases (dec_lt i n)
                (λ (li : i < n). subst (λ (x : ℕ). x < A.order) (sym (first.is i li)) (codes i li))
                (λ (ni : i < n → ⊥). subst (λ (x : ℕ). x < A.order) (sym (first.rest i (omega arith) hi)) (zero_below A L));
            rows_rest = λ i j h hi hj. (coefficients i hi j hj).row_rest h;
            sides_rest = first.rest;
            shape = linear.start (field A L) n xpoint ypoint (λ i j. K (at a i j)) (λ i j hi hj. ap K (is i j hi hj) ∙ cauchy_is i j);
            keeps = λ u e i hi. sums_same A n (cauchy A ks xs i) (at a i) (λ j. get_or u j 0) (λ j hj. is i j hi hj) ∙ e i hi ∙ sym (first.is i hi);
            gives = λ u e i hi. sums_same A n (at a i) (cauchy A ks xs i) (λ j. get_or u j 0) (λ j hj. sym (is i j hi hj)) ∙ e i hi ∙ first.is i hi;
          }

      -- the pivot is not zero
      pub pivot : (b : List ℕ) (c : ℕ) (a : List (List ℕ)) (s : List ℕ) → c < n → Progress b c a s → at a c c ≡ 0 → ⊥
      pivot b c a s l p e = linear.pivoted (field A L) n c xpoint ypoint (λ i j. K (at a i j)) l points p.shape (ap K e ∙ code_zero A L)

      pub advance : (b : List ℕ) (c : ℕ) (a : List (List ℕ)) (s : List ℕ) (a' : List (List ℕ)) (s' : List ℕ) → c < n → Progress b c a s → Stepped A c a s a' s' → length s' ≡ 4 →
          Progress b (c + 1) a' s'
      advance b c a s a' s' l p step size =
          let few = posed.few in
          let kept = same c a s a' s' step n few l p.grid p.codes (pivot b c a s l p) in
          record {
            size = size;
            grid = stepped_grid c a s a' s' step;
            codes = stepped_codes c a s a' s' step;
            rows_rest = λ i j h hi hj.
                let e = p.rows_rest i j h hi hj in
                let f = p.rows_rest i c h hi (omega arith) in
                step.rows i j hi hj (omega arith) ∙ ap (λ (x : ℕ). minus A x (A.mul (at a i c) (at a' c j))) e
                ∙ ap (λ (x : ℕ). minus A 0 (A.mul x (at a' c j))) f ∙ nothing_less (at a' c j);
            sides_rest = λ i h hi.
                let e = p.sides_rest i h hi in
                let f = p.rows_rest i c h hi (omega arith) in
                step.sides i hi (omega arith) ∙ ap (λ (x : ℕ). minus A x (A.mul (at a i c) (get_or s' c 0))) e
                ∙ ap (λ (x : ℕ). minus A 0 (A.mul x (get_or s' c 0))) f ∙ nothing_less (get_or s' c 0);
            shape =
                linear.next (field A L) n c xpoint ypoint (λ i j. K (at a i j)) (λ i. K (get_or s i 0)) (λ i j. K (at a' i j)) (λ i. K (get_or s' i 0)) l points p.shape
                (stepped_up c a s a' s' step n few l);
            keeps = λ u e. kept.keeps u (p.keeps u e);
            gives = λ u e. p.gives u (kept.gives u e);
          }

      pub finish : (b : List ℕ) (a : List (List ℕ)) (s : List ℕ) → Progress b n a s → Solution A n ks xs b s
      finish b a s p =
          let few = posed.few in
          let s-n : Codes A n s = λ i hi. p.codes i (omega arith) in
          let one : (u : List ℕ) (i : ℕ) → i < n → linear.dot (field A L) n (λ j. K (at a i j)) (λ j. K (get_or u j 0)) ≡ K (get_or u i 0) =
          λ u i hi. linear.solved (field A L) n xpoint ypoint (λ k j. K (at a k j)) (λ j. K (get_or u j 0)) p.shape i hi in
          record {
            size = p.size;
            codes = p.codes;
            solves = p.gives s (down A L n (at a) s s s-n (one s));
            only = λ v hv e j hj.
                one_number A L (get_or v j 0) (get_or s j 0) (hv j hj) (s-n j hj) (sym (one v j hj) ∙ up A L n (at a) s v s-n (p.keeps v e) j hj);
            rest = λ j h.
                by_cases (dec_lt j 4)
                (λ (l : j < 4). p.sides_rest j h l)
                (λ (past : j < 4 → ⊥). get_or_past s j 0 (omega (arith, p.size)));
          }
