-- The solutions for the unit sides are the columns of an inverse. Assumes nothing.
use Rattle.std.proofs.Common.{◌≡◌, ℕ, zero, suc, ◌<◌, ◌≤◌, ◌≢◌, List, [], ◌∷◌, get_or, sym, refl, ap, ◌∙◌, subst, inr, ⊎_elim, arith, get_or-set_other, get_or-set_same}
use mathlib.Core.Logic.{by_cases}
use native.Mathlib.Fin
use native.Mathlib.Decide.{ℕ_discrete, dec_lt}
use lib.ListN.{get_or-replicate}
use Rattle.std.proofs.lemmas.List.{get_or_past}
use Rattle.field.specs.Arithmetic.{Arithmetic, Lawful}
use Rattle.field.specs.Sums.{total}
use Rattle.field.specs.Systems.{at, Codes, Solves, Inverse, cauchy, Posed}
use Rattle.field.specs.Elimination.{unit, Units, Transposed}
use Rattle.field.proofs.Codes.{Code, field, code, code_is, code_zero, zero_below, zero-mul, total_rest, dot_is, sums_same, up, down}
use Rattle.field.proofs.Steps.{xpoint, ypoint, points, cauchy_is}
use Rattle.field.proofs.Linear as linear
use Rattle.field.proofs.Unique as unique

abbrev zeros : List ℕ
zeros = 0 ∷ 0 ∷ 0 ∷ 0 ∷ []

unit_one : (k : ℕ) → k < 4 → get_or (unit k) k 0 ≡ 1
unit_one k h = get_or-set_same zeros k 1 0 h

unit_none : (k i : ℕ) → i < 4 → i ≢ k → get_or (unit k) i 0 ≡ 0
unit_none k i h ne = get_or-set_other zeros k i 1 0 ne ∙ get_or-replicate 4 i 0 0 h

pub unit_codes : (A : Arithmetic) → Lawful A → (k : ℕ) → k < 4 → Codes A 4 (unit k)
unit_codes A L k hk i hi =
    by_cases (ℕ_discrete i k)
    (λ (e : i ≡ k). subst (λ (m : ℕ). get_or (unit k) m 0 < A.order) (sym e) (subst (λ (x : ℕ). x < A.order) (sym (unit_one k hk)) L.two))
    (λ (ne : i ≢ k). subst (λ (x : ℕ). x < A.order) (sym (unit_none k i hi ne)) (zero_below A L))

module _ (A : Arithmetic) (L : Lawful A) (n : ℕ) (ks xs : List ℕ) (posed : Posed A n ks xs) (s : List (List ℕ)) (units : Units A n ks xs s) where
  abbrev K : ℕ → Code A L
  K = code A L

  abbrev M : ℕ → ℕ → ℕ
  M = cauchy A ks xs

  abbrev C : ℕ → ℕ → Code A L
  C i j = K (M i j)

  abbrev W : ℕ → ℕ → Code A L
  W k j = K (at s k j)

  solved : (k : ℕ) → k < n → (i : ℕ) → i < n → linear.dot (field A L) n (C i) (W k) ≡ K (get_or (unit k) i 0)
  solved k hk = let few = posed.few in up A L n M (unit k) (get_or s k []) (λ i hi. unit_codes A L k (omega arith) i (omega arith)) ((units k (omega arith)).is hk).solves

  field_units : unique.Units (field A L) n C W
  field_units =
      let few = posed.few in
      record {
        one = λ i hi. solved i hi i hi ∙ ap K (unit_one i (omega arith)) ∙ Fin.val_path (code_is A L 1 L.two);
        none = λ i k hi hk ne. solved k hk i hi ∙ ap K (unit_none k i (omega arith) ne) ∙ code_zero A L;
      }

  dot_same : (m : ℕ) (f u v : ℕ → Code A L) → ((j : ℕ) → j < m → u j ≡ v j) → linear.dot (field A L) m f u ≡ linear.dot (field A L) m f v
  dot_same zero f u v h = refl
  dot_same (suc m) f u v h =
      ap (λ z. (field A L).add z ((field A L).mul (f m) (u m))) (dot_same m f u v (λ j l. h j (omega arith)))
      ∙ ap (λ z. (field A L).add (linear.dot (field A L) m f v) ((field A L).mul (f m) z)) (h m (omega arith))

  module _ (b u : List ℕ) (hb : Codes A n b) (hu : Codes A n u) where
    mixed : ℕ → Code A L
    mixed j = linear.dot (field A L) n (λ k. W k j) (λ k. K (get_or b k 0))

    mixed_is : (j : ℕ) → (mixed j).0 ≡ total A n (λ k. A.mul (at s k j) (get_or b k 0))
    unfolding mixed
    mixed_is j = dot_is A L n (λ k. at s k j) (λ k. get_or b k 0)

    mixed_solves : linear.Solves (field A L) n C (λ k. K (get_or b k 0)) mixed
    unfolding mixed
    mixed_solves = unique.combine (field A L) n C (λ k. K (get_or b k 0)) W field_units

    gives : ((j : ℕ) → j < n → get_or u j 0 ≡ total A n (λ k. A.mul (at s k j) (get_or b k 0))) → Solves A n M b u
    gives e =
        down A L n M b u hb
        (λ i hi.
        dot_same n (C i) (λ j. K (get_or u j 0)) mixed (λ j hj. Fin.val_path (code_is A L (get_or u j 0) (hu j hj) ∙ e j hj ∙ sym (mixed_is j)))
        ∙ mixed_solves i hi)

    takes : Solves A n M b u → (j : ℕ) → j < n → get_or u j 0 ≡ total A n (λ k. A.mul (at s k j) (get_or b k 0))
    takes e j hj =
        let same =
        unique.unique (field A L) n (xpoint A L n ks xs) (ypoint A L n ks xs) C (λ k. K (get_or b k 0)) (λ m. K (get_or u m 0)) mixed
        (points A L n ks xs posed) (λ i m _ _. cauchy_is A L n ks xs i m) (up A L n M b u hb e) mixed_solves j hj in
        sym (code_is A L (get_or u j 0) (hu j hj)) ∙ ap (λ (q : Code A L). q.0) same ∙ mixed_is j

  -- the columns of w are these solutions
  module _ (w : List (List ℕ)) (columns : Transposed s w) where
    turned : (j : ℕ) (b : List ℕ) → j < n → total A n (λ i. A.mul (at w j i) (get_or b i 0)) ≡ total A n (λ i. A.mul (at s i j) (get_or b i 0))
    turned j b hj = let few = posed.few in sums_same A n (λ i. at s i j) (λ i. at w j i) (λ i. get_or b i 0) (λ i hi. (columns.columns j (omega arith)).is i (omega arith))

    -- past the end there is zero
    past : (j i : ℕ) → (j < 4 → i < 4 → ⊥) → at w j i ≡ 0
    past j i out =
        by_cases (dec_lt j 4)
        (λ (hj : j < 4). get_or_past (get_or w j []) i 0 (let l : i < 4 → ⊥ = out hj in omega (arith, (columns.columns j hj).size)))
        (λ (nj : j < 4 → ⊥). ap (λ (r : List ℕ). get_or r i 0) (get_or_past w j [] (omega (arith, columns.size))))

    -- what holds of zero and of the solutions' entries holds of all entries
    each : (P : ℕ → Type 0) (j i : ℕ) → P 0 → (j < 4 → i < 4 → P (at s i j)) → P (at w j i)
    each P j i none some =
        by_cases (dec_lt j 4)
        (λ (hj : j < 4).
        by_cases (dec_lt i 4)
        (λ (hi : i < 4). subst P (sym ((columns.columns j hj).is i hi)) (some hj hi))
        (λ (ni : i < 4 → ⊥). subst P (sym (past j i (λ _ hi. ni hi))) none))
        (λ (nj : j < 4 → ⊥). subst P (sym (past j i (λ hj _. nj hj))) none)

    pub inverted : Inverse A n ks xs w
    inverted =
        record {
          size = columns.size;
          wide = λ j h. (columns.columns j h).size;
          codes = λ j i.
              each (λ x. x < A.order) j i (zero_below A L)
              (λ hj hi.
              by_cases (dec_lt i n)
              (λ (l : i < n). ((units i hi).is l).codes j hj)
              (λ (out : i < n → ⊥). subst (λ (x : ℕ). x < A.order) (sym ((units i hi).rest j (omega arith))) (zero_below A L)));
          solves = λ b u hb hu e. gives b u hb hu (λ j hj. e j hj ∙ turned j b hj);
          only = λ b u hb hu e j hj. takes b u hb hu e j hj ∙ sym (turned j b hj);
          rest = λ j i out.
              each (λ x. x ≡ 0) j i refl
              (λ hj hi.
              by_cases (dec_lt i n)
              (λ (l : i < n). ((units i hi).is l).rest j (⊎_elim (λ (h : n ≤ j). h) (λ (h : n ≤ i). omega arith) out))
              (λ (past-n : i < n → ⊥). (units i hi).rest j (omega arith)));
        }

-- for callers: the zeros past n add nothing, so that a sum over all four places gives the unknown
pub all_places : (A : Arithmetic) → Lawful A → (n : ℕ) (ks xs : List ℕ) (w : List (List ℕ)) → n ≤ 4 → Inverse A n ks xs w → (j : ℕ) (b : List ℕ) →
    total A 4 (λ i. A.mul (at w j i) (get_or b i 0)) ≡ total A n (λ i. A.mul (at w j i) (get_or b i 0))
all_places A L n ks xs w few inverse j b =
    total_rest A L n 4 (λ i. A.mul (at w j i) (get_or b i 0)) few
    (λ i h. ap (λ (x : ℕ). A.mul x (get_or b i 0)) (inverse.rest j i (inr h)) ∙ zero-mul A L (get_or b i 0))
