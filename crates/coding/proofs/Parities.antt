-- How the parities of groups go with the groups and with what the chunks hold. Assumes nothing.
use Rattle.std.proofs.Common.{◌≡◌, ℕ, zero, suc, ◌<◌, Bool, true, false, cond, ◌&&◌, ◌||◌, ◌≢◌, sym, refl, ap, ◌∙◌}
use Rattle.field.specs.Arithmetic.{Arithmetic, Lawful}
use Rattle.field.specs.Sums.{total, minus, coefficient}
use Rattle.field.proofs.Ring.{cancel, mul-zero, back}
use Rattle.field.proofs.Codes.{Code, field, code, one_number, zero_below, code_zero, code_add, code_mul, code_minus, total_below}
use Rattle.coding.specs.Schemes.{Scheme}
use Rattle.coding.specs.Groups.{share, parity}
use Rattle.coding.proofs.Listed.{Lists}
use Rattle.coding.proofs.Sums as sums
use Rattle.coding.proofs.Sums.{Monoid, elements}

and_true : (b : Bool) → (b && true) ≡ b
and_true true = refl
and_true false = refl

module _ (A : Arithmetic) (L : Lawful A) where
  abbrev pub codes : Monoid (Code A L)
  codes = elements (field A L)

  pub code_total : (n : ℕ) (f : ℕ → ℕ) → code A L (total A n f) ≡ sums.sum codes n (λ j. code A L (f j))
  code_total zero f = code_zero A L
  code_total (suc n) f = code_add A L (total A n f) (f n) ∙ ap (λ z. (field A L).add z (code A L (f n))) (code_total n f)

  pub code_only : (b : Bool) (a : ℕ) → code A L (cond b a 0) ≡ sums.only codes b (code A L a)
  code_only true a = refl
  code_only false a = code_zero A L

  -- sums whose terms are equal, or count as the same codes
  pub total_codes : (n : ℕ) (f g : ℕ → ℕ) → ((j : ℕ) → j < n → code A L (f j) ≡ code A L (g j)) → total A n f ≡ total A n g
  total_codes n f g e =
      one_number A L _ _ (total_below A L n f) (total_below A L n g)
      (code_total n f ∙ sums.sum_same codes n (λ j. code A L (f j)) (λ j. code A L (g j)) e ∙ sym (code_total n g))

  pub total_same : (n : ℕ) (f g : ℕ → ℕ) → ((j : ℕ) → j < n → f j ≡ g j) → total A n f ≡ total A n g
  total_same n f g e = total_codes n f g (λ j lj. ap (code A L) (e j lj))

  -- the numbers' own cancelling, and what is taken away and added again
  pub cancelled : (a b c : ℕ) → a < A.order → b < A.order → A.add a c ≡ A.add b c → a ≡ b
  cancelled a b c la lb e =
      one_number A L a b la lb
      (cancel (field A L) (code A L a) (code A L b) (code A L c) (sym (code_add A L a c) ∙ ap (code A L) e ∙ code_add A L b c))

  pub restored : (a b : ℕ) → a < A.order → A.add (minus A a b) b ≡ a
  restored a b la =
      one_number A L _ _ (L.add-below _ _) la
      (code_add A L (minus A a b) b
      ∙ back (field A L) (code A L (minus A a b)) (code A L b) (code A L a) (code_minus A L a b))

module _ (A : Arithmetic) (L : Lawful A) (p : Scheme) (k : ℕ) where
  -- the coefficients as codes, and the terms of a parity
  unfoldable pub C : ℕ → Code A L
  C j = code A L (coefficient A k (p.x j))

  pub code_share : (j a : ℕ) → code A L (share A p k j a) ≡ (field A L).mul (C j) (code A L a)
  unfolding C
  code_share j a = code_mul A L (coefficient A k (p.x j)) a

  pub parity_below : (g : ℕ → Bool) (v : ℕ → ℕ) → parity A p g k v < A.order
  parity_below g v = total_below A L p.chunks (λ j. cond (g j) (share A p k j (v j)) 0)

  terms : (ℕ → Bool) → (ℕ → ℕ) → ℕ → Code A L
  terms g v j = sums.only (codes A L) (g j) ((field A L).mul (C j) (code A L (v j)))

  up : (g : ℕ → Bool) (v : ℕ → ℕ) → code A L (parity A p g k v) ≡ sums.sum (codes A L) p.chunks (terms g v)
  unfolding terms
  up g v =
      code_total A L p.chunks (λ j. cond (g j) (share A p k j (v j)) 0)
      ∙ sums.sum_same (codes A L) p.chunks (λ j. code A L (cond (g j) (share A p k j (v j)) 0)) (terms g v)
      (λ j lj. code_only A L (g j) (share A p k j (v j)) ∙ ap (λ z. sums.only (codes A L) (g j) z) (code_share j (v j)))

  -- a group's chunks hold the same
  pub same_chunks : (g : ℕ → Bool) (v w : ℕ → ℕ) → ((j : ℕ) → j < p.chunks → g j ≡ true → v j ≡ w j) → parity A p g k v ≡ parity A p g k w
  same_chunks g v w e =
      let each : (j : ℕ) → j < p.chunks → (b : Bool) → g j ≡ b → cond (g j) (share A p k j (v j)) 0 ≡ cond (g j) (share A p k j (w j)) 0 =
      λ j lj. elim [
        | true ↦ λ q. ap (λ z. cond (g j) (share A p k j z) 0) (e j lj q)
        | false ↦ λ q. ap (λ b. cond b (share A p k j (v j)) 0) q ∙ sym (ap (λ b. cond b (share A p k j (w j)) 0) q)
      ] in
      total_same A L p.chunks _ _ (λ j lj. each j lj (g j) refl)

  module _ (v : ℕ → ℕ) where
    -- groups of the same chunks
    pub same_group : (g h : ℕ → Bool) → ((j : ℕ) → j < p.chunks → g j ≡ h j) → parity A p g k v ≡ parity A p h k v
    same_group g h e = total_same A L p.chunks _ _ (λ j lj. ap (λ b. cond b (share A p k j (v j)) 0) (e j lj))

    -- a group of no chunks
    pub no_group : (g : ℕ → Bool) → ((j : ℕ) → j < p.chunks → g j ≡ false) → parity A p g k v ≡ 0
    unfolding terms
    no_group g e =
        one_number A L _ _ (parity_below g v) (zero_below A L)
        (up g v
        ∙ sums.sum_none (codes A L) p.chunks (terms g v) (λ j lj. ap (λ b. sums.only (codes A L) b ((field A L).mul (C j) (code A L (v j)))) (e j lj))
        ∙ sym (code_zero A L))

    -- a group in two parts
    pub two_groups : (a b g : ℕ → Bool) → ((j : ℕ) → j < p.chunks → (a j && b j) ≡ false) → ((j : ℕ) → j < p.chunks → g j ≡ (a j || b j)) →
        parity A p g k v ≡ A.add (parity A p a k v) (parity A p b k v)
    unfolding terms
    two_groups a b g apart is =
        one_number A L _ _ (parity_below g v) (L.add-below _ _)
        (up g v
        ∙ sums.sum_joined (codes A L) p.chunks a b g (λ j. (field A L).mul (C j) (code A L (v j))) apart is
        ∙ sym
        (code_add A L (parity A p a k v) (parity A p b k v)
        ∙ ap (λ z. (field A L).add z (code A L (parity A p b k v))) (up a v) ∙ ap (λ z. (field A L).add (sums.sum (codes A L) p.chunks (terms a v)) z) (up b v)))

    -- a group whose chunks are listed, and those of its chunks that pass a test
    pub listed_where : (n : ℕ) (g q : ℕ → Bool) (c h : ℕ → ℕ) → Lists p.chunks n g c h →
        parity A p (λ j. g j && q j) k v ≡ total A n (λ e. cond (q (c e)) (share A p k (c e) (v (c e))) 0)
    unfolding terms
    listed_where n g q c h lists =
        let both : ℕ → Bool = λ j. g j && q j in
        let term : ℕ → Code A L = λ j. (field A L).mul (C j) (code A L (v j)) in
        one_number A L _ _ (parity_below both v) (total_below A L n _)
        (up both v
        ∙ sums.sum_same (codes A L) p.chunks (terms both v) (λ j. sums.only (codes A L) (g j) (sums.only (codes A L) (q j) (term j))) (λ j lj. sums.nested (codes A L) (g j) (q j) (term j))
        ∙ sums.listed (codes A L) p.chunks n g c h lists (λ j. sums.only (codes A L) (q j) (term j))
        ∙ sym
        (code_total A L n (λ e. cond (q (c e)) (share A p k (c e) (v (c e))) 0)
        ∙ sums.sum_same (codes A L) n (λ e. code A L (cond (q (c e)) (share A p k (c e) (v (c e))) 0)) (λ e. sums.only (codes A L) (q (c e)) (term (c e)))
        (λ e le. code_only A L (q (c e)) (share A p k (c e) (v (c e))) ∙ ap (λ z. sums.only (codes A L) (q (c e)) z) (code_share (c e) (v (c e))))))

    pub listed : (n : ℕ) (g : ℕ → Bool) (c h : ℕ → ℕ) → Lists p.chunks n g c h → parity A p g k v ≡ total A n (λ e. share A p k (c e) (v (c e)))
    listed n g c h lists = same_group g (λ j. g j && true) (λ j lj. sym (and_true (g j))) ∙ listed_where n g (λ _. true) c h lists

  -- chunks that hold nothing
  pub no_chunks : (g : ℕ → Bool) (v : ℕ → ℕ) → ((j : ℕ) → j < p.chunks → v j ≡ 0) → parity A p g k v ≡ 0
  unfolding terms
  no_chunks g v e =
      one_number A L _ _ (parity_below g v) (zero_below A L)
      (up g v
      ∙ sums.sum_none (codes A L) p.chunks (terms g v)
      (λ j lj.
      ap (λ z. sums.only (codes A L) (g j) ((field A L).mul (C j) (code A L z))) (e j lj)
      ∙ ap (λ z. sums.only (codes A L) (g j) ((field A L).mul (C j) z)) (code_zero A L)
      ∙ ap (λ z. sums.only (codes A L) (g j) z) (mul-zero (field A L) (C j)) ∙ sums.nothing (codes A L) (g j))
      ∙ sym (code_zero A L))

  -- one chunk changes
  pub one_chunk : (g : ℕ → Bool) (v w : ℕ → ℕ) (i : ℕ) → i < p.chunks → ((j : ℕ) → j < p.chunks → i ≢ j → w j ≡ v j) →
      parity A p g k w ≡ A.add (parity A p g k v) (cond (g i) (share A p k i (minus A (w i) (v i))) 0)
  unfolding terms
  one_chunk g v w i li others =
      let step : ℕ = cond (g i) (share A p k i (minus A (w i) (v i))) 0 in
      let step_is : code A L step ≡ (field A L).add (terms g w i) ((field A L).neg (terms g v i)) =
      code_only A L (g i) (share A p k i (minus A (w i) (v i)))
      ∙ ap (λ z. sums.only (codes A L) (g i) z) (code_share i (minus A (w i) (v i)))
      ∙ ap (λ z. sums.only (codes A L) (g i) ((field A L).mul (C i) z)) (code_minus A L (w i) (v i))
      ∙ sym (sums.only_less (field A L) (g i) (C i) (code A L (v i)) (code A L (w i))) in
      one_number A L _ _ (parity_below g w) (L.add-below _ _)
      (up g w
      ∙ sums.sum_changed (field A L) p.chunks i (terms g v) (terms g w) li
      (λ j lj ne. ap (λ z. sums.only (codes A L) (g j) ((field A L).mul (C j) (code A L z))) (others j lj ne))
      ∙ sym
      (code_add A L (parity A p g k v) step
      ∙ ap (λ z. (field A L).add z (code A L step)) (up g v) ∙ ap (λ z. (field A L).add (sums.sum (codes A L) p.chunks (terms g v)) z) step_is))
