-- What a repair answers is a word of the group's code. Assumes nothing.
use Rattle.std.proofs.Common.{◌≡◌, ℕ, zero, suc, ◌+◌, ◌<◌, ◌≤◌, Bool, true, false, cond, not, ◌&&◌, ltb, ◌≢◌, List, [], length, get_or, set, replicate, Some, None, Option, sym, refl, ap, ◌∙◌, subst, inr, ⊎_elim, not-suc-le-zero, arith, length-set, get_or-set_other, get_or-set_same}
use mathlib.Core.Logic.{by_cases}
use native.Mathlib.Decide.{ℕ_discrete}
use lib.ListN.{get_or-replicate}
use Rattle.std.proofs.lemmas.Bool.{cases_lt, both_ways, and_parts, and_from, ltb-true, lt-ltb}
use Rattle.field.specs.Arithmetic.{Arithmetic, Lawful}
use Rattle.field.specs.Sums.{total, minus, coefficient}
use Rattle.field.specs.Systems.{at, Solves, cauchy}
use Rattle.field.proofs.Ring as ring
use Rattle.field.proofs.Codes.{field, code, one_number, zero_below, code_zero, code_add, code_mul, zero-mul, total_below, total_rest}
use Rattle.rack.specs.Meaning.{Meaning, Bounded}
use Rattle.coding.specs.declared.group.Kind.{Kind}
use Rattle.coding.specs.declared.repair.Repair.{Repair}
use Rattle.coding.specs.Schemes.{Scheme}
use Rattle.coding.specs.Groups.{size, parities, member, chunk_of, index_of, slot_of, share, parity, count}
use Rattle.coding.specs.Words.{used}
use Rattle.coding.specs.Pieces.{slot_at}
use Rattle.coding.specs.Steps.{scattered}
use Rattle.coding.specs.Repairs.{Ready, Known, Sources, Sides, Unknowns, Rebuilt, used_parity}
use Rattle.coding.proofs.Listed.{Lists}
use Rattle.coding.proofs.Sums as sums
use Rattle.coding.proofs.Chosen as chosen
use Rattle.coding.proofs.Parities.{codes, code_total, total_same, restored}
use Rattle.coding.proofs.Grouping as grouping
use Rattle.coding.proofs.Weighted.{weighted}

-- what is put in its places stands there, where no place comes twice
module _ {X : Type 0} (a : List X) (places : List ℕ) (us : ℕ → X) (d : X) where
  -- of equal elements
  pub scattered_same : (vs : ℕ → X) (n : ℕ) → ((j : ℕ) → j < n → vs j ≡ us j) → scattered a places vs n ≡ scattered a places us n
  scattered_same vs zero h = refl
  scattered_same vs (suc n) h =
      ap (λ xs. set xs (get_or places n 0) (vs n)) (scattered_same vs n (λ j l. h j (omega arith))) ∙ ap (set (scattered a places us n) (get_or places n 0)) (h n (omega arith))

  pub scattered_length : (n : ℕ) → length (scattered a places us n) ≡ length a
  scattered_length zero = refl
  scattered_length (suc n) = length-set (scattered a places us n) (get_or places n 0) (us n) ∙ scattered_length n

  pub scattered_other : (n e : ℕ) → ((j : ℕ) → j < n → get_or places j 0 ≢ e) → get_or (scattered a places us n) e d ≡ get_or a e d
  scattered_other zero e h = refl
  scattered_other (suc n) e h =
      get_or-set_other (scattered a places us n) (get_or places n 0) e (us n) d (λ s. h n (omega arith) (sym s)) ∙ scattered_other n e (λ j l. h j (omega arith))

  pub scattered_at : (n j : ℕ) → j < n → ((k : ℕ) → k < n → get_or places k 0 < length a) → ((i k : ℕ) → i < n → k < n → get_or places i 0 ≡ get_or places k 0 → i ≡ k) →
      get_or (scattered a places us n) (get_or places j 0) d ≡ us j
  scattered_at zero j l inside once = absurd (not-suc-le-zero l)
  scattered_at (suc n) j l inside once =
      by_cases (ℕ_discrete j n)
      (λ (s : j ≡ n).
      subst (λ (i : ℕ). get_or (scattered a places us (suc n)) (get_or places i 0) d ≡ us i) (sym s)
      (get_or-set_same (scattered a places us n) (get_or places n 0) (us n) d (omega (arith, scattered_length n, inside n (omega arith)))))
      (λ (ne : j ≢ n).
      get_or-set_other (scattered a places us n) (get_or places n 0) (get_or places j 0) (us n) d (λ s. ne (once j n (omega arith) (omega arith) s))
      ∙ scattered_at n j (omega arith) (λ k h. inside k (omega arith)) (λ i k hi hk. once i k (omega arith) (omega arith)))

module _ (A : Arithmetic) (L : Lawful A) where
  -- a sum of products in two parts: over what is known, and over a list of what is not
  module _ (n m : ℕ) (gone : ℕ → Bool) (js at : ℕ → ℕ) (lists : Lists n m gone js at) (c a b : ℕ → ℕ)
      (none : (e : ℕ) → e < n → gone e ≡ true → b e ≡ 0) (same : (e : ℕ) → e < n → gone e ≡ false → a e ≡ b e) where
    each : (e : ℕ) → e < n → (q : Bool) → gone e ≡ q →
        code A L (A.mul (c e) (a e)) ≡ (field A L).add (code A L (A.mul (c e) (b e))) (sums.only (codes A L) (gone e) (code A L (A.mul (c e) (a e))))
    each e h true q =
        let z : code A L (A.mul (c e) (b e)) ≡ (field A L).𝟘 =
        code_mul A L (c e) (b e) ∙ ap (λ x. (field A L).mul (code A L (c e)) (code A L x)) (none e h q) ∙ ap ((field A L).mul (code A L (c e))) (code_zero A L)
        ∙ ring.mul-zero (field A L) (code A L (c e)) in
        sym
        (ap (λ x. (field A L).add x (sums.only (codes A L) (gone e) (code A L (A.mul (c e) (a e))))) z
        ∙ ring.zero_add (field A L) (sums.only (codes A L) (gone e) (code A L (A.mul (c e) (a e)))) ∙ ap (λ t. sums.only (codes A L) t (code A L (A.mul (c e) (a e)))) q)
    each e h false q =
        ap (λ x. code A L (A.mul (c e) x)) (same e h q)
        ∙ sym
        (ap (λ t. (field A L).add (code A L (A.mul (c e) (b e))) (sums.only (codes A L) t (code A L (A.mul (c e) (a e))))) q
        ∙ ring.add-zero (field A L) (code A L (A.mul (c e) (b e))))

    pub split : total A n (λ e. A.mul (c e) (a e)) ≡ A.add (total A n (λ e. A.mul (c e) (b e))) (total A m (λ j. A.mul (c (js j)) (a (js j))))
    split =
        one_number A L _ _ (total_below A L n _) (L.add-below _ _)
        (code_total A L n (λ e. A.mul (c e) (a e))
        ∙ sums.sum_same (codes A L) n (λ e. code A L (A.mul (c e) (a e)))
        (λ e. (field A L).add (code A L (A.mul (c e) (b e))) (sums.only (codes A L) (gone e) (code A L (A.mul (c e) (a e)))))
        (λ e h. each e h (gone e) refl)
        ∙ sums.sum_add (codes A L) n (λ e. code A L (A.mul (c e) (b e))) (λ e. sums.only (codes A L) (gone e) (code A L (A.mul (c e) (a e))))
        ∙ ap (λ z. (field A L).add z (sums.sum (codes A L) n (λ e. sums.only (codes A L) (gone e) (code A L (A.mul (c e) (a e)))))) (sym (code_total A L n (λ e. A.mul (c e) (b e))))
        ∙ ap ((field A L).add (code A L (total A n (λ e. A.mul (c e) (b e)))))
        (sums.listed (codes A L) n m gone js at lists (λ e. code A L (A.mul (c e) (a e))) ∙ sym (code_total A L m (λ j. A.mul (c (js j)) (a (js j)))))
        ∙ sym (code_add A L _ _))

  module _ (p : Scheme) (t : Kind) (i : ℕ) (out : ℕ → Bool) (s : Repair) (ready : Ready A p t i out s) where
    abbrev gone : ℕ → Bool
    gone e = out (p.column (chunk_of p t i e))

    abbrev held : ℕ → Bool
    held k = not (out (p.d' + k))

    abbrev ms : ℕ → ℕ
    ms j = get_or s.missing j 0

    abbrev ks : ℕ → ℕ
    ks j = get_or s.parities j 0

    chunks_listed : Lists (size p t) s.count gone ms (count gone)
    chunks_listed =
        chosen.chunks_listed A L p ready.sound t i ready.inside out ready.enough s.count s.missing s.parities ready.count_is ready.missing_are ready.parities_are

    parities_listed : Lists (parities p t) s.count (used p t i out) ks (count held)
    parities_listed =
        chosen.parities_listed A L p ready.sound t i ready.inside out ready.enough s.count s.missing s.parities ready.count_is ready.missing_are ready.parities_are

    few : s.count ≤ 4
    few =
        chosen.few A L p ready.sound t i ready.inside out ready.enough s.count s.missing s.parities ready.count_is ready.missing_are ready.parities_are

    -- the parities that are used, by their numbers
    module _ (w : Meaning) (o : ℕ) (ps : List ℕ) (sources : Sources s w o ps) where
      abbrev blank : List (Option ℕ)
      blank = replicate 4 None

      abbrev all : List (Option ℕ)
      all = scattered blank s.parities (λ j. Some (get_or ps j 0)) s.count

      source_is : (j : ℕ) → j < s.count → get_or ps j 0 ≡ w.symbol (p.d' + ks j) (slot_of p t i) o
      source_is j h = sources j h ∙ ap (λ m. w.symbol m s.group.slot o) (ready.sources_are j h) ∙ ap (λ c. w.symbol (p.d' + ks j) c o) ready.grouped.slot_is

      once_used : (j k : ℕ) → j < s.count → k < s.count → ks j ≡ ks k → j ≡ k
      once_used j k hj hk e = sym (parities_listed.place j hj) ∙ ap (count held) e ∙ parities_listed.place k hk

      at_used : (j : ℕ) → j < s.count → get_or all (ks j) None ≡ Some (w.symbol (p.d' + ks j) (slot_of p t i) o)
      at_used j h =
          scattered_at blank s.parities (λ j. Some (get_or ps j 0)) None s.count j h
          (λ k l. let four : length blank ≡ 4 = refl in omega (arith, parities_listed.below k l, grouping.few_parities A p ready.sound t)) once_used
          ∙ ap (λ (x : ℕ). Some x) (source_is j h)

      uses_by : (k : ℕ) → k < 4 → (q : Bool) → (ltb k (parities p t) && used p t i out k) ≡ q → get_or all k None ≡ cond q (Some (w.symbol (p.d' + k) (slot_of p t i) o)) None
      uses_by k l true q =
          let b = and_parts (ltb k (parities p t)) (used p t i out k) q in
          let lk : k < parities p t = ltb-true k (parities p t) b.0 in
          subst (λ (x : ℕ). get_or all x None ≡ Some (w.symbol (p.d' + x) (slot_of p t i) o)) (parities_listed.back k lk b.1)
          (at_used (count held k) (parities_listed.placed k lk b.1))
      uses_by k l false q =
          scattered_other blank s.parities (λ j. Some (get_or ps j 0)) None s.count k
          (λ j h is.
          both_ways (ltb k (parities p t) && used p t i out k) q
          (and_from _ _ (lt-ltb k (parities p t) (omega (arith, parities_listed.below j h))) (ap (used p t i out) (sym is) ∙ parities_listed.pass j h)))
          ∙ get_or-replicate 4 k None None l

      pub uses : (k : ℕ) → k < 4 → get_or all k None ≡ used_parity p t i out w o k
      uses k l = uses_by k l (ltb k (parities p t) && used p t i out k) refl

    module _ (w : Meaning) (bounded : Bounded w) (order_is : w.order ≡ A.order) (o : ℕ) (a ps b u : List ℕ) (long : length a ≡ 14)
        (known : Known s w o a) (sources : Sources s w o ps) (sides : Sides A s a ps b) (unknowns : Unknowns A s b u) where
      r : List ℕ
      r = scattered a s.missing (λ j. get_or u j 0) s.count

      chunk : ℕ → ℕ
      chunk e = chunk_of p t i e

      once : (j k : ℕ) → j < s.count → k < s.count → ms j ≡ ms k → j ≡ k
      once j k hj hk e = sym (chunks_listed.place j hj) ∙ ap (count gone) e ∙ chunks_listed.place k hk

      at_missing : (j : ℕ) → j < s.count → get_or r (ms j) 0 ≡ get_or u j 0
      unfolding r
      at_missing j h =
          scattered_at a s.missing (λ j. get_or u j 0) 0 s.count j h (λ k l. omega (arith, chunks_listed.below k l, ready.grouped.short, long)) once

      at_left : (e : ℕ) → e < size p t → gone e ≡ false → get_or r e 0 ≡ get_or a e 0
      unfolding r
      at_left e l q =
          scattered_other a s.missing (λ j. get_or u j 0) 0 s.count e (λ j h is. both_ways (gone e) q (ap gone (sym is) ∙ chunks_listed.pass j h))

      at_rest : (e : ℕ) → size p t ≤ e → get_or r e 0 ≡ 0
      unfolding r
      at_rest e l =
          scattered_other a s.missing (λ j. get_or u j 0) 0 s.count e (λ j h is. omega (arith, chunks_listed.below j h, is))
          ∙ known.rest e (omega (arith, ready.grouped.size_is))

      symbol_below : (m c : ℕ) → w.symbol m c o < A.order
      symbol_below m c = omega (arith, bounded.below m c o, order_is)

      left_is : (e : ℕ) → e < size p t → gone e ≡ false → get_or r e 0 ≡ w.symbol (p.column (chunk e)) (p.row (chunk e)) o
      unfolding chunk
      left_is e l q =
          at_left e l q ∙ known.is e (omega (arith, ready.grouped.short)) (omega (arith, ready.grouped.size_is)) (ready.gone_is e l ∙ q)
          ∙ ap (λ m. w.symbol m (slot_at s.group e) o) (ready.grouped.modules_are e l) ∙ ap (λ c. w.symbol (p.column (chunk e)) c o) (ready.grouped.slots_are e l)

      u_below : (j : ℕ) → j < s.count → get_or u j 0 < A.order
      u_below j h = subst (λ x. x < A.order) (sym (unknowns j h)) (total_below A L 4 (λ i. A.mul (at s.inverse j i) (get_or b i 0)))

      b_below : (j : ℕ) → j < s.count → get_or b j 0 < A.order
      b_below j h = subst (λ x. x < A.order) (sym (sides j h)) (L.add-below _ _)

      within : (e : ℕ) → e < size p t → (q : Bool) → gone e ≡ q → get_or r e 0 < A.order
      within e l true q =
          let j = count gone e in
          let h = chunks_listed.placed e l q in
          subst (λ (k : ℕ). get_or r k 0 < A.order) (chunks_listed.back e l q) (subst (λ x. x < A.order) (sym (at_missing j h)) (u_below j h))
      within e l false q = subst (λ x. x < A.order) (sym (left_is e l q)) (symbol_below _ _)

      -- every symbol is a code
      r_below : (e : ℕ) → get_or r e 0 < A.order
      r_below e = ⊎_elim (λ (l : e < size p t). within e l (gone e) refl) (λ (l : size p t ≤ e). subst (λ x. x < A.order) (sym (at_rest e l)) (zero_below A L)) (cases_lt e (size p t))

      solved : Solves A s.count (cauchy A s.parities s.columns) b u
      solved =
          ready.inverse_is.solves b u b_below u_below
          (λ j h.
          unknowns j h
          ∙ total_rest A L s.count 4 (λ k. A.mul (at s.inverse j k) (get_or b k 0)) few
          (λ k l. ap (λ z. A.mul z (get_or b k 0)) (ready.inverse_is.rest j k (inr l)) ∙ zero-mul A L (get_or b k 0)))

      -- the equation of a parity that is used
      module _ (j : ℕ) (h : j < s.count) where
        weight : ℕ → ℕ
        weight e = coefficient A (ks j) (p.x (chunk e))

        symbol : ℕ
        symbol = w.symbol (p.d' + ks j) (slot_of p t i) o

        left : ℕ
        left = total A (size p t) (λ e. A.mul (weight e) (get_or a e 0))

        columns_are : (k : ℕ) → k < s.count → get_or s.columns k 0 ≡ p.x (chunk (ms k))
        unfolding chunk
        columns_are k l = ready.columns_are k l ∙ ready.grouped.xs_are (ms k) (chunks_listed.below k l)

        of_missing : total A s.count (λ k. A.mul (weight (ms k)) (get_or r (ms k) 0)) ≡ get_or b j 0
        unfolding weight
        of_missing =
            total_same A L s.count (λ k. A.mul (weight (ms k)) (get_or r (ms k) 0)) (λ k. A.mul (cauchy A s.parities s.columns j k) (get_or u k 0))
            (λ k l.
            ap (λ x. A.mul (coefficient A (ks j) x) (get_or r (ms k) 0)) (sym (columns_are k l))
            ∙ ap (λ z. A.mul (coefficient A (ks j) (get_or s.columns k 0)) z) (at_missing k l))
            ∙ solved j h

        of_left : total A 14 (λ e. A.mul (at s.coefficients j e) (get_or a e 0)) ≡ left
        unfolding left weight chunk
        of_left = weighted A L s.group p t i ready.grouped (ks j) (get_or s.coefficients j []) (ready.weights j h) (λ e. get_or a e 0)

        equation : total A (size p t) (λ e. A.mul (weight e) (get_or r e 0)) ≡ symbol
        unfolding left symbol
        equation =
            split (size p t) s.count gone ms (count gone) chunks_listed weight (λ e. get_or r e 0) (λ e. get_or a e 0)
            (λ e l q. known.none e (ready.gone_is e l ∙ q)) at_left
            ∙ ap (A.add left) (of_missing ∙ sides j h ∙ (λ i. minus A (source_is w o ps sources j h i) (of_left i)))
            ∙ L.add_comm left (minus A symbol left) ∙ restored A L symbol left (symbol_below _ _)

      v : ℕ → ℕ
      v j = get_or r (index_of p t j) 0

      members : Lists p.chunks (size p t) (member p t i) chunk (index_of p t)
      unfolding chunk
      members = grouping.members A p ready.sound t i ready.inside

      on_parity : (j : ℕ) → j < s.count → parity A p (member p t i) (ks j) v ≡ w.symbol (p.d' + ks j) (slot_of p t i) o
      unfolding v chunk weight symbol
      on_parity j h =
          grouping.group_sum A p ready.sound L (ks j) v i t ready.inside
          ∙ total_same A L (size p t) (λ e. share A p (ks j) (chunk e) (v (chunk e))) (λ e. A.mul (weight j h e) (get_or r e 0))
          (λ e l. ap (λ k. A.mul (weight j h e) (get_or r k 0)) (members.place e l))
          ∙ equation j h

      pub rebuilt : Rebuilt A p t i out w o (scattered a s.missing (λ j. get_or u j 0) s.count)
      unfolding r v chunk
      rebuilt =
          record {
            fixed =
                record {
                  codes = λ j lj. r_below (index_of p t j);
                  on_chunks = λ j lj m q.
                      let back : chunk (index_of p t j) ≡ j = members.back j lj m in
                      left_is (index_of p t j) (members.placed j lj m) (ap (λ k. out (p.column k)) back ∙ q) ∙ ap (λ k. w.symbol (p.column k) (p.row k) o) back;
                  on_parities = λ k lk q.
                      let back = parities_listed.back k lk q in
                      subst (λ (x : ℕ). parity A p (member p t i) x v ≡ w.symbol (p.d' + x) (slot_of p t i) o) back (on_parity (count held k) (parities_listed.placed k lk q));
                };
            rest = at_rest;
          }
