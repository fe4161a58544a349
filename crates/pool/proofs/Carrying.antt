-- The calls of a changeover keep a pool and its book in agreement. Assumes nothing.
use Rattle.std.proofs.Common.{◌≡◌, ℕ, suc, ◌+◌, ◌-◌, ◌<◌, ◌≤◌, Bool, true, false, cond, ◌&&◌, eqb, leb, sym, refl, ap, ◌∙◌, subst, arith}
use Rattle.std.proofs.lemmas.Bool.{eqb-true, eqb-false, leb-true, cond-true, cond-false}
use Rattle.std.proofs.lemmas.Bool.Decides.{nat_tests}
use Rattle.field.specs.Arithmetic.{Arithmetic, Lawful}
use Rattle.field.specs.Sums.{total}
use Rattle.field.proofs.Ring.{add-zero, zero_add, add-neg}
use Rattle.field.proofs.Codes.{Code, field, code, one_number, code_zero, code_neg, code_add, total_below}
use Rattle.coding.specs.declared.group.Kind.{Kind}
use Rattle.coding.specs.declared.group.Kind.TheVariants.{Stripe, Row}
use Rattle.coding.specs.Schemes.{Scheme, Sound}
use Rattle.coding.specs.Groups.{member, share, parity}
use Rattle.coding.proofs.Sums as sums
use Rattle.coding.proofs.Parities.{codes, code_total, code_only, same_chunks, same_group, no_group, two_groups}
use Rattle.coding.proofs.Grouping.{group_sum, group_sum_where}
use Rattle.pool.specs.declared.kinds.Phase.{Phase}
use Rattle.pool.specs.declared.kinds.Phase.TheVariants.{Before, UnderWay, Voided, After}
use Rattle.pool.specs.declared.kinds.Call.TheVariants.{Begin, Carry, Close, Drop}
use Rattle.pool.specs.Book.{Book, modules, dropped_phase, noted}
use Rattle.pool.specs.Standing.{Standing}
use Rattle.pool.specs.Agrees.{in_force, covers, Encoded, Agrees}
use Rattle.pool.specs.Effects.{changed, staged, chunk_in, own_row, outside_row, gain, chunks_at, carried_symbol, begun_symbol}
use Rattle.pool.proofs.Places.{chunk_module, stripe_below}

-- a chunk of row x whose stripe's home row is y, seen from row h: with the home row's part of the stripe's parity and what is
-- subtracted there, it counts in its own row alone
settles : (A : Arithmetic) (L : Lawful A) (x y h s : ℕ) (a b c : Bool) → eqb h y ≡ a → eqb x y ≡ b → eqb x h ≡ c →
    (field A L).add (sums.only (codes A L) a (code A L s)) (code A L (cond b 0 (cond c s (cond a (A.neg s) 0)))) ≡ code A L (cond c s 0)
settles A L x y h s true true true p q r = ap (λ z. (field A L).add (code A L s) z) (code_zero A L) ∙ add-zero (field A L) (code A L s)
settles A L x y h s true true false p q r = absurd (eqb-false x h r (eqb-true x y q ∙ sym (eqb-true h y p)))
settles A L x y h s true false true p q r = absurd (eqb-false x y q (eqb-true x h r ∙ eqb-true h y p))
settles A L x y h s true false false p q r = ap (λ z. (field A L).add (code A L s) z) (code_neg A L s) ∙ add-neg (field A L) (code A L s) ∙ sym (code_zero A L)
settles A L x y h s false true true p q r = absurd (eqb-false h y p (sym (eqb-true x h r) ∙ eqb-true x y q))
settles A L x y h s false true false p q r = zero_add (field A L) (code A L 0)
settles A L x y h s false false true p q r = zero_add (field A L) (code A L s)
settles A L x y h s false false false p q r = zero_add (field A L) (code A L 0)

-- the chunks of stripe i in row h
abbrev pub meet : Scheme → ℕ → ℕ → ℕ → Bool
meet p i h j = member p Stripe i j && eqb (p.row j) h

module _ (A : Arithmetic) (L : Lawful A) (p : Scheme) (sound : Sound A p) (k : ℕ) (v : ℕ → ℕ) (i : ℕ) (li : i < p.stripes) (h : ℕ) where
  -- each chunk added to its own row
  directly : total A p.d (own_row A p i k v h) ≡ parity A p (meet p i h) k v
  directly = sym (group_sum_where A p sound L k v i Stripe (λ j. eqb (p.row j) h) li)

  -- the parity of the stripe added to the home row, and the chunks outside it moved
  by_home : (y : ℕ) → y ≡ parity A p (member p Stripe i) k v →
      A.add (cond (eqb h (p.home i)) y 0) (total A p.d (outside_row A p i k v h)) ≡ total A p.d (own_row A p i k v h)
  by_home y is =
      let a : Bool = eqb h (p.home i) in
      let sh : ℕ → ℕ = λ e. share A p k (chunk_in p i e) (v (chunk_in p i e)) in
      let T : ℕ → Code A L = λ e. code A L (sh e) in
      let S : ℕ → Code A L = λ e. code A L (outside_row A p i k v h e) in
      let whole : code A L y ≡ sums.sum (codes A L) p.d T = ap (code A L) (is ∙ group_sum A p sound L k v i Stripe li) ∙ code_total A L p.d sh in
      one_number A L _ _ (L.add-below _ _) (total_below A L p.d (own_row A p i k v h))
      (code_add A L (cond a y 0) (total A p.d (outside_row A p i k v h))
      ∙ ap (λ z. (field A L).add z (code A L (total A p.d (outside_row A p i k v h))))
      (code_only A L a y ∙ ap (λ z. sums.only (codes A L) a z) whole ∙ sums.sum_only (codes A L) p.d a T)
      ∙ ap (λ z. (field A L).add (sums.sum (codes A L) p.d (λ e. sums.only (codes A L) a (T e))) z) (code_total A L p.d (outside_row A p i k v h))
      ∙ sym (sums.sum_add (codes A L) p.d (λ e. sums.only (codes A L) a (T e)) S)
      ∙ sums.sum_same (codes A L) p.d (λ e. (field A L).add (sums.only (codes A L) a (T e)) (S e)) (λ e. code A L (own_row A p i k v h e))
      (λ e le. settles A L (p.row (chunk_in p i e)) (p.home i) h (sh e) a (eqb (p.row (chunk_in p i e)) (p.home i)) (eqb (p.row (chunk_in p i e)) h) refl refl refl)
      ∙ sym (code_total A L p.d (own_row A p i k v h)))

  -- what a carried stripe adds to a row is the parity of its chunks there
  pub gained : (y : ℕ) → (p.r' ≤ p.r → y ≡ parity A p (member p Stripe i) k v) → gain A p i k y v h ≡ parity A p (meet p i h) k v
  gained y is =
      let both : Bool → ℕ = λ t. cond t (A.add (cond (eqb h (p.home i)) y 0) (total A p.d (outside_row A p i k v h))) (total A p.d (own_row A p i k v h)) in
      let by : (t : Bool) → leb p.r' p.r ≡ t → gain A p i k y v h ≡ parity A p (meet p i h) k v =
      elim [
        | true ↦ λ q. ap both q ∙ by_home y (is (leb-true p.r' p.r q)) ∙ directly
        | false ↦ λ q. ap both q ∙ directly
      ] in
      by (leb p.r' p.r) refl

  -- one more stripe is carried
  pub one_more_stripe : parity A p (covers p UnderWay (suc i) Row h) k v ≡ A.add (parity A p (covers p UnderWay i Row h) k v) (parity A p (meet p i h) k v)
  one_more_stripe =
      two_groups A L p k v (covers p UnderWay i Row h) (meet p i h) (covers p UnderWay (suc i) Row h) (λ j lj. grind (arith, nat_tests)) (λ j lj. grind (arith, nat_tests))

-- which places are staged
row_staged : (p : Scheme) (h k u : ℕ) → h < p.rows → k < p.r' → u < p.len → staged p (p.d' + k) (p.stripes + h) u ≡ true
row_staged p h k u lh lk lu = grind (arith, nat_tests)

pub stripe_not_staged : (p : Scheme) (m i u : ℕ) → i < p.stripes → staged p m i u ≡ false
stripe_not_staged p m i u li = grind (arith, nat_tests)

pub low_not_staged : (p : Scheme) (m slot u : ℕ) → m < p.d' → staged p m slot u ≡ false
low_not_staged p m slot u lm = grind (arith, nat_tests)

-- a pool that is no more under way has fewer parities in force, and those as before
fewer_dropped : (p : Scheme) (ph : Phase) (t : Kind) (k : ℕ) → k < in_force p (dropped_phase ph) t → k < in_force p ph t
fewer_dropped p Before t k h = h
fewer_dropped p UnderWay Stripe k h = h
fewer_dropped p UnderWay Row k h = omega arith
fewer_dropped p Voided Stripe k h = h
fewer_dropped p Voided Row k h = omega arith
fewer_dropped p After t k h = h

same_dropped : (p : Scheme) (ph : Phase) (n : ℕ) (t : Kind) (i j k : ℕ) → k < in_force p (dropped_phase ph) t → covers p ph n t i j ≡ covers p (dropped_phase ph) n t i j
same_dropped p Before n t i j k h = refl
same_dropped p UnderWay n Stripe i j k h = refl
same_dropped p UnderWay n Row i j k h = absurd (omega arith)
same_dropped p Voided n Stripe i j k h = refl
same_dropped p Voided n Row i j k h = refl
same_dropped p After n t i j k h = refl

module _ (A : Arithmetic) (L : Lawful A) (p : Scheme) (sound : Sound A p) (s : Standing) (b : Book) (agrees : Agrees A p s b) where
  -- the parities in force, at a phase that is known
  were : (ph : Phase) → s.phase ≡ ph → Encoded A p ph s.carried s.held b.image
  were ph e = subst (λ (f : Phase). Encoded A p f s.carried s.held b.image) e agrees.parities_are

  -- the data is not staged
  pub begun_chunk : (j u : ℕ) → j < p.chunks → begun_symbol p s.held (p.column j) (p.row j) u ≡ s.held.symbol (p.column j) (p.row j) u
  begun_chunk j u lj =
      cond-false (staged p (p.column j) (p.row j) u) 0 (s.held.symbol (p.column j) (p.row j) u) (low_not_staged p (p.column j) (p.row j) u (sound.in_columns j lj))

  -- after a begin the staged rows are of no chunks
  pub begin_agrees : s.phase ≡ Before → Agrees A p (record { phase = UnderWay; carried = 0; held = changed s.held (begun_symbol p s.held) }) (noted b Begin)
  begin_agrees was =
      record {
        phase_is = refl;
        carried_is = refl;
        out_is = agrees.out_is;
        codes = agrees.codes;
        data_is = λ j u lj lu f. begun_chunk j u lj ∙ agrees.data_is j u lj lu f;
        parities_are = elim [
          | Stripe ↦ λ i k u li lk lu f.
              cond-false (staged p (p.d' + k) i u) 0 (s.held.symbol (p.d' + k) i u) (stripe_not_staged p (p.d' + k) i u li)
              ∙ were Before was Stripe i k u li lk lu f
          | Row ↦ λ i k u li lk lu f.
              cond-true (staged p (p.d' + k) (p.stripes + i) u) 0 (s.held.symbol (p.d' + k) (p.stripes + i) u) (row_staged p i k u li lk lu)
              ∙ sym (no_group A L p k (λ j. b.image j u) (covers p UnderWay 0 Row i) (λ j lj. grind (arith, nat_tests)))
        ];
      }

  -- a carry leaves the data as it is
  pub carried_chunk : (n j u : ℕ) → j < p.chunks → carried_symbol A p n s.held (p.column j) (p.row j) u ≡ s.held.symbol (p.column j) (p.row j) u
  carried_chunk n j u lj =
      cond-false (staged p (p.column j) (p.row j) u) _ (s.held.symbol (p.column j) (p.row j) u) (low_not_staged p (p.column j) (p.row j) u (sound.in_columns j lj))

  -- after a carry the staged rows are of the chunks of one stripe more
  pub carry_agrees : s.phase ≡ UnderWay → s.carried < p.stripes → ((m : ℕ) → m < modules p → s.held.fitted m ≡ true) →
      Agrees A p (record { phase = s.phase; carried = suc s.carried; held = changed s.held (carried_symbol A p s.carried s.held) }) (noted b Carry)
  carry_agrees was li whole =
      let i : ℕ = s.carried in
      let old : Encoded A p UnderWay i s.held b.image = were UnderWay was in
      let new : Encoded A p UnderWay (suc i) (changed s.held (carried_symbol A p i s.held)) b.image =
      elim [
        | Stripe ↦ λ c k u lc lk lu f.
            cond-false (staged p (p.d' + k) c u) _ (s.held.symbol (p.d' + k) c u) (stripe_not_staged p (p.d' + k) c u lc) ∙ old Stripe c k u lc lk lu f
        | Row ↦ λ h k u lh lk lu f.
            let image : ℕ → ℕ = λ j. b.image j u in
            let v : ℕ → ℕ = chunks_at p s.held u in
            let same : (j : ℕ) → j < p.chunks → v j ≡ image j = λ j lj. agrees.data_is j u lj lu (whole (p.column j) (chunk_module A p sound j lj)) in
            let here : ℕ = s.held.symbol (p.d' + k) (p.stripes + h) u in
            let y : ℕ = s.held.symbol (p.d' + k) i u in
            let e : p.d' + k - p.d' ≡ k = omega arith in
            let e' : p.stripes + h - p.stripes ≡ h = omega arith in
            cond-true (staged p (p.d' + k) (p.stripes + h) u) (A.add here (gain A p i (p.d' + k - p.d') y v (p.stripes + h - p.stripes))) here (row_staged p h k u lh lk lu)
            ∙ ap (λ z. A.add here (gain A p i z y v (p.stripes + h - p.stripes))) e
            ∙ ap (λ z. A.add here (gain A p i k y v z)) e'
            ∙ ap (λ z. A.add z (gain A p i k y v h)) (old Row h k u lh lk lu f)
            ∙ ap (λ z. A.add (parity A p (covers p UnderWay i Row h) k image) z)
            (gained A L p sound k v i li h y
            (λ le. old Stripe i k u li (omega arith) lu f ∙ same_chunks A L p k (member p Stripe i) image v (λ j lj _. sym (same j lj)))
            ∙ same_chunks A L p k (meet p i h) v image (λ j lj _. same j lj))
            ∙ sym (one_more_stripe A L p sound k image i li h)
      ] in
      record {
        phase_is = agrees.phase_is;
        carried_is = ap suc agrees.carried_is;
        out_is = agrees.out_is;
        codes = agrees.codes;
        data_is = λ j u lj lu f. carried_chunk i j u lj ∙ agrees.data_is j u lj lu f;
        parities_are = subst (λ (ph : Phase). Encoded A p ph (suc i) (changed s.held (carried_symbol A p i s.held)) b.image) (sym was) new;
      }

  -- at a close they are of all chunks
  pub close_agrees : s.phase ≡ UnderWay → p.stripes ≤ s.carried → Agrees A p (record { phase = After; carried = s.carried; held = s.held }) (noted b Close)
  close_agrees was all =
      record {
        phase_is = refl;
        carried_is = agrees.carried_is;
        out_is = agrees.out_is;
        codes = agrees.codes;
        data_is = agrees.data_is;
        parities_are = elim [
          | Stripe ↦ λ i k u li lk lu f. absurd (omega arith)
          | Row ↦ λ h k u lh lk lu f.
              were UnderWay was Row h k u lh lk lu f
              ∙ same_group A L p k (λ j. b.image j u) (covers p UnderWay s.carried Row h) (member p Row h)
              (λ j lj. let q = stripe_below A p sound j lj in grind (arith, nat_tests))
        ];
      }

  -- a drop forgets the staged rows
  pub drop_agrees : Agrees A p (record { phase = dropped_phase s.phase; carried = s.carried; held = s.held }) (noted b Drop)
  drop_agrees =
      record {
        phase_is = ap dropped_phase agrees.phase_is;
        carried_is = agrees.carried_is;
        out_is = agrees.out_is;
        codes = agrees.codes;
        data_is = agrees.data_is;
        parities_are = λ t i k u li lk lu f.
            agrees.parities_are t i k u li (fewer_dropped p s.phase t k lk) lu f
            ∙ same_group A L p k (λ j. b.image j u) (covers p s.phase s.carried t i) (covers p (dropped_phase s.phase) s.carried t i)
            (λ j lj. same_dropped p s.phase s.carried t i j k lk);
      }
