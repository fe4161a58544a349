-- A write keeps a pool and its book in agreement. Assumes nothing.
use Rattle.std.proofs.Common.{◌≡◌, ℕ, ◌+◌, ◌-◌, ◌<◌, Bool, true, false, cond, ◌&&◌, ◌||◌, eqb, ltb, leb, ◌≢◌, sym, refl, ap, ◌∙◌, arith}
use mathlib.Core.Logic.{by_cases}
use native.Mathlib.Decide.{ℕ_discrete}
use Rattle.std.proofs.lemmas.Bool.{eqb-true, le-leb, lt-leb, cond-true, cond-false, and_parts}
use Rattle.std.proofs.lemmas.Bool.Decides.{nat_tests}
use Rattle.field.specs.Arithmetic.{Arithmetic, Lawful}
use Rattle.field.specs.Sums.{minus, coefficient}
use Rattle.coding.specs.declared.group.Kind.{Kind}
use Rattle.coding.specs.declared.group.Kind.TheVariants.{Stripe, Row}
use Rattle.coding.specs.Schemes.{Scheme, Sound}
use Rattle.coding.specs.Groups.{groups, parities, slot_of, share, parity}
use Rattle.coding.proofs.Parities.{one_chunk, same_chunks}
use Rattle.pool.specs.declared.kinds.Phase.{Phase}
use Rattle.pool.specs.declared.kinds.Phase.TheVariants.{Before, UnderWay, Voided, After}
use Rattle.pool.specs.declared.kinds.Call.TheVariants.{Write}
use Rattle.pool.specs.Book.{Book, settled, group_of, noted}
use Rattle.pool.specs.Standing.{Standing}
use Rattle.pool.specs.Agrees.{in_force, covers, Encoded, Agrees}
use Rattle.pool.specs.Effects.{changed, holding, is_staged, keeps_up, written_symbol}
use Rattle.pool.proofs.Places.{stripe_below, one_place}

module _ (A : Arithmetic) (p : Scheme) (sound : Sound A p) where
  -- a write keeps up the parities in force that cover the chunk, and no other
  keeps_by : (ph : Phase) (n : ℕ) (t : Kind) (i k c : ℕ) → i < groups p t → k < in_force p ph t → c < p.chunks →
      ((ltb k (parities p (settled ph)) && eqb (slot_of p t i) (slot_of p (settled ph) (group_of p (settled ph) c)))
      || (is_staged ph n p c && (ltb k p.r' && eqb (slot_of p t i) (slot_of p Row (p.row c))))) ≡ covers p ph n t i c
  keeps_by Before n Stripe i k c li lk lc = grind (arith, nat_tests)
  keeps_by UnderWay n Stripe i k c li lk lc = let h = stripe_below A p sound c lc in grind (arith, nat_tests)
  keeps_by Voided n Stripe i k c li lk lc = grind (arith, nat_tests)
  keeps_by After n Stripe i k c li lk lc = absurd (omega arith)
  keeps_by Before n Row i k c li lk lc = absurd (omega arith)
  keeps_by UnderWay n Row i k c li lk lc = let h = stripe_below A p sound c lc in grind (arith, nat_tests)
  keeps_by Voided n Row i k c li lk lc = absurd (omega arith)
  keeps_by After n Row i k c li lk lc = grind (arith, nat_tests)

  pub keeps_up_lem : (s : Standing) (t : Kind) (i k c : ℕ) → i < groups p t → k < in_force p s.phase t → c < p.chunks →
      keeps_up p s c k (slot_of p t i) ≡ covers p s.phase s.carried t i c
  keeps_up_lem s t i k c li lk lc = keeps_by s.phase s.carried t i k c li lk lc

-- the tests of a write at the place of a chunk, and at that of a parity
at_chunk : (here f place high kept : Bool) (v x y : ℕ) → f ≡ true → high ≡ false →
    cond (here && f) (cond place v (cond (high && kept) x y)) y ≡ cond (place && here) v y
at_chunk here f place high kept v x y p q = grind arith

at_parity : (here f place high kept : Bool) (v x y : ℕ) → f ≡ true → place ≡ false → high ≡ true →
    cond (here && f) (cond place v (cond (high && kept) x y)) y ≡ cond (here && kept) x y
at_parity here f place high kept v x y p q r = grind arith

module _ (A : Arithmetic) (L : Lawful A) (p : Scheme) (sound : Sound A p) (s : Standing) (b : Book) (agrees : Agrees A p s b) (c o v old : ℕ) (lc : c < p.chunks) (lo : o < p.len) (lv : v < A.order) (is : old ≡ b.image c o) where
  -- only chunk c is at its place
  same_place : (j : ℕ) → j < p.chunks → (eqb (p.column j) (p.column c) && eqb (p.row j) (p.row c)) ≡ eqb j c
  same_place j lj =
      by_cases (ℕ_discrete j c)
      (λ (e : j ≡ c). let x = ap p.column e in let y = ap p.row e in grind (arith, nat_tests))
      (λ (ne : j ≢ c).
      by_cases (ℕ_discrete (p.column j) (p.column c))
      (λ (x : p.column j ≡ p.column c).
      by_cases (ℕ_discrete (p.row j) (p.row c)) (λ (y : p.row j ≡ p.row c). absurd (ne (one_place A p sound j c lj lc x y))) (λ (y : p.row j ≢ p.row c). grind (arith, nat_tests)))
      (λ (x : p.column j ≢ p.column c). grind (arith, nat_tests)))

  -- the symbol of a chunk on a fitted module, after the write
  pub written_chunk : (j u : ℕ) → j < p.chunks → s.held.fitted (p.column j) ≡ true →
      written_symbol A p s c o v old (p.column j) (p.row j) u ≡ cond (eqb j c && eqb u o) v (s.held.symbol (p.column j) (p.row j) u)
  written_chunk j u lj f =
      at_chunk (eqb u o) (s.held.fitted (p.column j)) (eqb (p.column j) (p.column c) && eqb (p.row j) (p.row c)) (leb p.d' (p.column j))
      (keeps_up p s c (p.column j - p.d') (p.row j)) v
      (A.add (s.held.symbol (p.column j) (p.row j) u) (A.mul (coefficient A (p.column j - p.d') (p.x c)) (minus A v old)))
      (s.held.symbol (p.column j) (p.row j) u) f (lt-leb p.d' (p.column j) (sound.in_columns j lj))
      ∙ ap (λ t. cond (t && eqb u o) v (s.held.symbol (p.column j) (p.row j) u)) (same_place j lj)

  -- and that of a parity in force there
  pub written_parity : (t : Kind) (i k u : ℕ) → i < groups p t → k < in_force p s.phase t → s.held.fitted (p.d' + k) ≡ true →
      written_symbol A p s c o v old (p.d' + k) (slot_of p t i) u
      ≡ cond (eqb u o && covers p s.phase s.carried t i c) (A.add (s.held.symbol (p.d' + k) (slot_of p t i) u) (share A p k c (minus A v old))) (s.held.symbol (p.d' + k) (slot_of p t i) u)
  written_parity t i k u li lk f =
      let y : ℕ = s.held.symbol (p.d' + k) (slot_of p t i) u in
      let e : p.d' + k - p.d' ≡ k = omega arith in
      let low = sound.in_columns c lc in
      at_parity (eqb u o) (s.held.fitted (p.d' + k)) (eqb (p.d' + k) (p.column c) && eqb (slot_of p t i) (p.row c)) (leb p.d' (p.d' + k))
      (keeps_up p s c (p.d' + k - p.d') (slot_of p t i)) v
      (A.add y (A.mul (coefficient A (p.d' + k - p.d') (p.x c)) (minus A v old))) y f (grind (arith, nat_tests)) (le-leb p.d' (p.d' + k) (omega arith))
      ∙ ap (λ q. cond (eqb u o && keeps_up p s c q (slot_of p t i)) (A.add y (A.mul (coefficient A q (p.x c)) (minus A v old))) y) e
      ∙ ap (λ t. cond (eqb u o && t) (A.add y (share A p k c (minus A v old))) y) (keeps_up_lem A p sound s t i k c li lk lc)

  -- the image keeps to codes
  codes_after : (j u : ℕ) → j < p.chunks → u < p.len → (t : Bool) → cond t v (b.image j u) < A.order
  codes_after j u lj lu true = lv
  codes_after j u lj lu false = agrees.codes j u lj lu

  -- each parity in force is that of the new image
  encoded : Encoded A p s.phase s.carried (changed s.held (written_symbol A p s c o v old)) (λ j u. cond (eqb j c && eqb u o) v (b.image j u))
  encoded t i k u li lk lu f =
      let g : ℕ → Bool = covers p s.phase s.carried t i in
      let m : ℕ = p.d' + k in
      let new : ℕ → ℕ = λ j. cond (eqb j c && eqb u o) v (b.image j u) in
      let was : s.held.symbol m (slot_of p t i) u ≡ parity A p g k (λ j. b.image j u) = agrees.parities_are t i k u li lk lu f in
      let quiet : (eqb u o && g c) ≡ false → written_symbol A p s c o v old m (slot_of p t i) u ≡ parity A p g k new =
      λ q.
      written_parity t i k u li lk f
      ∙ cond-false (eqb u o && g c) (A.add (s.held.symbol m (slot_of p t i) u) (share A p k c (minus A v old))) (s.held.symbol m (slot_of p t i) u) q
      ∙ was
      ∙ same_chunks A L p k g (λ j. b.image j u) new
      (λ j lj tj.
      by_cases (ℕ_discrete j c)
      (λ (e : j ≡ c). let h : g c ≡ true = ap g (sym e) ∙ tj in grind (arith, nat_tests))
      (λ (ne : j ≢ c). grind (arith, nat_tests))) in
      let loud : (eqb u o && g c) ≡ true → written_symbol A p s c o v old m (slot_of p t i) u ≡ parity A p g k new =
      λ q.
      let parts = and_parts (eqb u o) (g c) q in
      let at : u ≡ o = eqb-true u o parts.0 in
      let here : new c ≡ v = grind (arith, nat_tests) in
      let before : old ≡ b.image c u = is ∙ ap (b.image c) (sym at) in
      written_parity t i k u li lk f
      ∙ cond-true (eqb u o && g c) (A.add (s.held.symbol m (slot_of p t i) u) (share A p k c (minus A v old))) (s.held.symbol m (slot_of p t i) u) q
      ∙ ap (λ z. A.add z (share A p k c (minus A v old))) was
      ∙ ap (λ z. A.add (parity A p g k (λ j. b.image j u)) (share A p k c (minus A v z))) before
      ∙ ap (λ z. A.add (parity A p g k (λ j. b.image j u)) (share A p k c (minus A z (b.image c u)))) (sym here)
      ∙ ap (λ t. A.add (parity A p g k (λ j. b.image j u)) (cond t (share A p k c (minus A (new c) (b.image c u))) 0)) (sym parts.1)
      ∙ sym (one_chunk A L p k g (λ j. b.image j u) new c lc (λ j lj ne. grind (arith, nat_tests))) in
      let by : (h : Bool) → (eqb u o && g c) ≡ h → written_symbol A p s c o v old m (slot_of p t i) u ≡ parity A p g k new =
      elim [ true ↦ loud | false ↦ quiet ] in
      by (eqb u o && g c) refl

  -- the pool agrees with the book after a write
  pub write_agrees : Agrees A p (holding s (changed s.held (written_symbol A p s c o v old))) (noted b (Write c o v))
  write_agrees =
      record {
        phase_is = agrees.phase_is;
        carried_is = agrees.carried_is;
        out_is = agrees.out_is;
        codes = λ j u lj lu. codes_after j u lj lu (eqb j c && eqb u o);
        data_is = λ j u lj lu f. written_chunk j u lj f ∙ ap (λ z. cond (eqb j c && eqb u o) v z) (agrees.data_is j u lj lu f);
        parities_are = encoded;
      }
