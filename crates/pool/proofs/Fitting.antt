-- Pulling a module and fitting one again keep a pool and its book in agreement. Assumes nothing.
use Rattle.std.proofs.Common.{◌≡◌, ℕ, ◌+◌, ◌<◌, ◌≤◌, Bool, true, false, cond, not, ◌&&◌, eqb, ltb, leb, ◌≢◌, sym, refl, ap, ◌∙◌, subst, arith}
use mathlib.Core.Logic.{by_cases}
use native.Mathlib.Decide.{ℕ_discrete}
use Rattle.std.proofs.lemmas.Bool.{eq-eqb, ne_eqb, lt-ltb, le-leb, cond-false, and_from, or_left, or_right}
use Rattle.field.specs.Arithmetic.{Arithmetic, Lawful}
use Rattle.rack.specs.Meaning.{Meaning, flagged}
use Rattle.coding.specs.declared.group.Kind.{Kind}
use Rattle.coding.specs.declared.group.Kind.TheVariants.{Stripe, Row}
use Rattle.coding.specs.Schemes.{Scheme, Sound}
use Rattle.coding.specs.Groups.{groups, parities, member, slot_of, parity, count}
use Rattle.coding.specs.Words.{missing_pieces}
use Rattle.coding.proofs.Counting.{counted}
use Rattle.coding.proofs.Parities.{same_chunks, same_group}
use Rattle.pool.specs.declared.kinds.Phase.{Phase}
use Rattle.pool.specs.declared.kinds.Phase.TheVariants.{Before, UnderWay, Voided, After}
use Rattle.pool.specs.declared.kinds.Call.TheVariants.{Pull, Refit}
use Rattle.pool.specs.Book.{Book, settled, group_of, beyond, holds_piece, pulled_phase, noted}
use Rattle.pool.specs.Standing.{Standing, out_of}
use Rattle.pool.specs.Agrees.{in_force, covers, Agrees}
use Rattle.pool.specs.Effects.{holding, Refitted}
use Rattle.pool.proofs.Places.{in_force_lem, force_settled, settled_covers, member_own, group_below}
use Rattle.pool.proofs.Reading.{repairable, second, word_is}

-- the modules that are fitted and those that are out, after one is marked
marked_out : (t f o : Bool) → f ≡ not o → cond t false f ≡ not (cond t true o)
marked_out true f o e = refl
marked_out false f o e = e

marked_in : (t f o : Bool) → f ≡ not o → cond t true f ≡ not (cond t false o)
marked_in true f o e = refl
marked_in false f o e = e

-- a module that is fitted after one is pulled is another, and was fitted
pub still_fitted : (t f : Bool) → cond t false f ≡ true → (t ≡ false) × (f ≡ true)
still_fitted true f e = absurd (let z : ◌≡◌ {A = ℕ} 0 1 = cc in omega arith)
still_fitted false f e = (refl, e)

-- a pull leaves fewer parities in force, and those as before
fewer_pulled : (p : Scheme) (ph : Phase) (t : Kind) (k : ℕ) → k < in_force p (pulled_phase ph) t → k < in_force p ph t
fewer_pulled p Before t k h = h
fewer_pulled p UnderWay Stripe k h = h
fewer_pulled p UnderWay Row k h = omega arith
fewer_pulled p Voided t k h = h
fewer_pulled p After t k h = h

same_pulled : (p : Scheme) (ph : Phase) (n : ℕ) (t : Kind) (i j k : ℕ) → k < in_force p (pulled_phase ph) t → covers p ph n t i j ≡ covers p (pulled_phase ph) n t i j
same_pulled p Before n t i j k h = refl
same_pulled p UnderWay n Stripe i j k h = refl
same_pulled p UnderWay n Row i j k h = absurd (omega arith)
same_pulled p Voided n t i j k h = refl
same_pulled p After n t i j k h = refl

-- a module that has a chunk of a group, or a parity, has a piece of the group
pub holds_chunk : (p : Scheme) (t : Kind) (m j : ℕ) → j < p.chunks → p.column j ≡ m → holds_piece p t m (group_of p t j) ≡ true
holds_chunk p t m j lj e =
    let f : ℕ → Bool = λ q. member p t (group_of p t j) q && eqb (p.column q) m in
    let pass : f j ≡ true = and_from (member p t (group_of p t j) j) (eqb (p.column j) m) (member_own p t j) (eq-eqb (p.column j) m e) in
    or_left (ltb 0 (count f p.chunks)) (leb p.d' m && ltb m (p.d' + parities p t))
    (lt-ltb 0 (count f p.chunks) (omega (arith, (counted f p.chunks).placed j lj pass)))

pub holds_parity : (p : Scheme) (t : Kind) (m i k : ℕ) → k < parities p t → p.d' + k ≡ m → holds_piece p t m i ≡ true
holds_parity p t m i k lk e =
    or_right (ltb 0 (count (λ j. member p t i j && eqb (p.column j) m) p.chunks)) (leb p.d' m && ltb m (p.d' + parities p t))
    (and_from (leb p.d' m) (ltb m (p.d' + parities p t)) (le-leb p.d' m (omega arith)) (lt-ltb m (p.d' + parities p t) (omega arith)))

module _ (A : Arithmetic) (L : Lawful A) (p : Scheme) (sound : Sound A p) (s : Standing) (b : Book) (agrees : Agrees A p s b) (m : ℕ) where
  -- what is on a module that is still fitted
  pulled_symbol : (n slot u : ℕ) → eqb n m ≡ false → (flagged s.held m false).symbol n slot u ≡ s.held.symbol n slot u
  pulled_symbol n slot u e = cond-false (eqb n m) 0 (s.held.symbol n slot u) e

  -- after a pull the other modules are as before
  pub pull_agrees : Agrees A p (record { phase = pulled_phase s.phase; carried = s.carried; held = flagged s.held m false }) (noted b (Pull m))
  pull_agrees =
      record {
        phase_is = ap pulled_phase agrees.phase_is;
        carried_is = agrees.carried_is;
        out_is = λ n ln. marked_out (eqb n m) (s.held.fitted n) (b.out n) (agrees.out_is n ln);
        codes = agrees.codes;
        data_is = λ j u lj lu f.
            let was = still_fitted (eqb (p.column j) m) (s.held.fitted (p.column j)) f in
            pulled_symbol (p.column j) (p.row j) u was.0 ∙ agrees.data_is j u lj lu was.1;
        parities_are = λ t i k u li lk lu f.
            let was = still_fitted (eqb (p.d' + k) m) (s.held.fitted (p.d' + k)) f in
            pulled_symbol (p.d' + k) (slot_of p t i) u was.0
            ∙ agrees.parities_are t i k u li (fewer_pulled p s.phase t k lk) lu was.1
            ∙ same_group A L p k (λ j. b.image j u) (covers p s.phase s.carried t i) (covers p (pulled_phase s.phase) s.carried t i)
            (λ j lj. same_pulled p s.phase s.carried t i j k lk);
      }

  module _ (w : Meaning) (refitted : Refitted A p s m w) (settles : s.phase ≡ UnderWay → ⊥)
      (fine : (i : ℕ) → i < groups p (settled s.phase) → (holds_piece p (settled s.phase) m i && beyond p (settled s.phase) (out_of s) i) ≡ false) where
    -- the module is fitted, the others as they were
    fitted_is : (n : ℕ) → w.fitted n ≡ cond (eqb n m) true (s.held.fitted n)
    fitted_is n = ap (λ (x : Meaning). x.fitted n) refitted.shape

    other_fitted : (n : ℕ) → n ≢ m → w.fitted n ≡ true → s.held.fitted n ≡ true
    other_fitted n ne f = sym (cond-false (eqb n m) true (s.held.fitted n) (ne_eqb n m ne)) ∙ sym (fitted_is n) ∙ f

    -- each group with a piece there can be rebuilt
    few : (i : ℕ) → i < groups p (settled s.phase) → holds_piece p (settled s.phase) m i ≡ true → missing_pieces p (settled s.phase) i (out_of s) ≤ parities p (settled s.phase)
    few i li h = repairable p (settled s.phase) (out_of s) i (second (holds_piece p (settled s.phase) m i) (beyond p (settled s.phase) (out_of s) i) (fine i li) h)

    -- a chunk on the module is rebuilt
    chunk_again : (j u : ℕ) → j < p.chunks → u < p.len → w.fitted (p.column j) ≡ true → w.symbol (p.column j) (p.row j) u ≡ b.image j u
    chunk_again j u lj lu f =
        let t : Kind = settled s.phase in
        by_cases (ℕ_discrete (p.column j) m)
        (λ (e : p.column j ≡ m).
        let piece = refitted.chunk_pieces j u lj lu e in
        let li = group_below A p sound t j lj in
        ap (λ (n : ℕ). w.symbol n (p.row j) u) e ∙ piece.2
        ∙ word_is A L p sound s b agrees (group_of p t j) u piece.0 li lu (few (group_of p t j) li (holds_chunk p t m j lj e)) piece.1 j lj (member_own p t j))
        (λ (ne : p.column j ≢ m). refitted.others (p.column j) (p.row j) u ne ∙ agrees.data_is j u lj lu (other_fitted (p.column j) ne f))

    -- and so is a parity
    parity_again : (i k u : ℕ) → i < groups p (settled s.phase) → k < in_force p s.phase (settled s.phase) → u < p.len → w.fitted (p.d' + k) ≡ true →
        w.symbol (p.d' + k) (slot_of p (settled s.phase) i) u ≡ parity A p (covers p s.phase s.carried (settled s.phase) i) k (λ j. b.image j u)
    parity_again i k u li lk lu f =
        let t : Kind = settled s.phase in
        by_cases (ℕ_discrete (p.d' + k) m)
        (λ (e : p.d' + k ≡ m).
        let lk' : k < parities p t = in_force_lem p s.phase t k lk in
        let piece = refitted.parity_pieces i k u li lk' lu e in
        ap (λ (n : ℕ). w.symbol n (slot_of p t i) u) e ∙ piece.2
        ∙ same_chunks A L p k (member p t i) piece.0 (λ j. b.image j u)
        (λ j lj tj. word_is A L p sound s b agrees i u piece.0 li lu (few i li (holds_parity p t m i k lk' e)) piece.1 j lj tj)
        ∙ same_group A L p k (λ j. b.image j u) (member p t i) (covers p s.phase s.carried t i) (λ j lj. sym (settled_covers p s.phase s.carried i j)))
        (λ (ne : p.d' + k ≢ m). refitted.others (p.d' + k) (slot_of p t i) u ne ∙ agrees.parities_are t i k u li lk lu (other_fitted (p.d' + k) ne f))

    -- the pool agrees with the book after a refit
    pub refit_agrees : Agrees A p (holding s w) (noted b (Refit m))
    refit_agrees =
        record {
          phase_is = agrees.phase_is;
          carried_is = agrees.carried_is;
          out_is = λ n ln. fitted_is n ∙ marked_in (eqb n m) (s.held.fitted n) (b.out n) (agrees.out_is n ln);
          codes = agrees.codes;
          data_is = chunk_again;
          parities_are = λ t i k u li lk lu f.
              subst
              (λ (q : Kind). i < groups p q → k < in_force p s.phase q → w.symbol (p.d' + k) (slot_of p q i) u ≡ parity A p (covers p s.phase s.carried q i) k (λ j. b.image j u))
              (sym (force_settled p s.phase t k settles lk)) (λ li' lk'. parity_again i k u li' lk' lu f) li lk;
        }
