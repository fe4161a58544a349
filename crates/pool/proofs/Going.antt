-- Fitting a module again, group after group and offset after offset. Assumes nothing.
use Rattle.std.proofs.Common.{◌≡◌, ℕ, ◌+◌, ◌<◌, Bool, true, false, eqb, ◌≢◌, sym, refl, ap, ◌∙◌, subst, inl, inr, ⊎_elim, arith}
use mathlib.Core.Logic.{by_cases}
use native.Mathlib.Decide.{ℕ_discrete}
use Rattle.std.proofs.lemmas.Bool.{eq-eqb, ne_eqb, cond-true, cond-false, both_ways}
use Rattle.field.specs.Arithmetic.{Arithmetic}
use Rattle.rack.specs.Meaning.{Meaning, flagged}
use Rattle.coding.specs.declared.group.Kind.{Kind}
use Rattle.coding.specs.declared.group.Kind.TheVariants.{Stripe, Row}
use Rattle.coding.specs.Schemes.{Scheme, Sound}
use Rattle.coding.specs.Groups.{groups, parities, member, slot_of}
use Rattle.coding.specs.Words.{Fixed}
use Rattle.coding.proofs.Grouping.{group_is}
use Rattle.pool.specs.Book.{modules, settled, group_of, holds_piece}
use Rattle.pool.specs.Standing.{Standing, out_of}
use Rattle.pool.specs.Effects.{changed, Refitted}
use Rattle.pool.specs.Restored.{At, Pieces, Space, PutBack, Done, Going, Room}
use Rattle.pool.proofs.Places.{group_below, member_own, one_place}
use Rattle.pool.proofs.Fitting.{holds_chunk, holds_parity}
use Rattle.pool.proofs.OutAlike.{fixed_same}
use Rattle.pool.proofs.Putting.{shapes}

-- the slots of two groups' parities differ
slot_one : (p : Scheme) (t : Kind) (a b : ℕ) → slot_of p t a ≡ slot_of p t b → a ≡ b
slot_one p Stripe a b e = e
slot_one p Row a b e = omega arith

-- two groups never have a piece in one place
at_one : (A : Arithmetic) (p : Scheme) → Sound A p → (t : Kind) (a b m slot : ℕ) → At p t a m slot → At p t b m slot → a ≡ b
at_one A p sound t a b m slot (inl x) (inl y) =
    let same : x.0 ≡ y.0 = one_place A p sound x.0 y.0 x.1 y.1 (x.3 ∙ sym y.3) (x.4 ∙ sym y.4) in
    sym (group_is A p sound t a x.0 x.2) ∙ group_is A p sound t b x.0 (subst (λ (n : ℕ). member p t b n ≡ true) (sym same) y.2)
at_one A p sound t a b m slot (inl x) (inr y) = absurd (omega (arith, sound.in_columns x.0 x.1, x.3, y.2))
at_one A p sound t a b m slot (inr x) (inl y) = absurd (omega (arith, sound.in_columns y.0 y.1, y.3, x.2))
at_one A p sound t a b m slot (inr x) (inr y) = slot_one p t a b (x.3 ∙ sym y.3)

-- the start: the module is fitted, all zero
pub going_start : (A : Arithmetic) (p : Scheme) (t : Kind) (out : ℕ → Bool) (m : ℕ) (w w' : Meaning) → w' ≡ flagged w m true → Going A p t out m w 0 0 w'
going_start A p t out m w w' e =
    record {
      shape = e ∙ ap (changed (flagged w m true)) (sym (ap (λ (z : Meaning). z.symbol) e));
      others = λ k slot u ne. ap (λ (z : Meaning). z.symbol k slot u) e ∙ cond-false (eqb k m) 0 (w.symbol k slot u) (ne_eqb k m ne);
      pieces = λ i u d. absurd (⊎_elim (λ (l : i < 0). omega arith) (λ (l : (i ≡ 0) × (u < 0)). omega arith) d.2);
      rest = λ slot u _. ap (λ (z : Meaning). z.symbol m slot u) e ∙ cond-true (eqb m m) 0 (w.symbol m slot u) (eq-eqb m m refl);
    }

-- the same pieces are done
going_as : (A : Arithmetic) (p : Scheme) (t : Kind) (out : ℕ → Bool) (m : ℕ) (w : Meaning) (n o n' o' : ℕ) (w' : Meaning) →
    ((i u : ℕ) → Done p t m n o i u → Done p t m n' o' i u) → ((i u : ℕ) → Done p t m n' o' i u → Done p t m n o i u) → Going A p t out m w n o w' → Going A p t out m w n' o' w'
going_as A p t out m w n o n' o' w' to from going =
    record {
      shape = going.shape;
      others = going.others;
      pieces = λ i u d. going.pieces i u (from i u d);
      rest = λ slot u off. going.rest slot u (λ i d at. off i (to i u d) at);
    }

-- a group is done
pub going_next : (A : Arithmetic) (p : Scheme) (t : Kind) (out : ℕ → Bool) (m : ℕ) (w : Meaning) (n : ℕ) (w' : Meaning) → Going A p t out m w n p.len w' → Going A p t out m w (n + 1) 0 w'
going_next A p t out m w n w' going =
    going_as A p t out m w n p.len (n + 1) 0 w'
    (λ i u d. (d.0, d.1, ⊎_elim (λ (l : i < n). inl (omega arith)) (λ (l : (i ≡ n) × (u < p.len)). inl (omega arith)) d.2))
    (λ i u d. (
      d.0,
      d.1,
      ⊎_elim
          (λ (l : i < n + 1). by_cases (ℕ_discrete i n) (λ (e : i ≡ n). inr (e, d.1)) (λ (ne : i ≢ n). inl (omega arith)))
          (λ (l : (i ≡ n + 1) × (u < 0)). absurd (omega arith))
          d.2,
    ))
    going

-- a group has no piece there
pub going_skip : (A : Arithmetic) (p : Scheme) (t : Kind) (out : ℕ → Bool) (m : ℕ) (w : Meaning) (n : ℕ) (w' : Meaning) → holds_piece p t m n ≡ false → Going A p t out m w n 0 w' →
    Going A p t out m w (n + 1) 0 w'
going_skip A p t out m w n w' none going =
    going_as A p t out m w n 0 (n + 1) 0 w'
    (λ i u d. (d.0, d.1, ⊎_elim (λ (l : i < n). inl (omega arith)) (λ (l : (i ≡ n) × (u < 0)). absurd (omega arith)) d.2))
    (λ i u d. (
      d.0,
      d.1,
      ⊎_elim
          (λ (l : i < n + 1).
          by_cases (ℕ_discrete i n) (λ (e : i ≡ n). absurd (both_ways (holds_piece p t m n) none (ap (holds_piece p t m) (sym e) ∙ d.0))) (λ (ne : i ≢ n). inl (omega arith)))
          (λ (l : (i ≡ n + 1) × (u < 0)). absurd (omega arith))
          d.2,
    ))
    going

module _ (A : Arithmetic) (p : Scheme) (sound : Sound A p) (t : Kind) (out : ℕ → Bool) (m : ℕ) (was : Meaning) (room : Room A p out m was) (i o : ℕ) (w w' : Meaning) (going : Going A p t out m was i o w) where
  -- the places of the module are in the rack
  pub going_space : o < p.len → Space p w m o
  going_space lo =
      subst (λ (z : Meaning). Space p z m o) (sym going.shape)
      (record { inside = room.inside; slots_fit = room.slots_fit; offset = omega (arith, room.length_fits); fitted = cond-true (eqb m m) true (was.fitted m) (eq-eqb m m refl) })

  pub going_order : w.order ≡ A.order
  going_order = ap (λ (z : Meaning). z.order) going.shape ∙ room.order_is

  module _ (lo : o < p.len) (holds : holds_piece p t m i ≡ true) (back : PutBack A p t i out m o w w') where
    -- what was fixed before the module was fitted is fixed now
    as_before : Fixed A p t i out was o back.word
    as_before =
        fixed_same A p sound out out (λ n ln. refl) t i w was o back.word
        (λ n slot b f. going.others n slot b (λ e. both_ways (out n) f (ap out e ∙ room.is_out)))
        back.fixed

    -- the pieces that were done are still
    still : (k u : ℕ) (v : ℕ → ℕ) → ((k ≡ i) × (u ≡ o) → ⊥) → Pieces A p t k m u w v → Pieces A p t k m u w' v
    still k u v other pieces =
        record {
          chunks = λ j lj mem col.
              back.same m (p.row j) u (λ _ e at. other (at_one A p sound t k i m (p.row j) (inl (j, lj, mem, col, refl)) at, e)) ∙ pieces.chunks j lj mem col;
          parities = λ q lq e.
              back.same m (slot_of p t k) u (λ _ f at. other (at_one A p sound t k i m (slot_of p t k) (inr (q, lq, e, refl)) at, f)) ∙ pieces.parities q lq e;
        }

    now_pieces : (k u : ℕ) → k ≡ i → u ≡ o → (v : ℕ → ℕ) × Fixed A p t k out was u v × Pieces A p t k m u w' v
    now_pieces k u e f =
        subst (λ (x : ℕ). (v : ℕ → ℕ) × Fixed A p t x out was u v × Pieces A p t x m u w' v) (sym e)
        (subst (λ (x : ℕ). (v : ℕ → ℕ) × Fixed A p t i out was x v × Pieces A p t i m x w' v) (sym f) (back.word, as_before, back.pieces))

    old_pieces : (k u : ℕ) → ((k ≡ i) × (u ≡ o) → ⊥) → Done p t m i o k u → (v : ℕ → ℕ) × Fixed A p t k out was u v × Pieces A p t k m u w' v
    old_pieces k u other d = let old = going.pieces k u d in (old.0, old.1, still k u old.0 other old.2)

    -- one more offset
    pub going_on : Going A p t out m was i (o + 1) w'
    going_on =
        record {
          shape = shapes (flagged was m true) w w' going.shape back.shape;
          others = λ k slot u ne. back.same k slot u (λ e _ _. ne e) ∙ going.others k slot u ne;
          pieces = λ k u d.
              by_cases (ℕ_discrete k i)
              (λ (e : k ≡ i).
              by_cases (ℕ_discrete u o) (λ (f : u ≡ o). now_pieces k u e f)
              (λ (ne : u ≢ o).
              old_pieces k u (λ b. ne b.1)
              (d.0, d.1, ⊎_elim (λ (l : k < i). inl l) (λ (l : (k ≡ i) × (u < o + 1)). inr (e, omega arith)) d.2)))
              (λ (ne : k ≢ i).
              old_pieces k u (λ b. ne b.0)
              (d.0, d.1, ⊎_elim (λ (l : k < i). inl l) (λ (l : (k ≡ i) × (u < o + 1)). absurd (ne l.0)) d.2));
          rest = λ slot u off.
              back.same m slot u (λ _ e at. off i (holds, omega arith, inr (refl, omega arith)) at)
              ∙ going.rest slot u
              (λ k d at. off k (d.0, d.1, ⊎_elim (λ (l : k < i). inl l) (λ (l : (k ≡ i) × (u < o)). inr (l.0, omega arith)) d.2) at);
        }

-- all groups are done
pub refitted : (A : Arithmetic) (p : Scheme) → Sound A p → (s : Standing) (out : ℕ → Bool) → ((n : ℕ) → n < modules p → out n ≡ out_of s n) → (m : ℕ) (w : Meaning) →
    Going A p (settled s.phase) out m s.held (groups p (settled s.phase)) 0 w → Refitted A p s m w
refitted A p sound s out same m w going =
    let t : Kind = settled s.phase in
    let known : (i u : ℕ) (v : ℕ → ℕ) → Fixed A p t i out s.held u v → Fixed A p t i (out_of s) s.held u v =
    λ i u v. fixed_same A p sound out (out_of s) same t i s.held s.held u v (λ n slot b _. refl) in
    record {
      shape = going.shape;
      others = going.others;
      chunk_pieces = λ j u lj lu col.
          let i : ℕ = group_of p t j in
          let piece = going.pieces i u (holds_chunk p t m j lj col, lu, inl (group_below A p sound t j lj)) in
          (piece.0, known i u piece.0 piece.1, piece.2.chunks j lj (member_own p t j) col);
      parity_pieces = λ i k u li lk lu e.
          let piece = going.pieces i u (holds_parity p t m i k lk e, lu, inl li) in
          (piece.0, known i u piece.0 piece.1, piece.2.parities k lk e);
      rest = λ slot u a b.
          going.rest slot u
          (λ i d at.
          ⊎_elim
          (λ (li : i < groups p t).
          ⊎_elim
          (λ (x : (j : ℕ) × (j < p.chunks) × (member p t i j ≡ true) × (p.column j ≡ m) × (p.row j ≡ slot)). a x.0 x.1 x.3 (sym x.4) d.1)
          (λ (x : (k : ℕ) × (k < parities p t) × (p.d' + k ≡ m) × (slot_of p t i ≡ slot)). b i x.0 li x.1 x.2 (sym x.3) d.1)
          at)
          (λ (no : (i ≡ groups p t) × (u < 0)). absurd (omega arith))
          d.2);
    }
