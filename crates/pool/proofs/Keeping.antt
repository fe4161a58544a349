-- What always holds of a pool is kept by every call. Assumes nothing.
use Rattle.std.proofs.Common.{◌≡◌, ℕ, suc, ◌+◌, ◌-◌, ◌<◌, ◌≤◌, Bool, true, false, cond, ◌&&◌, eqb, ltb, leb, ◌≢◌, ◌⊎◌, Some, None, Option, sym, refl, ap, ◌∙◌, subst, inl, inr, ⊎_elim, arith, MatchOption, Err}
use mathlib.Core.Logic.{by_cases}
use native.Mathlib.Decide.{ℕ_discrete}
use Rattle.std.proofs.lemmas.Bool.{both_ways, and_parts, and_from, or_cases, lt-ltb, ltb-true, leb-true, eqb-true, ne_eqb, eq-eqb, cond-true, cond-false, cond_both, cases_lt, not-false}
use Rattle.layout.specs.declared.refusal.Refusal.{Refusal}
use Rattle.field.specs.Arithmetic.{Arithmetic, Lawful}
use Rattle.rack.specs.Meaning.{Meaning, Bounded, flagged, holds}
use Rattle.coding.specs.declared.group.Kind.{Kind}
use Rattle.coding.specs.declared.group.Kind.TheVariants.{Stripe, Row}
use Rattle.coding.specs.Schemes.{Scheme, Sound}
use Rattle.coding.specs.Groups.{groups, parities, member, slot_of}
use Rattle.coding.proofs.Parities.{parity_below}
use Rattle.pool.specs.declared.kinds.Phase.{Phase}
use Rattle.pool.specs.declared.kinds.Phase.TheVariants.{Before, UnderWay, Voided, After}
use Rattle.pool.specs.declared.kinds.Call.{Call}
use Rattle.pool.specs.declared.kinds.Call.TheVariants.{Read, Write, Pull, Refit, Begin, Carry, Ready, Close, Drop}
use Rattle.pool.specs.Replies.{Answer}
use Rattle.pool.specs.Book.{settled, group_of, modules, refusal, pulled_phase, dropped_phase}
use Rattle.pool.specs.Standing.{Standing, out_of, Kept}
use Rattle.pool.specs.Effects.{changed, holding, is_staged, keeps_up, written_symbol, staged, carried_symbol, begun_symbol, Refitted, Effect, Does}
use Rattle.pool.proofs.Places.{parity_module, chunk_module, group_below, slot_below}
use Rattle.pool.proofs.Steps.{write_fits, pull_fits, refit_fits, begin_fits, carry_fits}

-- a test that would have another hold does not hold
refute : (x y : Bool) → (x ≡ true → y ≡ true) → y ≡ false → x ≡ false
refute true y h e = absurd (both_ways y e (h refl))
refute false y h e = refl

-- the symbol that a write leaves is one of three
pick_below : (a b c : Bool) (v x y n : ℕ) → v < n → x < n → y < n → cond a (cond b v (cond c x y)) y < n
pick_below true true c v x y n p q r = p
pick_below true false true v x y n p q r = q
pick_below true false false v x y n p q r = r
pick_below false b c v x y n p q r = r

-- and it is 0 where no test of the write holds
pick_none : (a b c : Bool) (v x y : ℕ) → y ≡ 0 → (a && b) ≡ false → (a && c) ≡ false → cond a (cond b v (cond c x y)) y ≡ 0
pick_none true true c v x y e p q = absurd (both_ways true p refl)
pick_none true false true v x y e p q = absurd (both_ways true q refl)
pick_none true false false v x y e p q = e
pick_none false b c v x y e p q = e

-- a symbol is 0 where the test of its change does not hold
cond_none : (t : Bool) (x y : ℕ) → y ≡ 0 → t ≡ false → cond t x y ≡ 0
cond_none true x y e p = absurd (both_ways true p refl)
cond_none false x y e p = e

-- clearing leaves 0 as it is
zero_or : (t : Bool) (y : ℕ) → y ≡ 0 → cond t 0 y ≡ 0
zero_or true y e = refl
zero_or false y e = e

-- other symbols, below the order, and none where there is no place
changed_bounded : (w : Meaning) (f : ℕ → ℕ → ℕ → ℕ) → Bounded w → ((m s o : ℕ) → f m s o < w.order) → ((m s o : ℕ) → holds w m s o ≡ false → f m s o ≡ 0) → Bounded (changed w f)
changed_bounded w f h below none =
    record {
      order_low = h.order_low;
      order_high = h.order_high;
      modules_low = h.modules_low;
      modules_high = h.modules_high;
      slots_low = h.slots_low;
      slots_high = h.slots_high;
      length_low = h.length_low;
      length_high = h.length_high;
      outside = h.outside;
      below = below;
      none = none;
    }

-- a module is marked as out, or as fitted, and has no symbol but 0
module _ (w : Meaning) (m : ℕ) (b : Bool) (h : Bounded w) (inside : m < w.modules) where
  marked_same : (n slot u : ℕ) → eqb n m ≡ false → holds (flagged w m b) n slot u ≡ holds w n slot u
  marked_same n slot u e =
      ap (λ t. ltb n w.modules && (ltb slot w.slots && (ltb u w.length && t))) (cond-false (eqb n m) b (w.fitted n) e)

  marked_none : (n slot u : ℕ) (t : Bool) → eqb n m ≡ t → holds (flagged w m b) n slot u ≡ false → cond (eqb n m) 0 (w.symbol n slot u) ≡ 0
  marked_none n slot u true e q = cond-true (eqb n m) 0 (w.symbol n slot u) e
  marked_none n slot u false e q = cond-false (eqb n m) 0 (w.symbol n slot u) e ∙ h.none n slot u (sym (marked_same n slot u e) ∙ q)

  pub marked_bounded : Bounded (flagged w m b)
  marked_bounded =
      record {
        order_low = h.order_low;
        order_high = h.order_high;
        modules_low = h.modules_low;
        modules_high = h.modules_high;
        slots_low = h.slots_low;
        slots_high = h.slots_high;
        length_low = h.length_low;
        length_high = h.length_high;
        outside = λ n ln. cond-false (eqb n m) b (w.fitted n) (ne_eqb n m (omega arith)) ∙ h.outside n ln;
        below = λ n slot u. cond_both (eqb n m) 0 (w.symbol n slot u) (λ x. x < w.order) (λ _. omega (arith, h.order_low)) (λ _. h.below n slot u);
        none = λ n slot u q. marked_none n slot u (eqb n m) refl q;
      }

-- a place that is staged
pub record StagedAt (p : Scheme) (m slot u : ℕ) : Type 0 where
  pub from : p.d' ≤ m
  pub to : m < p.d' + p.r'
  pub slot_from : p.stripes ≤ slot
  pub slot_to : slot < p.stripes + p.rows
  pub offset : u < p.len

pub staged_at : (p : Scheme) (m slot u : ℕ) → staged p m slot u ≡ true → StagedAt p m slot u
staged_at p m slot u e =
    let a = and_parts (leb p.d' m && ltb m (p.d' + p.r')) ((leb p.stripes slot && ltb slot (p.stripes + p.rows)) && ltb u p.len) e in
    let b = and_parts (leb p.d' m) (ltb m (p.d' + p.r')) a.0 in
    let c = and_parts (leb p.stripes slot && ltb slot (p.stripes + p.rows)) (ltb u p.len) a.1 in
    let d = and_parts (leb p.stripes slot) (ltb slot (p.stripes + p.rows)) c.0 in
    record {
      from = leb-true p.d' m b.0;
      to = ltb-true m (p.d' + p.r') b.1;
      slot_from = leb-true p.stripes slot d.0;
      slot_to = ltb-true slot (p.stripes + p.rows) d.1;
      offset = ltb-true u p.len c.1;
    }

-- whether a slot is one of the parities of a kind
slot_of_lem : (p : Scheme) (t : Kind) (slot : ℕ) → ((i : ℕ) × (i < groups p t) × (slot ≡ slot_of p t i)) ⊎ ((i : ℕ) → i < groups p t → slot ≡ slot_of p t i → ⊥)
slot_of_lem p Stripe slot = ⊎_elim (λ (h : slot < p.stripes). inl (slot, h, refl)) (λ (h : p.stripes ≤ slot). inr (λ i li e. omega arith)) (cases_lt slot p.stripes)
slot_of_lem p Row slot =
    ⊎_elim
    (λ (h : slot < p.stripes). inr (λ i li e. omega arith))
    (λ (h : p.stripes ≤ slot).
    ⊎_elim (λ (k : slot < p.stripes + p.rows). inl (slot - p.stripes, omega arith, omega arith)) (λ (k : p.stripes + p.rows ≤ slot). inr (λ i li e. omega arith))
    (cases_lt slot (p.stripes + p.rows)))
    (cases_lt slot p.stripes)

-- no call but a begin makes a changeover be under way
pulled_never : (ph : Phase) → pulled_phase ph ≡ UnderWay → ⊥
pulled_never Before e = let z : ◌≡◌ {A = ℕ} 0 1 = cc in omega arith
pulled_never UnderWay e = let z : ◌≡◌ {A = ℕ} 0 1 = cc in omega arith
pulled_never Voided e = let z : ◌≡◌ {A = ℕ} 0 1 = cc in omega arith
pulled_never After e = let z : ◌≡◌ {A = ℕ} 0 1 = cc in omega arith

dropped_never : (ph : Phase) → dropped_phase ph ≡ UnderWay → ⊥
dropped_never Before e = let z : ◌≡◌ {A = ℕ} 0 1 = cc in omega arith
dropped_never UnderWay e = let z : ◌≡◌ {A = ℕ} 0 1 = cc in omega arith
dropped_never Voided e = let z : ◌≡◌ {A = ℕ} 0 1 = cc in omega arith
dropped_never After e = let z : ◌≡◌ {A = ℕ} 0 1 = cc in omega arith

module _ (A : Arithmetic) (L : Lawful A) (p : Scheme) (sound : Sound A p) (s : Standing) (kept : Kept A p s) where
  -- a place of the pool on a fitted module is in the rack
  pub in_rack : (m slot u : ℕ) → m < modules p → slot < p.stripes + p.rows → u < p.len → s.held.fitted m ≡ true → holds s.held m slot u ≡ true
  in_rack m slot u lm ls lu f =
      and_from (ltb m s.held.modules) (ltb slot s.held.slots && (ltb u s.held.length && s.held.fitted m)) (lt-ltb m s.held.modules (omega (arith, kept.modules_fit)))
      (and_from (ltb slot s.held.slots) (ltb u s.held.length && s.held.fitted m) (lt-ltb slot s.held.slots (omega (arith, kept.slots_fit)))
      (and_from (ltb u s.held.length) (s.held.fitted m) (lt-ltb u s.held.length (omega (arith, kept.length_fits))) f))

  -- a code of the field is a symbol of the rack
  under_order : (n : ℕ) → n < A.order → n < s.held.order
  under_order n h = omega (arith, kept.order_is)

  -- what a write keeps up is in the rack
  up_inside : (c k slot : ℕ) → c < p.chunks → keeps_up p s c k slot ≡ true → (p.d' + k < modules p) × (slot < p.stripes + p.rows)
  up_inside c k slot lc e =
      let t : Kind = settled s.phase in
      let at : ℕ = slot_of p t (group_of p t c) in
      ⊎_elim
      (λ (h : (ltb k (parities p t) && eqb slot at) ≡ true).
      let q = and_parts (ltb k (parities p t)) (eqb slot at) h in
      (parity_module p t k (ltb-true k (parities p t) q.0), omega (arith, eqb-true slot at q.1, slot_below p t (group_of p t c) (group_below A p sound t c lc))))
      (λ (h : (is_staged s.phase s.carried p c && (ltb k p.r' && eqb slot (p.stripes + p.row c))) ≡ true).
      let q = and_parts (ltb k p.r') (eqb slot (p.stripes + p.row c)) (and_parts (is_staged s.phase s.carried p c) (ltb k p.r' && eqb slot (p.stripes + p.row c)) h).1 in
      (parity_module p Row k (ltb-true k p.r' q.0), omega (arith, eqb-true slot (p.stripes + p.row c) q.1, sound.in_rows c lc)))
      (or_cases (ltb k (parities p t) && eqb slot at) (is_staged s.phase s.carried p c && (ltb k p.r' && eqb slot (p.stripes + p.row c))) e)

  -- new symbols, and nothing else
  with_symbols : (f : ℕ → ℕ → ℕ → ℕ) → ((m slot u : ℕ) → f m slot u < A.order) → ((m slot u : ℕ) → holds s.held m slot u ≡ false → f m slot u ≡ 0) → Kept A p (holding s (changed s.held f))
  with_symbols f below none =
      record {
        bounded = changed_bounded s.held f kept.bounded (λ m slot u. under_order (f m slot u) (below m slot u)) none;
        order_is = kept.order_is;
        modules_fit = kept.modules_fit;
        slots_fit = kept.slots_fit;
        length_fits = kept.length_fits;
        few_carried = kept.few_carried;
        whole = kept.whole;
      }

  -- the symbols are codes
  pub symbol_below : (m slot u : ℕ) → s.held.symbol m slot u < A.order
  symbol_below m slot u = omega (arith, kept.bounded.below m slot u, kept.order_is)

  -- after a write
  pub write_kept : (c o v old : ℕ) → c < p.chunks → o < p.len → v < A.order → Kept A p (holding s (changed s.held (written_symbol A p s c o v old)))
  write_kept c o v old lc lo lv =
      with_symbols (written_symbol A p s c o v old)
      (λ m slot u.
      pick_below (eqb u o && s.held.fitted m) (eqb m (p.column c) && eqb slot (p.row c)) (leb p.d' m && keeps_up p s c (m - p.d') slot) v _ (s.held.symbol m slot u) A.order
      lv (L.add-below _ _) (symbol_below m slot u))
      (λ m slot u out.
      let a : Bool = eqb u o && s.held.fitted m in
      let at : Bool = eqb m (p.column c) && eqb slot (p.row c) in
      let up : Bool = leb p.d' m && keeps_up p s c (m - p.d') slot in
      pick_none a at up v _ (s.held.symbol m slot u) (kept.bounded.none m slot u out)
      (refute (a && at) (holds s.held m slot u)
      (λ h.
      let q = and_parts a at h in
      let x = and_parts (eqb u o) (s.held.fitted m) q.0 in
      let y = and_parts (eqb m (p.column c)) (eqb slot (p.row c)) q.1 in
      in_rack m slot u (omega (arith, eqb-true m (p.column c) y.0, chunk_module A p sound c lc)) (omega (arith, eqb-true slot (p.row c) y.1, sound.in_rows c lc))
      (omega (arith, eqb-true u o x.0)) x.1)
      out)
      (refute (a && up) (holds s.held m slot u)
      (λ h.
      let q = and_parts a up h in
      let x = and_parts (eqb u o) (s.held.fitted m) q.0 in
      let y = and_parts (leb p.d' m) (keeps_up p s c (m - p.d') slot) q.1 in
      let z = up_inside c (m - p.d') slot lc y.1 in
      in_rack m slot u (omega (arith, leb-true p.d' m y.0, z.0)) z.1 (omega (arith, eqb-true u o x.0)) x.1)
      out))

  -- the same memory with other symbols, in another phase and with another count
  moved : (ph : Phase) (n : ℕ) (w : Meaning) → Kept A p (holding s w) → n ≤ p.stripes → (ph ≡ UnderWay → (m : ℕ) → m < modules p → w.fitted m ≡ true) → Kept A p (record { phase = ph; carried = n; held = w })
  moved ph n w h few whole =
      record {
        bounded = h.bounded;
        order_is = h.order_is;
        modules_fit = h.modules_fit;
        slots_fit = h.slots_fit;
        length_fits = h.length_fits;
        few_carried = few;
        whole = whole;
      }

  -- after a begin, which wants all modules fitted
  pub begin_kept : ((m : ℕ) → m < modules p → s.held.fitted m ≡ true) → Kept A p (record { phase = UnderWay; carried = 0; held = changed s.held (begun_symbol p s.held) })
  begin_kept all =
      moved UnderWay 0 (changed s.held (begun_symbol p s.held))
      (with_symbols (begun_symbol p s.held)
      (λ m slot u. cond_both (staged p m slot u) 0 (s.held.symbol m slot u) (λ x. x < A.order) (λ _. omega (arith, L.two)) (λ _. symbol_below m slot u))
      (λ m slot u out. zero_or (staged p m slot u) (s.held.symbol m slot u) (kept.bounded.none m slot u out)))
      (omega arith) (λ _. all)

  -- after a carry
  pub carry_kept : s.phase ≡ UnderWay → s.carried < p.stripes → Kept A p (record { phase = s.phase; carried = suc s.carried; held = changed s.held (carried_symbol A p s.carried s.held) })
  carry_kept way more =
      moved s.phase (suc s.carried) (changed s.held (carried_symbol A p s.carried s.held))
      (with_symbols (carried_symbol A p s.carried s.held)
      (λ m slot u. cond_both (staged p m slot u) _ (s.held.symbol m slot u) (λ x. x < A.order) (λ _. L.add-below _ _) (λ _. symbol_below m slot u))
      (λ m slot u out.
      cond_none (staged p m slot u) _ (s.held.symbol m slot u) (kept.bounded.none m slot u out)
      (refute (staged p m slot u) (holds s.held m slot u)
      (λ h.
      let at = staged_at p m slot u h in
      let lm : m < modules p = omega (arith, at.to) in
      in_rack m slot u lm at.slot_to at.offset (kept.whole way m lm))
      out)))
      (omega arith) kept.whole

  -- after a pull
  pub pull_kept : (m : ℕ) → m < modules p → Kept A p (record { phase = pulled_phase s.phase; carried = s.carried; held = flagged s.held m false })
  pull_kept m lm =
      record {
        bounded = marked_bounded s.held m false kept.bounded (omega (arith, kept.modules_fit));
        order_is = kept.order_is;
        modules_fit = kept.modules_fit;
        slots_fit = kept.slots_fit;
        length_fits = kept.length_fits;
        few_carried = kept.few_carried;
        whole = λ e. absurd (pulled_never s.phase e);
      }

  module _ (m : ℕ) (lm : m < modules p) (w : Meaning) (refitted : Refitted A p s m w) where
    -- every symbol of the module that is fitted again is a code
    piece_below : (slot u : ℕ) → w.symbol m slot u < A.order
    piece_below slot u =
        let t : Kind = settled s.phase in
        let none : ((j : ℕ) → j < p.chunks → p.column j ≡ m → slot ≡ p.row j → u < p.len → ⊥) →
        ((i k : ℕ) → i < groups p t → k < parities p t → p.d' + k ≡ m → slot ≡ slot_of p t i → u < p.len → ⊥) → w.symbol m slot u < A.order =
        λ a b. omega (arith, refitted.rest slot u a b, L.two) in
        ⊎_elim
        (λ (lu : u < p.len).
        ⊎_elim
        (λ (low : m < p.d').
        ⊎_elim
        (λ (ls : slot < p.rows).
        let j : ℕ = p.chunk slot m in
        let piece = refitted.chunk_pieces j u (sound.filled slot m ls low) lu (sound.filled_column slot m ls low) in
        let is : w.symbol m slot u ≡ piece.0 j = ap (λ (n : ℕ). w.symbol m n u) (sym (sound.filled_row slot m ls low)) ∙ piece.2 in
        omega (arith, piece.1.codes j (sound.filled slot m ls low)))
        (λ (ls : p.rows ≤ slot). none (λ j lj c r _. omega (arith, sound.in_rows j lj)) (λ i k li lk e _ _. omega arith))
        (cases_lt slot p.rows))
        (λ (high : p.d' ≤ m).
        let no_chunk : (j : ℕ) → j < p.chunks → p.column j ≡ m → slot ≡ p.row j → u < p.len → ⊥ = λ j lj c _ _. omega (arith, sound.in_columns j lj) in
        ⊎_elim
        (λ (lk : m - p.d' < parities p t).
        ⊎_elim
        (λ (at : (i : ℕ) × (i < groups p t) × (slot ≡ slot_of p t i)).
        let k : ℕ = m - p.d' in
        let piece = refitted.parity_pieces at.0 k u at.1 lk lu (omega arith) in
        let is = ap (λ (n : ℕ). w.symbol m n u) at.2 ∙ piece.2 in
        subst (λ (n : ℕ). n < A.order) (sym is) (parity_below A L p k (member p t at.0) piece.0))
        (λ (off : (i : ℕ) → i < groups p t → slot ≡ slot_of p t i → ⊥). none no_chunk (λ i k li lk e f _. off i li f))
        (slot_of_lem p t slot))
        (λ (lk : parities p t ≤ m - p.d'). none no_chunk (λ i k li less e _ _. omega arith))
        (cases_lt (m - p.d') (parities p t)))
        (cases_lt m p.d'))
        (λ (lu : p.len ≤ u). none (λ j lj c r h. omega arith) (λ i k li lk e f h. omega arith))
        (cases_lt u p.len)

    -- and none lies outside the rack
    piece_none : (slot u : ℕ) → (ltb slot s.held.slots && ltb u s.held.length) ≡ false → w.symbol m slot u ≡ 0
    piece_none slot u e =
        let t : Kind = settled s.phase in
        let inside : slot < p.stripes + p.rows → u < p.len → ⊥ =
        λ ls lu.
        both_ways (ltb slot s.held.slots && ltb u s.held.length) e
        (and_from (ltb slot s.held.slots) (ltb u s.held.length) (lt-ltb slot s.held.slots (omega (arith, kept.slots_fit))) (lt-ltb u s.held.length (omega (arith, kept.length_fits)))) in
        refitted.rest slot u (λ j lj c r lu. inside (omega (arith, sound.in_rows j lj)) lu) (λ i k li lk c r lu. inside (omega (arith, slot_below p t i li)) lu)

    fit_bounded : Bounded (changed (flagged s.held m true) w.symbol)
    fit_bounded =
        changed_bounded (flagged s.held m true) w.symbol (marked_bounded s.held m true kept.bounded (omega (arith, kept.modules_fit)))
        (λ n slot u.
        by_cases (ℕ_discrete n m)
        (λ (e : n ≡ m). subst (λ (x : ℕ). w.symbol x slot u < s.held.order) (sym e) (under_order (w.symbol m slot u) (piece_below slot u)))
        (λ (ne : n ≢ m). omega (arith, refitted.others n slot u ne, kept.bounded.below n slot u)))
        (λ n slot u out.
        by_cases (ℕ_discrete n m)
        (λ (e : n ≡ m).
        ap (λ (x : ℕ). w.symbol x slot u) e
        ∙ piece_none slot u
        (refute (ltb slot s.held.slots && ltb u s.held.length) (holds (flagged s.held m true) n slot u)
        (λ h.
        let q = and_parts (ltb slot s.held.slots) (ltb u s.held.length) h in
        let f : (flagged s.held m true).fitted n ≡ true = cond-true (eqb n m) true (s.held.fitted n) (eq-eqb n m e) in
        and_from (ltb n s.held.modules) (ltb slot s.held.slots && (ltb u s.held.length && (flagged s.held m true).fitted n)) (lt-ltb n s.held.modules (omega (arith, kept.modules_fit)))
        (and_from (ltb slot s.held.slots) (ltb u s.held.length && (flagged s.held m true).fitted n) q.0 (and_from (ltb u s.held.length) ((flagged s.held m true).fitted n) q.1 f)))
        out))
        (λ (ne : n ≢ m).
        refitted.others n slot u ne
        ∙ kept.bounded.none n slot u
        (sym (marked_same s.held m true kept.bounded (omega (arith, kept.modules_fit)) n slot u (ne_eqb n m ne)) ∙ out)))

    -- after a refit
    pub refit_kept : Kept A p (holding s w)
    refit_kept =
        subst (λ (x : Meaning). Kept A p (holding s x)) (sym refitted.shape)
        (record {
          bounded = fit_bounded;
          order_is = kept.order_is;
          modules_fit = kept.modules_fit;
          slots_fit = kept.slots_fit;
          length_fits = kept.length_fits;
          few_carried = kept.few_carried;
          whole = λ way n ln. ap (λ f. cond (eqb n m) true f) (kept.whole way n ln) ∙ always (eqb n m);
        })
      where
        always : (t : Bool) → cond t true true ≡ true
        always true = refl
        always false = refl

  -- an accepted call
  grants : (c : Call) (a : Answer) (t : Standing) → refusal p A.order s.phase s.carried (out_of s) c ≡ None → Effect A p s c a t → Kept A p t
  grants (Read c o) a t e f = subst (Kept A p) (sym f.3) kept
  grants (Write c o v) a t e f =
      let both = write_fits p A.order s.phase s.carried (out_of s) c o v e in
      subst (Kept A p) (sym f.3) (write_kept c o v f.0 both.0.chunk both.0.offset both.1)
  grants (Pull m) a t e f = subst (Kept A p) (sym f.1) (pull_kept m (pull_fits p A.order s.phase s.carried (out_of s) m e).0)
  grants (Refit m) a t e f =
      subst (Kept A p) (sym f.3) (refit_kept m (refit_fits p A.order s.phase s.carried (out_of s) m e).inside f.0 f.1)
  grants Begin a t e f =
      let fits = begin_fits p A.order s.phase s.carried (out_of s) e in
      subst (Kept A p) (sym f.1) (begin_kept (λ m lm. not-false (s.held.fitted m) (fits.1 m lm)))
  grants Carry a t e f =
      let fits = carry_fits p A.order s.phase s.carried (out_of s) e in
      subst (Kept A p) (sym f.1) (carry_kept fits.0 fits.1)
  grants Ready a t e f = subst (Kept A p) (sym f.1) kept
  grants Close a t e f =
      subst (Kept A p) (sym f.1) (moved After s.carried s.held kept kept.few_carried (λ e. absurd (let z : ◌≡◌ {A = ℕ} 0 1 = cc in omega arith)))
  grants Drop a t e f =
      subst (Kept A p) (sym f.1) (moved (dropped_phase s.phase) s.carried s.held kept kept.few_carried (λ e. absurd (dropped_never s.phase e)))

  by_refusal : (c : Call) (a : Answer) (t : Standing) (r : Option Refusal) → refusal p A.order s.phase s.carried (out_of s) c ≡ r →
      MatchOption r (Effect A p s c a t) (λ e. (a ≡ Err e) × (t ≡ s)) → Kept A p t
  by_refusal c a t None e f = grants c a t e f
  by_refusal c a t (Some r) e f = subst (Kept A p) (sym f.1) kept

-- what always holds of a pool holds after a call
pub kept_step : (A : Arithmetic) → Lawful A → (p : Scheme) → Sound A p → (s : Standing) (c : Call) (a : Answer) (t : Standing) → Kept A p s → Does A p s c a t → Kept A p t
kept_step A L p sound s c a t kept does = by_refusal A L p sound s kept c a t (refusal p A.order s.phase s.carried (out_of s) c) refl does
