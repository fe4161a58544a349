-- The staged parities as a stripe is carried, step by step. Assumes nothing.
use Rattle.std.proofs.Common.{◌≡◌, ℕ, ◌+◌, ◌-◌, ◌<◌, Bool, true, false, cond, ◌&&◌, eqb, ltb, leb, ◌≢◌, List, get_or, sym, refl, ap, ◌∙◌, subst, arith}
use mathlib.Core.Logic.{by_cases}
use native.Mathlib.Decide.{ℕ_discrete}
use Rattle.std.proofs.lemmas.Bool.{and_parts, and_from, and_left, and_right, lt-ltb, le-ltb, eqb-true, eq-eqb, cond-true, cond-false, both_ways}
use Rattle.std.proofs.lemmas.Bool.Decides.{nat_tests}
use Rattle.field.specs.Arithmetic.{Arithmetic, Lawful}
use Rattle.rack.specs.Meaning.{Meaning, Bounded}
use Rattle.coding.specs.Schemes.{Scheme}
use Rattle.pool.specs.Book.{modules}
use Rattle.pool.specs.Effects.{changed, staged, chunk_in, gain, chunks_at, carried_symbol}
use Rattle.pool.specs.Growth.{Whole, grown_symbol, grown, to_row, stripe_gain}
use Rattle.pool.specs.WordSteps.{added_at, Spans}
use Rattle.pool.proofs.Carrying.{stripe_not_staged, low_not_staged}
use Rattle.pool.proofs.Gains.{zero_add, gain_same}
use Rattle.pool.proofs.Keeping.{staged_at}

-- stripe i is carried at the offsets below n
abbrev pub carried_below : Arithmetic → Scheme → ℕ → Meaning → ℕ → ℕ → ℕ → ℕ → ℕ
carried_below A p i w n m slot u =
    cond (staged p m slot u && ltb u n)
    (A.add (w.symbol m slot u) (gain A p i (m - p.d') (w.symbol m i u) (chunks_at p w u) (slot - p.stripes)))
    (w.symbol m slot u)

-- two memories that differ in their symbols at most
pub same_symbols : (w : Meaning) (f g : ℕ → ℕ → ℕ → ℕ) → ((m s u : ℕ) → f m s u ≡ g m s u) → changed w f ≡ changed w g
same_symbols w f g h = λ i. record {
  order = w.order;
  modules = w.modules;
  slots = w.slots;
  length = w.length;
  fitted = w.fitted;
  symbol = λ m s u. h m s u i;
}

-- a rack that is another
pub same_rack : {R : Type 0} (valid : R → Type 0) (meaning : R → Meaning) (x y : R) (w : Meaning) → x ≡ y → valid y × (meaning y ≡ w) → valid x × (meaning x ≡ w)
same_rack {R} valid meaning x y w e = subst (λ (r : R). valid r × (meaning r ≡ w)) (sym e)

-- a change where a test holds
at_test : (t : Bool) (x y z : ℕ) → (t ≡ true → x ≡ y) → cond t x z ≡ cond t y z
at_test true x y z h = h refl
at_test false x y z h = refl

twice_test : (A : Arithmetic) → Lawful A → (t : Bool) (x a b : ℕ) → cond t (A.add (cond t (A.add x a) x) b) (cond t (A.add x a) x) ≡ cond t (A.add x (A.add a b)) x
twice_test A L true x a b = L.add_assoc x a b
twice_test A L false x a b = refl

none_test : (t : Bool) (x y : ℕ) → (t ≡ true → y ≡ x) → cond t y x ≡ x
none_test true x y h = h refl
none_test false x y h = refl

-- the parity and the row of a staged place
pub record OfRow (p : Scheme) (m slot : ℕ) : Type 0 where
  pub parity : m - p.d' < p.r'
  pub row : slot - p.stripes < p.rows
  pub module_is : p.d' + (m - p.d') ≡ m
  pub slot_is : p.stripes + (slot - p.stripes) ≡ slot

pub of_row : (p : Scheme) (m slot u : ℕ) → staged p m slot u ≡ true → OfRow p m slot
of_row p m slot u e =
    let at = staged_at p m slot u e in
    let a = at.from in let b = at.to in let c = at.slot_from in let d = at.slot_to in
    record { parity = omega arith; row = omega arith; module_is = omega arith; slot_is = omega arith }

-- a place of the pool is in the rack
pub room_spans : (A : Arithmetic) (p : Scheme) (w : Meaning) → Whole A p w → (m slot u : ℕ) → m < modules p → slot < p.stripes + p.rows → u < p.len → Spans A w (m + 1) slot u
room_spans A p w r m slot u lm ls lu =
    record {
      order_is = r.order_is;
      modules_fit = omega (arith, r.modules_fit);
      slot_fits = omega (arith, r.slots_fit);
      offset_fits = omega (arith, r.length_fits);
    }

-- and is so where only symbols have changed
pub room_kept : (A : Arithmetic) (p : Scheme) (w w₁ : Meaning) (f : ℕ → ℕ → ℕ → ℕ) → w₁ ≡ changed w f → Whole A p w → Whole A p w₁
room_kept A p w w₁ f e r = subst (Whole A p) (sym e) r

-- its symbols are codes
pub room_below : (A : Arithmetic) (p : Scheme) (w : Meaning) → Whole A p w → Bounded w → (m s u : ℕ) → w.symbol m s u < A.order
room_below A p w r b m s u = omega (arith, r.order_is, b.below m s u)

module _ (A : Arithmetic) (L : Lawful A) (p : Scheme) (o : ℕ) where
  -- equal sums are added
  grown_same : (w : Meaning) (f g : ℕ → ℕ → ℕ) → ((k h : ℕ) → k < p.r' → h < p.rows → f k h ≡ g k h) → grown A p w o f ≡ grown A p w o g
  grown_same w f g e =
      same_symbols w (grown_symbol A p w o f) (grown_symbol A p w o g)
      (λ m s u.
      at_test (staged p m s u && eqb u o) _ _ (w.symbol m s u)
      (λ t. let at = of_row p m s u (and_parts (staged p m s u) (eqb u o) t).0 in ap (λ z. A.add (w.symbol m s u) z) (e (m - p.d') (s - p.stripes) at.parity at.row)))

  -- nothing is added
  grown_none : (w : Meaning) (f : ℕ → ℕ → ℕ) → ((m s u : ℕ) → w.symbol m s u < A.order) → ((k h : ℕ) → k < p.r' → h < p.rows → f k h ≡ 0) → grown A p w o f ≡ w
  grown_none w f below e =
      same_symbols w (grown_symbol A p w o f) w.symbol
      (λ m s u.
      none_test (staged p m s u && eqb u o) (w.symbol m s u) _
      (λ t.
      let at = of_row p m s u (and_parts (staged p m s u) (eqb u o) t).0 in
      ap (λ z. A.add (w.symbol m s u) z) (e (m - p.d') (s - p.stripes) at.parity at.row) ∙ L.add-zero (w.symbol m s u) (below m s u)))

  -- one sum is added after another
  grown_twice : (w : Meaning) (f g : ℕ → ℕ → ℕ) → grown A p (grown A p w o f) o g ≡ grown A p w o (λ k h. A.add (f k h) (g k h))
  grown_twice w f g =
      same_symbols w (grown_symbol A p (grown A p w o f) o g) (grown_symbol A p w o (λ k h. A.add (f k h) (g k h)))
      (λ m s u. twice_test A L (staged p m s u && eqb u o) (w.symbol m s u) (f (m - p.d') (s - p.stripes)) (g (m - p.d') (s - p.stripes)))

-- the first n of what is added to one row
abbrev pub part_row : ℕ → List ℕ → ℕ → ℕ → ℕ → ℕ
part_row row xs n k h = cond (eqb h row && ltb k n) (get_or xs k 0) 0

part_other : (row n k h x : ℕ) → (k ≡ n → h ≡ row → ⊥) → cond (eqb h row && ltb k n) x 0 ≡ cond (eqb h row && ltb k (n + 1)) x 0
part_other row n k h x ne = grind (arith, nat_tests)

part_here : (row n k h x : ℕ) → k ≡ n → h ≡ row → (cond (eqb h row && ltb k n) x 0 ≡ 0) × (cond (eqb h row && ltb k (n + 1)) x 0 ≡ x)
part_here row n k h x e f = (grind (arith, nat_tests), grind (arith, nat_tests))

part_none : (row : ℕ) (xs : List ℕ) (k h : ℕ) → part_row row xs 0 k h ≡ 0
part_none row xs k h = grind (arith, nat_tests)

part_all : (row : ℕ) (xs : List ℕ) (n k h : ℕ) → k < n → part_row row xs n k h ≡ to_row row xs k h
part_all row xs n k h l = grind (arith, nat_tests)

module _ (A : Arithmetic) (L : Lawful A) (p : Scheme) (o : ℕ) (w : Meaning) (row : ℕ) (xs : List ℕ) where
  pub row_none : ((m s u : ℕ) → w.symbol m s u < A.order) → w ≡ grown A p w o (part_row row xs 0)
  row_none below = sym (grown_none A L p o w (part_row row xs 0) below (λ k h _ _. part_none row xs k h))

  pub row_all : (n : ℕ) (w₁ : Meaning) → n ≡ p.r' → w₁ ≡ grown A p w o (part_row row xs n) → w₁ ≡ grown A p w o (to_row row xs)
  row_all n w₁ all a = a ∙ grown_same A L p o w (part_row row xs n) (to_row row xs) (λ k h lk _. part_all row xs n k h (omega arith))

module _ (A : Arithmetic) (L : Lawful A) (p : Scheme) (o : ℕ) (lo : o < p.len) (w : Meaning) (below : (m s u : ℕ) → w.symbol m s u < A.order) (row : ℕ) (lr : row < p.rows) (xs : List ℕ) (n : ℕ) (ln : n < p.r') where
  -- the place of the parity
  here : (f : ℕ → ℕ → ℕ) (m s u : ℕ) → m ≡ p.d' + n → s ≡ p.stripes + row → u ≡ o → grown_symbol A p w o f m s u ≡ A.add (w.symbol m s u) (f n row)
  here f m s u em es eu =
      let e : m - p.d' ≡ n = omega arith in
      let e' : s - p.stripes ≡ row = omega arith in
      cond-true (staged p m s u && eqb u o) _ _ (grind (arith, nat_tests))
      ∙ ap (λ z. A.add (w.symbol m s u) (f z (s - p.stripes))) e
      ∙ ap (λ z. A.add (w.symbol m s u) (f n z)) e'

  -- after the parity of one module more
  more_at : w.fitted (p.d' + n) ≡ true → (m s u : ℕ) (t : Bool) → ((eqb s (p.stripes + row) && eqb u o) && (w.fitted m && eqb m (p.d' + n))) ≡ t →
      cond t (A.add (grown_symbol A p w o (part_row row xs n) m s u) (get_or xs n 0)) (grown_symbol A p w o (part_row row xs n) m s u) ≡ grown_symbol A p w o (part_row row xs (n + 1)) m s u
  more_at fits m s u true t =
      let a = and_parts (eqb s (p.stripes + row) && eqb u o) (w.fitted m && eqb m (p.d' + n)) t in
      let b = and_parts (eqb s (p.stripes + row)) (eqb u o) a.0 in
      let em : m ≡ p.d' + n = eqb-true m (p.d' + n) (and_parts (w.fitted m) (eqb m (p.d' + n)) a.1).1 in
      let es : s ≡ p.stripes + row = eqb-true s (p.stripes + row) b.0 in
      let eu : u ≡ o = eqb-true u o b.1 in
      let x : ℕ = w.symbol m s u in
      let part = part_here row n n row (get_or xs n 0) refl refl in
      ap (λ z. A.add z (get_or xs n 0)) (here (part_row row xs n) m s u em es eu ∙ ap (λ z. A.add x z) part.0 ∙ L.add-zero x (below m s u))
      ∙ sym (here (part_row row xs (n + 1)) m s u em es eu ∙ ap (λ z. A.add x z) part.1)
  more_at fits m s u false t =
      at_test (staged p m s u && eqb u o) _ _ (w.symbol m s u)
      (λ q.
      let q' = and_parts (staged p m s u) (eqb u o) q in
      let at = of_row p m s u q'.0 in
      ap (λ z. A.add (w.symbol m s u) z)
      (part_other row n (m - p.d') (s - p.stripes) (get_or xs (m - p.d') 0)
      (λ ek eh.
      let em : m ≡ p.d' + n = omega (arith, at.module_is) in
      both_ways _ t
      (and_from _ _ (and_from _ _ (eq-eqb s (p.stripes + row) (omega (arith, at.slot_is))) q'.1) (and_from _ _ (ap w.fitted em ∙ fits) (eq-eqb m (p.d' + n) em))))))

  pub row_more : (w₁ w₂ : Meaning) (slot : ℕ) → w₁ ≡ grown A p w o (part_row row xs n) → slot ≡ p.stripes + row → w.fitted (p.d' + n) ≡ true →
      w₂ ≡ changed w₁ (added_at A w₁ (p.d' + n) slot o (get_or xs n 0)) → w₂ ≡ grown A p w o (part_row row xs (n + 1))
  row_more w₁ w₂ slot e es fits h =
      h
      ∙ ap (λ (z : ℕ). changed w₁ (added_at A w₁ (p.d' + n) z o (get_or xs n 0))) es
      ∙ ap (λ (v : Meaning). changed v (added_at A v (p.d' + n) (p.stripes + row) o (get_or xs n 0))) e
      ∙ same_symbols w _ (grown_symbol A p w o (part_row row xs (n + 1))) (λ m s u. more_at fits m s u ((eqb s (p.stripes + row) && eqb u o) && (w.fitted m && eqb m (p.d' + n))) refl)

-- row by row: what is added to the rows below n
abbrev pub rows_below : (ℕ → ℕ → ℕ) → ℕ → ℕ → ℕ → ℕ
rows_below f n k h = cond (ltb h n) (f k h) 0

row_test : (A : Arithmetic) → Lawful A → (n h x y : ℕ) → x < A.order → (h ≡ n → y ≡ x) → A.add (cond (ltb h n) x 0) (cond (eqb h n) y 0) ≡ cond (ltb h (n + 1)) x 0
row_test A L n h x y lx same =
    by_cases (ℕ_discrete h n)
    (λ (e : h ≡ n). let q = same e in let z = zero_add A L x lx in grind (arith, nat_tests))
    (λ (ne : h ≢ n). let a = L.add-zero x lx in let b = L.add-zero 0 (omega (arith, L.two)) in grind (arith, nat_tests))

skip_test : (n h x : ℕ) → (h ≡ n → x ≡ 0) → cond (ltb h n) x 0 ≡ cond (ltb h (n + 1)) x 0
skip_test n h x none =
    by_cases (ℕ_discrete h n)
    (λ (e : h ≡ n). let q = none e in grind (arith, nat_tests))
    (λ (ne : h ≢ n). grind (arith, nat_tests))

module _ (A : Arithmetic) (L : Lawful A) (p : Scheme) (o : ℕ) (w : Meaning) (f : ℕ → ℕ → ℕ) where
  pub rows_none : ((m s u : ℕ) → w.symbol m s u < A.order) → w ≡ grown A p w o (rows_below f 0)
  rows_none below = sym (grown_none A L p o w (rows_below f 0) below (λ k h _ _. cond-false (ltb h 0) (f k h) 0 (le-ltb h 0 (omega arith))))

  -- a row is added to
  pub rows_more : ((k h : ℕ) → f k h < A.order) → (n : ℕ) (xs : List ℕ) (w₁ w₂ : Meaning) → ((k : ℕ) → k < p.r' → get_or xs k 0 ≡ f k n) →
      w₁ ≡ grown A p w o (rows_below f n) → w₂ ≡ grown A p w₁ o (to_row n xs) → w₂ ≡ grown A p w o (rows_below f (n + 1))
  rows_more codes n xs w₁ w₂ are a b =
      b
      ∙ ap (λ (z : Meaning). grown A p z o (to_row n xs)) a
      ∙ grown_twice A L p o w (rows_below f n) (to_row n xs)
      ∙ grown_same A L p o w (λ k h. A.add (rows_below f n k h) (to_row n xs k h)) (rows_below f (n + 1))
      (λ k h lk _. row_test A L n h (f k h) (get_or xs k 0) (codes k h) (λ e. are k lk ∙ ap (f k) (sym e)))

  -- a row gets nothing
  pub rows_skip : (n : ℕ) (w₁ : Meaning) → ((k : ℕ) → k < p.r' → f k n ≡ 0) → w₁ ≡ grown A p w o (rows_below f n) → w₁ ≡ grown A p w o (rows_below f (n + 1))
  rows_skip n w₁ none a =
      a ∙ grown_same A L p o w (rows_below f n) (rows_below f (n + 1)) (λ k h lk _. skip_test n h (f k h) (λ e. ap (f k) e ∙ none k lk))

  pub rows_all : (n : ℕ) (w₁ : Meaning) → n ≡ p.rows → w₁ ≡ grown A p w o (rows_below f n) → w₁ ≡ grown A p w o f
  rows_all n w₁ all a = a ∙ grown_same A L p o w (rows_below f n) f (λ k h _ lh. cond-true (ltb h n) (f k h) 0 (lt-ltb h n (omega arith)))

-- offset by offset: the pieces of the stripe are not staged, so a step leaves them as they are
module _ (A : Arithmetic) (L : Lawful A) (p : Scheme) (in_columns : (j : ℕ) → j < p.chunks → p.column j < p.d') (i : ℕ) (li : i < p.stripes) (inside : (e : ℕ) → e < p.d → chunk_in p i e < p.chunks) where
  pub carried_none : (w : Meaning) → w ≡ changed w (carried_below A p i w 0)
  carried_none w =
      same_symbols w w.symbol (carried_below A p i w 0)
      (λ m s u. sym (cond-false (staged p m s u && ltb u 0) _ (w.symbol m s u) (and_right _ _ (le-ltb u 0 (omega arith)))))

  below_chunk : (w : Meaning) (n u e : ℕ) → e < p.d → chunks_at p (changed w (carried_below A p i w n)) u (chunk_in p i e) ≡ chunks_at p w u (chunk_in p i e)
  below_chunk w n u e le =
      let j : ℕ = chunk_in p i e in
      cond-false (staged p (p.column j) (p.row j) u && ltb u n) _ (w.symbol (p.column j) (p.row j) u) (and_left _ _ (low_not_staged p (p.column j) (p.row j) u (in_columns j (inside e le))))

  below_parity : (w : Meaning) (n m u : ℕ) → carried_below A p i w n m i u ≡ w.symbol m i u
  below_parity w n m u = cond-false (staged p m i u && ltb u n) _ (w.symbol m i u) (and_left _ _ (stripe_not_staged p m i u li))

  -- the place of one offset more
  more_offset : (w : Meaning) (n m s u : ℕ) (t : Bool) → (staged p m s u && eqb u n) ≡ t →
      cond t (A.add (carried_below A p i w n m s u) (stripe_gain A p i (changed w (carried_below A p i w n)) n (m - p.d') (s - p.stripes))) (carried_below A p i w n m s u)
      ≡ carried_below A p i w (n + 1) m s u
  more_offset w n m s u true t =
      let q = and_parts (staged p m s u) (eqb u n) t in
      let at = of_row p m s u q.0 in
      let eu : u ≡ n = eqb-true u n q.1 in
      let k : ℕ = m - p.d' in
      let h : ℕ = s - p.stripes in
      ap (λ (z : ℕ). A.add z (stripe_gain A p i (changed w (carried_below A p i w n)) n k h))
      (cond-false (staged p m s u && ltb u n) _ (w.symbol m s u) (and_right _ _ (le-ltb u n (omega arith))))
      ∙ ap (λ (z : ℕ). A.add (w.symbol m s u) z)
      (gain_same A L p i k h _ (w.symbol m i u) (chunks_at p (changed w (carried_below A p i w n)) n) (chunks_at p w u)
      (below_parity w n (p.d' + k) n ∙ ap (λ (z : ℕ). w.symbol z i n) at.module_is ∙ ap (λ (z : ℕ). w.symbol m i z) (sym eu))
      (λ e le. below_chunk w n n e le ∙ ap (λ (z : ℕ). chunks_at p w z (chunk_in p i e)) (sym eu)))
      ∙ sym (cond-true (staged p m s u && ltb u (n + 1)) _ (w.symbol m s u) (and_from _ _ q.0 (lt-ltb u (n + 1) (omega arith))))
  more_offset w n m s u false t =
      ap (λ (b : Bool). cond b (A.add (w.symbol m s u) (gain A p i (m - p.d') (w.symbol m i u) (chunks_at p w u) (s - p.stripes))) (w.symbol m s u)) (one_more (staged p m s u) u n t)
    where
      one_more : (b : Bool) (u n : ℕ) → (b && eqb u n) ≡ false → (b && ltb u n) ≡ (b && ltb u (n + 1))
      one_more b u n e = grind (arith, nat_tests)

  pub carried_more : (w w₁ w₂ : Meaning) (n : ℕ) → w₁ ≡ changed w (carried_below A p i w n) → w₂ ≡ grown A p w₁ n (stripe_gain A p i w₁ n) → w₂ ≡ changed w (carried_below A p i w (n + 1))
  carried_more w w₁ w₂ n a b =
      b
      ∙ ap (λ (z : Meaning). grown A p z n (stripe_gain A p i z n)) a
      ∙ same_symbols w _ (carried_below A p i w (n + 1)) (λ m s u. more_offset w n m s u (staged p m s u && eqb u n) refl)

  pub carried_all : (w w₁ : Meaning) (n : ℕ) → n ≡ p.len → w₁ ≡ changed w (carried_below A p i w n) → w₁ ≡ changed w (carried_symbol A p i w)
  carried_all w w₁ n e a =
      a
      ∙ same_symbols w (carried_below A p i w n) (carried_symbol A p i w)
      (λ m s u.
      ap (λ (b : Bool). cond b (A.add (w.symbol m s u) (gain A p i (m - p.d') (w.symbol m i u) (chunks_at p w u) (s - p.stripes))) (w.symbol m s u))
      (within (leb p.d' m && ltb m (p.d' + p.r')) (leb p.stripes s && ltb s (p.stripes + p.rows)) u p.len n e))
    where
      within : (a b : Bool) (u l n : ℕ) → n ≡ l → ((a && (b && ltb u l)) && ltb u n) ≡ (a && (b && ltb u l))
      within a b u l n e = grind (arith, nat_tests)
