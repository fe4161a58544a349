-- Putting the pieces of a group back on a module, at one offset. Assumes nothing.
use Rattle.std.proofs.Common.{◌≡◌, ℕ, ◌+◌, ◌<◌, ◌≤◌, Bool, true, false, ◌&&◌, eqb, ltb, ◌≢◌, List, get_or, sym, refl, ap, ◌∙◌, subst, inl, inr, ⊎_elim, not-suc-le-zero, arith}
use mathlib.Core.Logic.{by_cases}
use native.Mathlib.Decide.{ℕ_discrete}
use Rattle.std.proofs.lemmas.Bool.{and_from, and_parts, lt-ltb, ltb-true, eqb-true, eq-eqb, cond-true, cond-false, cases_Bool, cases_lt, both_ways}
use Rattle.field.specs.Arithmetic.{Arithmetic, Lawful}
use Rattle.rack.specs.Meaning.{Meaning, takes, stored, after_put}
use Rattle.coding.specs.declared.group.Kind.{Kind}
use Rattle.coding.specs.declared.group.Group.{Group}
use Rattle.coding.specs.declared.repair.Repair.{Repair}
use Rattle.coding.specs.Schemes.{Scheme, Sound}
use Rattle.coding.specs.Groups.{groups, size, member, chunk_of, index_of, parity}
use Rattle.coding.specs.Pieces.{Grouped, ParityOf, module_at, slot_at}
use Rattle.coding.specs.Repairs.{Ready, Rebuilt}
use Rattle.coding.proofs.Listed.{Lists}
use Rattle.coding.proofs.Grouping.{members, few_parities}
use Rattle.pool.specs.Effects.{changed}
use Rattle.pool.specs.Restored.{Space, chunk_put, ChunksPut, ParityPut, PutBack}
use Rattle.pool.proofs.Places.{one_place, slot_below}

-- a symbol that is put where it can be
pub record StoredAt (w w' : Meaning) (m s u x : ℕ) : Type 0 where
  pub shape : w' ≡ changed w w'.symbol
  pub here : w'.symbol m s u ≡ x
  pub same : (n slot b : ℕ) → (n ≡ m → slot ≡ s → b ≡ u → ⊥) → w'.symbol n slot b ≡ w.symbol n slot b

pub stored_at : (w w' : Meaning) (m s u x : ℕ) → w' ≡ after_put w m s u x → m < w.modules → s < w.slots → u < w.length → w.fitted m ≡ true → x < w.order → StoredAt w w' m s u x
stored_at w w' m s u x after lm ls lu f lx =
    let t : takes w m s u x ≡ true =
    and_from _ _ (and_from _ _ (lt-ltb m w.modules lm) (and_from _ _ (lt-ltb s w.slots ls) (and_from _ _ (lt-ltb u w.length lu) f))) (lt-ltb x w.order lx) in
    let e : w' ≡ stored w m s u x = after ∙ cond-true (takes w m s u x) (stored w m s u x) w t in
    record {
      shape = e ∙ ap (changed w) (sym (ap (λ (z : Meaning). z.symbol) e));
      here = ap (λ (z : Meaning). z.symbol m s u) e
          ∙ cond-true (eqb m m && (eqb s s && eqb u u)) x (w.symbol m s u) (and_from _ _ (eq-eqb m m refl) (and_from _ _ (eq-eqb s s refl) (eq-eqb u u refl)));
      same = λ n slot b off.
          ap (λ (z : Meaning). z.symbol n slot b) e
          ∙ ⊎_elim
          (λ (q : (eqb n m && (eqb slot s && eqb b u)) ≡ true).
          let a = and_parts (eqb n m) (eqb slot s && eqb b u) q in
          let d = and_parts (eqb slot s) (eqb b u) a.1 in
          absurd (off (eqb-true n m a.0) (eqb-true slot s d.0) (eqb-true b u d.1)))
          (λ (q : (eqb n m && (eqb slot s && eqb b u)) ≡ false). cond-false (eqb n m && (eqb slot s && eqb b u)) x (w.symbol n slot b) q)
          (cases_Bool (eqb n m && (eqb slot s && eqb b u)));
    }

-- other symbols of other symbols
pub shapes : (w x y : Meaning) → x ≡ changed w x.symbol → y ≡ changed x y.symbol → y ≡ changed w y.symbol
shapes w x y a b = b ∙ ap (λ (z : Meaning). changed z y.symbol) a

pub same_space : (p : Scheme) (w x : Meaning) (m u : ℕ) → x ≡ changed w x.symbol → Space p w m u → Space p x m u
same_space p w x m u e space = subst (λ (z : Meaning). Space p z m u) (sym e) (record { inside = space.inside; slots_fit = space.slots_fit; offset = space.offset; fitted = space.fitted })

pub none_put : (p : Scheme) (t : Kind) (i m u : ℕ) (a : List ℕ) (w : Meaning) → ChunksPut p t i m u a 0 w w
none_put p t i m u a w = record { shape = refl; same = λ n slot b off. refl; done = λ k lk. absurd (not-suc-le-zero lk) }

module _ (A : Arithmetic) (p : Scheme) (sound : Sound A p) (t : Kind) (i : ℕ) (li : i < groups p t) (m u : ℕ) (w : Meaning) (space : Space p w m u) where
  module _ (g : Group) (grouped : Grouped p t i g) (a : List ℕ) (codes : (k : ℕ) → get_or a k 0 < w.order) (e : ℕ) (w1 w2 : Meaning) (put : ChunksPut p t i m u a e w w1) where
    -- the next chunk is on the module
    module _ (le : e < size p t) (col : p.column (chunk_of p t i e) ≡ m) (after : w2 ≡ after_put w1 m (slot_at g e) u (get_or a e 0)) where
      list : Lists p.chunks (size p t) (member p t i) (chunk_of p t i) (index_of p t)
      list = members A p sound t i li

      row_is : slot_at g e ≡ p.row (chunk_of p t i e)
      row_is = grouped.slots_are e le

      at : StoredAt w1 w2 m (slot_at g e) u (get_or a e 0)
      at =
          let now = same_space p w w1 m u put.shape space in
          let order : w1.order ≡ w.order = ap (λ (z : Meaning). z.order) put.shape in
          stored_at w1 w2 m (slot_at g e) u (get_or a e 0) after now.inside
          (omega (arith, row_is, sound.in_rows (chunk_of p t i e) (list.below e le), now.slots_fit))
          now.offset now.fitted (omega (arith, codes e, order))

      other : (k : ℕ) → k ≢ e → k < size p t → p.column (chunk_of p t i k) ≡ m → p.row (chunk_of p t i k) ≡ slot_at g e → ⊥
      other k ne lk ck r =
          let same = one_place A p sound (chunk_of p t i k) (chunk_of p t i e) (list.below k lk) (list.below e le) (ck ∙ sym col) (r ∙ row_is) in
          ne (sym (list.place k lk) ∙ ap (index_of p t) same ∙ list.place e le)

      next_put : ChunksPut p t i m u a (e + 1) w w2
      next_put =
          record {
            shape = shapes w w1 w2 put.shape at.shape;
            same = λ n slot b off.
                at.same n slot b (λ q r s. off q s e (omega arith) le col (sym row_is ∙ sym r))
                ∙ put.same n slot b (λ q s k lk. off q s k (omega arith));
            done = λ k lk ls ck.
                by_cases (ℕ_discrete k e)
                (λ (is : k ≡ e).
                ap (λ (n : ℕ). w2.symbol m (p.row (chunk_of p t i n)) u) is ∙ ap (λ (n : ℕ). w2.symbol m n u) (sym row_is) ∙ at.here ∙ ap (λ (n : ℕ). get_or a n 0) (sym is))
                (λ (ne : k ≢ e). at.same m (p.row (chunk_of p t i k)) u (λ _ r _. other k ne ls ck r) ∙ put.done k (omega arith) ls ck);
          }

    -- it is not
    skip_put : (e < size p t → p.column (chunk_of p t i e) ≡ m → ⊥) → w2 ≡ w1 → ChunksPut p t i m u a (e + 1) w w2
    skip_put off is =
        subst (λ (z : Meaning). ChunksPut p t i m u a (e + 1) w z) (sym is)
        (record {
          shape = put.shape;
          same = λ n slot b q. put.same n slot b (λ x y k lk. q x y k (omega arith));
          done = λ k lk ls ck.
              by_cases (ℕ_discrete k e) (λ (is : k ≡ e). absurd (off (subst (λ (n : ℕ). n < size p t) is ls) (ap (λ (n : ℕ). p.column (chunk_of p t i n)) (sym is) ∙ ck)))
              (λ (ne : k ≢ e). put.done k (omega arith) ls ck);
        })

    pub more_put : w2 ≡ chunk_put g m u e a w1 → ChunksPut p t i m u a (e + 1) w w2
    more_put is =
        let here : Bool = ltb e g.size && eqb (module_at g e) m in
        let put-it : Meaning = after_put w1 m (slot_at g e) u (get_or a e 0) in
        ⊎_elim
        (λ (q : here ≡ true).
        let b = and_parts (ltb e g.size) (eqb (module_at g e) m) q in
        let le : e < size p t = omega (arith, ltb-true e g.size b.0, grouped.size_is) in
        next_put le (sym (grouped.modules_are e le) ∙ eqb-true (module_at g e) m b.1) (is ∙ cond-true here put-it w1 q))
        (λ (q : here ≡ false).
        skip_put
        (λ le col.
        both_ways here q
        (and_from (ltb e g.size) (eqb (module_at g e) m) (lt-ltb e g.size (omega (arith, grouped.size_is))) (eq-eqb (module_at g e) m (grouped.modules_are e le ∙ col))))
        (is ∙ cond-false here put-it w1 q))
        (cases_Bool here)

  -- the parity
  module _ (g : Group) (grouped : Grouped p t i g) (a : List ℕ) (v : ℕ → ℕ) (order : w.order ≡ A.order) (are : (e : ℕ) → e < size p t → v (chunk_of p t i e) ≡ get_or a e 0) (w2 : Meaning) where
    pub parity_put : (q r : ℕ) → q < g.parities → g.first + q ≡ m → ParityOf A g q a r → r < A.order → w2 ≡ after_put w m g.slot u r → ParityPut A p t i m u v w w2
    parity_put q r lq first is below after =
        let at = stored_at w w2 m g.slot u r after space.inside (omega (arith, grouped.slot_is, slot_below p t i li, space.slots_fit)) space.offset space.fitted (omega arith) in
        record {
          shape = at.shape;
          same = λ n slot b off.
              at.same n slot b (λ x y z. off x z q (omega (arith, grouped.parities_is)) (omega (arith, grouped.first_is)) (sym grouped.slot_is ∙ sym y));
          done = λ k lk e.
              let one : k ≡ q = omega (arith, grouped.first_is) in
              ap (λ (n : ℕ). w2.symbol m n u) (sym grouped.slot_is) ∙ at.here ∙ is p t i v sound li grouped are ∙ ap (λ (n : ℕ). parity A p (member p t i) n v) (sym one);
        }

    pub no_parity : ((k : ℕ) → k < 4 → k < g.parities → g.first + k ≡ m → ⊥) → w2 ≡ w → ParityPut A p t i m u v w w2
    no_parity off is =
        subst (λ (z : Meaning). ParityPut A p t i m u v w z) (sym is)
        (record {
          shape = refl;
          same = λ n slot b _. refl;
          done = λ k lk e. absurd (off k (omega (arith, few_parities A p sound t)) (omega (arith, grouped.parities_is)) (omega (arith, grouped.first_is)));
        })

-- both
module _ (A : Arithmetic) (L : Lawful A) (p : Scheme) (t : Kind) (i : ℕ) (out : ℕ → Bool) (s : Repair) (ready : Ready A p t i out s) (m u : ℕ) (w : Meaning) (space : Space p w m u)
    (order : w.order ≡ A.order) (a : List ℕ) (rebuilt : Rebuilt A p t i out w u a) where
  lists : Lists p.chunks (size p t) (member p t i) (chunk_of p t i) (index_of p t)
  lists = members A p ready.sound t i ready.inside

  pub word_are : (e : ℕ) → e < size p t → get_or a (index_of p t (chunk_of p t i e)) 0 ≡ get_or a e 0
  word_are e le = ap (λ (n : ℕ). get_or a n 0) (lists.place e le)

  pub word_codes : (k : ℕ) → get_or a k 0 < w.order
  word_codes k =
      ⊎_elim
      (λ (l : k < size p t). omega (arith, rebuilt.fixed.codes (chunk_of p t i k) (lists.below k l), word_are k l))
      (λ (l : size p t ≤ k). omega (arith, rebuilt.rest k l, L.two))
      (cases_lt k (size p t))

  pub put_back : (w1 w2 : Meaning) → ChunksPut p t i m u a 14 w w1 → ParityPut A p t i m u (λ j. get_or a (index_of p t j) 0) w1 w2 → PutBack A p t i out m u w w2
  put_back w1 w2 chunks par =
      record {
        shape = shapes w w1 w2 chunks.shape par.shape;
        same = λ n slot b off.
            par.same n slot b (λ x y k lk e f. off x y (inr (k, lk, e, f)))
            ∙ chunks.same n slot b (λ x y k lk ls c r. off x y (inl (chunk_of p t i k, lists.below k ls, lists.pass k ls, c, r)));
        word = λ j. get_or a (index_of p t j) 0;
        fixed = rebuilt.fixed;
        pieces = record {
          chunks = λ j lj mem col.
              let e : ℕ = index_of p t j in
              let le = lists.placed j lj mem in
              let back = lists.back j lj mem in
              par.same m (p.row j) u (λ _ _ k lk f _. omega (arith, ready.sound.in_columns j lj))
              ∙ ap (λ (n : ℕ). w1.symbol m (p.row n) u) (sym back)
              ∙ chunks.done e (omega (arith, ready.grouped.short)) le (ap (λ (n : ℕ). p.column n) back ∙ col);
          parities = par.done;
        };
      }
