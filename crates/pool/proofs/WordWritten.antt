-- The memory after a write. Assumes nothing.
use Rattle.std.proofs.Common.{◌≡◌, ℕ, ◌+◌, ◌-◌, ◌<◌, ◌≤◌, Bool, true, false, cond, ◌&&◌, ◌||◌, eqb, ltb, leb, ◌≢◌, List, [], ◌∷◌, get_or, replicate, IfSome, Some, None, Option, sym, refl, ap, ◌∙◌, subst, ⊎_elim, arith}
use lib.ListN.{get_or-replicate}
use Rattle.std.proofs.lemmas.Bool.{both_ways, cases_lt}
use Rattle.std.proofs.lemmas.List.{get_or_past}
use Rattle.std.proofs.lemmas.Bool.Decides.{nat_tests}
use Rattle.layout.specs.declared.plan.Plan.{Plan}
use Rattle.layout.specs.declared.plan.Cell.{Cell}
use Rattle.layout.specs.Places.{CellOf}
use Rattle.field.specs.Arithmetic.{Arithmetic}
use Rattle.field.specs.Sums.{minus, coefficient}
use Rattle.rack.specs.Meaning.{Meaning, after_put}
use Rattle.coding.specs.declared.group.Kind.{Kind}
use Rattle.coding.specs.declared.group.Kind.TheVariants.{Stripe, Row}
use Rattle.coding.specs.Schemes.{Scheme, Sound, scheme_of}
use Rattle.coding.specs.Groups.{parities, slot_of}
use Rattle.coding.specs.Words.{used}
use Rattle.coding.proofs.Grouping.{few_parities}
use Rattle.pool.specs.declared.kinds.Phase.{Phase}
use Rattle.pool.specs.declared.kinds.Phase.TheVariants.{Before, UnderWay, Voided, After}
use Rattle.pool.specs.Book.{settled, group_of, modules}
use Rattle.pool.specs.Standing.{Standing, out_of, Kept}
use Rattle.pool.specs.Effects.{changed, is_staged, written_symbol}
use Rattle.pool.specs.WordSteps.{added_to, share_of, Fetched, fetched_parity, Spans}
use Rattle.pool.proofs.Places.{chunk_module, group_below, slot_below, stripe_below}
use Rattle.pool.proofs.WordGroups as groups
use Rattle.pool.proofs.Changed.{same_symbols}
use Rattle.pool.proofs.Added.{put_at, put_is, added_as}

-- the tests of a write, where nothing is staged and where the row of the chunk is
without : (here f at row high one k s stg k' s' : Bool) (v y : ℕ) (plus : ℕ → ℕ) → (at && high) ≡ false → (high && one) ≡ (high && k) → stg ≡ false →
    cond ((s && here) && (f && (high && one))) (plus (cond ((row && here) && (f && at)) v y)) (cond ((row && here) && (f && at)) v y)
    ≡ cond (here && f) (cond (at && row) v (cond (high && ((k && s) || (stg && (k' && s')))) (plus y) y)) y
without true true true row true one k s stg k' s' v y plus low e q = grind arith
without true true true true false one k true stg k' s' v y plus low e q = refl
without true true true true false one k false stg k' s' v y plus low e q = refl
without true true true false false one k true stg k' s' v y plus low e q = refl
without true true true false false one k false stg k' s' v y plus low e q = refl
without true true false row high one k s stg k' s' v y plus low e q = grind arith
without true false at row high one k s stg k' s' v y plus low e q = grind arith
without false f at row high one k s stg k' s' v y plus low e q = grind arith

with_row : (here f at row high one k s one' stg k' s' : Bool) (v y : ℕ) (plus : ℕ → ℕ) → (at && high) ≡ false → (high && one) ≡ (high && k) → (high && one') ≡ (high && k') →
    (s && s') ≡ false → stg ≡ true →
    cond ((s' && here) && (f && (high && one')))
    (plus (cond ((s && here) && (f && (high && one))) (plus (cond ((row && here) && (f && at)) v y)) (cond ((row && here) && (f && at)) v y)))
    (cond ((s && here) && (f && (high && one))) (plus (cond ((row && here) && (f && at)) v y)) (cond ((row && here) && (f && at)) v y))
    ≡ cond (here && f) (cond (at && row) v (cond (high && ((k && s) || (stg && (k' && s')))) (plus y) y)) y
with_row true true true row true one k s one' stg k' s' v y plus low e e' apart q = grind arith
with_row true true true true false one k true one' stg k' true v y plus low e e' apart q = refl
with_row true true true true false one k true one' stg k' false v y plus low e e' apart q = refl
with_row true true true true false one k false one' stg k' true v y plus low e e' apart q = refl
with_row true true true true false one k false one' stg k' false v y plus low e e' apart q = refl
with_row true true true false false one k true one' stg k' true v y plus low e e' apart q = refl
with_row true true true false false one k true one' stg k' false v y plus low e e' apart q = refl
with_row true true true false false one k false one' stg k' true v y plus low e e' apart q = refl
with_row true true true false false one k false one' stg k' false v y plus low e e' apart q = refl
with_row true true false row high one k true one' stg k' true v y plus low e e' apart q = absurd (both_ways true apart refl)
with_row true true false row high one k true one' stg k' false v y plus low e e' apart q = grind arith
with_row true true false row high one k false one' stg k' s' v y plus low e e' apart q = grind arith
with_row true false at row high one k true one' stg k' true v y plus low e e' apart q = absurd (both_ways true apart refl)
with_row true false at row high one k true one' stg k' false v y plus low e e' apart q = grind arith
with_row true false at row high one k false one' stg k' s' v y plus low e e' apart q = grind arith
with_row false f at row high one k true one' stg k' true v y plus low e e' apart q = absurd (both_ways true apart refl)
with_row false f at row high one k true one' stg k' false v y plus low e e' apart q = grind arith
with_row false f at row high one k false one' stg k' s' v y plus low e e' apart q = grind arith

-- a module from d' on is that of a parity
counted : (d m n : ℕ) → (leb d m && ltb m (d + n)) ≡ (leb d m && ltb (m - d) n)
counted d m n = grind (arith, nat_tests)

low_column : (d m at : ℕ) → at < d → (eqb m at && leb d m) ≡ false
low_column d m at l = grind (arith, nat_tests)

-- the settled slot is not one of a row where rows are staged
settled_low : (A : Arithmetic) (p : Scheme) → Sound A p → (ph : Phase) (n c : ℕ) → c < p.chunks → is_staged ph n p c ≡ true → slot_of p (settled ph) (group_of p (settled ph) c) < p.stripes
settled_low A p sound Before n c lc e = absurd (both_ways true (sym e) refl)
settled_low A p sound UnderWay n c lc e = stripe_below A p sound c lc
settled_low A p sound Voided n c lc e = absurd (both_ways true (sym e) refl)
settled_low A p sound After n c lc e = absurd (both_ways true (sym e) refl)

two_slots : (s a b n : ℕ) → a < n → (eqb s a && eqb s (n + b)) ≡ false
two_slots s a b n l = grind (arith, nat_tests)

-- no symbol in a list of none
NoSymbol : (k : ℕ) → get_or {A = Option ℕ} (replicate 4 None) k None ≡ None
NoSymbol k = ⊎_elim (get_or-replicate 4 k None None) (λ (l : 4 ≤ k). get_or_past (replicate 4 None) k None l) (cases_lt k 4)

-- a symbol that was fetched, or not, is that at a place
fetched_so : (a b : Bool) (x y : ℕ) → x ≡ y → IfSome (cond a (cond b (Some x) None) None) (λ v. v ≡ y)
fetched_so true true x y e = e
fetched_so true false x y e = tt
fetched_so false b x y e = tt

pub none_fetched : (w : Meaning) (m slot o k : ℕ) → Fetched w m slot o (get_or (None ∷ None ∷ None ∷ None ∷ []) k None)
none_fetched w m slot o k = subst (λ (q : Option ℕ). Fetched w m slot o q) (sym (NoSymbol k)) tt

put_elsewhere : (w : Meaning) (at row o v m slot u : ℕ) → m ≢ at → put_at w at row o v m slot u ≡ w.symbol m slot u
put_elsewhere w at row o v m slot u ne = grind (arith, nat_tests)

-- what the steps of a write are given: the shares of as many parities as they add to, or of more
pub record Meant (A : Arithmetic) (p : Scheme) (s : Standing) (c v old at row slot n most : ℕ) (shares : List ℕ) : Type 0 where
  pub at_is : at ≡ p.column c
  pub row_is : row ≡ p.row c
  pub slot_is : slot ≡ slot_of p (settled s.phase) (group_of p (settled s.phase) c)
  pub count_is : n ≡ parities p (settled s.phase)
  pub enough : n ≤ most
  pub enough' : true ≡ is_staged s.phase s.carried p c → p.r' ≤ most
  pub shares_are : (k : ℕ) → k < 4 → k < most → get_or shares k 0 ≡ share_of A (p.x c) (minus A v old) k

spans_changed : (A : Arithmetic) (w : Meaning) (f : ℕ → ℕ → ℕ → ℕ) (end slot o : ℕ) → Spans A w end slot o → Spans A (changed w f) end slot o
spans_changed A w f end slot o h = record { order_is = h.order_is; modules_fit = h.modules_fit; slot_fits = h.slot_fits; offset_fits = h.offset_fits }

parities_few : (p : Scheme) (t : Kind) → p.d' + parities p t ≤ modules p
parities_few p Stripe = omega arith
parities_few p Row = omega arith

module _ (A : Arithmetic) (p : Scheme) (sound : Sound A p) (s : Standing) (kept : Kept A p s) (c o v old : ℕ) (lc : c < p.chunks) (lo : o < p.len) (lv : v < A.order) where
  Put : Meaning
  Put = changed s.held (put_at s.held (p.column c) (p.row c) o v)

  Settled : Meaning
  unfolding Put
  Settled = changed Put (added_to A Put p.d' (slot_of p (settled s.phase) (group_of p (settled s.phase) c)) (parities p (settled s.phase)) o (share_of A (p.x c) (minus A v old)))

  Staged : Meaning
  unfolding Put Settled
  Staged = changed Settled (added_to A Settled p.d' (p.stripes + p.row c) p.r' o (share_of A (p.x c) (minus A v old)))

  settled_is : is_staged s.phase s.carried p c ≡ false → Settled ≡ changed s.held (written_symbol A p s c o v old)
  unfolding Put Settled
  settled_is q =
      let t : Kind = settled s.phase in
      let at : ℕ = slot_of p t (group_of p t c) in
      same_symbols s.held _ (written_symbol A p s c o v old)
      (λ m slot u.
      without (eqb u o) (s.held.fitted m) (eqb m (p.column c)) (eqb slot (p.row c)) (leb p.d' m) (ltb m (p.d' + parities p t)) (ltb (m - p.d') (parities p t)) (eqb slot at)
      (is_staged s.phase s.carried p c) (ltb (m - p.d') p.r') (eqb slot (p.stripes + p.row c)) v (s.held.symbol m slot u)
      (λ z. A.add z (A.mul (coefficient A (m - p.d') (p.x c)) (minus A v old)))
      (low_column p.d' m (p.column c) (sound.in_columns c lc)) (counted p.d' m (parities p t)) q)

  staged_is : is_staged s.phase s.carried p c ≡ true → Staged ≡ changed s.held (written_symbol A p s c o v old)
  unfolding Put Settled Staged
  staged_is q =
      let t : Kind = settled s.phase in
      let at : ℕ = slot_of p t (group_of p t c) in
      same_symbols s.held _ (written_symbol A p s c o v old)
      (λ m slot u.
      with_row (eqb u o) (s.held.fitted m) (eqb m (p.column c)) (eqb slot (p.row c)) (leb p.d' m) (ltb m (p.d' + parities p t)) (ltb (m - p.d') (parities p t)) (eqb slot at)
      (ltb m (p.d' + p.r')) (is_staged s.phase s.carried p c) (ltb (m - p.d') p.r') (eqb slot (p.stripes + p.row c)) v (s.held.symbol m slot u)
      (λ z. A.add z (A.mul (coefficient A (m - p.d') (p.x c)) (minus A v old)))
      (low_column p.d' m (p.column c) (sound.in_columns c lc)) (counted p.d' m (parities p t)) (counted p.d' m p.r')
      (two_slots slot at (p.row c) p.stripes (settled_low A p sound s.phase s.carried c lc q)) q)

  module _ (at row slot n most : ℕ) (shares : List ℕ) (meant : Meant A p s c v old at row slot n most shares) where
    -- the places of the three steps are in the rack
    spans_put : Spans A s.held (at + 1) row o
    spans_put =
        record {
          order_is = kept.order_is;
          modules_fit = omega (arith, meant.at_is, chunk_module A p sound c lc, kept.modules_fit);
          slot_fits = omega (arith, meant.row_is, sound.in_rows c lc, kept.slots_fit);
          offset_fits = omega (arith, kept.length_fits);
        }

    spans_settled : (f : ℕ → ℕ → ℕ → ℕ) → Spans A (changed s.held f) (p.d' + n) slot o
    spans_settled f =
        spans_changed A s.held f (p.d' + n) slot o
        (record {
          order_is = kept.order_is;
          modules_fit = omega (arith, meant.count_is, parities_few p (settled s.phase), kept.modules_fit);
          slot_fits = omega (arith, meant.slot_is, slot_below p (settled s.phase) (group_of p (settled s.phase) c) (group_below A p sound (settled s.phase) c lc), kept.slots_fit);
          offset_fits = omega (arith, kept.length_fits);
        })

    spans_staged : (f : ℕ → ℕ → ℕ → ℕ) → Spans A (changed s.held f) (p.d' + p.r') (p.stripes + row) o
    spans_staged f =
        spans_changed A s.held f (p.d' + p.r') (p.stripes + row) o
        (record {
          order_is = kept.order_is;
          modules_fit = omega (arith, kept.modules_fit);
          slot_fits = omega (arith, meant.row_is, sound.in_rows c lc, kept.slots_fit);
          offset_fits = omega (arith, kept.length_fits);
        })

    after_put_lem : (w : Meaning) → w ≡ after_put s.held at row o v → w ≡ Put
    unfolding Put
    after_put_lem w e =
        e ∙ put_is A s.held at row o spans_put v lv
        ∙ (λ i. changed s.held (put_at s.held (meant.at_is i) (meant.row_is i) o v))

    abbrev given : ℕ → ℕ
    given k = get_or shares k 0

    abbrev share : ℕ → ℕ
    share = share_of A (p.x c) (minus A v old)

    after_settled : (w w' : Meaning) → w ≡ Put → w' ≡ changed w (added_to A w p.d' slot n o given) → w' ≡ Settled
    unfolding Put Settled
    after_settled w w' e e' =
        e' ∙ added_as A w p.d' slot n o given share (λ k l. meant.shares_are k (omega (arith, meant.count_is, few_parities A p sound (settled s.phase))) (omega (arith, meant.enough)))
        ∙ (λ i. changed (e i) (added_to A (e i) p.d' (meant.slot_is i) (meant.count_is i) o share))

    after_staged : true ≡ is_staged s.phase s.carried p c → (w w' : Meaning) → w ≡ Settled → w' ≡ changed w (added_to A w p.d' (p.stripes + row) p.r' o given) → w' ≡ Staged
    unfolding Put Settled Staged
    after_staged q w w' e e' =
        e' ∙ added_as A w p.d' (p.stripes + row) p.r' o given share (λ k l. meant.shares_are k (omega (arith, sound.few')) (omega (arith, meant.enough' q)))
        ∙ (λ i. changed (e i) (added_to A (e i) p.d' (p.stripes + meant.row_is i) p.r' o share))

    settled_in : (w : Meaning) → w ≡ Put → Spans A w (p.d' + n) slot o
    unfolding Put
    settled_in w e = subst (λ (z : Meaning). Spans A z (p.d' + n) slot o) (sym e) (spans_settled (put_at s.held (p.column c) (p.row c) o v))

    staged_in : (w : Meaning) → w ≡ Settled → Spans A w (p.d' + p.r') (p.stripes + row) o
    unfolding Put Settled
    staged_in w e = subst (λ (z : Meaning). Spans A z (p.d' + p.r') (p.stripes + row) o) (sym e) (spans_staged _)

    -- the symbol was put, which gave w, and the change was added to the settled parities, which gave w'
    module _ (w : Meaning) (put : w ≡ after_put s.held at row o v) where
      -- their places were in the rack
      pub settled_spans : Spans A w (p.d' + n) slot o
      settled_spans = settled_in w (after_put_lem w put)

      -- and those that were fetched before have the same symbols still
      pub settled_fetched : (ps : List (Option ℕ)) → ((k : ℕ) → k < 4 → get_or ps k None ≡ fetched_parity p s c o k) → (k : ℕ) → k < n → Fetched w (p.d' + k) slot o (get_or ps k None)
      unfolding Put
      settled_fetched ps are k l =
          let t : Kind = settled s.phase in
          let four : k < 4 = omega (arith, meant.count_is, few_parities A p sound t) in
          let same : s.held.symbol (p.d' + k) (slot_of p t (group_of p t c)) o ≡ w.symbol (p.d' + k) slot o =
          sym
          (ap (λ (z : Meaning). z.symbol (p.d' + k) slot o) (after_put_lem w put)
          ∙ put_elsewhere s.held (p.column c) (p.row c) o v (p.d' + k) slot o (λ e. omega (arith, sound.in_columns c lc, e)) ∙ ap (λ z. s.held.symbol (p.d' + k) z o) meant.slot_is) in
          subst (λ (q : Option ℕ). Fetched w (p.d' + k) slot o q) (sym (are k four))
          (fetched_so (out_of s (p.column c)) (ltb k (parities p t) && used p t (group_of p t c) (out_of s) k) _ (w.symbol (p.d' + k) slot o) same)

      module _ (w' : Meaning) (added : w' ≡ changed w (added_to A w p.d' slot n o given)) where
        pub staged_spans : (stripes : ℕ) → stripes ≡ p.stripes → Spans A w' (p.d' + p.r') (stripes + row) o
        staged_spans stripes is = subst (λ (n : ℕ). Spans A w' (p.d' + p.r') (n + row) o) (sym is) (staged_in w' (after_settled w w' (after_put_lem w put) added))

        -- that is all of the write where nothing is staged
        pub written_settled : false ≡ is_staged s.phase s.carried p c → w' ≡ changed s.held (written_symbol A p s c o v old)
        written_settled q = after_settled w w' (after_put_lem w put) added ∙ settled_is (sym q)

        -- else it is added to the staged parities too
        pub written_staged : (w'' : Meaning) (stripes : ℕ) → stripes ≡ p.stripes → w'' ≡ changed w' (added_to A w' p.d' (stripes + row) p.r' o given) →
            true ≡ is_staged s.phase s.carried p c → w'' ≡ changed s.held (written_symbol A p s c o v old)
        written_staged w'' stripes is more q =
            after_staged q w' w'' (after_settled w w' (after_put_lem w put) added) (more ∙ ap (λ (n : ℕ). changed w' (added_to A w' p.d' (n + row) p.r' o given)) is) ∙ staged_is (sym q)

-- what the code works out of a plan is what is meant
pub meant_of : (P : Plan) (A : Arithmetic) (s : Standing) (c v old : ℕ) (cell : Cell) → CellOf P.d P.d2 c (Some cell) → (t : Kind) (i slot n change most : ℕ) (shares : List ℕ) →
    t ≡ settled s.phase → i ≡ group_of (scheme_of P) t c → slot ≡ slot_of (scheme_of P) t i → n ≡ parities (scheme_of P) t → change ≡ minus A v old →
    parities (scheme_of P) (settled s.phase) ≤ most → (true ≡ is_staged s.phase s.carried (scheme_of P) c → (scheme_of P).r' ≤ most) →
    ((k : ℕ) → k < 4 → k < most → get_or shares k 0 ≡ share_of A cell.x change k) → Meant A (scheme_of P) s c v old cell.column cell.row slot n most shares
meant_of P A s c v old cell at t i slot n change most shares te ie se ne ce enough enough' are =
    let count : n ≡ parities (scheme_of P) (settled s.phase) = ne ∙ (λ k. parities (scheme_of P) (te k)) in
    record {
      at_is = groups.column_is P c cell at;
      row_is = groups.row_is P c cell at;
      slot_is = se ∙ (λ k. slot_of (scheme_of P) (te k) ((ie ∙ (λ q. group_of (scheme_of P) (te q) c)) k));
      count_is = count;
      enough = omega (arith, count, enough);
      enough' = enough';
      shares_are = λ k l m. are k l m ∙ (λ i. share_of A (groups.x_is P c cell at i) (ce i) k);
    }
