-- What is known of a stripe that is carried. Assumes nothing.
use Rattle.std.proofs.Common.{◌≡◌, ℕ, zero, suc, ◌+◌, ◌*◌, ◌<◌, ◌≤◌, Bool, true, false, cond, not, ◌&&◌, ◌||◌, eqb, leb, ◌≢◌, List, [], length, get_or, set, replicate, sym, refl, ap, ◌∙◌, add-one, arith, get_or-set_other, get_or-set_same, take, length-take-le}
use mathlib.Core.Logic.{by_cases}
use native.Mathlib.Decide.{ℕ_discrete}
use lib.ListN.{get_or-replicate}
use Rattle.std.proofs.lemmas.Bool.{and_right, or_from, or_left, or_right, le-leb, eq-eqb, ne_eqb, cond-true}
use Rattle.std.proofs.lemmas.List.{get_or-take}
use Rattle.field.specs.Arithmetic.{Arithmetic}
use Rattle.field.specs.Sums.{coefficient}
use Rattle.layout.proofs.OfPlan as layout
use Rattle.rack.specs.Meaning.{Meaning}
use Rattle.coding.specs.Schemes.{Scheme, scheme_of}
use Rattle.coding.specs.Groups.{share, count}
use Rattle.coding.specs.Pieces.{Grouped, module_at, slot_at, no_piece}
use Rattle.coding.specs.declared.group.Group.{Group}
use Rattle.coding.specs.declared.group.Piece.{Piece}
use Rattle.coding.specs.declared.group.Kind.TheVariants.{Stripe}
use Rattle.coding.proofs.Counting.{count_same}
use Rattle.pool.specs.Book.{carried_data, carried_parities}
use Rattle.pool.specs.declared.load.Load.{Load}
use Rattle.pool.specs.Effects.{chunk_in, chunks_at}
use Rattle.pool.specs.Growth.{Loaded, some, touches}

module _ (A : Arithmetic) (x : Load) (h : Loaded A x) where
  abbrev chunk : ℕ → ℕ
  chunk e = chunk_in (scheme_of x.plan) x.group.index e

  pub within : (e : ℕ) → e < x.group.size → e < (scheme_of x.plan).d
  within e l = omega (arith, h.grouped.size_is)

  pub short : (e : ℕ) → e < x.group.size → e < 14
  short e l = omega (arith, h.grouped.size_is, h.grouped.short)

  pub chunk_below : (e : ℕ) → e < x.group.size → chunk e < (scheme_of x.plan).chunks
  chunk_below e l = layout.chunk_lt x.plan x.group.index e h.inside (within e l)

  pub inside : (e : ℕ) → e < (scheme_of x.plan).d → chunk e < (scheme_of x.plan).chunks
  inside e l = layout.chunk_lt x.plan x.group.index e h.inside l

  -- the place of a chunk
  pub module_of : (e : ℕ) → e < x.group.size → module_at x.group e ≡ (scheme_of x.plan).column (chunk e)
  module_of e l = h.grouped.modules_are e (within e l)

  pub slot_of_lem : (e : ℕ) → e < x.group.size → slot_at x.group e ≡ (scheme_of x.plan).row (chunk e)
  slot_of_lem e l = h.grouped.slots_are e (within e l)

  pub row_below : (e : ℕ) → e < x.group.size → slot_at x.group e < (scheme_of x.plan).rows
  row_below e l = omega (arith, slot_of_lem e l, (layout.promises x.plan).in_rows (chunk e) (chunk_below e l))

  pub home_below : x.home < (scheme_of x.plan).rows
  home_below = omega (arith, h.home_is, (layout.promises x.plan).home_in x.group.index h.inside)

  -- its coefficients
  pub share_is : (k e a : ℕ) → k < (scheme_of x.plan).r' → e < x.group.size → A.mul (get_or (get_or x.weights k []) e 0) a ≡ share A (scheme_of x.plan) k (chunk e) a
  share_is k e a lk l =
      let few : k < 4 = omega (arith, x.plan.parity2_range.1) in
      ap (λ (z : ℕ). A.mul z a) ((h.weights_are k few).is e l (short e l) ∙ ap (λ (z : ℕ). coefficient A k z) (h.grouped.xs_are e (within e l)))

  -- its symbol
  pub chunk_symbol : (w : Meaning) (e u : ℕ) → e < x.group.size → w.symbol (module_at x.group e) (slot_at x.group e) u ≡ chunks_at (scheme_of x.plan) w u (chunk e)
  chunk_symbol w e u l =
      ap (λ (z : ℕ). w.symbol z (slot_at x.group e) u) (module_of e l) ∙ ap (λ (z : ℕ). w.symbol ((scheme_of x.plan).column (chunk e)) z u) (slot_of_lem e l)

  -- what a chunk adds
  pub shares_are : (w : Meaning) (k e u a s : ℕ) → k < (scheme_of x.plan).r' → e < x.group.size → a ≡ A.mul (get_or (get_or x.weights k []) e 0) s →
      s ≡ w.symbol (module_at x.group e) (slot_at x.group e) u → a ≡ share A (scheme_of x.plan) k (chunk e) (chunks_at (scheme_of x.plan) w u (chunk e))
  shares_are w k e u a s lk l is from =
      is ∙ share_is k e s lk l ∙ ap (λ (z : ℕ). share A (scheme_of x.plan) k (chunk e) z) (from ∙ chunk_symbol w e u l)

-- the first n pieces of a group, one by one
pub record FirstSlots (g : Group) (n : ℕ) : Type 0 where
  pub long : length (take n g.pieces) ≡ n
  pub at : (e : ℕ) → e < n → (get_or (take n g.pieces) e no_piece).slot ≡ slot_at g e

pub first_slots : (g : Group) → length g.pieces ≡ 14 → (n : ℕ) → n ≡ g.size → g.size ≤ 14 → FirstSlots g n
first_slots g whole n is short =
    record {
      long = length-take-le n g.pieces (omega (arith, whole, is, short));
      at = λ e l. ap (λ (q : Piece). q.slot) (get_or-take n g.pieces e no_piece l);
    }

-- one more number is counted, or not
pub count_step : (f : ℕ → Bool) (e n m : ℕ) (b : Bool) → f e ≡ b → n ≡ count f e → m ≡ n + cond b 1 0 → m ≡ count f (e + 1)
count_step f e n m b is a c = c ∙ ap (λ (z : ℕ). z + cond b 1 0) a ∙ ap (λ (z : Bool). count f e + cond z 1 0) (sym is) ∙ ap (count f) (sym (add-one e))

-- what carrying a stripe reads
module _ (x : Load) (grouped : Grouped (scheme_of x.plan) Stripe x.group.index x.group) (home : x.home ≡ (scheme_of x.plan).home x.group.index) where
  pub reads_outside : (n : ℕ) → x.plan.r2 ≤ x.plan.r → n ≡ count (λ e. not (eqb (slot_at x.group e) x.home)) x.group.size →
      ◌≡◌ {A = ℕ × ℕ} (n, x.plan.r2) (carried_data (scheme_of x.plan) x.group.index, carried_parities (scheme_of x.plan))
  reads_outside n few is =
      let p : Scheme = scheme_of x.plan in
      let i : ℕ = x.group.index in
      let test = le-leb x.plan.r2 x.plan.r few in
      let a : n ≡ carried_data p i =
      is
      ∙ ap (count (λ e. not (eqb (slot_at x.group e) x.home))) grouped.size_is
      ∙ count_same (λ e. not (eqb (slot_at x.group e) x.home)) (λ e. not (eqb (p.row (i * p.d + e)) (p.home i))) p.d
      (λ e l. ap (λ (z : ℕ). not (eqb z x.home)) (grouped.slots_are e l) ∙ ap (λ (z : ℕ). not (eqb (p.row (i * p.d + e)) z)) home)
      ∙ sym (cond-true (leb p.r' p.r) _ p.d test) in
      let b : x.plan.r2 ≡ carried_parities p = sym (cond-true (leb p.r' p.r) p.r' 0 test) in
      λ j. (a j, b j)

-- which rows a stripe touches: marked one by one
given_first : (t b : Bool) → b ≡ true → t ≡ ((t && b) || false)
given_first true b e = sym (or_left b false e)
given_first false b e = refl

none_first : (t b : Bool) → b ≡ false → false ≡ ((t && b) || false)
none_first t b e = sym (or_from (t && b) false (and_right t b e) refl)

pub first_mark : (t : Bool) (home : ℕ) → home < 14 → (h : ℕ) → h < 14 → get_or (set (replicate 14 false) home t) h false ≡ ((t && eqb h home) || false)
first_mark t home l h lh =
    by_cases (ℕ_discrete h home)
    (λ (e : h ≡ home).
    ap (λ (j : ℕ). get_or (set (replicate 14 false) home t) j false) e
    ∙ get_or-set_same (replicate 14 false) home t false l
    ∙ given_first t (eqb h home) (eq-eqb h home e))
    (λ (ne : h ≢ home).
    get_or-set_other (replicate 14 false) home h t false ne ∙ get_or-replicate 14 h false false lh ∙ none_first t (eqb h home) (ne_eqb h home ne))

also : (a b c : Bool) → c ≡ true → true ≡ (a || (b || c))
also a b c e = sym (or_right a (b || c) (or_right b c e))

no_more : (a b c : Bool) → c ≡ false → (a || b) ≡ (a || (b || c))
no_more true b c e = refl
no_more false true c e = refl
no_more false false c e = sym e

pub more_marked : (xs : List Bool) (first : Bool) (f : ℕ → ℕ) (n h : ℕ) → f n < length xs → get_or xs h false ≡ (first || some (λ e. eqb (f e) h) n) →
    get_or (set xs (f n) true) h false ≡ (first || some (λ e. eqb (f e) h) (n + 1))
more_marked xs first f n h l is =
    let so_far : Bool = some (λ e. eqb (f e) h) n in
    by_cases (ℕ_discrete h (f n))
    (λ (e : h ≡ f n).
    ap (λ (j : ℕ). get_or (set xs (f n) true) j false) e ∙ get_or-set_same xs (f n) true false l ∙ also first so_far (eqb (f n) h) (eq-eqb (f n) h (sym e)))
    (λ (ne : h ≢ f n). get_or-set_other xs (f n) h true false ne ∙ is ∙ no_more first so_far (eqb (f n) h) (ne_eqb (f n) h (λ e. ne (sym e))))
    ∙ ap (λ (m : ℕ). first || some (λ e. eqb (f e) h) m) (sym (add-one n))

some_same : (f g : ℕ → Bool) (n : ℕ) → ((e : ℕ) → e < n → f e ≡ g e) → some f n ≡ some g n
some_same f g zero same = refl
some_same f g (suc n) same = ap (λ (b : Bool). b || f n) (some_same f g n (λ e l. same e (omega arith))) ∙ ap (λ (b : Bool). some g n || b) (same n (omega arith))

module _ (p : Scheme) (i : ℕ) (group : Group) (grouped : Grouped p Stripe i group) (home : ℕ) (home_is : home ≡ p.home i) where
  pub all_marked : (n h : ℕ) → n ≡ p.d → ((leb p.r' p.r && eqb h home) || some (λ e. eqb (slot_at group e) h) n) ≡ touches p i h
  all_marked n h all =
      ap (λ (j : ℕ). (leb p.r' p.r && eqb h j) || some (λ e. eqb (slot_at group e) h) n) home_is
      ∙ ap (λ (m : ℕ). (leb p.r' p.r && eqb h (p.home i)) || some (λ e. eqb (slot_at group e) h) m) all
      ∙ ap (λ (b : Bool). (leb p.r' p.r && eqb h (p.home i)) || b)
      (some_same (λ e. eqb (slot_at group e) h) (λ e. eqb (p.row (chunk_in p i e)) h) p.d (λ e l. ap (λ (j : ℕ). eqb j h) (grouped.slots_are e l)))
