-- Symbols that are added to in place. Assumes nothing.
use Rattle.std.proofs.Common.{◌≡◌, ℕ, ◌+◌, ◌-◌, ◌<◌, Bool, true, false, cond, ◌&&◌, eqb, ltb, leb, ◌≢◌, Some, None, Option, sym, refl, ap, ◌∙◌, subst, arith}
use mathlib.Core.Logic.{by_cases}
use native.Mathlib.Decide.{ℕ_discrete}
use Rattle.std.proofs.lemmas.Bool.{and_from, and_left, lt-ltb, cond-true, cond-false}
use Rattle.std.proofs.lemmas.Bool.Decides.{nat_tests}
use Rattle.field.specs.Arithmetic.{Arithmetic}
use Rattle.rack.specs.Meaning.{Meaning, holds, symbol_at, takes, stored, after_put}
use Rattle.coding.proofs.Loops.{and_is}
use Rattle.pool.specs.Effects.{changed}
use Rattle.pool.specs.WordSteps.{added_at, added_to, Fetched, Spans}
use Rattle.pool.proofs.Changed.{same_symbols}

-- what `get` tells
pub got : (b : Bool) (x v : ℕ) → Some v ≡ cond b (Some x) None → (b ≡ true) × (v ≡ x)
got true x v e = (refl, cc)
got false x v e = absurd (let z : ◌≡◌ {A = ℕ} 0 1 = cc in omega arith)

pub got_none : (b : Bool) (x : ℕ) → None ≡ cond b (Some x) None → b ≡ false
got_none true x e = absurd (let z : ◌≡◌ {A = ℕ} 0 1 = cc in omega arith)
got_none false x e = refl

-- v at one place, where its module is fitted
abbrev pub put_at : Meaning → ℕ → ℕ → ℕ → ℕ → ℕ → ℕ → ℕ → ℕ
put_at w at slot o v m s u = cond ((eqb s slot && eqb u o) && (w.fitted m && eqb m at)) v (w.symbol m s u)

module _ (A : Arithmetic) (w : Meaning) (at slot o : ℕ) (spans : Spans A w (at + 1) slot o) where
  -- a place in the rack holds a symbol if its module is fitted
  pub spans_holds : holds w at slot o ≡ w.fitted at
  spans_holds =
      and_is (ltb at w.modules) (ltb slot w.slots && (ltb o w.length && w.fitted at)) (lt-ltb at w.modules (omega (arith, spans.modules_fit)))
      ∙ and_is (ltb slot w.slots) (ltb o w.length && w.fitted at) (lt-ltb slot w.slots spans.slot_fits)
      ∙ and_is (ltb o w.length) (w.fitted at) (lt-ltb o w.length spans.offset_fits)

  stored_point : (v m s u : ℕ) → w.fitted at ≡ true → cond (eqb m at && (eqb s slot && eqb u o)) v (w.symbol m s u) ≡ put_at w at slot o v m s u
  stored_point v m s u f =
      by_cases (ℕ_discrete m at)
      (λ (e : m ≡ at). let h : w.fitted m ≡ true = ap w.fitted e ∙ f in grind (arith, nat_tests))
      (λ (ne : m ≢ at). grind (arith, nat_tests))

  kept_point : (v m s u : ℕ) → w.fitted at ≡ false → w.symbol m s u ≡ put_at w at slot o v m s u
  kept_point v m s u f =
      by_cases (ℕ_discrete m at)
      (λ (e : m ≡ at). let h : w.fitted m ≡ false = ap w.fitted e ∙ f in grind (arith, nat_tests))
      (λ (ne : m ≢ at). grind (arith, nat_tests))

  -- a put of a code
  put_fitted : (v : ℕ) → v < A.order → w.fitted at ≡ true → after_put w at slot o v ≡ changed w (put_at w at slot o v)
  put_fitted v lv f =
      cond-true (takes w at slot o v) (stored w at slot o v) w
      (and_from (holds w at slot o) (ltb v w.order) (spans_holds ∙ f) (lt-ltb v w.order (omega (arith, spans.order_is))))
      ∙ same_symbols w (λ m s u. cond (eqb m at && (eqb s slot && eqb u o)) v (w.symbol m s u)) (put_at w at slot o v) (λ m s u. stored_point v m s u f)

  put_out : (v : ℕ) → w.fitted at ≡ false → after_put w at slot o v ≡ changed w (put_at w at slot o v)
  put_out v f =
      cond-false (takes w at slot o v) (stored w at slot o v) w (and_left (holds w at slot o) (ltb v w.order) (spans_holds ∙ f))
      ∙ same_symbols w w.symbol (put_at w at slot o v) (λ m s u. kept_point v m s u f)

  pub put_is : (v : ℕ) → v < A.order → after_put w at slot o v ≡ changed w (put_at w at slot o v)
  put_is v lv =
      let by : (b : Bool) → w.fitted at ≡ b → after_put w at slot o v ≡ changed w (put_at w at slot o v) =
      elim [ true ↦ put_fitted v lv | false ↦ put_out v ] in
      by (w.fitted at) refl

  added_point : (v a m s u : ℕ) → v ≡ w.symbol at slot o → put_at w at slot o (A.add v a) m s u ≡ added_at A w at slot o a m s u
  added_point v a m s u e =
      by_cases (ℕ_discrete m at)
      (λ (x : m ≡ at).
      by_cases (ℕ_discrete s slot)
      (λ (y : s ≡ slot).
      by_cases (ℕ_discrete u o)
      (λ (z : u ≡ o).
      let q : v ≡ w.symbol m s u = cc in
      ap (λ n. cond ((eqb s slot && eqb u o) && (w.fitted m && eqb m at)) (A.add n a) (w.symbol m s u)) q)
      (λ (ne : u ≢ o). grind (arith, nat_tests)))
      (λ (ne : s ≢ slot). grind (arith, nat_tests)))
      (λ (ne : m ≢ at). grind (arith, nat_tests))

  -- v is the symbol there, and n, with a added to it, was put back
  pub added_known : (v a n : ℕ) (w' : Meaning) → n < A.order → v ≡ w.symbol at slot o → n ≡ A.add v a → w' ≡ after_put w at slot o n → w' ≡ changed w (added_at A w at slot o a)
  added_known v a n w' l e sum put =
      put ∙ put_is n l
      ∙ (λ i. changed w (put_at w at slot o (sum i)))
      ∙ same_symbols w (put_at w at slot o (A.add v a)) (added_at A w at slot o a) (λ m s u. added_point v a m s u e)

  -- it was got there
  pub added_some : (v a n : ℕ) (w' : Meaning) → n < A.order → Some v ≡ symbol_at w at slot o → n ≡ A.add v a → w' ≡ after_put w at slot o n → w' ≡ changed w (added_at A w at slot o a)
  added_some v a n w' l e = added_known v a n w' l (got (holds w at slot o) (w.symbol at slot o) v e).1

  out_point : (a m s u : ℕ) → w.fitted at ≡ false → w.symbol m s u ≡ added_at A w at slot o a m s u
  out_point a m s u f =
      by_cases (ℕ_discrete m at)
      (λ (e : m ≡ at). let h : w.fitted m ≡ false = ap w.fitted e ∙ f in grind (arith, nat_tests))
      (λ (ne : m ≢ at). grind (arith, nat_tests))

  -- none was there
  pub added_none : (a : ℕ) → None ≡ symbol_at w at slot o → w ≡ changed w (added_at A w at slot o a)
  added_none a e =
      same_symbols w w.symbol (added_at A w at slot o a)
      (λ m s u. out_point a m s u (sym spans_holds ∙ got_none (holds w at slot o) (w.symbol at slot o) e))

-- one parity more
step : (m first k : ℕ) (here f : Bool) (y x : ℕ) (plus : ℕ → ℕ) → (m ≡ first + k → plus y ≡ x) →
    cond (here && (f && eqb m (first + k))) (plus (cond (here && (f && (leb first m && ltb m (first + k)))) x y)) (cond (here && (f && (leb first m && ltb m (first + k)))) x y)
    ≡ cond (here && (f && (leb first m && ltb m (first + (k + 1))))) x y
step m first k here f y x plus h =
    by_cases (ℕ_discrete m (first + k))
    (λ (e : m ≡ first + k). let q = h e in grind (arith, nat_tests))
    (λ (ne : m ≢ first + k). grind (arith, nat_tests))

outside : (here f within : Bool) (x z y : ℕ) → within ≡ false → cond (here && (f && within)) x y ≡ cond (here && (f && within)) z y
outside here f within x z y q = grind arith

none_yet : (m first : ℕ) (here f : Bool) (x y : ℕ) → y ≡ cond (here && (f && (leb first m && ltb m (first + 0)))) x y
none_yet m first here f x y = grind (arith, nat_tests)

-- what is added matters only below n
pub added_as : (A : Arithmetic) (w : Meaning) (first slot n o : ℕ) (f h : ℕ → ℕ) → ((k : ℕ) → k < n → f k ≡ h k) → changed w (added_to A w first slot n o f) ≡ changed w (added_to A w first slot n o h)
added_as A w first slot n o f h same =
    same_symbols w (added_to A w first slot n o f) (added_to A w first slot n o h)
    (λ m s u.
    let y : ℕ = w.symbol m s u in
    by_cases (ℕ_discrete (n - (m - first)) 0)
    (λ (z : n - (m - first) ≡ 0). let q : (leb first m && ltb m (first + n)) ≡ false = grind (arith, nat_tests) in outside (eqb s slot && eqb u o) (w.fitted m) (leb first m && ltb m (first + n)) _ _ y q)
    (λ (z : n - (m - first) ≢ 0). ap (λ v. cond ((eqb s slot && eqb u o) && (w.fitted m && (leb first m && ltb m (first + n)))) (A.add y v) y) (same (m - first) (omega arith))))

module _ (A : Arithmetic) (w : Meaning) (first slot o : ℕ) (f : ℕ → ℕ) where
  pub added_zero : w ≡ changed w (added_to A w first slot 0 o f)
  added_zero = same_symbols w w.symbol (added_to A w first slot 0 o f) (λ m s u. none_yet m first (eqb s slot && eqb u o) (w.fitted m) _ (w.symbol m s u))

  added_more : (k : ℕ) → changed w (added_at A (changed w (added_to A w first slot k o f)) (first + k) slot o (f k)) ≡ changed w (added_to A w first slot (k + 1) o f)
  added_more k =
      same_symbols w (added_at A (changed w (added_to A w first slot k o f)) (first + k) slot o (f k)) (added_to A w first slot (k + 1) o f)
      (λ m s u.
      step m first k (eqb s slot && eqb u o) (w.fitted m) (w.symbol m s u) (A.add (w.symbol m s u) (f (m - first))) (λ z. A.add z (f k))
      (λ e. let q : k ≡ m - first = omega arith in ap (λ n. A.add (w.symbol m s u) (f n)) q))

  -- one parity more: the place is in the rack, and its share is added there
  pub more_spans : (k count : ℕ) (v : Meaning) → k < count → Spans A w (first + count) slot o → v ≡ changed w (added_to A w first slot k o f) → Spans A v (first + k + 1) slot o
  more_spans k count v l spans e =
      subst (λ (z : Meaning). Spans A z (first + k + 1) slot o) (sym e)
      (record { order_is = spans.order_is; modules_fit = omega (arith, spans.modules_fit); slot_fits = spans.slot_fits; offset_fits = spans.offset_fits })

  -- its symbol is still that which was fetched
  not_yet : (k : ℕ) → added_to A w first slot k o f (first + k) slot o ≡ w.symbol (first + k) slot o
  not_yet k = grind (arith, nat_tests)

  pub still_fetched : (k : ℕ) (v : Meaning) (q : Option ℕ) → v ≡ changed w (added_to A w first slot k o f) → Fetched w (first + k) slot o q → Fetched v (first + k) slot o q
  still_fetched k v (Some y) e is = is ∙ sym (not_yet k) ∙ ap (λ (z : Meaning). z.symbol (first + k) slot o) (sym e)
  still_fetched k v None e is = tt

  pub added_next : (k : ℕ) (v v' : Meaning) → v ≡ changed w (added_to A w first slot k o f) → v' ≡ changed v (added_at A v (first + k) slot o (f k)) → v' ≡ changed w (added_to A w first slot (k + 1) o f)
  added_next k v v' e added = added ∙ (λ i. changed (e i) (added_at A (e i) (first + k) slot o (f k))) ∙ added_more k

  pub added_all : (k count : ℕ) (v : Meaning) → k ≡ count → v ≡ changed w (added_to A w first slot k o f) → v ≡ changed w (added_to A w first slot count o f)
  added_all k count v all e = e ∙ ap (λ n. changed w (added_to A w first slot n o f)) all
