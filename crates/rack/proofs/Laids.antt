-- What a change of what lies at the places, or of a flag, does to the meaning.
use Rattle.std.proofs.Common.{◌≡◌, ℕ, ◌+◌, ◌*◌, ◌/◌, ◌%◌, ◌<◌, ◌≤◌, Bool, true, false, cond, not, ◌&&◌, eqb, ltb, ◌≢◌, List, length, get_or, set, Some, None, sym, refl, ap, ◌∙◌, subst, ⊎_elim, arith, length-set, get_or-set_other, get_or-set_same}
use lib.Arith.{digits_lt, digits_div, digits_mod}
use Rattle.std.proofs.lemmas.Bool.{lt-ltb, ltb-true, eqb-true, eq-eqb, ne_eqb, and_parts, and_from, cond-true, cond-false, cases_eq, not-true, and_left, le-ltb}
use Rattle.std.proofs.lemmas.Bool.Decides.{nat_tests}
use Rattle.rack.specs.declared.size.Size.{Size}
use Rattle.rack.specs.declared.shape.Shape.{Shape}
use Rattle.rack.specs.Meaning.{Meaning, holds, symbol_at, takes, stored, flagged, pulls, fits, Pulls, Fits}
use Rattle.rack.specs.Shaped.{marked, is_marked, is_unlike}
use Rattle.rack.specs.Laid.{low, inside, laid, fair, Fair, unless}
use Rattle.layout.specs.declared.refusal.Refusal.TheVariants.{UnfitMemory}

-- two digits are known by their number
pub same_high : (q q' m r r' : ℕ) → r < m → r' < m → q * m + r ≡ q' * m + r' → q ≡ q'
same_high q q' m r r' h h' e = sym (digits_div q h) ∙ ap (λ n. n / m) e ∙ digits_div q' h'

pub same_low : (q q' m r r' : ℕ) → r < m → r' < m → q * m + r ≡ q' * m + r' → r ≡ r'
same_low q q' m r r' h h' e = sym (digits_mod q h) ∙ ap (λ n. n % m) e ∙ digits_mod q' h'

pub slot_lt : (M S m s : ℕ) → m < M → s < S → m * S + s < M * S
slot_lt M S m s hm hs = digits_lt hm hs

-- nothing is refused: the test holds
pub unless_none : (b : Bool) → unless b ≡ None → b ≡ true
unless_none true e = refl
unless_none false e = let z : ◌≡◌ {A = ℕ} 0 1 = cc in absurd (omega arith)

pub unless_true : (b : Bool) → b ≡ true → unless b ≡ None
unless_true b e = cond-true b None (Some UnfitMemory) e

pub unless_false : (b : Bool) → b ≡ false → unless b ≡ Some UnfitMemory
unless_false b e = cond-false b None (Some UnfitMemory) e

-- the test on the four numbers, and the facts
pub fair_parts : (x : Shape) → length x.on ≡ 32 → fair x.size ≡ true → Fair x
fair_parts x f t = record {
  flags = f;
  order_low = grind (arith, nat_tests);
  order_high = grind (arith, nat_tests);
  modules_low = grind (arith, nat_tests);
  modules_high = grind (arith, nat_tests);
  slots_low = grind (arith, nat_tests);
  slots_high = grind (arith, nat_tests);
  length_low = grind (arith, nat_tests);
  length_high = grind (arith, nat_tests);
}

pub fair_from : (x : Shape) → Fair x → fair x.size ≡ true
fair_from x h = grind (arith, nat_tests)

pub fair_marked : {x : Shape} (m : ℕ) (b : Bool) → Fair x → Fair (marked x m b)
fair_marked {x = x} m b h = record {
  flags = length-set x.on m b ∙ h.flags;
  order_low = h.order_low;
  order_high = h.order_high;
  modules_low = h.modules_low;
  modules_high = h.modules_high;
  slots_low = h.slots_low;
  slots_high = h.slots_high;
  length_low = h.length_low;
  length_high = h.length_high;
}

-- one place against another
abbrev pub here : ℕ → ℕ → ℕ → ℕ → ℕ → ℕ → Bool
here m s o m' s' o' = eqb m' m && (eqb s' s && eqb o' o)

here_parts : (m s o m' s' o' : ℕ) → here m s o m' s' o' ≡ true → (m' ≡ m) × (s' ≡ s) × (o' ≡ o)
here_parts m s o m' s' o' h =
    let p = and_parts (eqb m' m) (eqb s' s && eqb o' o) h in let q = and_parts (eqb s' s) (eqb o' o) p.1 in
    (eqb-true m' m p.0, eqb-true s' s q.0, eqb-true o' o q.1)

here_from : (m s o m' s' o' : ℕ) → m' ≡ m → s' ≡ s → o' ≡ o → here m s o m' s' o' ≡ true
here_from m s o m' s' o' a b d = and_from _ _ (eq-eqb m' m a) (and_from _ _ (eq-eqb s' s b) (eq-eqb o' o d))

-- a place inside, as facts
pub record At (x : Shape) (m s o : ℕ) : Type 0 where
  pub module_inside : m < x.size.modules
  pub slot_inside : s < x.size.slots
  pub offset_inside : o < x.size.length
  pub on : get_or x.on m false ≡ true

pub inside_from : {x : Shape} {m s o : ℕ} → At x m s o → inside x m s o ≡ true
inside_from {x = x} {m = m} {s = s} {o = o} h =
    and_from _ _ (lt-ltb m x.size.modules h.module_inside)
    (and_from _ _ (lt-ltb s x.size.slots h.slot_inside) (and_from _ _ (lt-ltb o x.size.length h.offset_inside) h.on))

pub inside_parts : (x : Shape) (m s o : ℕ) → inside x m s o ≡ true → At x m s o
inside_parts x m s o t =
    let p = and_parts (ltb m x.size.modules) (ltb s x.size.slots && (ltb o x.size.length && get_or x.on m false)) t in
    let q = and_parts (ltb s x.size.slots) (ltb o x.size.length && get_or x.on m false) p.1 in
    let r = and_parts (ltb o x.size.length) (get_or x.on m false) q.1 in
    record {
      module_inside = ltb-true m x.size.modules p.0;
      slot_inside = ltb-true s x.size.slots q.0;
      offset_inside = ltb-true o x.size.length r.0;
      on = r.1;
    }

point : (h t : Bool) (old new v : ℕ) → (h ≡ true → (t ≡ true) × (new ≡ v)) → (h ≡ false → t ≡ true → new ≡ old)
    → cond t new 0 ≡ cond h v (cond t old 0)
point true true old new v p q = (p refl).1
point true false old new v p q = let e : false ≡ true = (p refl).0 in let z : ◌≡◌ {A = ℕ} 0 1 = cc in absurd (omega arith)
point false true old new v p q = q refl refl
point false false old new v p q = refl

zero_cond : (t : Bool) (x : ℕ) → (t ≡ true → x ≡ 0) → cond t x 0 ≡ 0
zero_cond true x h = h refl
zero_cond false x h = refl

like_cond : (t : Bool) (x y : ℕ) → (t ≡ true → x ≡ y) → cond t x 0 ≡ cond t y 0
like_cond true x y h = h refl
like_cond false x y h = refl

-- v lies at one place, and at each other what lay there
module _ (x : Shape) (lies lies' : ℕ → ℕ → ℕ → ℕ) (m s o v : ℕ) (here_inside : At x m s o) (hv : v < x.size.order)
    (at_place : lies' m s o ≡ v)
    (elsewhere : (m' s' o' : ℕ) → m' < x.size.modules → s' < x.size.slots → o' < x.size.length → ((m' ≡ m) × (s' ≡ s) × (o' ≡ o) → ⊥)
    → lies' m' s' o' ≡ lies m' s' o')
  where
    same : (m' s' o' : ℕ) → m' ≡ m → s' ≡ s → o' ≡ o → (inside x m' s' o' ≡ true) × (low x.size.order (lies' m' s' o') ≡ v)
    same m' s' o' em es eo = (
      ap (λ y. inside x y s' o') em ∙ ap (λ y. inside x m y o') es ∙ ap (λ y. inside x m s y) eo ∙ inside_from here_inside,
      ap (λ y. low x.size.order (lies' y s' o')) em ∙ ap (λ y. low x.size.order (lies' m y o')) es ∙ ap (λ y. low x.size.order (lies' m s y)) eo
          ∙ ap (low x.size.order) at_place ∙ cond-true (ltb v x.size.order) v 0 (lt-ltb v x.size.order hv),
    )

    other : (m' s' o' : ℕ) → here m s o m' s' o' ≡ false → inside x m' s' o' ≡ true → low x.size.order (lies' m' s' o') ≡ low x.size.order (lies m' s' o')
    other m' s' o' h t =
        let p = inside_parts x m' s' o' t in
        ap (low x.size.order)
        (elsewhere m' s' o' p.module_inside p.slot_inside p.offset_inside
        (λ e. let z : true ≡ false = sym (here_from m s o m' s' o' e.0 e.1 e.2) ∙ h in let n : ◌≡◌ {A = ℕ} 0 1 = cc in omega arith))

    pub laid_put : laid x lies' ≡ stored (laid x lies) m s o v
    laid_put = λ i. record {
      order = x.size.order;
      modules = x.size.modules;
      slots = x.size.slots;
      length = x.size.length;
      fitted = λ m'. ltb m' x.size.modules && get_or x.on m' false;
      symbol = λ m' s' o'. point (here m s o m' s' o') (inside x m' s' o') (low x.size.order (lies m' s' o')) (low x.size.order (lies' m' s' o')) v
          (λ h. let e = here_parts m s o m' s' o' h in same m' s' o' e.0 e.1 e.2) (other m' s' o') i;
    }

pub holds_laid : {x : Shape} (lies : ℕ → ℕ → ℕ → ℕ) {m s o : ℕ} → At x m s o → holds (laid x lies) m s o ≡ true
holds_laid {x = x} lies {m = m} {s = s} {o = o} h =
    and_from _ _ (lt-ltb m x.size.modules h.module_inside)
    (and_from _ _ (lt-ltb s x.size.slots h.slot_inside)
    (and_from _ _ (lt-ltb o x.size.length h.offset_inside) (and_from _ _ (lt-ltb m x.size.modules h.module_inside) h.on)))

pub takes_laid : {x : Shape} (lies : ℕ → ℕ → ℕ → ℕ) {m s o v : ℕ} → At x m s o → v < x.size.order → takes (laid x lies) m s o v ≡ true
takes_laid {x = x} lies {v = v} h hv = and_from _ _ (holds_laid lies h) (lt-ltb v x.size.order hv)

-- what a read answers at a place inside
pub read_laid : {x : Shape} (lies : ℕ → ℕ → ℕ → ℕ) {m s o : ℕ} (cells : List ℕ) (i : ℕ) → At x m s o → i < length cells → get_or cells i 0 ≡ lies m s o
    → cond (ltb i (length cells)) (Some (low x.size.order (get_or cells i 0))) None ≡ symbol_at (laid x lies) m s o
read_laid {x = x} lies {m = m} {s = s} {o = o} cells i h l e =
    cond-true (ltb i (length cells)) (Some (low x.size.order (get_or cells i 0))) None (lt-ltb i (length cells) l)
    ∙ ap (λ v. Some (low x.size.order v)) e
    ∙ ap (λ v. Some v) (sym (cond-true (inside x m s o) (low x.size.order (lies m s o)) 0 (inside_from h)))
    ∙ sym (cond-true (holds (laid x lies) m s o) (Some ((laid x lies).symbol m s o)) None (holds_laid lies h))

-- the flags
flag_point : (x : Shape) (m m' : ℕ) (b : Bool) → m < x.size.modules → m < length x.on
    → (ltb m' x.size.modules && get_or (set x.on m b) m' false) ≡ cond (eqb m' m) b (ltb m' x.size.modules && get_or x.on m' false)
flag_point x m m' b hm hl = ⊎_elim same other (cases_eq m' m)
  where
    same : m' ≡ m → (ltb m' x.size.modules && get_or (set x.on m b) m' false) ≡ cond (eqb m' m) b (ltb m' x.size.modules && get_or x.on m' false)
    same e =
        ap (λ y. ltb y x.size.modules && get_or (set x.on m b) y false) e
        ∙ ap (λ y. ltb m x.size.modules && y) (get_or-set_same x.on m b false hl)
        ∙ ap (λ y. y && b) (lt-ltb m x.size.modules hm)
        ∙ sym (cond-true (eqb m' m) b _ (eq-eqb m' m e))

    other : (m' ≡ m → ⊥) → (ltb m' x.size.modules && get_or (set x.on m b) m' false) ≡ cond (eqb m' m) b (ltb m' x.size.modules && get_or x.on m' false)
    other n =
        ap (λ y. ltb m' x.size.modules && y) (get_or-set_other x.on m m' b false n)
        ∙ sym (cond-false (eqb m' m) b _ (ne_eqb m' m n))

-- a module's flag changes; where it is then set, 0 lies at its places, and other modules keep theirs
module _ (x : Shape) (m : ℕ) (lies lies' : ℕ → ℕ → ℕ → ℕ) (b : Bool) (hm : m < x.size.modules) (hl : m < length x.on)
    (zero : (s o : ℕ) → s < x.size.slots → o < x.size.length → b ≡ true → lies' m s o ≡ 0)
    (kept : (m' s o : ℕ) → m' ≢ m → m' < x.size.modules → s < x.size.slots → o < x.size.length → lies' m' s o ≡ lies m' s o)
  where
    abbrev old : ℕ → ℕ → ℕ → ℕ
    old m' s o = cond (inside x m' s o) (low x.size.order (lies m' s o)) 0

    abbrev new : ℕ → ℕ → ℕ → ℕ
    new m' s o = cond (inside (marked x m b) m' s o) (low x.size.order (lies' m' s o)) 0

    low_zero : (y : ℕ) → y ≡ 0 → low x.size.order y ≡ 0
    low_zero y e = ap (low x.size.order) e ∙ zero_cond (ltb 0 x.size.order) 0 (λ _. refl)

    at_module : (m' s o : ℕ) → m' ≡ m → new m' s o ≡ cond (eqb m' m) 0 (old m' s o)
    at_module m' s o e =
        ap (λ y. new y s o) e
        ∙ zero_cond (inside (marked x m b) m s o) (low x.size.order (lies' m s o))
        (λ t. let p = inside_parts (marked x m b) m s o t in
        low_zero (lies' m s o) (zero s o p.slot_inside p.offset_inside (sym (get_or-set_same x.on m b false hl) ∙ p.on)))
        ∙ sym (cond-true (eqb m' m) 0 (old m' s o) (eq-eqb m' m e))

    at_other : (m' s o : ℕ) → (m' ≡ m → ⊥) → new m' s o ≡ cond (eqb m' m) 0 (old m' s o)
    at_other m' s o n =
        ap (λ f. cond (ltb m' x.size.modules && (ltb s x.size.slots && (ltb o x.size.length && f))) (low x.size.order (lies' m' s o)) 0)
        (get_or-set_other x.on m m' b false n)
        ∙ like_cond (inside x m' s o) (low x.size.order (lies' m' s o)) (low x.size.order (lies m' s o))
        (λ t. let p = inside_parts x m' s o t in ap (low x.size.order) (kept m' s o n p.module_inside p.slot_inside p.offset_inside))
        ∙ sym (cond-false (eqb m' m) 0 (old m' s o) (ne_eqb m' m n))

    pub laid_flag : laid (marked x m b) lies' ≡ flagged (laid x lies) m b
    laid_flag = λ i. record {
      order = x.size.order;
      modules = x.size.modules;
      slots = x.size.slots;
      length = x.size.length;
      fitted = λ m'. flag_point x m m' b hm hl i;
      symbol = λ m' s o. ⊎_elim (at_module m' s o) (at_other m' s o) (cases_eq m' m) i;
    }

pub laid_pull : (x : Shape) (m : ℕ) (lies : ℕ → ℕ → ℕ → ℕ) → m < x.size.modules → m < length x.on
    → laid (marked x m false) lies ≡ flagged (laid x lies) m false
laid_pull x m lies hm hl =
    laid_flag x m lies lies false hm hl
    (λ s o hs ho e. let z : ◌≡◌ {A = ℕ} 0 1 = cc in absurd (omega arith)) (λ m' s o n hm' hs ho. refl)

pub pulls_laid : (x : Shape) (m : ℕ) (lies : ℕ → ℕ → ℕ → ℕ) → m < x.size.modules → get_or x.on m false ≡ true → pulls (laid x lies) m ≡ true
pulls_laid x m lies hm e = and_from _ _ (lt-ltb m x.size.modules hm) (and_from _ _ (lt-ltb m x.size.modules hm) e)

pub fits_laid : (x : Shape) (m : ℕ) (lies : ℕ → ℕ → ℕ → ℕ) → m < x.size.modules → get_or x.on m false ≡ false → fits (laid x lies) m ≡ true
fits_laid x m lies hm e =
    and_from _ _ (lt-ltb m x.size.modules hm)
    (ap (λ y. not (ltb m x.size.modules && y)) e ∙ ap (λ y. not (y && false)) (lt-ltb m x.size.modules hm))

-- a module outside is not fitted
pub outside_fit : (x : Shape) (m : ℕ) (lies : ℕ → ℕ → ℕ → ℕ) → x.size.modules ≤ m → Fits (laid x lies) (laid x lies) m false
outside_fit x m lies h =
    let w = laid x lies in
    let t : fits w m ≡ false = and_left (ltb m x.size.modules) (not (ltb m x.size.modules && get_or x.on m false)) (le-ltb m x.size.modules h) in
    record { answer = sym t; after = sym (cond-false (fits w m) (flagged w m true) w t) }

-- what the tests of a shape say
pub marked_parts : (x : Shape) (m : ℕ) → true ≡ is_marked x m → (m < x.size.modules) × (get_or x.on m false ≡ true)
marked_parts x m e =
    let p = and_parts (ltb m 32) (ltb m x.size.modules && get_or x.on m false) (sym e) in
    let q = and_parts (ltb m x.size.modules) (get_or x.on m false) p.1 in
    (ltb-true m x.size.modules q.0, q.1)

pub empty_parts : (x : Shape) (m : ℕ) → true ≡ is_unlike x m true → (m < x.size.modules) × (get_or x.on m false ≡ false)
empty_parts x m e =
    let p = and_parts (ltb m 32) (ltb m x.size.modules && not (get_or x.on m false)) (sym e) in
    let q = and_parts (ltb m x.size.modules) (not (get_or x.on m false)) p.1 in
    (ltb-true m x.size.modules q.0, not-true (get_or x.on m false) q.1)

pub holds_parts : (x : Shape) (m s o : ℕ) → true ≡ (ltb m 32 && inside x m s o) → At x m s o
holds_parts x m s o e = inside_parts x m s o (and_parts (ltb m 32) (inside x m s o) (sym e)).1

pub takes_parts : (x : Shape) (m s o v : ℕ) → true ≡ ((ltb m 32 && inside x m s o) && ltb v x.size.order) → At x m s o × (v < x.size.order)
takes_parts x m s o v e =
    let p = and_parts (ltb m 32 && inside x m s o) (ltb v x.size.order) (sym e) in
    (holds_parts x m s o (sym p.0), ltb-true v x.size.order p.1)

-- what holds of a shape before and after a mark holds of what a call leaves
pub by_marked : (P : Shape → Type 0) (x x' : Shape) (m : ℕ) (b r : Bool) → P x → P (marked x m b) → x' ≡ cond r (marked x m b) x → P x'
by_marked P x x' m b true p q e = subst P (sym e) q
by_marked P x x' m b false p q e = subst P (sym e) p

not_pulled : (modules m : ℕ) (b : Bool) → modules ≤ 32 → false ≡ (ltb m 32 && (ltb m modules && b)) → false ≡ (ltb m modules && (ltb m modules && b))
not_pulled modules m b h e = grind (arith, nat_tests)

-- the meaning of a shape over what lies at the places
abbrev pub shaped : Shape → (Size → ℕ → ℕ → ℕ → ℕ) → Meaning
shaped x lies = laid x (lies x.size)

pub shaped_pull : (x x' : Shape) (lies : Size → ℕ → ℕ → ℕ → ℕ) (m : ℕ) (r : Bool) → Fair x
    → r ≡ is_unlike x m false → x' ≡ cond r (marked x m false) x
    → Pulls (shaped x lies) (shaped x' lies) m r
shaped_pull x x' lies m true f e a =
    let p = marked_parts x m e in
    let t = pulls_laid x m (lies x.size) p.0 p.1 in
    record {
      answer = sym t;
      after = ap (λ y. shaped y lies) a
          ∙ laid_pull x m (lies x.size) p.0 (omega (arith, p.0, f.modules_high, f.flags))
          ∙ sym (cond-true (pulls (shaped x lies) m) (flagged (shaped x lies) m false) (shaped x lies) t);
    }
shaped_pull x x' lies m false f e a =
    let t = not_pulled x.size.modules m (get_or x.on m false) f.modules_high e in
    record {
      answer = t;
      after = ap (λ y. shaped y lies) a ∙ sym (cond-false (pulls (shaped x lies) m) (flagged (shaped x lies) m false) (shaped x lies) (sym t));
    }
