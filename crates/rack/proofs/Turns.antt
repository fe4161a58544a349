-- What a turn of a page does to the meaning.
use Rattle.std.proofs.Common.{◌≡◌, ℕ, ◌+◌, ◌-◌, ◌*◌, ◌<◌, ◌≤◌, Bool, true, false, cond, not, ◌&&◌, ◌||◌, eqb, ltb, ◌≢◌, ◌⊎◌, List, length, get_or, set, None, Decides, sym, refl, ap, ◌∙◌, subst, inl, inr, ⊎_elim, mul-le-mul_right, add-mul, add-one, arith, length-set, get_or-set_other, get_or-set_same}
use lib.Arith.{digits_lt}
use Rattle.std.proofs.lemmas.Bool.{le-leb, eq-eqb, ne_eqb, and_from, cond-true, cond-false, cases_eq, cases_lt, cases_Bool, cases_order, lt-ltb, or_left, not_from_false}
use Rattle.std.proofs.lemmas.Bool.Decides.{nat_tests, Decides-eqb, Decides-ltb, Decides-not, Decides-and, Decides-below_and, Decides-below_or}
use Rattle.rack.specs.declared.size.Size.{Size}
use Rattle.rack.specs.declared.shape.Shape.{Shape}
use Rattle.rack.specs.Meaning.{takes, fits, stored, flagged, Puts, Fits}
use Rattle.rack.specs.Shaped.{marked, is_unlike}
use Rattle.rack.specs.Turning.{paged, turned, named, each_once, pages_of, page_of, spare_of, turn_fits, turn_refusal, exchanged, Turns, PagesBlanked, TurnSound}
use Rattle.rack.proofs.Laids.{same_high, same_low, slot_lt, At, unless_true, fair_from, fair_marked, laid_put, laid_flag, takes_laid, fits_laid, empty_parts}

-- the first n entries of a map are below n, and no two are the same
abbrev pub Below : List ℕ → ℕ → Type 0
Below map n = (i : ℕ) → i < n → get_or map i 0 < n

abbrev pub Once : List ℕ → ℕ → Type 0
Once map n = (i j : ℕ) → (i < n) × (j < n) × (get_or map i 0 ≡ get_or map j 0) → i ≡ j

pub page_lt : {p N span o L : ℕ} → p < N → o < span → N * span ≤ L → p * span + o < L
page_lt {p = p} {N = N} {span = span} {o = o} {L = L} hp ho h = omega (arith, digits_lt hp ho)

pub page_room : (p N span L : ℕ) → p < N → N * span ≤ L → p * span + span ≤ L
page_room p N span L hp h = omega (arith, add-mul p 1 span, mul-le-mul_right {m = p + 1} {n = N} span (omega arith))

pub pages_apart : (p q span : ℕ) → p ≢ q → (p * span + span ≤ q * span) ⊎ (q * span + span ≤ p * span)
pages_apart p q span n =
    ⊎_elim (λ (h : p < q). inl (omega (arith, add-mul p 1 span, mul-le-mul_right {m = p + 1} {n = q} span (omega arith))))
    (λ (h : q ≤ p). inr (omega (arith, add-mul q 1 span, mul-le-mul_right {m = q + 1} {n = p} span (above h))))
    (cases_lt p q)
  where
    above : q ≤ p → q + 1 ≤ p
    above h = omega arith

-- the cells of a page lie outside those of another
pub outside_page : (p q span k : ℕ) → p ≢ q → k < span → (p * span + k < q * span) ⊎ (q * span + span ≤ p * span + k)
outside_page p q span k n h =
    ⊎_elim (λ (e : p * span + span ≤ q * span). inl (omega arith)) (λ (e : q * span + span ≤ p * span). inr (omega arith)) (pages_apart p q span n)

-- the test that each page stands once, and the facts
named_decides : (map : List ℕ) (p k : ℕ) → Decides (named map p k) ((j : ℕ) × (j < k) × (get_or map j 0 ≡ p))
named_decides map p k =
    Decides-below_or (λ j. eqb (get_or map j 0) p) (λ j. get_or map j 0 ≡ p) (named map p) (λ j. Decides-eqb (get_or map j 0) p) refl (λ _. refl) k

abbrev pub fresh : List ℕ → ℕ → ℕ → Type 0
fresh map n k = (get_or map k 0 < n) × (((j : ℕ) × (j < k) × (get_or map j 0 ≡ get_or map k 0)) → ⊥)

abbrev fresh_test : List ℕ → ℕ → ℕ → Bool
fresh_test map n k = ltb (get_or map k 0) n && not (named map (get_or map k 0) k)

fresh_decides : (map : List ℕ) (n k : ℕ) → Decides (fresh_test map n k) (fresh map n k)
fresh_decides map n k =
    Decides-and (ltb (get_or map k 0) n) (not (named map (get_or map k 0) k)) (Decides-ltb (get_or map k 0) n)
    (Decides-not (named map (get_or map k 0) k) (named_decides map (get_or map k 0) k))

once_decides : (map : List ℕ) (n k : ℕ) → Decides (each_once map n k) ((i : ℕ) → i < k → fresh map n i)
once_decides map n k = Decides-below_and (fresh_test map n) (fresh map n) (each_once map n) (fresh_decides map n) refl (λ _. refl) k

pub named_parts : (map : List ℕ) (p k : ℕ) → named map p k ≡ true → (j : ℕ) × (j < k) × (get_or map j 0 ≡ p)
named_parts map p k t = (named_decides map p k).0 t

-- one entry more, whose page was not marked
pub named_more : (map : List ℕ) (seen : List Bool) (i p : ℕ) → get_or map i 0 < length seen → get_or seen p false ≡ named map p i
    → get_or (set seen (get_or map i 0) true) p false ≡ named map p (i + 1)
named_more map seen i p l h =
    ⊎_elim (λ (e : p ≡ get_or map i 0).
    ap (λ x. get_or (set seen (get_or map i 0) true) x false) e ∙ get_or-set_same seen (get_or map i 0) true false l
    ∙ sym (or_left (eqb (get_or map i 0) p) (named map p i) (eq-eqb (get_or map i 0) p (sym e))))
    (λ n. get_or-set_other seen (get_or map i 0) p true false n ∙ h
    ∙ sym (ap (λ b. b || named map p i) (ne_eqb (get_or map i 0) p (λ e. n (sym e)))))
    (cases_eq p (get_or map i 0))
    ∙ ap (named map p) (sym (add-one i))

pub once_more : (map : List ℕ) (n i : ℕ) → each_once map n i ≡ true → get_or map i 0 < n → named map (get_or map i 0) i ≡ false → each_once map n (i + 1) ≡ true
once_more map n i t l f =
    ap (each_once map n) (add-one i)
    ∙ and_from (fresh_test map n i) (each_once map n i)
    (and_from (ltb (get_or map i 0) n) (not (named map (get_or map i 0) i)) (lt-ltb (get_or map i 0) n l) (not_from_false (named map (get_or map i 0) i) f)) t

pub once_below : (map : List ℕ) (n : ℕ) → each_once map n n ≡ true → Below map n
once_below map n t i h = ((once_decides map n n).0 t i h).0

pub once_once : (map : List ℕ) (n : ℕ) → each_once map n n ≡ true → Once map n
once_once map n t i j p =
    ⊎_elim (λ (e : i ≡ j). e)
    (⊎_elim (λ (l : i < j). absurd (((once_decides map n n).0 t j p.1).1 (i, l, p.2)))
    (λ (l : j < i). absurd (((once_decides map n n).0 t i p.0).1 (j, l, sym p.2))))
    (cases_order i j)

pub once_from : (map : List ℕ) (n : ℕ) → Below map n → Once map n → each_once map n n ≡ true
once_from map n below once =
    (once_decides map n n).1
    (λ i h. (below i h, λ q. let l = q.1 in let e : q.0 ≡ i = once q.0 i (omega arith, h, q.2) in omega arith))

-- a page that is outside or stands twice
pub once_stops : (map : List ℕ) (n k m : ℕ) → k < m → (fresh map n k → ⊥) → each_once map n m ≡ false
once_stops map n k m h stale = ⊎_elim (λ (t : each_once map n m ≡ true). absurd (stale ((once_decides map n m).0 t k h))) (λ e. e) (cases_Bool (each_once map n m))

-- the two entries that a turn exchanges
abbrev swapped : ℕ → ℕ → ℕ → ℕ
swapped i n x = cond (eqb x n) i (cond (eqb x i) n x)

swapped_lt : (i n N x : ℕ) → i < N → n < N → x < N → swapped i n x < N
swapped_lt i n N x hi hn hx = grind (arith, nat_tests)

swapped_same : (i n x y : ℕ) → swapped i n x ≡ swapped i n y → x ≡ y
swapped_same i n x y e = grind (arith, nat_tests)

exchanged_at : (xs : List ℕ) (i n x : ℕ) → i < length xs → n < length xs → get_or (exchanged xs i n) x 0 ≡ get_or xs (swapped i n x) 0
exchanged_at xs i n x hi hn =
    ⊎_elim (λ (e : x ≡ n). ap (λ j. get_or (exchanged xs i n) j 0) e
    ∙ get_or-set_same (set xs i (get_or xs n 0)) n (get_or xs i 0) 0 (subst (λ k. n < k) (sym (length-set xs i (get_or xs n 0))) hn)
    ∙ ap (λ j. get_or xs j 0) (sym (cond-true (eqb x n) i (cond (eqb x i) n x) (eq-eqb x n e))))
    (λ a. get_or-set_other (set xs i (get_or xs n 0)) n x (get_or xs i 0) 0 a
    ∙ ⊎_elim (λ (e : x ≡ i). ap (λ j. get_or (set xs i (get_or xs n 0)) j 0) e
    ∙ get_or-set_same xs i (get_or xs n 0) 0 hi
    ∙ ap (λ j. get_or xs j 0) (sym (cond-true (eqb x i) n x (eq-eqb x i e))))
    (λ b. get_or-set_other xs i x (get_or xs n 0) 0 b ∙ ap (λ j. get_or xs j 0) (sym (cond-false (eqb x i) n x (ne_eqb x i b))))
    (cases_eq x i)
    ∙ ap (λ j. get_or xs j 0) (sym (cond-false (eqb x n) i (cond (eqb x i) n x) (ne_eqb x n a))))
    (cases_eq x n)

exchanged_below : (xs : List ℕ) (i n N : ℕ) → i < N → n < N → N ≤ length xs → Below xs N → Below (exchanged xs i n) N
exchanged_below xs i n N hi hn h b x hx =
    subst (λ v. v < N) (sym (exchanged_at xs i n x (omega arith) (omega arith))) (b (swapped i n x) (swapped_lt i n N x hi hn hx))

exchanged_once : (xs : List ℕ) (i n N : ℕ) → i < N → n < N → N ≤ length xs → Once xs N → Once (exchanged xs i n) N
exchanged_once xs i n N hi hn h o x y p =
    swapped_same i n x y
    (o (swapped i n x) (swapped i n y) (
      swapped_lt i n N x hi hn p.0,
      swapped_lt i n N y hi hn p.1,
      sym (exchanged_at xs i n x (omega arith) (omega arith)) ∙ p.2 ∙ exchanged_at xs i n y (omega arith) (omega arith),
    ))

-- a slot's entry is not the spare's
pub not_spare : (pages : List ℕ) (n j : ℕ) → j < n → Once pages (n + 1) → get_or pages j 0 ≢ get_or pages n 0
not_spare pages n j h once e = let z : j ≡ n = once j n (omega arith, omega arith, e) in omega arith

-- the slot's page is written anew into the spare one, with one symbol changed, and the two entries are exchanged
module _ (x : Shape) (map map' cells cells' : List ℕ) (m s o v : ℕ) (inside : At x m s o) (hv : v < x.size.order)
    (sound : TurnSound x map cells) (long : length cells' ≡ length cells) (turns : Turns x.size map map' cells cells' m s o v)
  where
    abbrev size : Size
    size = x.size

    abbrev n : ℕ
    n = x.size.modules * x.size.slots

    abbrev i : ℕ
    i = m * x.size.slots + s

    abbrev spare : ℕ
    spare = spare_of x.size map

    i_lt : m * x.size.slots + s < x.size.modules * x.size.slots
    i_lt = slot_lt x.size.modules x.size.slots m s inside.module_inside inside.slot_inside

    -- the entry of the slot is now the spare page's, and each other slot's is as it was
    entry_same : get_or (exchanged map i n) i 0 ≡ spare
    entry_same =
        let ne : i ≢ n = omega (arith, i_lt) in
        get_or-set_other (set map i spare) n i (get_or map i 0) 0 ne ∙ get_or-set_same map i spare 0 (omega (arith, i_lt, sound.entries))

    entry_other : (j : ℕ) → j < x.size.modules * x.size.slots → j ≢ i → get_or (exchanged map i n) j 0 ≡ get_or map j 0
    entry_other j h a =
        let ne : j ≢ n = omega arith in
        get_or-set_other (set map i spare) n j (get_or map i 0) 0 ne ∙ get_or-set_other map i j spare 0 a

    abbrev new : ℕ → ℕ → ℕ → ℕ
    new m' s' o' = paged x.size (exchanged map i n) cells' m' s' o'

    abbrev old : ℕ → ℕ → ℕ → ℕ
    old m' s' o' = paged x.size map cells m' s' o'

    other : (m' s' o' : ℕ) → m' < x.size.modules → s' < x.size.slots → o' < x.size.length → ((m' ≡ m) × (s' ≡ s) × (o' ≡ o) → ⊥) → new m' s' o' ≡ old m' s' o'
    other m' s' o' hm' hs' ho' ne =
        ⊎_elim (λ (e : m' * size.slots + s' ≡ i).
        ap (λ y. get_or cells' (get_or (exchanged map i n) y 0 * size.length + o') 0) e
        ∙ ap (λ y. get_or cells' (y * size.length + o') 0) entry_same
        ∙ turns.copied o' ho' (λ eo. ne (same_high m' m size.slots s' s hs' inside.slot_inside e, same_low m' m size.slots s' s hs' inside.slot_inside e, eo))
        ∙ ap (λ y. get_or cells (get_or map y 0 * size.length + o') 0) (sym e))
        (λ a. let lt = slot_lt size.modules size.slots m' s' hm' hs' in
        ap (λ y. get_or cells' (y * size.length + o') 0) (entry_other (m' * size.slots + s') lt a)
        ∙ turns.others (get_or map (m' * size.slots + s') 0) o' ho' (not_spare map n (m' * size.slots + s') lt (once_once map (n + 1) sound.pages)))
        (cases_eq (m' * size.slots + s') i)

    turn_put : turned x (exchanged map i n) cells' ≡ stored (turned x map cells) m s o v
    turn_put =
        laid_put x old new m s o v inside hv
        (ap (λ y. get_or cells' (y * size.length + o) 0) entry_same ∙ turns.changed) other

    turn_put_sound : TurnSound x (exchanged map i n) cells'
    turn_put_sound = record {
      numbers = sound.numbers;
      entries = subst (λ L. x.size.modules * x.size.slots + 1 ≤ L) (sym (length-set (set map i spare) n (get_or map i 0) ∙ length-set map i spare)) sound.entries;
      room = subst (λ L. (x.size.modules * x.size.slots + 1) * x.size.length ≤ L) (sym long) sound.room;
      pages = once_from (exchanged map i n) (n + 1)
          (exchanged_below map i n (n + 1) (omega (arith, i_lt)) (omega arith) sound.entries (once_below map (n + 1) sound.pages))
          (exchanged_once map i n (n + 1) (omega (arith, i_lt)) (omega arith) sound.entries (once_once map (n + 1) sound.pages));
    }

    pub turn_puts : Puts (turned x map cells) (turned x map' cells') m s o v true × TurnSound x map' cells'
    turn_puts =
        let w = turned x map cells in let t = takes_laid (paged x.size map cells) inside hv in (
          record {
            answer = sym t;
            after = ap (λ y. turned x y cells') turns.entries ∙ turn_put ∙ sym (cond-true (takes w m s o v) (stored w m s o v) w t);
          },
          subst (λ y. TurnSound x y cells') (sym turns.entries) turn_put_sound,
        )

-- another module's entries are not this module's
apart_modules : (size : Size) (map : List ℕ) (m m' s s' : ℕ) → m < size.modules → m' < size.modules → s < size.slots → s' < size.slots → m' ≢ m
    → Once map (pages_of size) → page_of size map m' s' ≢ page_of size map m s
apart_modules size map m m' s s' hm hm' hs hs' n once e =
    n (same_high m' m size.slots s' s hs' hs
    (once (m' * size.slots + s') (m * size.slots + s)
    (omega (arith, slot_lt size.modules size.slots m' s' hm' hs'), omega (arith, slot_lt size.modules size.slots m s hm hs), e)))

pub turn_keeps : {x : Shape} {map cells cells' : List ℕ} → TurnSound x map cells → length cells' ≡ length cells → TurnSound x map cells'
turn_keeps h e = record { numbers = h.numbers; entries = h.entries; room = omega (arith, h.room); pages = h.pages }

pub turn_marked : {x : Shape} {map cells : List ℕ} (m : ℕ) (b : Bool) → TurnSound x map cells → TurnSound (marked x m b) map cells
turn_marked m b h = record { numbers = fair_marked m b h.numbers; entries = h.entries; room = h.room; pages = h.pages }

pub turn_fit : (x x' : Shape) (m : ℕ) (map cells cells' : List ℕ) → TurnSound x map cells → true ≡ is_unlike x m true → x' ≡ marked x m true
    → length cells' ≡ length cells → PagesBlanked x.size m map cells cells'
    → Fits (turned x map cells) (turned x' map cells') m true × TurnSound x' map cells'
turn_fit x x' m map cells cells' h e a long blanked =
    let size = x.size in
    let p = empty_parts x m e in
    let w = turned x map cells in
    let t = fits_laid x m (paged x.size map cells) p.0 p.1 in
    let same : turned (marked x m true) map cells' ≡ flagged w m true =
    laid_flag x m (paged size map cells) (paged size map cells') true p.0 (omega (arith, h.numbers.flags, h.numbers.modules_high, p.0))
    (λ s o hs ho _. blanked.zero s o hs ho)
    (λ m' s o n hm' hs ho. blanked.others (page_of size map m' s) o ho
    (λ s'' hs''. apart_modules size map m m' s'' s p.0 hm' hs'' hs n (once_once map (pages_of size) h.pages))) in (
      record { answer = sym t; after = ap (λ y. turned y map cells') a ∙ same ∙ sym (cond-true (fits w m) (flagged w m true) w t) },
      subst (λ y. TurnSound y map cells') (sym a) (turn_marked m true (turn_keeps h long)),
    )

-- one page cleared
module _ (q span : ℕ) (xs ys : List ℕ)
    (zero : (k : ℕ) → q * span ≤ k → k < q * span + span → get_or ys k 0 ≡ 0)
    (under : (k : ℕ) → k < q * span → get_or ys k 0 ≡ get_or xs k 0)
    (over : (k : ℕ) → q * span + span ≤ k → get_or ys k 0 ≡ get_or xs k 0)
  where
    pub cleared_zero : (p o : ℕ) → p ≡ q → o < span → get_or ys (p * span + o) 0 ≡ 0
    cleared_zero p o e h = zero (p * span + o) (omega (arith, ap (λ x. x * span) e)) (omega (arith, ap (λ x. x * span) e))

    pub cleared_other : (p o : ℕ) → p ≢ q → o < span → get_or ys (p * span + o) 0 ≡ get_or xs (p * span + o) 0
    cleared_other p o n h = ⊎_elim (under (p * span + o)) (over (p * span + o)) (outside_page p q span o n h)

-- entries from the first of a module up to that of the next
pub pages_blanked : (size : Size) (m first end : ℕ) (map cells cells' : List ℕ) → first ≡ m * size.slots + 0 → end ≡ m * size.slots + size.slots
    → ((i k : ℕ) → first ≤ i → i < end → k < size.length → get_or cells' (get_or map i 0 * size.length + k) 0 ≡ 0)
    → ((p k : ℕ) → k < size.length → ((i : ℕ) → first ≤ i → i < end → p ≢ get_or map i 0)
    → get_or cells' (p * size.length + k) 0 ≡ get_or cells (p * size.length + k) 0)
    → PagesBlanked size m map cells cells'
pages_blanked size m first end map cells cells' a b zero others = record {
  zero = λ s k hs hk. zero (m * size.slots + s) k (omega (arith, a)) (omega (arith, b)) hk;
  others = λ p k hk n. others p k hk
      (λ i l u e. let at : i ≡ m * size.slots + (i - m * size.slots) = omega (arith, a) in
      n (i - m * size.slots) (omega (arith, b, at)) (e ∙ ap (λ q. get_or map q 0) at));
}

-- memory that is sound is not refused
pub turn_unrefused : (x : Shape) (map cells : List ℕ) → TurnSound x map cells → turn_refusal cells map x.size ≡ None
turn_unrefused x map cells h =
    let n : ℕ = pages_of x.size in
    unless_true (turn_fits cells map x.size)
    (and_from _ _ (fair_from x h.numbers)
    (and_from _ _ (le-leb (n * x.size.length) (length cells) h.room)
    (and_from _ _ (le-leb n (length map) h.entries) h.pages)))
