-- What a write to the flat row does to its meaning.
use Rattle.std.proofs.Common.{◌≡◌, ℕ, ◌+◌, ◌*◌, ◌<◌, ◌≤◌, Bool, true, ◌≢◌, List, length, get_or, set, None, sym, ap, ◌∙◌, subst, ⊎_elim, mul-le-mul_right, mul_assoc, add-mul, arith, get_or-set_other, get_or-set_same}
use lib.Arith.{digits_lt}
use Rattle.std.proofs.lemmas.Bool.{cond-true, cases_lt, and_from, le-leb}
use Rattle.rack.specs.declared.size.Size.{Size}
use Rattle.rack.specs.declared.shape.Shape.{Shape}
use Rattle.rack.specs.Meaning.{fits, stored, flagged, Fits}
use Rattle.rack.specs.Shaped.{marked, is_unlike}
use Rattle.rack.specs.Flat.{at, flat, flat_fits, flat_refusal, Blanked, FlatSound}
use Rattle.rack.proofs.Laids.{same_high, same_low, unless_true, At, fair_from, fair_marked, laid_put, laid_flag, fits_laid, empty_parts}

pub place_lt : {x : Shape} {m s o : ℕ} → At x m s o → at x.size m s o < x.size.modules * x.size.slots * x.size.length
place_lt h = digits_lt (digits_lt h.module_inside h.slot_inside) h.offset_inside

pub flat_put : (x : Shape) (cells : List ℕ) (m s o v : ℕ) → At x m s o → v < x.size.order
    → x.size.modules * x.size.slots * x.size.length ≤ length cells
    → flat x (set cells (at x.size m s o) v) ≡ stored (flat x cells) m s o v
flat_put x cells m s o v h hv room =
    let S = x.size.slots in let L = x.size.length in
    laid_put x (λ a b d. get_or cells (at x.size a b d) 0) (λ a b d. get_or (set cells (at x.size m s o) v) (at x.size a b d) 0)
    m s o v h hv
    (get_or-set_same cells (at x.size m s o) v 0 (omega (arith, place_lt h)))
    (λ m' s' o' hm' hs' ho' n.
    get_or-set_other cells (at x.size m s o) (at x.size m' s' o') v 0
    (λ e. let row = same_high (m' * S + s') (m * S + s) L o' o ho' h.offset_inside e in
    n (
      same_high m' m S s' s hs' h.slot_inside row,
      same_low m' m S s' s hs' h.slot_inside row,
      same_low (m' * S + s') (m * S + s) L o' o ho' h.offset_inside e,
    )))

-- a module's places lie between m and m + 1 times its size, and no other module's do
module_from : (size : Size) (m s o : ℕ) → m * (size.slots * size.length) ≤ at size m s o
module_from size m s o = omega (arith, add-mul (m * size.slots) s size.length, mul_assoc m size.slots size.length)

module_to : (size : Size) (m s o : ℕ) → s < size.slots → o < size.length → at size m s o < m * (size.slots * size.length) + size.slots * size.length
module_to size m s o hs ho =
    let next : m < m + 1 = omega arith in
    omega (arith, digits_lt (digits_lt next hs) ho, mul_assoc (m + 1) size.slots size.length, add-mul m 1 (size.slots * size.length))

next_module : (n m m' : ℕ) → m < m' → m * n + n ≤ m' * n
next_module n m m' h = omega (arith, add-mul m 1 n, mul-le-mul_right {m = m + 1} {n = m'} n (omega arith))

apart : (m m' : ℕ) → m' ≢ m → m ≤ m' → m < m'
apart m m' n h = omega arith

pub flat_keeps : {x : Shape} {cells cells' : List ℕ} → FlatSound x cells → length cells' ≡ length cells → FlatSound x cells'
flat_keeps h e = record { numbers = h.numbers; room = omega (arith, h.room) }

pub flat_marked : {x : Shape} {cells : List ℕ} (m : ℕ) (b : Bool) → FlatSound x cells → FlatSound (marked x m b) cells
flat_marked m b h = record { numbers = fair_marked m b h.numbers; room = h.room }

pub flat_fit : (x x' : Shape) (m : ℕ) (cells cells' : List ℕ) → FlatSound x cells → true ≡ is_unlike x m true → x' ≡ marked x m true
    → length cells' ≡ length cells → Blanked x.size m cells cells'
    → Fits (flat x cells) (flat x' cells') m true × FlatSound x' cells'
flat_fit x x' m cells cells' h e a long blanked =
    let size = x.size in let n = size.slots * size.length in
    let p = empty_parts x m e in
    let w = flat x cells in
    let t = fits_laid x m (λ b d k. get_or cells (at size b d k) 0) p.0 p.1 in
    let same : flat (marked x m true) cells' ≡ flagged w m true =
    laid_flag x m (λ b d k. get_or cells (at size b d k) 0) (λ b d k. get_or cells' (at size b d k) 0) true p.0
    (omega (arith, h.numbers.flags, h.numbers.modules_high, p.0))
    (λ s o hs ho _. blanked.zero (at size m s o) (module_from size m s o) (module_to size m s o hs ho))
    (λ m' s o d hm' hs ho.
    ⊎_elim (λ (l : m' < m). blanked.below (at size m' s o) (omega (arith, module_to size m' s o hs ho, next_module n m' m l)))
    (λ (l : m ≤ m'). blanked.above (at size m' s o) (omega (arith, module_from size m' s o, next_module n m m' (apart m m' d l))))
    (cases_lt m' m)) in (
      record { answer = sym t; after = ap (λ y. flat y cells') a ∙ same ∙ sym (cond-true (fits w m) (flagged w m true) w t) },
      subst (λ y. FlatSound y cells') (sym a) (flat_marked m true (flat_keeps h long)),
    )

-- memory that is sound is not refused
pub flat_unrefused : (x : Shape) (cells : List ℕ) → FlatSound x cells → flat_refusal cells x.size ≡ None
flat_unrefused x cells h =
    unless_true (flat_fits cells x.size) (and_from _ _ (fair_from x h.numbers) (le-leb (x.size.modules * x.size.slots * x.size.length) (length cells) h.room))
