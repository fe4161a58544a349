-- The lowest number that passes a test, and a block of places set to 0 slot by slot. Assumes nothing.
use Rattle.std.proofs.Common.{◌≡◌, ℕ, zero, suc, ◌+◌, ◌<◌, ◌≤◌, Bool, true, false, cond, ◌&&◌, eqb, ltb, Some, None, Option, refl, sym, ap, ◌∙◌, subst, ⊎_elim, not-suc-le-zero, arith}
use Rattle.std.proofs.lemmas.Bool.{cases_lt, and_from, lt-ltb, le-leb, cond-true, cond-false}
use Rattle.std.proofs.lemmas.Bool.Decides.{nat_tests}
use Rattle.std.specs.Option.{MatchOption}
use Rattle.rack.specs.Meaning.{Meaning}
use Rattle.rack.specs.Cleared.{cleared, clears, after_clear}
use Rattle.pool.specs.Book.{or_last, lowest}
use Rattle.pool.specs.Blocks.{in_block, zeroed, Blocked}
use Rattle.pool.proofs.Changed.{same_symbols}

-- no number below n passes
none_below : (f : ℕ → Bool) (n : ℕ) → ((k : ℕ) → k < n → f k ≡ false) → lowest f n ≡ None
none_below f zero fails = refl
none_below f (suc n) fails = ap (λ o. or_last o (f n) n) (none_below f n (λ k l. fails k (omega arith))) ∙ cond-false (f n) (Some n) None (fails n (omega arith))

-- k passes, and none below it
found_at : (f : ℕ → Bool) (k n : ℕ) → k < n → f k ≡ true → ((j : ℕ) → j < k → f j ≡ false) → lowest f n ≡ Some k
found_at f k zero l h fails = absurd (not-suc-le-zero l)
found_at f k (suc n) l h fails =
    ⊎_elim
    (λ (less : k < n). ap (λ o. or_last o (f n) n) (found_at f k n less h fails))
    (λ (least : n ≤ k).
    let is : n ≡ k = omega arith in
    let P : ℕ → Type 0 = λ i. or_last (lowest f i) (f i) i ≡ Some k in
    subst P (sym is) (ap (λ o. or_last o (f k) k) (none_below f k fails) ∙ cond-true (f k) (Some k) None h))
    (cases_lt k n)

-- what `find` over the numbers below n answers is the lowest that passes
pub lowest_is : (f : ℕ → Bool) (n : ℕ) (r : Option ℕ) →
    MatchOption r ((k : ℕ) → 0 ≤ k → k < n → k < n → f k ≡ false) (λ i. (0 ≤ i) × (i < n) × (i < n → f i ≡ true) × ((k : ℕ) → 0 ≤ k → k < i → k < n → f k ≡ false)) → r ≡ lowest f n
lowest_is f n None fails = sym (none_below f n (λ k l. fails k (omega arith) l l))
lowest_is f n (Some k) h = sym (found_at f k n h.1 (h.2 h.1) (λ j l. h.3 j (omega arith) l (omega (arith, l, h.1))))

no_slot_point : (m m' s n i slot u x : ℕ) → x ≡ cond (in_block m m' s s n i slot u) 0 x
no_slot_point m m' s n i slot u x = grind (arith, nat_tests)

no_module_point : (m s s' n i slot u x : ℕ) → x ≡ cond (in_block m m s s' n i slot u) 0 x
no_module_point m s s' n i slot u x = grind (arith, nat_tests)

-- of no slots, and of no modules
pub zeroed_no_slots : (m m' s n : ℕ) (w : Meaning) → w ≡ zeroed m m' s s n w
zeroed_no_slots m m' s n w = same_symbols w w.symbol _ (λ i slot u. no_slot_point m m' s n i slot u (w.symbol i slot u))

pub zeroed_no_modules : (m s s' n : ℕ) (w : Meaning) → w ≡ zeroed m m s s' n w
zeroed_no_modules m s s' n w = same_symbols w w.symbol _ (λ i slot u. no_module_point m s s' n i slot u (w.symbol i slot u))

slot_point : (m s k n i slot u x : ℕ) → s ≤ k →
    cond (eqb i m && (eqb slot k && ltb u n)) 0 (cond (in_block m (m + 1) s k n i slot u) 0 x) ≡ cond (in_block m (m + 1) s (k + 1) n i slot u) 0 x
slot_point m s k n i slot u x h = grind (arith, nat_tests)

module_point : (m k s s' n i slot u x : ℕ) → m ≤ k →
    cond (in_block k (k + 1) s s' n i slot u) 0 (cond (in_block m k s s' n i slot u) 0 x) ≡ cond (in_block m (k + 1) s s' n i slot u) 0 x
module_point m k s s' n i slot u x h = grind (arith, nat_tests)

-- one slot more of a module
pub slot_more : (m s s' k n : ℕ) (w v v' : Meaning) → Blocked m (m + 1) s s' n w → s ≤ k → k < s' → v ≡ zeroed m (m + 1) s k n w → v' ≡ after_clear v m k n →
    v' ≡ zeroed m (m + 1) s (k + 1) n w
slot_more m s s' k n w v v' b low high e e' =
    let z : Meaning = zeroed m (m + 1) s k n w in
    let lm : m < w.modules = omega (arith, b.modules_fit) in
    let ls : k < w.slots = omega (arith, b.slots_fit) in
    let yes : clears z m k n ≡ true =
    and_from _ _ (lt-ltb m w.modules lm) (and_from _ _ (lt-ltb k w.slots ls) (and_from _ _ (le-leb n w.length b.length_fits) (b.whole m (omega arith) (omega arith)))) in
    e'
    ∙ ap (λ x. after_clear x m k n) e
    ∙ cond-true (clears z m k n) (cleared z m k n) z yes
    ∙ same_symbols w _ _ (λ i slot u. slot_point m s k n i slot u (w.symbol i slot u) low)

-- one module more
pub module_more : (m k s s' n : ℕ) (w v v' : Meaning) → m ≤ k → v ≡ zeroed m k s s' n w → v' ≡ zeroed k (k + 1) s s' n v → v' ≡ zeroed m (k + 1) s s' n w
module_more m k s s' n w v v' h e e' =
    e' ∙ ap (zeroed k (k + 1) s s' n) e ∙ same_symbols w _ _ (λ i slot u. module_point m k s s' n i slot u (w.symbol i slot u) h)

-- each module of a block is one
pub blocked_at : (m m' s s' n k : ℕ) (w v : Meaning) → Blocked m m' s s' n w → m ≤ k → k < m' → v ≡ zeroed m k s s' n w → Blocked k (k + 1) s s' n v
blocked_at m m' s s' n k w v b low high e =
    subst (λ (x : Meaning). Blocked k (k + 1) s s' n x) (sym e)
    (record {
      modules_rise = omega arith;
      modules_fit = omega (arith, b.modules_fit);
      slots_rise = b.slots_rise;
      slots_fit = b.slots_fit;
      length_fits = b.length_fits;
      whole = λ i li lj. b.whole i (omega arith) (omega arith);
    })
