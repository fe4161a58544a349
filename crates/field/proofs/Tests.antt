-- What the tests of a system's parities and chunks tell. Assumes nothing.
use Rattle.std.proofs.Common.{◌≡◌, ℕ, ◌-◌, ◌<◌, ◌≤◌, Bool, true, false, List, length, get_or, take, Decides, MatchBool, refl, sym, ap, subst, ◌∙◌, zero-add, arith, length-take, get_or-take}
use mathlib.Core.Logic.{by_cases}
use native.Mathlib.Decide.{dec_lt}
use Rattle.std.specs.List.{AllWithin, HoldsAt, enumerate_from}
use Rattle.std.proofs.lemmas.Bool.{false≢true}
use Rattle.std.proofs.lemmas.List.FromFn.{length-enumerate_from, get_or-enumerate_from}
use Rattle.field.specs.Arithmetic.{Arithmetic}
use Rattle.field.specs.Systems.{Distinct, Posed}
use Rattle.field.specs.Elimination.{Once}

-- whether a number, given with its place in xs, stands there before that place
abbrev pub Fresh : List ℕ → ℕ × ℕ → Type 0
Fresh xs p = (k : ℕ) → k < length (take p.0 xs) → get_or (take p.0 xs) k 0 ≡ p.1 → ⊥

abbrev pub Stale : List ℕ → ℕ × ℕ → Type 0
Stale xs p = (k : ℕ) × (k < length (take p.0 xs)) × (get_or (take p.0 xs) k 0 ≡ p.1)

-- the number at i, with i
placed : (xs : List ℕ) (i : ℕ) → i < length xs → get_or (enumerate_from 0 xs) i (0, 0) ≡ (i, get_or xs i 0)
placed xs i h = get_or-enumerate_from 0 xs i (0, 0) h ∙ ap (λ (n : ℕ). (n, get_or xs i 0)) (zero-add i)

-- a test of each number with those before it
pub distinct_tested : (r : Bool) (xs : List ℕ) →
    MatchBool r (AllWithin (Fresh xs) (enumerate_from 0 xs) 0 (length (enumerate_from 0 xs)))
    ((k : ℕ) × (k < length (enumerate_from 0 xs)) × HoldsAt (Stale xs) (enumerate_from 0 xs) k) → Decides r (Distinct (length xs) xs)
distinct_tested true xs fresh =
    let before : (i j : ℕ) → i < j → j < length xs → get_or xs i 0 ≡ get_or xs j 0 → ⊥ =
    λ i j l h e.
    subst (Fresh xs) (placed xs j h) (fresh j (0, 0) (omega arith) (omega (arith, length-enumerate_from 0 xs))) i (omega (arith, length-take j xs)) (get_or-take j xs i 0 l ∙ e) in
    (λ _ i j hi hj ne e. by_cases (dec_lt i j) (λ (l : i < j). before i j l hj e) (λ (nl : i < j → ⊥). before j i (omega arith) hi (sym e)), λ _. refl)
distinct_tested false xs (i, h, stale) =
    let within : i < length xs = omega (arith, length-enumerate_from 0 xs) in
    let s = subst (Stale xs) (placed xs i within) (stale (0, 0)) in
    let l : s.0 < i = omega (arith, s.1, length-take i xs) in
    (λ e. absurd (false≢true e), λ d. absurd (d s.0 i (omega arith) within (omega arith) (sym (get_or-take i xs s.0 0 l) ∙ s.2)))

module _ (n limit : ℕ) (xs : List ℕ) (within : n ≤ length xs) where
  long : length (take n xs) ≡ n
  long = omega (arith, length-take n xs)

  pub once : Once (length (take n xs)) limit (take n xs) → Once n limit xs
  once o =
      record {
        below = λ i h. rw get_or-take at (o.below i (omega (arith, long)));
        once = λ i j hi hj ne e. o.once i j (omega (arith, long)) (omega (arith, long)) ne (get_or-take n xs i 0 hi ∙ e ∙ sym (get_or-take n xs j 0 hj));
      }

  pub taken : Once n limit xs → Once (length (take n xs)) limit (take n xs)
  taken o =
      record {
        below = λ i h. let l : i < n = omega (arith, long) in rw get_or-take (o.below i l);
        once = λ i j hi hj ne e.
            let li : i < n = omega (arith, long) in
            let lj : j < n = omega (arith, long) in
            o.once i j li lj ne (sym (get_or-take n xs i 0 li) ∙ e ∙ get_or-take n xs j 0 lj);
      }

module _ (A : Arithmetic) (n : ℕ) (ks xs : List ℕ) where
  pub posed : n ≤ 4 → Once n 4 ks → Once n (A.order - 4) xs → Posed A n ks xs
  posed few k x =
      record {
        few = few;
        rows = k.below;
        columns = λ j h. omega (arith, x.below j h);
        ks_once = k.once;
        xs_once = x.once;
      }

  pub rows_once : Posed A n ks xs → Once n 4 ks
  rows_once p = record { below = p.rows; once = p.ks_once }

  pub columns_once : Posed A n ks xs → Once n (A.order - 4) xs
  columns_once p = record { below = λ j h. omega (arith, p.columns j h); once = p.xs_once }
