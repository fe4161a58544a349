-- A slot cleared from its start, offset by offset.
use Rattle.std.proofs.Common.{◌≡◌, ℕ, ◌+◌, ◌<◌, ◌≤◌, true, cond, ◌&&◌, eqb, ltb, sym, ap, ◌∙◌, arith}
use Rattle.std.proofs.lemmas.Bool.{lt-ltb, le-leb, and_from, cond-true, and_parts}
use Rattle.std.proofs.lemmas.Bool.Decides.{nat_tests}
use Rattle.rack.specs.Meaning.{Meaning, takes, stored, pulls, after_put}
use Rattle.rack.specs.Cleared.{cleared, clears, Clears}

none_point : (m s m' s' o' x : ℕ) → x ≡ cond (eqb m' m && (eqb s' s && ltb o' 0)) 0 x
none_point m s m' s' o' x = grind (arith, nat_tests)

pub cleared_none : (w : Meaning) (m s : ℕ) → w ≡ cleared w m s 0
cleared_none w m s = λ i. record {
  order = w.order;
  modules = w.modules;
  slots = w.slots;
  length = w.length;
  fitted = w.fitted;
  symbol = λ m' s' o'. none_point m s m' s' o' (w.symbol m' s' o') i;
}

more_point : (m s n m' s' o' x : ℕ)
    → cond (eqb m' m && (eqb s' s && eqb o' n)) 0 (cond (eqb m' m && (eqb s' s && ltb o' n)) 0 x) ≡ cond (eqb m' m && (eqb s' s && ltb o' (n + 1))) 0 x
more_point m s n m' s' o' x = grind (arith, nat_tests)

-- each put is done
pub takes_next : (w : Meaning) (m s n : ℕ) → m < w.modules → s < w.slots → w.fitted m ≡ true → 0 < w.order → n < w.length → takes (cleared w m s n) m s n 0 ≡ true
takes_next w m s n hm hs hf ho hn =
    and_from _ _ (and_from _ _ (lt-ltb m w.modules hm) (and_from _ _ (lt-ltb s w.slots hs) (and_from _ _ (lt-ltb n w.length hn) hf))) (lt-ltb 0 w.order ho)

cleared_next : (w : Meaning) (m s n : ℕ) → m < w.modules → s < w.slots → w.fitted m ≡ true → 0 < w.order → n < w.length
    → after_put (cleared w m s n) m s n 0 ≡ cleared w m s (n + 1)
cleared_next w m s n hm hs hf ho hn =
    cond-true (takes (cleared w m s n) m s n 0) (stored (cleared w m s n) m s n 0) (cleared w m s n)
    (takes_next w m s n hm hs hf ho hn)
    ∙ (λ i. record {
      order = w.order;
      modules = w.modules;
      slots = w.slots;
      length = w.length;
      fitted = w.fitted;
      symbol = λ m' s' o'. more_point m s n m' s' o' (w.symbol m' s' o') i;
    })

-- one put more
pub cleared_more : (w v v' : Meaning) (m s n : ℕ) → m < w.modules → s < w.slots → w.fitted m ≡ true → 0 < w.order → n < w.length
    → v ≡ cleared w m s n → v' ≡ after_put v m s n 0 → v' ≡ cleared w m s (n + 1)
cleared_more w v v' m s n hm hs hf ho hn e e' = e' ∙ ap (λ u. after_put u m s n 0) e ∙ cleared_next w m s n hm hs hf ho hn

pub fitted_from : (w : Meaning) (m : ℕ) → true ≡ pulls w m → w.fitted m ≡ true
fitted_from w m e = (and_parts (ltb m w.modules) (w.fitted m) (sym e)).1

clears_from : (w : Meaning) (m s n : ℕ) → m < w.modules → s < w.slots → n ≤ w.length → w.fitted m ≡ true → clears w m s n ≡ true
clears_from w m s n hm hs hn hf =
    and_from _ _ (lt-ltb m w.modules hm) (and_from _ _ (lt-ltb s w.slots hs) (and_from _ _ (le-leb n w.length hn) hf))

-- the whole of it
pub clears_all : (w v : Meaning) (m s n k : ℕ) → m < w.modules → s < w.slots → k ≤ w.length → w.fitted m ≡ true → n ≡ k
    → v ≡ cleared w m s n → Clears w v m s k true
clears_all w v m s n k hm hs hk hf e h =
    let t = clears_from w m s k hm hs hk hf in
    record { answer = sym t; after = h ∙ ap (cleared w m s) e ∙ sym (cond-true (clears w m s k) (cleared w m s k) w t) }
