-- A module that a rack is asked about. Assumes nothing.
use Rattle.std.proofs.Common.{◌≡◌, ℕ, ◌<◌, ◌≤◌, Bool, not, ltb, sym, ap, ◌∙◌, ⊎_elim}
use Rattle.std.proofs.lemmas.Bool.{lt-ltb, le-ltb, cases_lt, and_left}
use Rattle.rack.specs.Meaning.{Meaning, Bounded, pulls}
use Rattle.coding.proofs.Loops.{and_is}

-- the answer is whether it is fitted, since none is outside the rack
pub asked : (w : Meaning) → Bounded w → (m : ℕ) → pulls w m ≡ w.fitted m
asked w b m =
    ⊎_elim (λ (l : m < w.modules). and_is (ltb m w.modules) (w.fitted m) (lt-ltb m w.modules l))
    (λ (l : w.modules ≤ m). and_left (ltb m w.modules) (w.fitted m) (le-ltb m w.modules l) ∙ sym (b.outside m l))
    (cases_lt m w.modules)

-- so it tells too whether the module is out
pub asked_out : (w : Meaning) → Bounded w → (m : ℕ) (r : Bool) → r ≡ pulls w m → not (w.fitted m) ≡ not r
asked_out w b m r e = ap not (sym (e ∙ asked w b m))
