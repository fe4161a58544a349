-- A rack over memory of zeros, and a map in order, for what makes racks.
use Rattle.std.proofs.Common.{◌≡◌, ℕ, zero, suc, ◌+◌, ◌*◌, ◌<◌, ◌≤◌, true, List, length, get_or, replicate, None, sym, refl, ap, ◌∙◌, subst, arith}
use Rattle.rack.specs.declared.size.Size.{Size}
use Rattle.rack.specs.Shaped.{full}
use Rattle.rack.specs.Laid.{laid, blank, fair}
use Rattle.rack.specs.Flat.{at, flat}
use Rattle.rack.specs.Turning.{paged, turned, pages_of, turn_refusal}
use Rattle.rack.proofs.Laids.{fair_parts}
use Rattle.rack.proofs.Turns.{once_from, turn_unrefused}

-- memory of zeros reads 0 everywhere
zeros : (n i : ℕ) → ◌≡◌ {A = ℕ} (get_or (replicate n 0) i 0) 0
zeros zero i = refl
zeros (suc n) zero = refl
zeros (suc n) (suc i) = zeros n i

-- a rack over memory of zeros is blank
pub flat_blank : (size : Size) (n : ℕ) (cells : List ℕ) → cells ≡ replicate n 0 → flat (full size) cells ≡ blank size
flat_blank size n cells e i = laid (full size) (λ m s o. (ap (λ l. get_or l (at size m s o) 0) e ∙ zeros n (at size m s o)) i)

pub turned_blank : (size : Size) (n : ℕ) (map cells : List ℕ) → cells ≡ replicate n 0 → turned (full size) map cells ≡ blank size
turned_blank size n map cells e i =
    laid (full size) (λ m s o. (ap (λ l. paged size map l m s o) e ∙ zeros n (get_or map (m * size.slots + s) 0 * size.length + o)) i)

-- a map in order names each page once
pub ordered_unrefused : (size : Size) (map cells : List ℕ) → fair size ≡ true → pages_of size * size.length ≤ length cells → length map ≡ pages_of size
    → ((k : ℕ) → k < pages_of size → get_or map k 0 ≡ k) → turn_refusal cells map size ≡ None
ordered_unrefused size map cells f room entries is =
    turn_unrefused (full size) map cells
    record {
      numbers = fair_parts (full size) refl f;
      entries = omega (arith, entries);
      room = room;
      pages = once_from map (pages_of size) (λ i h. subst (λ x. x < pages_of size) (sym (is i h)) h) (λ i j h. sym (is i h.0) ∙ h.2 ∙ is j h.1);
    }
