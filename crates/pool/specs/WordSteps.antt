-- What the steps of reading and writing a word give. No contract of a public call rests on it. Assumes nothing.
use Rattle.std.specs.Prelude.{◌≡◌, ℕ, ◌+◌, ◌-◌, ◌<◌, ◌≤◌, cond, ◌&&◌, IfSome, Some, None, Ok, Err, Option, Result, ◌==◌, nat_le, nat_lt, slice_index_or}
use Rattle.layout.specs.declared.refusal.Refusal.{Refusal}
use Rattle.field.specs.Arithmetic.{Arithmetic}
use Rattle.field.specs.Sums.{coefficient}
use Rattle.rack.specs.Meaning.{Meaning}
use Rattle.coding.specs.Schemes.{Scheme}
use Rattle.coding.specs.Repairs.{used_parity}
use Rattle.pool.specs.declared.words.Found.{Found}
use Rattle.pool.specs.Book.{settled, group_of, repair_refusal}
use Rattle.pool.specs.Standing.{Standing, out_of}
use Rattle.pool.specs.Effects.{Holds}

-- the symbol of parity k of the settled group of chunk c, if it is fetched to find the symbol of the chunk: where the chunk's
-- module is out, and the parity is used to rebuild the group
abbrev pub fetched_parity : Scheme → Standing → ℕ → ℕ → ℕ → Option ℕ
fetched_parity p s c o k =
    cond (out_of s (p.column c)) (used_parity p (settled s.phase) (group_of p (settled s.phase) c) (out_of s) s.held o k) None

-- what looking up a word that is there gives: its symbol, and the parities that were fetched to find it, unless the group of its
-- chunk is beyond repair
abbrev pub Looked : Arithmetic → Scheme → Standing → ℕ → ℕ → Result Found Refusal → Type 0
Looked A p s c o (Ok f) =
    (repair_refusal p s.phase (out_of s) c ≡ None) × Holds A p s c o f.symbol × ((k : ℕ) → k < 4 → slice_index_or f.parities k None ≡ fetched_parity p s c o k)
Looked A p s c o (Err e) = repair_refusal p s.phase (out_of s) c ≡ Some e

-- a symbol that was fetched before, if it was, is that at a place
abbrev pub Fetched : Meaning → ℕ → ℕ → ℕ → Option ℕ → Type 0
Fetched w m slot o f = IfSome f (λ v. v ≡ w.symbol m slot o)

-- a is added to the symbol at a place, where its module is fitted
abbrev pub added_at : Arithmetic → Meaning → ℕ → ℕ → ℕ → ℕ → ℕ → ℕ → ℕ → ℕ
added_at A w at slot o a m s u =
    cond ((s == slot && u == o) && (w.fitted m && m == at)) (A.add (w.symbol m s u) a) (w.symbol m s u)

-- what a change a of a chunk, whose coefficient column is x, adds to parity k
abbrev pub share_of : Arithmetic → ℕ → ℕ → ℕ → ℕ
share_of A x a k = A.mul (coefficient A k x) a

-- at one offset of one slot, f k is added to the symbol of module first + k where that is fitted, for each k below n
abbrev pub added_to : Arithmetic → Meaning → ℕ → ℕ → ℕ → ℕ → (ℕ → ℕ) → ℕ → ℕ → ℕ → ℕ
added_to A w first slot n o f m s u =
    cond ((s == slot && u == o) && (w.fitted m && (nat_le first m && nat_lt m (first + n)))) (A.add (w.symbol m s u) (f (m - first))) (w.symbol m s u)

-- the places are in a rack over the field
pub record Spans (A : Arithmetic) (w : Meaning) (end slot o : ℕ) : Type 0 where
  pub order_is : w.order ≡ A.order
  pub modules_fit : end ≤ w.modules
  pub slot_fits : slot < w.slots
  pub offset_fits : o < w.length
