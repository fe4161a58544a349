-- The law over every list of calls. Assumes nothing.
use Rattle.std.specs.Prelude.{◌≡◌, ℕ, ◌+◌, ◌<◌, Bool, true, false, List, [], ◌∷◌, ◌++◌, ◌≢◌, Ok, Err}
use Rattle.std.specs.List.{AllByRecursion}
use Rattle.field.specs.Arithmetic.{Arithmetic}
use Rattle.rack.specs.Meaning.{Meaning}
use Rattle.coding.specs.Schemes.{Scheme}
use Rattle.pool.specs.declared.kinds.Call.{Call}
use Rattle.pool.specs.declared.kinds.Call.TheVariants.{Read, Write, Pull, Refit, Begin, Carry, Ready, Close, Drop}
use Rattle.pool.specs.Replies.{Answer}
use Rattle.pool.specs.declared.kinds.Reply.TheVariants.{Symbol, Carried, Done}
use Rattle.pool.specs.Book.{Book, answer, after}
use Rattle.pool.specs.Standing.{Standing}
use Rattle.pool.specs.Agrees.{Agrees}
use Rattle.pool.specs.Effects.{Does}

-- the calls of a changeover
abbrev pub of_changeover : Call → Bool
of_changeover (Read c o) = false
of_changeover (Write c o v) = false
of_changeover (Pull m) = false
of_changeover (Refit m) = false
of_changeover Begin = true
of_changeover Carry = true
of_changeover Ready = true
of_changeover Close = true
of_changeover Drop = true

-- every data chunk on a fitted module is as it was
abbrev pub DataKept : Scheme → Meaning → Meaning → Type 0
DataKept p w w' = (j o : ℕ) → j < p.chunks → o < p.len → w.fitted (p.column j) ≡ true → w'.symbol (p.column j) (p.row j) o ≡ w.symbol (p.column j) (p.row j) o

-- a call takes a pool from s to t: it answers what the book does, the pool agrees with the book after it, a call of a
-- changeover keeps the data, and all that it answers and leaves is as the call's rule says
pub record Follows (A : Arithmetic) (p : Scheme) (s : Standing) (b : Book) (c : Call) (a : Answer) (t : Standing) : Type 0 where
  pub says : a ≡ answer p A.order b c
  pub agrees : Agrees A p t (after p A.order b c)
  pub keeps : of_changeover c ≡ true → DataKept p s.held t.held
  pub does : Does A p s c a t

-- a list of calls takes a pool from s to e, and each call follows the book
abbrev pub Runs : Arithmetic → Scheme → Standing → Book → List Call → List Answer → Standing → Type 0
Runs A p s b [] [] e = s ≡ e
Runs A p s b [] (a ∷ rest) e = ⊥
Runs A p s b (c ∷ cs) [] e = ⊥
Runs A p s b (c ∷ cs) (a ∷ rest) e = (t : Standing) × Follows A p s b c a t × Runs A p t (after p A.order b c) cs rest e

-- the same of any pool, also of one that agrees with no book: each call answers and leaves what its rule says
abbrev pub Plays : Arithmetic → Scheme → Standing → List Call → List Answer → Standing → Type 0
Plays A p s [] [] e = s ≡ e
Plays A p s [] (a ∷ rest) e = ⊥
Plays A p s (c ∷ cs) [] e = ⊥
Plays A p s (c ∷ cs) (a ∷ rest) e = (t : Standing) × Does A p s c a t × Plays A p t cs rest e

-- the book after a list of calls, and what it answers to them
abbrev pub book_after : Scheme → ℕ → Book → List Call → Book
book_after p q b [] = b
book_after p q b (c ∷ cs) = book_after p q (after p q b c) cs

abbrev pub book_answers : Scheme → ℕ → Book → List Call → List Answer
book_answers p q b [] = []
book_answers p q b (c ∷ cs) = answer p q b c ∷ book_answers p q (after p q b c) cs

-- a call and what it was answered; the calls of a run beside their answers
pub record Entry : Type 0 where
  pub call : Call
  pub told : Answer

abbrev pub entry : Call → Answer → Entry
entry c a = record { call = c; told = a }

abbrev pub history : List Call → List Answer → List Entry
history [] ys = []
history (c ∷ cs) [] = []
history (c ∷ cs) (y ∷ ys) = entry c y ∷ history cs ys

-- the data chunks and the parity chunks that answers say were read
abbrev pub data_told : Answer → ℕ
data_told (Ok (Symbol v)) = 0
data_told (Ok (Carried m k)) = m
data_told (Ok Done) = 0
data_told (Err e) = 0

abbrev pub parities_told : Answer → ℕ
parities_told (Ok (Symbol v)) = 0
parities_told (Ok (Carried m k)) = k
parities_told (Ok Done) = 0
parities_told (Err e) = 0

abbrev pub summed : (Answer → ℕ) → List Entry → ℕ
summed f [] = 0
summed f (e ∷ es) = f e.told + summed f es

-- neither a close nor a drop that was accepted
abbrev pub StaysOpen : Entry → Type 0
StaysOpen e = (e ≢ entry Close (Ok Done)) × (e ≢ entry Drop (Ok Done))

-- Wherever a begin was accepted and later a close, and between them neither a close nor a drop was, the numbers that the carries
-- between them answered add up to these.
abbrev pub AddsUp : ℕ → ℕ → List Entry → Type 0
AddsUp data-chunks parity-chunks h =
    (front within rest : List Entry) → h ≡ front ++ entry Begin (Ok Done) ∷ (within ++ entry Close (Ok Done) ∷ rest) → AllByRecursion StaysOpen within →
    (summed data_told within ≡ data-chunks) × (summed parities_told within ≡ parity-chunks)
