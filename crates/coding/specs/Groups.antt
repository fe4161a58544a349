-- A group is a stripe with its r parities, or a row with its r' parities; its pieces are its chunks and its parities. This says which
-- chunks a group has, what its parities are, and where they lie. Assumes nothing.
use Rattle.std.specs.Prelude.{ℕ, zero, suc, ◌+◌, ◌*◌, ◌/◌, ◌%◌, Bool, cond, ◌&&◌, ◌==◌}
use Rattle.field.specs.Arithmetic.{Arithmetic}
use Rattle.field.specs.Sums.{total, coefficient}
use Rattle.coding.specs.declared.group.Kind.{Kind}
use Rattle.coding.specs.declared.group.Kind.TheVariants.{Stripe, Row}
use Rattle.coding.specs.Schemes.{Scheme}

-- how many groups of a kind there are, how many chunks and how many parities each has
abbrev pub groups : Scheme → Kind → ℕ
groups p Stripe = p.stripes
groups p Row = p.rows

abbrev pub size : Scheme → Kind → ℕ
size p Stripe = p.d
size p Row = p.d'

abbrev pub parities : Scheme → Kind → ℕ
parities p Stripe = p.r
parities p Row = p.r'

-- whether chunk j is of group i
abbrev pub member : Scheme → Kind → ℕ → ℕ → Bool
member p Stripe i j = j / p.d == i
member p Row i j = p.row j == i

-- the chunks of a group, by index or by column
abbrev pub chunk_of : Scheme → Kind → ℕ → ℕ → ℕ
chunk_of p Stripe i e = i * p.d + e
chunk_of p Row i c = p.chunk i c

-- where a chunk stands in its group
abbrev pub index_of : Scheme → Kind → ℕ → ℕ
index_of p Stripe j = j % p.d
index_of p Row j = p.column j

-- the slot of a group's parities; parity k is on module d' + k
abbrev pub slot_of : Scheme → Kind → ℕ → ℕ
slot_of p Stripe i = i
slot_of p Row i = p.stripes + i

-- what chunk j with the symbol a adds to parity k
abbrev pub share : Arithmetic → Scheme → ℕ → ℕ → ℕ → ℕ
share A p k j a = A.mul (coefficient A k (p.x j)) a

-- parity k of the chunks that pass a test, where chunk j has the symbol v j
abbrev pub parity : Arithmetic → Scheme → (ℕ → Bool) → ℕ → (ℕ → ℕ) → ℕ
parity A p g k v = total A p.chunks (λ j. cond (g j) (share A p k j (v j)) 0)

-- how many numbers below n pass a test
abbrev pub count : (ℕ → Bool) → ℕ → ℕ
count f zero = 0
count f (suc n) = count f n + cond (f n) 1 0

-- number e of those below n that pass a test, counted from 0
abbrev pub nth : (ℕ → Bool) → ℕ → ℕ → ℕ
nth f zero e = 0
nth f (suc n) e = cond (f n && count f n == e) n (nth f n e)
