-- What each call answers and leaves in memory, from any standing. Assumes nothing.
use Rattle.std.specs.Prelude.{◌≡◌, ℕ, suc, ◌+◌, ◌-◌, ◌*◌, ◌/◌, ◌<◌, Bool, true, false, cond, ◌&&◌, ◌||◌, MatchBool, MatchOption, ◌==◌, ◌≢◌, nat_le, nat_lt, Ok, Err}
use Rattle.field.specs.Arithmetic.{Arithmetic}
use Rattle.field.specs.Sums.{total, minus, coefficient}
use Rattle.rack.specs.Meaning.{Meaning, flagged}
use Rattle.coding.specs.declared.group.Kind.TheVariants.{Row}
use Rattle.coding.specs.Schemes.{Scheme}
use Rattle.coding.specs.Groups.{groups, parities, member, slot_of, share, parity}
use Rattle.coding.specs.Words.{Fixed}
use Rattle.pool.specs.declared.kinds.Phase.{Phase}
use Rattle.pool.specs.declared.kinds.Phase.TheVariants.{Before, UnderWay, Voided, After}
use Rattle.pool.specs.declared.kinds.Call.{Call}
use Rattle.pool.specs.declared.kinds.Call.TheVariants.{Read, Write, Pull, Refit, Begin, Carry, Ready, Close, Drop}
use Rattle.pool.specs.Replies.{Answer}
use Rattle.pool.specs.declared.kinds.Reply.TheVariants.{Symbol, Carried, Done}
use Rattle.pool.specs.Book.{settled, group_of, refusal, carried_data, carried_parities, pulled_phase, dropped_phase}
use Rattle.pool.specs.Standing.{Standing, out_of}

-- the symbol of chunk c at offset o: that in the rack, or where its module is out, that of the word which the first pieces of
-- its settled group fix
abbrev pub Holds : Arithmetic → Scheme → Standing → ℕ → ℕ → ℕ → Type 0
Holds A p s c o v =
    MatchBool (s.held.fitted (p.column c)) (v ≡ s.held.symbol (p.column c) (p.row c) o)
    ((u : ℕ → ℕ) × Fixed A p (settled s.phase) (group_of p (settled s.phase) c) (out_of s) s.held o u × (v ≡ u c))

-- a memory in which some symbols are others; all else is as before
abbrev pub changed : Meaning → (ℕ → ℕ → ℕ → ℕ) → Meaning
changed w f = record { order = w.order; modules = w.modules; slots = w.slots; length = w.length; fitted = w.fitted; symbol = f }

-- the memory of a standing is replaced
abbrev pub holding : Standing → Meaning → Standing
holding s w = record { phase = s.phase; carried = s.carried; held = w }

-- the changeover is under way, and the stripe of chunk c is carried: the staged parities of its row are sums with it
abbrev pub is_staged : Phase → ℕ → Scheme → ℕ → Bool
is_staged Before n p c = false
is_staged UnderWay n p c = nat_lt (c / p.d) n
is_staged Voided n p c = false
is_staged After n p c = false

-- parity k in a slot is one that a write to chunk c keeps up: of the settled group of the chunk, or of its staged row
abbrev pub keeps_up : Scheme → Standing → ℕ → ℕ → ℕ → Bool
keeps_up p s c k slot =
    (nat_lt k (parities p (settled s.phase)) && slot == slot_of p (settled s.phase) (group_of p (settled s.phase) c))
    || (is_staged s.phase s.carried p c && (nat_lt k p.r' && slot == slot_of p Row (p.row c)))

-- a write of v over old at offset o of chunk c: on fitted modules, the chunk has v, and to each parity that is kept up its
-- coefficient times v minus old is added
abbrev pub written_symbol : Arithmetic → Scheme → Standing → ℕ → ℕ → ℕ → ℕ → ℕ → ℕ → ℕ → ℕ
written_symbol A p s c o v old m slot u =
    cond (u == o && s.held.fitted m)
    (cond (m == p.column c && slot == p.row c) v
    (cond (nat_le p.d' m && keeps_up p s c (m - p.d') slot)
    (A.add (s.held.symbol m slot u) (A.mul (coefficient A (m - p.d') (p.x c)) (minus A v old)))
    (s.held.symbol m slot u)))
    (s.held.symbol m slot u)

-- the place is in a staged slot, one of the r' parities of the rows, below the length of a chunk
abbrev pub staged : Scheme → ℕ → ℕ → ℕ → Bool
staged p m slot u = (nat_le p.d' m && nat_lt m (p.d' + p.r')) && ((nat_le p.stripes slot && nat_lt slot (p.stripes + p.rows)) && nat_lt u p.len)

-- chunk e of stripe i
abbrev pub chunk_in : Scheme → ℕ → ℕ → ℕ
chunk_in p i e = i * p.d + e

-- what chunk e of stripe i adds to parity k of row h where each chunk is added to its own row
abbrev pub own_row : Arithmetic → Scheme → ℕ → ℕ → (ℕ → ℕ) → ℕ → ℕ → ℕ
own_row A p i k v h e = cond (p.row (chunk_in p i e) == h) (share A p k (chunk_in p i e) (v (chunk_in p i e))) 0

-- the same where the home row is given the parity of the stripe: a chunk outside it is subtracted there, and added to its own row
abbrev pub outside_row : Arithmetic → Scheme → ℕ → ℕ → (ℕ → ℕ) → ℕ → ℕ → ℕ
outside_row A p i k v h e =
    cond (p.row (chunk_in p i e) == p.home i) 0
    (cond (p.row (chunk_in p i e) == h) (share A p k (chunk_in p i e) (v (chunk_in p i e)))
    (cond (h == p.home i) (A.neg (share A p k (chunk_in p i e) (v (chunk_in p i e)))) 0))

-- what carrying stripe i, whose parity k is y and whose chunks have the symbols v, adds to parity k of row h
abbrev pub gain : Arithmetic → Scheme → ℕ → ℕ → ℕ → (ℕ → ℕ) → ℕ → ℕ
gain A p i k y v h =
    cond (nat_le p.r' p.r) (A.add (cond (h == p.home i) y 0) (total A p.d (outside_row A p i k v h))) (total A p.d (own_row A p i k v h))

-- the symbols of the chunks at an offset, as the rack has them
abbrev pub chunks_at : Scheme → Meaning → ℕ → ℕ → ℕ
chunks_at p w u j = w.symbol (p.column j) (p.row j) u

-- the symbol at a place after stripe i is carried
abbrev pub carried_symbol : Arithmetic → Scheme → ℕ → Meaning → ℕ → ℕ → ℕ → ℕ
carried_symbol A p i w m slot u =
    cond (staged p m slot u)
    (A.add (w.symbol m slot u) (gain A p i (m - p.d') (w.symbol m i u) (chunks_at p w u) (slot - p.stripes)))
    (w.symbol m slot u)

-- the symbol at a place after a changeover is begun
abbrev pub begun_symbol : Scheme → Meaning → ℕ → ℕ → ℕ → ℕ
begun_symbol p w m slot u = cond (staged p m slot u) 0 (w.symbol m slot u)

-- module m is fitted again: its settled pieces are those of the words that the first pieces fix, where m still counts as out;
-- its other places are 0, and the other modules as they were
pub record Refitted (A : Arithmetic) (p : Scheme) (s : Standing) (m : ℕ) (w : Meaning) : Type 0 where
  pub shape : w ≡ changed (flagged s.held m true) w.symbol
  pub others : (n slot u : ℕ) → (n ≢ m) → w.symbol n slot u ≡ s.held.symbol n slot u
  pub chunk_pieces : (j u : ℕ) → j < p.chunks → u < p.len → p.column j ≡ m →
      (v : ℕ → ℕ) × Fixed A p (settled s.phase) (group_of p (settled s.phase) j) (out_of s) s.held u v × (w.symbol m (p.row j) u ≡ v j)
  pub parity_pieces : (i k u : ℕ) → i < groups p (settled s.phase) → k < parities p (settled s.phase) → u < p.len → p.d' + k ≡ m →
      (v : ℕ → ℕ) × Fixed A p (settled s.phase) i (out_of s) s.held u v × (w.symbol m (slot_of p (settled s.phase) i) u ≡ parity A p (member p (settled s.phase) i) k v)
  pub rest : (slot u : ℕ) → ((j : ℕ) → j < p.chunks → p.column j ≡ m → slot ≡ p.row j → u < p.len → ⊥) →
      ((i k : ℕ) → i < groups p (settled s.phase) → k < parities p (settled s.phase) → p.d' + k ≡ m → slot ≡ slot_of p (settled s.phase) i → u < p.len → ⊥) →
      w.symbol m slot u ≡ 0

-- what an accepted call answers, and how it leaves the pool
abbrev pub Effect : Arithmetic → Scheme → Standing → Call → Answer → Standing → Type 0
Effect A p s (Read c o) a t = (v : ℕ) × Holds A p s c o v × (a ≡ Ok (Symbol v)) × (t ≡ s)
Effect A p s (Write c o v) a t = (old : ℕ) × Holds A p s c o old × (a ≡ Ok Done) × (t ≡ holding s (changed s.held (written_symbol A p s c o v old)))
Effect A p s (Pull m) a t = (a ≡ Ok Done) × (t ≡ record { phase = pulled_phase s.phase; carried = s.carried; held = flagged s.held m false })
Effect A p s (Refit m) a t = (w : Meaning) × Refitted A p s m w × (a ≡ Ok Done) × (t ≡ holding s w)
Effect A p s Begin a t = (a ≡ Ok Done) × (t ≡ record { phase = UnderWay; carried = 0; held = changed s.held (begun_symbol p s.held) })
Effect A p s Carry a t =
    (a ≡ Ok (Carried (carried_data p s.carried) (carried_parities p)))
    × (t ≡ record { phase = s.phase; carried = suc s.carried; held = changed s.held (carried_symbol A p s.carried s.held) })
Effect A p s Ready a t = (a ≡ Ok Done) × (t ≡ s)
Effect A p s Close a t = (a ≡ Ok Done) × (t ≡ record { phase = After; carried = s.carried; held = s.held })
Effect A p s Drop a t = (a ≡ Ok Done) × (t ≡ record { phase = dropped_phase s.phase; carried = s.carried; held = s.held })

-- a call is refused by the rules, and then alters nothing, or it has its effect
abbrev pub Does : Arithmetic → Scheme → Standing → Call → Answer → Standing → Type 0
Does A p s c a t = MatchOption (refusal p A.order s.phase s.carried (out_of s) c) (Effect A p s c a t) (λ e. (a ≡ Err e) × (t ≡ s))
