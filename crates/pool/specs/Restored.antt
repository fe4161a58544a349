-- What the steps of fitting a module again give. No contract of a public call rests on it. Assumes nothing.
use Rattle.std.specs.Prelude.{◌≡◌, ℕ, ◌+◌, ◌<◌, ◌≤◌, Bool, true, false, cond, ◌&&◌, ◌⊎◌, List, Option, MatchOption, ◌==◌, ◌≢◌, nat_lt, slice_index}
use Rattle.field.specs.Arithmetic.{Arithmetic}
use Rattle.rack.specs.Meaning.{Meaning, flagged, after_put}
use Rattle.coding.specs.declared.group.Group.{Group}
use Rattle.coding.specs.declared.group.Kind.{Kind}
use Rattle.coding.specs.declared.repair.Repair.{Repair}
use Rattle.coding.specs.Schemes.{Scheme, Sound}
use Rattle.coding.specs.Groups.{groups, size, parities, member, chunk_of, slot_of, parity}
use Rattle.coding.specs.Pieces.{Grouped, Weights, module_at, slot_at}
use Rattle.coding.specs.Repairs.{Ready}
use Rattle.coding.specs.Words.{Fixed}
use Rattle.pool.specs.Book.{holds_piece, beyond}
use Rattle.pool.specs.Effects.{changed}

-- r tells whether a group has a chunk on module m
pub record HasChunk (g : Group) (m : ℕ) (r : Bool) : Type 0 where
  pub yes : r ≡ true → (e : ℕ) × (e < 14) × (e < g.size) × (module_at g e ≡ m)
  pub no : r ≡ false → (e : ℕ) → e < 14 → e < g.size → module_at g e ≢ m

-- r tells which parity of a group is on module m
abbrev pub ParityOn : Group → ℕ → Option ℕ → Type 0
ParityOn g m r = MatchOption r ((k : ℕ) → k < 4 → k < g.parities → g.first + k ≢ m) (λ k. (k < 4) × (k < g.parities) × (g.first + k ≡ m))

-- r has the coefficients of a group's chunks in its parity on module m, if it has one there
abbrev pub WeightsOn : Arithmetic → Group → ℕ → Option (List ℕ) → Type 0
WeightsOn A g m r =
    MatchOption r ((k : ℕ) → k < 4 → k < g.parities → g.first + k ≢ m) (λ ws. (k : ℕ) × (k < 4) × (k < g.parities) × (g.first + k ≡ m) × Weights A g k ws)

-- group i has a piece in a slot of module m
abbrev pub At : Scheme → Kind → ℕ → ℕ → ℕ → Type 0
At p t i m slot =
    ((j : ℕ) × (j < p.chunks) × (member p t i j ≡ true) × (p.column j ≡ m) × (p.row j ≡ slot))
    ⊎ ((k : ℕ) × (k < parities p t) × (p.d' + k ≡ m) × (slot_of p t i ≡ slot))

-- the pieces of group i on module m are, at offset u, those of the word v
pub record Pieces (A : Arithmetic) (p : Scheme) (t : Kind) (i m u : ℕ) (w : Meaning) (v : ℕ → ℕ) : Type 0 where
  pub chunks : (j : ℕ) → j < p.chunks → member p t i j ≡ true → p.column j ≡ m → w.symbol m (p.row j) u ≡ v j
  pub parities : (k : ℕ) → k < parities p t → p.d' + k ≡ m → w.symbol m (slot_of p t i) u ≡ parity A p (member p t i) k v

-- the places of module m at offset u lie in the rack, and the module is fitted
pub record Space (p : Scheme) (w : Meaning) (m u : ℕ) : Type 0 where
  pub inside : m < w.modules
  pub slots_fit : p.stripes + p.rows ≤ w.slots
  pub offset : u < w.length
  pub fitted : w.fitted m ≡ true

-- one chunk of a group is put in its place where that is on module m
abbrev pub chunk_put : Group → ℕ → ℕ → ℕ → List ℕ → Meaning → Meaning
chunk_put g m u e a w = cond (nat_lt e g.size && module_at g e == m) (after_put w m (slot_at g e) u (slice_index a e)) w

-- those of the first e chunks of a group that are on module m are put in their places, and nothing else is changed
pub record ChunksPut (p : Scheme) (t : Kind) (i m u : ℕ) (a : List ℕ) (e : ℕ) (w w' : Meaning) : Type 0 where
  pub shape : w' ≡ changed w w'.symbol
  pub same : (n slot b : ℕ) → (n ≡ m → b ≡ u → (k : ℕ) → k < e → k < size p t → p.column (chunk_of p t i k) ≡ m → p.row (chunk_of p t i k) ≢ slot) →
      w'.symbol n slot b ≡ w.symbol n slot b
  pub done : (k : ℕ) → k < e → k < size p t → p.column (chunk_of p t i k) ≡ m → w'.symbol m (p.row (chunk_of p t i k)) u ≡ slice_index a k

-- of every group that g can be
abbrev pub PutsChunks : Group → ℕ → ℕ → List ℕ → ℕ → Meaning → Meaning → Type 0
PutsChunks g m u a e w w' =
    (A : Arithmetic) (p : Scheme) (t : Kind) (i : ℕ) → Sound A p → i < groups p t → Grouped p t i g → Space p w m u → ((k : ℕ) → slice_index a k < w.order) →
    ChunksPut p t i m u a e w w'

-- the group's parity on module m, if there is one, is that of the word v, and nothing else is changed
pub record ParityPut (A : Arithmetic) (p : Scheme) (t : Kind) (i m u : ℕ) (v : ℕ → ℕ) (w w' : Meaning) : Type 0 where
  pub shape : w' ≡ changed w w'.symbol
  pub same : (n slot b : ℕ) → (n ≡ m → b ≡ u → (k : ℕ) → k < parities p t → p.d' + k ≡ m → slot_of p t i ≢ slot) → w'.symbol n slot b ≡ w.symbol n slot b
  pub done : (k : ℕ) → k < parities p t → p.d' + k ≡ m → w'.symbol m (slot_of p t i) u ≡ parity A p (member p t i) k v

abbrev pub PutsParity : Arithmetic → Group → ℕ → ℕ → List ℕ → Meaning → Meaning → Type 0
PutsParity A g m u a w w' =
    (p : Scheme) (t : Kind) (i : ℕ) (v : ℕ → ℕ) → Sound A p → i < groups p t → Grouped p t i g → Space p w m u → w.order ≡ A.order →
    ((e : ℕ) → e < size p t → v (chunk_of p t i e) ≡ slice_index a e) → ParityPut A p t i m u v w w'

-- the pieces of group i on module m are rebuilt at offset u, and nothing else is changed
pub record PutBack (A : Arithmetic) (p : Scheme) (t : Kind) (i : ℕ) (out : ℕ → Bool) (m u : ℕ) (w w' : Meaning) : Type 0 where
  pub shape : w' ≡ changed w w'.symbol
  pub same : (n slot b : ℕ) → (n ≡ m → b ≡ u → At p t i m slot → ⊥) → w'.symbol n slot b ≡ w.symbol n slot b
  pub word : ℕ → ℕ
  pub fixed : Fixed A p t i out w u word
  pub pieces : Pieces A p t i m u w' word

abbrev pub PutsBack : Arithmetic → Repair → ℕ → ℕ → Meaning → Meaning → Type 0
PutsBack A s m u w w' =
    (p : Scheme) (t : Kind) (i : ℕ) (out : ℕ → Bool) → Ready A p t i out s → Space p w m u → w.order ≡ A.order → PutBack A p t i out m u w w'

-- group i has a piece on module m that is rebuilt at offset u once the groups below n are, and group n at the offsets below o
abbrev pub Done : Scheme → Kind → ℕ → ℕ → ℕ → ℕ → ℕ → Type 0
Done p t m n o i u = (holds_piece p t m i ≡ true) × (u < p.len) × ((i < n) ⊎ ((i ≡ n) × (u < o)))

-- Module m, which was out in w, is fitted in w'. Its pieces of the groups below n are rebuilt, and those of group n at the
-- offsets below o; its other places are 0, and the other modules as they were.
pub record Going (A : Arithmetic) (p : Scheme) (t : Kind) (out : ℕ → Bool) (m : ℕ) (w : Meaning) (n o : ℕ) (w' : Meaning) : Type 0 where
  pub shape : w' ≡ changed (flagged w m true) w'.symbol
  pub others : (k slot u : ℕ) → (k ≢ m) → w'.symbol k slot u ≡ w.symbol k slot u
  pub pieces : (i u : ℕ) → Done p t m n o i u → (v : ℕ → ℕ) × Fixed A p t i out w u v × Pieces A p t i m u w' v
  pub rest : (slot u : ℕ) → ((i : ℕ) → Done p t m n o i u → At p t i m slot → ⊥) → w'.symbol m slot u ≡ 0

-- module m of a pool lies in the rack, and counts as out
pub record Room (A : Arithmetic) (p : Scheme) (out : ℕ → Bool) (m : ℕ) (w : Meaning) : Type 0 where
  pub is_out : out m ≡ true
  pub inside : m < w.modules
  pub slots_fit : p.stripes + p.rows ≤ w.slots
  pub length_fits : p.len ≤ w.length
  pub order_is : w.order ≡ A.order

-- a group is rebuilt on module m up to an offset
abbrev pub Goes : Arithmetic → Repair → ℕ → ℕ → Meaning → Meaning → Type 0
Goes A s m o w w' =
    (p : Scheme) (t : Kind) (i : ℕ) (out : ℕ → Bool) (was : Meaning) → Ready A p t i out s → Room A p out m was → o ≤ p.len → holds_piece p t m i ≡ true →
    Going A p t out m was i 0 w → Going A p t out m was i o w'

-- one more group is rebuilt on module m
abbrev pub Goes_on : Arithmetic → Scheme → Kind → (ℕ → Bool) → ℕ → ℕ → Meaning → Meaning → Type 0
Goes_on A p t out m i w w' =
    (was : Meaning) → Room A p out m was → i < groups p t → (holds_piece p t m i && beyond p t out i) ≡ false → Going A p t out m was i 0 w → Going A p t out m was (i + 1) 0 w'

-- the groups below n are rebuilt on module m
abbrev pub GoesThrough : Arithmetic → Scheme → Kind → (ℕ → Bool) → ℕ → ℕ → Meaning → Meaning → Type 0
GoesThrough A p t out m n w w' =
    (was : Meaning) → Room A p out m was → ((i : ℕ) → i < n → (holds_piece p t m i && beyond p t out i) ≡ false) → Going A p t out m was 0 0 w → Going A p t out m was n 0 w'
