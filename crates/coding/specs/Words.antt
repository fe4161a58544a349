-- What is left of a group where modules are out, and the word of the code that it fixes. Assumes nothing.
use Rattle.std.specs.Prelude.{◌≡◌, ℕ, ◌+◌, ◌<◌, ◌≤◌, Bool, true, false, not, ◌&&◌, nat_lt}
use Rattle.field.specs.Arithmetic.{Arithmetic}
use Rattle.rack.specs.Meaning.{Meaning}
use Rattle.coding.specs.declared.group.Kind.{Kind}
use Rattle.coding.specs.Schemes.{Scheme}
use Rattle.coding.specs.Groups.{groups, parities, member, slot_of, parity, count}

-- Throughout, out tells the modules that count as out.

-- a chunk of the group that is on a module out
abbrev pub lost : Scheme → Kind → ℕ → (ℕ → Bool) → ℕ → Bool
lost p t i out j = member p t i j && out (p.column j)

-- how many chunks of the group are out, and how many pieces: chunks and parities
abbrev pub missing_chunks : Scheme → Kind → ℕ → (ℕ → Bool) → ℕ
missing_chunks p t i out = count (lost p t i out) p.chunks

abbrev pub missing_pieces : Scheme → Kind → ℕ → (ℕ → Bool) → ℕ
missing_pieces p t i out = missing_chunks p t i out + count (λ k. out (p.d' + k)) (parities p t)

-- The first pieces on fitted modules, as many as the group has chunks: all its chunks there are, and of its parities there
-- are the first, as many as chunks are out. This says whether parity k is one of them.
abbrev pub used : Scheme → Kind → ℕ → (ℕ → Bool) → ℕ → Bool
used p t i out k = not (out (p.d' + k)) && nat_lt (count (λ q. not (out (p.d' + q))) k) (missing_chunks p t i out)

-- v, the symbols of the chunks at offset o, is a word of the group's code that agrees with the rack on the first pieces
pub record Fixed (A : Arithmetic) (p : Scheme) (t : Kind) (i : ℕ) (out : ℕ → Bool) (w : Meaning) (o : ℕ) (v : ℕ → ℕ) : Type 0 where
  pub codes : (j : ℕ) → j < p.chunks → v j < A.order
  pub on_chunks : (j : ℕ) → j < p.chunks → member p t i j ≡ true → out (p.column j) ≡ false → v j ≡ w.symbol (p.column j) (p.row j) o
  pub on_parities : (k : ℕ) → k < parities p t → used p t i out k ≡ true → parity A p (member p t i) k v ≡ w.symbol (p.d' + k) (slot_of p t i) o

-- Encoding and rebuilding undo each other: where a group misses no more pieces than it has parities, two words that agree
-- with the rack on the first pieces are equal, so what is rebuilt from a rack that holds a word's pieces is that word.
abbrev pub OneWord : Arithmetic → Scheme → Type 0
OneWord A p =
    (t : Kind) (i : ℕ) (out : ℕ → Bool) (w : Meaning) (o : ℕ) (v u : ℕ → ℕ) → i < groups p t → missing_pieces p t i out ≤ parities p t →
    Fixed A p t i out w o v → Fixed A p t i out w o u → (j : ℕ) → j < p.chunks → member p t i j ≡ true → v j ≡ u j
