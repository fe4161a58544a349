-- The rack whose slots lie in pages that turn. A page is as many cells as a slot has offsets; there is one page more than there are slots
-- in all, the spare page. A map has the page of each slot, and last the spare page. Assumes nothing.
use Rattle.std.specs.Prelude.{◌≡◌, ℕ, zero, suc, ◌+◌, ◌*◌, ◌<◌, ◌≤◌, Bool, true, false, not, ◌&&◌, ◌||◌, ◌≢◌, List, length, Option, ◌==◌, nat_le, nat_lt, slice_index, slice_index_or, slice_set}
use Rattle.layout.specs.declared.refusal.Refusal.{Refusal}
use Rattle.rack.specs.declared.size.Size.{Size}
use Rattle.rack.specs.declared.shape.Shape.{Shape}
use Rattle.rack.specs.declared.turning.TurningRack.{TurningRack}
use Rattle.rack.specs.Meaning.{Meaning, Bounded}
use Rattle.rack.specs.Laid.{laid, fair, Fair, unless, laid_bounded}

-- the number that lies at offset o of slot s of module m
abbrev pub paged : Size → List ℕ → List ℕ → ℕ → ℕ → ℕ → ℕ
paged size map cells m s o = slice_index cells (slice_index map (m * size.slots + s) * size.length + o)

-- what map and cells mean, for the numbers and flags of a rack
abbrev pub turned : Shape → List ℕ → List ℕ → Meaning
turned x map cells = laid x (paged x.size map cells)

-- whether p is among the first k entries
abbrev pub named : List ℕ → ℕ → ℕ → Bool
named map p zero = false
named map p (suc k) = slice_index map k == p || named map p k

-- whether each of the first k entries is below n, and no two are the same
abbrev pub each_once : List ℕ → ℕ → ℕ → Bool
each_once map n zero = true
each_once map n (suc k) = (nat_lt (slice_index map k) n && not (named map (slice_index map k) k)) && each_once map n k

-- how many pages there are
abbrev pub pages_of : Size → ℕ
pages_of size = size.modules * size.slots + 1

-- whether the numbers are in their bounds, the cells and the entries enough, and each page stands once in the map
abbrev pub turn_fits : List ℕ → List ℕ → Size → Bool
turn_fits cells map size =
    fair size
    && (nat_le (pages_of size * size.length) (length cells)
    && (nat_le (pages_of size) (length map) && each_once map (pages_of size) (pages_of size)))

-- the refusal of cells and map for these numbers, if there is one
abbrev pub turn_refusal : List ℕ → List ℕ → Size → Option Refusal
turn_refusal cells map size = unless (turn_fits cells map size)

-- two entries exchanged
abbrev pub exchanged : List ℕ → ℕ → ℕ → List ℕ
exchanged map i n = slice_set (slice_set map i (slice_index map n)) n (slice_index map i)

-- the page of slot s of module m, and the spare page
abbrev pub page_of : Size → List ℕ → ℕ → ℕ → ℕ
page_of size map m s = slice_index map (m * size.slots + s)

abbrev pub spare_of : Size → List ℕ → ℕ
spare_of size map = slice_index map (size.modules * size.slots)

-- a turn: the slot's page is written anew into the spare one, with v at offset o; the two change places in the map, and no other page is written
pub record Turns (size : Size) (map map' cells cells' : List ℕ) (m s o v : ℕ) : Type 0 where
  pub entries : map' ≡ exchanged map (m * size.slots + s) (size.modules * size.slots)
  pub changed : slice_index_or cells' (spare_of size map * size.length + o) 0 ≡ v
  pub copied : (k : ℕ) → k < size.length → k ≢ o → slice_index cells' (spare_of size map * size.length + k) ≡ slice_index cells (page_of size map m s * size.length + k)
  pub others : (p k : ℕ) → k < size.length → p ≢ spare_of size map → slice_index cells' (p * size.length + k) ≡ slice_index cells (p * size.length + k)

-- the pages of module m are 0, and no other page is written
pub record PagesBlanked (size : Size) (m : ℕ) (map cells cells' : List ℕ) : Type 0 where
  pub zero : (s k : ℕ) → s < size.slots → k < size.length → slice_index cells' (page_of size map m s * size.length + k) ≡ 0
  pub others : (p k : ℕ) → k < size.length → ((s : ℕ) → s < size.slots → p ≢ page_of size map m s) → slice_index cells' (p * size.length + k) ≡ slice_index cells (p * size.length + k)

-- the numbers are in their bounds, there are an entry and cells for each page, and each page stands once in the map
pub record TurnSound (x : Shape) (map cells : List ℕ) : Type 0 where
  pub numbers : Fair x
  pub entries : pages_of x.size ≤ length map
  pub room : pages_of x.size * x.size.length ≤ length cells
  pub pages : each_once map (pages_of x.size) (pages_of x.size) ≡ true

-- what the rack keeps true of itself
abbrev pub Sound : TurningRack → Type 0
Sound rack = TurnSound rack.shape rack.map.now rack.cells.now

-- what the rack means
abbrev pub meaning_of : TurningRack → Meaning
meaning_of rack = turned rack.shape rack.map.now rack.cells.now

pub turn_bounded : (x : Shape) (map cells : List ℕ) → TurnSound x map cells → Bounded (turned x map cells)
turn_bounded x map cells h = laid_bounded x (paged x.size map cells) h.numbers
