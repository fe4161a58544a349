-- The rack that lies flat in one row of cells. Assumes nothing.
use Rattle.std.specs.Prelude.{◌≡◌, ℕ, ◌+◌, ◌*◌, ◌<◌, ◌≤◌, Bool, ◌&&◌, List, length, Option, nat_le, slice_index}
use Rattle.layout.specs.declared.refusal.Refusal.{Refusal}
use Rattle.rack.specs.declared.size.Size.{Size}
use Rattle.rack.specs.declared.shape.Shape.{Shape}
use Rattle.rack.specs.declared.flat.FlatRack.{FlatRack}
use Rattle.rack.specs.Meaning.{Meaning, Bounded}
use Rattle.rack.specs.Laid.{laid, fair, Fair, unless, laid_bounded}

-- the cell of offset o of slot s of module m
abbrev pub at : Size → ℕ → ℕ → ℕ → ℕ
at size m s o = (m * size.slots + s) * size.length + o

-- what cells mean, for the numbers and flags of a rack
abbrev pub flat : Shape → List ℕ → Meaning
flat x cells = laid x (λ m s o. slice_index cells (at x.size m s o))

-- whether the numbers are in their bounds and the cells enough
abbrev pub flat_fits : List ℕ → Size → Bool
flat_fits cells size = fair size && nat_le (size.modules * size.slots * size.length) (length cells)

-- the refusal of cells for these numbers, if there is one
abbrev pub flat_refusal : List ℕ → Size → Option Refusal
flat_refusal cells size = unless (flat_fits cells size)

-- the cells of module m are 0, and no other cell is changed
pub record Blanked (size : Size) (m : ℕ) (cells cells' : List ℕ) : Type 0 where
  pub zero : (k : ℕ) → m * (size.slots * size.length) ≤ k → k < m * (size.slots * size.length) + size.slots * size.length → slice_index cells' k ≡ 0
  pub below : (k : ℕ) → k < m * (size.slots * size.length) → slice_index cells' k ≡ slice_index cells k
  pub above : (k : ℕ) → m * (size.slots * size.length) + size.slots * size.length ≤ k → slice_index cells' k ≡ slice_index cells k

-- the numbers are in their bounds, and there is a cell for each place
pub record FlatSound (x : Shape) (cells : List ℕ) : Type 0 where
  pub numbers : Fair x
  pub room : x.size.modules * x.size.slots * x.size.length ≤ length cells

-- what the rack keeps true of itself
abbrev pub Sound : FlatRack → Type 0
Sound rack = FlatSound rack.shape rack.cells.now

-- what the rack means
abbrev pub meaning_of : FlatRack → Meaning
meaning_of rack = flat rack.shape rack.cells.now

pub flat_bounded : (x : Shape) (cells : List ℕ) → FlatSound x cells → Bounded (flat x cells)
flat_bounded x cells h = laid_bounded x (λ m s o. slice_index cells (at x.size m s o)) h.numbers
