-- What the pieces of a group are, one by one. Assumes nothing.
use Rattle.std.specs.Prelude.{◌≡◌, ℕ, ◌<◌, ◌≤◌, List, length, slice_index, slice_index_or}
use Rattle.field.specs.Arithmetic.{Arithmetic}
use Rattle.field.specs.Sums.{coefficient}
use Rattle.layout.specs.declared.plan.Cell.{Cell}
use Rattle.coding.specs.declared.group.Kind.{Kind}
use Rattle.coding.specs.declared.group.Piece.{Piece}
use Rattle.coding.specs.declared.group.Group.{Group}
use Rattle.coding.specs.Schemes.{Scheme, Sound}
use Rattle.coding.specs.Groups.{groups, size, parities, member, chunk_of, slot_of, parity}

-- c is the cell of chunk e of a group
pub record Celled (p : Scheme) (t : Kind) (i e : ℕ) (c : Cell) : Type 0 where
  pub row_is : c.row ≡ p.row (chunk_of p t i e)
  pub column_is : c.column ≡ p.column (chunk_of p t i e)
  pub x_is : c.x ≡ p.x (chunk_of p t i e)

-- chunk e of a group as g has it: its module, its slot and its coefficient column; each is zero past the end
abbrev pub no_piece : Piece
no_piece = record { «module» = 0; slot = 0; x = 0 }

abbrev pub module_at : Group → ℕ → ℕ
module_at g e = (slice_index_or g.pieces e no_piece).module

abbrev pub slot_at : Group → ℕ → ℕ
slot_at g e = (slice_index_or g.pieces e no_piece).slot

abbrev pub x_at : Group → ℕ → ℕ
x_at g e = (slice_index_or g.pieces e no_piece).x

-- c is chunk e of a group; zeros where the group has no such chunk
pub record PieceAt (p : Scheme) (t : Kind) (i e : ℕ) (c : Piece) : Type 0 where
  pub module_is : e < size p t → c.module ≡ p.column (chunk_of p t i e)
  pub slot_is : e < size p t → c.slot ≡ p.row (chunk_of p t i e)
  pub x_is : e < size p t → c.x ≡ p.x (chunk_of p t i e)
  pub rest : size p t ≤ e → c ≡ no_piece

-- g has what there is to know of a group; what is past its chunks is zero
pub record Grouped (p : Scheme) (t : Kind) (i : ℕ) (g : Group) : Type 0 where
  pub kind_is : g.kind ≡ t
  pub index_is : g.index ≡ i
  pub short : size p t ≤ 14
  pub size_is : g.size ≡ size p t
  pub parities_is : g.parities ≡ parities p t
  pub slot_is : g.slot ≡ slot_of p t i
  pub first_is : g.first ≡ p.d'
  pub long : length g.pieces ≡ 14
  pub modules_are : (e : ℕ) → e < size p t → module_at g e ≡ p.column (chunk_of p t i e)
  pub slots_are : (e : ℕ) → e < size p t → slot_at g e ≡ p.row (chunk_of p t i e)
  pub xs_are : (e : ℕ) → e < size p t → x_at g e ≡ p.x (chunk_of p t i e)
  pub modules_rest : (e : ℕ) → size p t ≤ e → module_at g e ≡ 0
  pub slots_rest : (e : ℕ) → size p t ≤ e → slot_at g e ≡ 0
  pub xs_rest : (e : ℕ) → size p t ≤ e → x_at g e ≡ 0

-- r has the coefficients of the group's chunks in parity k; what is past its chunks is zero
pub record Weights (A : Arithmetic) (g : Group) (k : ℕ) (r : List ℕ) : Type 0 where
  pub is : (e : ℕ) → e < g.size → e < 14 → slice_index r e ≡ coefficient A k (x_at g e)
  pub rest : (e : ℕ) → g.size ≤ e → slice_index r e ≡ 0

-- r is parity k of every group that g can be, where its chunks, in their order, have the symbols a
abbrev pub ParityOf : Arithmetic → Group → ℕ → List ℕ → ℕ → Type 0
ParityOf A g k a r =
    (p : Scheme) (t : Kind) (i : ℕ) (v : ℕ → ℕ) → Sound A p → i < groups p t → Grouped p t i g →
    ((e : ℕ) → e < size p t → v (chunk_of p t i e) ≡ slice_index a e) → r ≡ parity A p (member p t i) k v

-- r is the parity that the coefficients ws are of
abbrev pub ParityBy : Arithmetic → List ℕ → List ℕ → ℕ → Type 0
ParityBy A ws a r = (g : Group) (k : ℕ) → Weights A g k ws → ParityOf A g k a r
