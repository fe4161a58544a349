-- The numbers and flags of a rack, which both racks keep. Assumes nothing.
use Rattle.std.specs.Prelude.{ℕ, Bool, true, false, cond, not, ◌&&◌, replicate, nat_lt, slice_index_or, slice_set}
use Rattle.rack.specs.declared.size.Size.{Size}
use Rattle.rack.specs.declared.shape.Shape.{Shape}

-- all modules fitted
abbrev pub full : Size → Shape
full size = record { size = size; on = replicate 32 true }

-- one flag changed
abbrev pub marked : Shape → ℕ → Bool → Shape
marked x m b = record { size = x.size; on = slice_set x.on m b }

-- whether a module is inside and its flag set
abbrev pub is_marked : Shape → ℕ → Bool
is_marked x m = nat_lt m 32 && (nat_lt m x.size.modules && slice_index_or x.on m false)

-- whether a module is inside and its flag is not b
abbrev pub is_unlike : Shape → ℕ → Bool → Bool
is_unlike x m b = nat_lt m 32 && (nat_lt m x.size.modules && cond b (not (slice_index_or x.on m false)) (slice_index_or x.on m false))
