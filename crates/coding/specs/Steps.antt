-- What the steps of a repair give. Of these only `flags` is in the contract of a public call. Assumes nothing.
use Rattle.std.specs.Prelude.{◌≡◌, ℕ, zero, suc, ◌+◌, ◌<◌, Bool, false, not, ◌&&◌, List, length, nat_lt, slice_index, slice_index_or, slice_set}
use Rattle.coding.specs.declared.group.Group.{Group}
use Rattle.coding.specs.Groups.{count, nth}
use Rattle.coding.specs.Pieces.{module_at}

-- the list of flags as a test
abbrev pub flags : List Bool → ℕ → Bool
flags out m = slice_index_or out m false

-- whether each chunk of the group is on a module that is out
pub record Gone (g : Group) (out r : List Bool) : Type 0 where
  pub is : (e : ℕ) → e < 14 → flags r e ≡ (nat_lt e g.size && flags out (module_at g e))

-- whether each parity of the group is on a module that is not out
pub record Left (g : Group) (out r : List Bool) : Type 0 where
  pub is : (k : ℕ) → k < 4 → flags r k ≡ (nat_lt k g.parities && not (flags out (g.first + k)))

-- how many flags are set, and the first four of them
pub record Positions (xs : List Bool) (list : List ℕ) (n : ℕ) : Type 0 where
  pub count_is : n ≡ count (flags xs) (length xs)
  pub are : (j : ℕ) → j < 4 → j < n → slice_index list j ≡ nth (flags xs) (length xs) j
  pub inside : (j : ℕ) → j < 4 → slice_index list j < length xs

-- the first n of us, each at its place in a
abbrev pub scattered : {X : Type 0} → List X → List ℕ → (ℕ → X) → ℕ → List X
scattered a places us zero = a
scattered a places us (suc n) = slice_set (scattered a places us n) (slice_index places n) (us n)
