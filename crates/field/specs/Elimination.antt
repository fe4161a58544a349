-- What the steps between a system and its solution give. No contract of a public call rests on these: `solve` and `invert` promise
-- what Systems says. Assumes nothing.
use Rattle.std.specs.Prelude.{◌≡◌, ℕ, ◌<◌, ◌≤◌, ◌≢◌, List, [], ◌∷◌, length, get_or, slice_index, slice_index_or, slice_set}
use Rattle.field.specs.Arithmetic.{Arithmetic}
use Rattle.field.specs.Sums.{minus}
use Rattle.field.specs.Systems.{at, cauchy, Distinct, Solves, Solution}

-- the first n are below the limit, and no two of them are equal
pub record Once (n limit : ℕ) (xs : List ℕ) : Type 0 where
  pub below : (i : ℕ) → i < n → slice_index xs i < limit
  pub once : Distinct n xs

-- every entry is a code
abbrev pub Grid : Arithmetic → List (List ℕ) → Type 0
Grid A a = (i j : ℕ) → i < 4 → j < 4 → at a i j < A.order

-- the first n of b, and zeros after them
pub record First (n : ℕ) (b r : List ℕ) : Type 0 where
  pub is : (i : ℕ) → i < n → slice_index r i ≡ slice_index b i
  pub rest : (i : ℕ) → n ≤ i → i < 4 → slice_index r i ≡ 0

-- r is the coefficient of chunk j in parity i, and zero past the first n of them
pub record CoefficientAt (A : Arithmetic) (n : ℕ) (ks xs : List ℕ) (i j r : ℕ) : Type 0 where
  pub is : i < n → j < n → r ≡ cauchy A ks xs i j
  pub row_rest : n ≤ i → r ≡ 0
  pub column_rest : n ≤ j → r ≡ 0

-- r has those in parity i
abbrev pub CoefficientRow : Arithmetic → ℕ → List ℕ → List ℕ → ℕ → List ℕ → Type 0
CoefficientRow A n ks xs i r = (j : ℕ) → j < 4 → CoefficientAt A n ks xs i j (slice_index r j)

-- the coefficients of a system of n equations, and zeros around them
abbrev pub Coefficients : Arithmetic → ℕ → List ℕ → List ℕ → List (List ℕ) → Type 0
Coefficients A n ks xs a = (i : ℕ) → i < 4 → CoefficientRow A n ks xs i (slice_index_or a i [])

-- a row times a number
abbrev pub Scaled : Arithmetic → ℕ → List ℕ → List ℕ → Type 0
Scaled A by row r = (j : ℕ) → j < 4 → slice_index r j ≡ A.mul by (slice_index row j)

-- a row less a number times the row `top`
abbrev pub Reduced : Arithmetic → ℕ → List ℕ → List ℕ → List ℕ → Type 0
Reduced A by row top r = (j : ℕ) → j < 4 → slice_index r j ≡ minus A (slice_index row j) (A.mul by (slice_index top j))

-- column c of a, b is cleared but for its pivot, which becomes one: a', b'
pub record Stepped (A : Arithmetic) (c : ℕ) (a : List (List ℕ)) (b : List ℕ) (a' : List (List ℕ)) (b' : List ℕ) : Type 0 where
  pub row : (j : ℕ) → j < 4 → at a' c j ≡ A.mul (A.inv (at a c c)) (at a c j)
  pub side : get_or b' c 0 ≡ A.mul (A.inv (at a c c)) (slice_index b c)
  pub rows : (i j : ℕ) → i < 4 → j < 4 → i ≢ c → at a' i j ≡ minus A (at a i j) (A.mul (at a i c) (at a' c j))
  pub sides : (i : ℕ) → i < 4 → i ≢ c → slice_index b' i ≡ minus A (slice_index b i) (A.mul (at a i c) (slice_index b' c))

-- two systems of n equations with the same solutions
pub record Same (A : Arithmetic) (n : ℕ) (a : List (List ℕ)) (b : List ℕ) (a' : List (List ℕ)) (b' : List ℕ) : Type 0 where
  pub keeps : (u : List ℕ) → Solves A n (at a) b u → Solves A n (at a') b' u
  pub gives : (u : List ℕ) → Solves A n (at a') b' u → Solves A n (at a) b u

-- side k is one, and the others are zero
abbrev pub unit : ℕ → List ℕ
unit k = slice_set (0 ∷ 0 ∷ 0 ∷ 0 ∷ []) k 1

-- u is the solution for the sides that are one at k and zero elsewhere; zeros past the first n
pub record UnitSolution (A : Arithmetic) (n : ℕ) (ks xs : List ℕ) (k : ℕ) (u : List ℕ) : Type 0 where
  pub is : k < n → Solution A n ks xs (unit k) u
  pub rest : (j : ℕ) → n ≤ k → slice_index u j ≡ 0

-- row k is that solution
abbrev pub Units : Arithmetic → ℕ → List ℕ → List ℕ → List (List ℕ) → Type 0
Units A n ks xs s = (k : ℕ) → k < 4 → UnitSolution A n ks xs k (slice_index_or s k [])

-- column j of the matrix m
pub record Column (m : List (List ℕ)) (j : ℕ) (r : List ℕ) : Type 0 where
  pub size : length r ≡ 4
  pub is : (i : ℕ) → i < 4 → slice_index r i ≡ at m i j

-- the rows of w are the columns of m
pub record Transposed (m w : List (List ℕ)) : Type 0 where
  pub size : length w ≡ 4
  pub columns : (j : ℕ) → j < 4 → Column m j (slice_index_or w j [])
