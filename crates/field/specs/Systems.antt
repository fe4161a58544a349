-- At most four equations over a field, whose coefficients are those of parities and chunks. Assumes nothing.
use Rattle.std.specs.Prelude.{◌≡◌, ℕ, ◌+◌, ◌<◌, ◌≤◌, ◌≢◌, ◌⊎◌, List, [], length, slice_index, slice_index_or}
use Rattle.field.specs.Arithmetic.{Arithmetic}
use Rattle.field.specs.Sums.{total, coefficient}

-- entry j of row i
abbrev pub at : List (List ℕ) → ℕ → ℕ → ℕ
at a i j = slice_index (slice_index_or a i []) j

-- the first n are codes
abbrev pub Codes : Arithmetic → ℕ → List ℕ → Type 0
Codes A n b = (i : ℕ) → i < n → slice_index b i < A.order

-- no two of the first n are equal
abbrev pub Distinct : ℕ → List ℕ → Type 0
Distinct n xs = (i j : ℕ) → i < n → j < n → i ≢ j → slice_index xs i ≢ slice_index xs j

-- n parities ks and n chunks xs that give a system: at most four, the parities below 4, the points 4 + x codes, each once
pub record Posed (A : Arithmetic) (n : ℕ) (ks xs : List ℕ) : Type 0 where
  pub few : n ≤ 4
  pub rows : (i : ℕ) → i < n → slice_index ks i < 4
  pub columns : (j : ℕ) → j < n → 4 + slice_index xs j < A.order
  pub ks_once : Distinct n ks
  pub xs_once : Distinct n xs

-- u solves the n equations with the coefficients M and the right sides b
abbrev pub Solves : Arithmetic → ℕ → (ℕ → ℕ → ℕ) → List ℕ → List ℕ → Type 0
Solves A n M b u = (i : ℕ) → i < n → total A n (λ j. A.mul (M i j) (slice_index u j)) ≡ slice_index b i

-- the coefficients of the chunks xs in the parities ks, a Cauchy matrix
abbrev pub cauchy : Arithmetic → List ℕ → List ℕ → ℕ → ℕ → ℕ
cauchy A ks xs i j = coefficient A (slice_index ks i) (slice_index xs j)

-- u is the one solution; what is past n is zero
pub record Solution (A : Arithmetic) (n : ℕ) (ks xs b u : List ℕ) : Type 0 where
  pub size : length u ≡ 4
  pub codes : Codes A 4 u
  pub solves : Solves A n (cauchy A ks xs) b u
  pub only : (v : List ℕ) → Codes A n v → Solves A n (cauchy A ks xs) b v → (j : ℕ) → j < n → slice_index v j ≡ slice_index u j
  pub rest : (j : ℕ) → n ≤ j → slice_index u j ≡ 0

-- w gives the one solution for every right sides b: unknown j is the sum over i of w j i times b i; what is past n is zero
pub record Inverse (A : Arithmetic) (n : ℕ) (ks xs : List ℕ) (w : List (List ℕ)) : Type 0 where
  pub size : length w ≡ 4
  pub wide : (j : ℕ) → j < 4 → length (slice_index_or w j []) ≡ 4
  pub codes : (j i : ℕ) → at w j i < A.order
  pub solves : (b u : List ℕ) → Codes A n b → Codes A n u →
      ((j : ℕ) → j < n → slice_index u j ≡ total A n (λ i. A.mul (at w j i) (slice_index b i))) → Solves A n (cauchy A ks xs) b u
  pub only : (b u : List ℕ) → Codes A n b → Codes A n u → Solves A n (cauchy A ks xs) b u →
      (j : ℕ) → j < n → slice_index u j ≡ total A n (λ i. A.mul (at w j i) (slice_index b i))
  pub rest : (j i : ℕ) → (n ≤ j) ⊎ (n ≤ i) → at w j i ≡ 0
