-- Numbers that pass a test, in a list. Assumes nothing.
use Rattle.std.proofs.Common.{◌≡◌, ℕ, ◌<◌, Bool, true}

-- js lists the numbers below l that pass a test, and at says where each is listed
pub record Lists (l n : ℕ) (P : ℕ → Bool) (js at : ℕ → ℕ) : Type 0 where
  pub below : (e : ℕ) → e < n → js e < l
  pub pass : (e : ℕ) → e < n → P (js e) ≡ true
  pub place : (e : ℕ) → e < n → at (js e) ≡ e
  pub placed : (j : ℕ) → j < l → P j ≡ true → at j < n
  pub back : (j : ℕ) → j < l → P j ≡ true → js (at j) ≡ j
