-- The product of two polynomials over two elements, reduced, is linear in each. Assumes nothing.
use Rattle.std.specs.Prelude.{◌≡◌, ℕ, zero, suc, ◌+◌, ◌-◌, ◌*◌, ◌/◌, ◌%◌, ◌^◌, ◌<◌, ◌≤◌, bit_xor}
use Rattle.std.proofs.Math.Path.{refl}
use Rattle.std.proofs.Common.{sym, ap, ◌∙◌, mod-lt, mul_comm, pow-suc, div-lt_iff_lt-mul, one-mul, pow_pos, lit<}
use Rattle.std.proofs.Math.Nat.{mul-div-mul_right, zero-div}
use native.Mathlib.Omega.{arith}
use Rattle.std.specs.Int.Bits.{xor_self, xor_zero_r, xor_assoc}
use Rattle.std.proofs.lemmas.Nat.{xor_mod, xor_shr, xor_lt}
use Rattle.field.specs.Binary.{pick, shifted, product}
use Rattle.field.specs.Xors.{Linear, sum_linear, then_linear, high_linear, double_linear, below_two}

pick_xor : (a x y : ℕ) → x < 2 → y < 2 → pick (bit_xor x y) a ≡ bit_xor (pick x a) (pick y a)
pick_xor a x y hx hy =
    below_two (λ n. pick (bit_xor n y) a ≡ bit_xor (pick n a) (pick y a)) refl
    (below_two (λ m. pick (bit_xor 1 m) a ≡ bit_xor a (pick m a)) (sym (xor_zero_r a)) (sym (xor_self a)) y hy) x hx

pub bit_linear : (a : ℕ) → Linear (λ b. pick (b % 2) a)
bit_linear a b c =
    ap (λ (d : ℕ). pick d a) (xor_mod b c 1) ∙ pick_xor a (b % 2) (c % 2) (mod-lt b (lit< tt)) (mod-lt c (lit< tt))

pub pick_linear : (d : ℕ) → Linear (pick d)
pick_linear zero a b = refl
pick_linear (suc d) a b = refl

-- a shift keeps to the lowest w coefficients, if p has degree w
pub shifted_below : (w p a : ℕ) → 0 < w → p / 2 ^ w ≡ 1 → a < 2 ^ w → shifted w p a < 2 ^ w
shifted_below zero p a pos top h = absurd (omega arith)
shifted_below (suc v) p a pos top h =
    let high : a / 2 ^ v < 2 = (div-lt_iff_lt-mul (pow_pos v)).1 (rw (mul_comm 2 (2 ^ v), ← pow-suc 2 v) h) in
    let twice : a * 2 / 2 ^ suc v ≡ a / 2 ^ v = rw pow-suc (mul-div-mul_right a (2 ^ v) (lit< tt)) in
    let less : suc v - 1 ≡ v = omega arith in
    let none : shifted (suc v) p a / 2 ^ suc v ≡ 0 =
    xor_shr (a * 2) (pick (a / 2 ^ (suc v - 1) % 2) p) (suc v)
    ∙ rw (twice, less)
    (below_two (λ n. bit_xor n (pick (n % 2) p / 2 ^ suc v) ≡ 0) (zero-div (2 ^ suc v)) (ap (bit_xor 1) top) (a / 2 ^ v) high) in
    let h1 : shifted (suc v) p a / 2 ^ suc v < 1 = omega (arith, none) in
    let k : shifted (suc v) p a < 1 * 2 ^ suc v = (div-lt_iff_lt-mul (pow_pos (suc v))).0 h1 in
    rw one-mul at k

pick_below : (w d a : ℕ) → a < 2 ^ w → pick d a < 2 ^ w
pick_below w zero a h = pow_pos w
pick_below w (suc d) a h = h

pub product_below : (w p k a b : ℕ) → 0 < w → p / 2 ^ w ≡ 1 → a < 2 ^ w → product w p k a b < 2 ^ w
unfolding product
product_below w p zero a b pos top h = pow_pos w
product_below w p (suc k) a b pos top h =
    xor_lt w (pick (b % 2) a) (product w p k (shifted w p a) (b / 2)) (pick_below w (b % 2) a h)
    (product_below w p k (shifted w p a) (b / 2) pos top (shifted_below w p a pos top h))

module _ (w p : ℕ) where
  pub shifted_linear : Linear (shifted w p)
  shifted_linear =
      sum_linear (λ a. a * 2) (λ a. pick (a / 2 ^ (w - 1) % 2) p) double_linear
      (then_linear (λ a. a / 2 ^ (w - 1)) (λ b. pick (b % 2) p) (high_linear (w - 1)) (bit_linear p))

  pub product_right : (k a : ℕ) → Linear (product w p k a)
  unfolding product
  product_right zero a b c = refl
  product_right (suc k) a b c =
      sum_linear (λ b. pick (b % 2) a) (λ b. product w p k (shifted w p a) (b / 2)) (bit_linear a)
      (then_linear (λ b. b / 2) (product w p k (shifted w p a)) (high_linear 1) (product_right k (shifted w p a))) b c

  pub product_left : (k b : ℕ) → Linear (λ a. product w p k a b)
  unfolding product
  product_left zero b a c = refl
  product_left (suc k) b a c =
      sum_linear (pick (b % 2)) (λ a. product w p k (shifted w p a) (b / 2)) (pick_linear (b % 2))
      (then_linear (shifted w p) (λ a. product w p k a (b / 2)) shifted_linear (product_left k (b / 2))) a c

  -- one turn of the loop that sums the product up, at the place i of n
  pub product_turn : (n i sum a b : ℕ) → i < n → bit_xor (bit_xor sum (pick (b % 2) a)) (product w p (n - (i + 1)) (shifted w p a) (b / 2)) ≡ bit_xor sum (product w p (n - i) a b)
  unfolding product
  product_turn n i sum a b h =
      let e : n - i ≡ suc (n - (i + 1)) = omega arith in
      rw e (xor_assoc sum (pick (b % 2) a) (product w p (n - (i + 1)) (shifted w p a) (b / 2)))

  pub product_end : (n i sum a b : ℕ) → n ≤ i → bit_xor sum (product w p (n - i) a b) ≡ sum
  unfolding product
  product_end n i sum a b h =
      let e : n - i ≡ 0 = omega arith in
      rw e (xor_zero_r sum)
