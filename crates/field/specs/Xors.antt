-- Maps that are linear over xor: two that agree on the powers of two below 2^w agree below 2^w. Assumes nothing.
use Rattle.std.specs.Prelude.{◌≡◌, ℕ, zero, suc, ◌*◌, ◌/◌, ◌%◌, ◌^◌, ◌<◌, bit_xor}
use Rattle.std.proofs.Common.{sym, ap, ap₂, ◌∙◌, add-zero, zero-mul, one-mul, mod-lt, pow-suc, div-lt_iff_lt-mul, mul_comm, arith, lit<, pow_pos}
use Rattle.std.proofs.Math.Arith.{lt-one}
use Rattle.std.proofs.Math.Pow.{split}
use Rattle.std.specs.Int.Bits.{xor_assoc, xor_self, xor_shifted}
use Rattle.std.proofs.lemmas.Nat.{xor_comm, xor_shr, xor_block}

abbrev pub Linear : (ℕ → ℕ) → Type 0
Linear f = (a b : ℕ) → f (bit_xor a b) ≡ bit_xor (f a) (f b)

pub xor_swap : (a b c d : ℕ) → bit_xor (bit_xor a b) (bit_xor c d) ≡ bit_xor (bit_xor a c) (bit_xor b d)
xor_swap a b c d =
    xor_assoc a b (bit_xor c d)
    ∙ ap (bit_xor a) (sym (xor_assoc b c d) ∙ ap (λ (x : ℕ). bit_xor x d) (xor_comm b c) ∙ xor_assoc c b d)
    ∙ sym (xor_assoc a c (bit_xor b d))

-- what is its own sum with itself is 0
self_zero : (a : ℕ) → a ≡ bit_xor a a → a ≡ 0
self_zero a e = e ∙ xor_self a

pub at_zero : (f : ℕ → ℕ) → Linear f → f 0 ≡ 0
at_zero f l = self_zero (f 0) (l 0 0)

pub then_linear : (f g : ℕ → ℕ) → Linear f → Linear g → Linear (λ a. g (f a))
then_linear f g lf lg a b = ap g (lf a b) ∙ lg (f a) (f b)

pub sum_linear : (f g : ℕ → ℕ) → Linear f → Linear g → Linear (λ a. bit_xor (f a) (g a))
sum_linear f g lf lg a b = ap₂ bit_xor (lf a b) (lg a b) ∙ xor_swap (f a) (f b) (g a) (g b)

pub high_linear : (k : ℕ) → Linear (λ a. a / 2 ^ k)
high_linear k a b = xor_shr a b k

pub double_linear : Linear (λ a. a * 2)
double_linear a b =
    sym (ap₂ bit_xor (sym (add-zero (a * 2))) (sym (add-zero (b * 2))) ∙ xor_block 1 a b 0 0 (lit< tt) (lit< tt) ∙ add-zero (bit_xor a b * 2))

-- the two cases of a number below two powers
pub below_two : (P : ℕ → Type 0) → P 0 → P 1 → (n : ℕ) → n < 2 → P n
below_two P p q zero h = p
below_two P p q (suc zero) h = q
below_two P p q (suc (suc n)) h = absurd (omega arith)

pub on_basis : (f g : ℕ → ℕ) → Linear f → Linear g → (w : ℕ) → ((i : ℕ) → i < w → f (2 ^ i) ≡ g (2 ^ i)) → (a : ℕ) → a < 2 ^ w → f a ≡ g a
on_basis f g lf lg zero h a lt = ap f (lt-one lt) ∙ at_zero f lf ∙ sym (at_zero g lg) ∙ sym (ap g (lt-one lt))
on_basis f g lf lg (suc w) h a lt =
    let low : a % 2 ^ w < 2 ^ w = mod-lt a (pow_pos w) in
    let high : a / 2 ^ w < 2 = (div-lt_iff_lt-mul (pow_pos w)).1 (rw (mul_comm 2 (2 ^ w), ← pow-suc 2 w) lt) in
    let parts : a ≡ bit_xor (a / 2 ^ w * 2 ^ w) (a % 2 ^ w) = sym (xor_shifted (a / 2 ^ w) w (a % 2 ^ w) low ∙ split a w) in
    let lows : f (a % 2 ^ w) ≡ g (a % 2 ^ w) = on_basis f g lf lg w (λ i l. h i (omega arith)) (a % 2 ^ w) low in
    let highs : f (a / 2 ^ w * 2 ^ w) ≡ g (a / 2 ^ w * 2 ^ w) =
    below_two (λ n. f (n * 2 ^ w) ≡ g (n * 2 ^ w))
    (rw zero-mul (at_zero f lf ∙ sym (at_zero g lg)))
    (rw one-mul (h w (omega arith))) (a / 2 ^ w) high in
    ap f parts ∙ lf _ _ ∙ ap₂ bit_xor highs lows ∙ sym (lg _ _) ∙ sym (ap g parts)
