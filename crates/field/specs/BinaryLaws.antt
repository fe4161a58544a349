-- The laws of a binary field, from tests on the powers of two. Assumes nothing.
use Rattle.std.specs.Prelude.{◌≡◌, ℕ, zero, suc, ◌^◌, ◌<◌, Bool, T, ◌==◌, nat_eq, nat_lt, refl}
use Rattle.std.proofs.Common.{◌∙◌, arith, eqb→eq, ltb→lt, lit<, lit≤}
use Rattle.std.specs.Int.Bits.{xor_self, xor_zero_r, xor_assoc}
use Rattle.std.proofs.lemmas.Nat.{xor_comm, xor_lt}
use Rattle.field.specs.Arithmetic.{Lawful, powers}
use Rattle.field.specs.Binary.{pick, product, Degree, binary, byte, nibble}
use Rattle.field.specs.Every.{both, every, every_at, both_left, both_right}
use Rattle.field.specs.Xors.{Linear, then_linear, on_basis}
use Rattle.field.specs.Products.{product_below, product_left, product_right}
use Rattle.field.specs.OnCodes.{OnCodes, reading_lawful}

abbrev times : ℕ → ℕ → ℕ → ℕ → ℕ
times w p = product w p w

abbrev assoc_test : ℕ → ℕ → Bool
assoc_test w p =
    every w (λ i. every w (λ j. every w (λ k.
    (times w p (times w p (2 ^ i) (2 ^ j)) (2 ^ k) == times w p (2 ^ i) (times w p (2 ^ j) (2 ^ k))))))

abbrev comm_test : ℕ → ℕ → Bool
comm_test w p = every w (λ i. every w (λ j. nat_eq (times w p (2 ^ i) (2 ^ j)) (times w p (2 ^ j) (2 ^ i))))

abbrev one_test : ℕ → ℕ → Bool
one_test w p = every w (λ i. nat_eq (times w p (2 ^ i) 1) (2 ^ i))

abbrev inv-test : ℕ → ℕ → Bool
inv-test w p =
    every (2 ^ w) (λ a. both (nat_lt ((binary w p).inv a) (2 ^ w)) (times w p a ((binary w p).inv a) == pick a 1))

pub record Passes (w p : ℕ) : Type 0 where
  pub degree : Degree w p
  pub two : 1 < 2 ^ w
  pub fits : 2 ^ w < 65536
  pub assoc : T (assoc_test w p)
  pub comm : T (comm_test w p)
  pub one : T (one_test w p)
  pub inv : T (inv-test w p)
  pub inv-zero : T ((binary w p).inv 0 == 0)

pick_one : (a : ℕ) → 0 < a → pick a 1 ≡ 1
pick_one zero h = absurd (omega arith)
pick_one (suc a) h = refl

module _ (w p : ℕ) (t : Passes w p) where
  left : (b : ℕ) → Linear (λ a. times w p a b)
  left b = product_left w p w b

  right : (a : ℕ) → Linear (times w p a)
  right a = product_right w p w a

  mul_assoc : (a b c : ℕ) → a < 2 ^ w → b < 2 ^ w → c < 2 ^ w → times w p (times w p a b) c ≡ times w p a (times w p b c)
  mul_assoc a b c ha hb hc =
      on_basis (λ a. times w p (times w p a b) c) (λ a. times w p a (times w p b c))
      (then_linear (λ a. times w p a b) (λ x. times w p x c) (left b) (left c)) (left (times w p b c)) w
      (λ i hi.
      on_basis (λ b. times w p (times w p (2 ^ i) b) c) (λ b. times w p (2 ^ i) (times w p b c))
      (then_linear (times w p (2 ^ i)) (λ x. times w p x c) (right (2 ^ i)) (left c))
      (then_linear (λ b. times w p b c) (times w p (2 ^ i)) (left c) (right (2 ^ i))) w
      (λ j hj.
      on_basis (times w p (times w p (2 ^ i) (2 ^ j))) (λ c. times w p (2 ^ i) (times w p (2 ^ j) c))
      (right (times w p (2 ^ i) (2 ^ j)))
      (then_linear (times w p (2 ^ j)) (times w p (2 ^ i)) (right (2 ^ j)) (right (2 ^ i))) w
      (λ k hk. eqb→eq _ _ (every_at w _ (every_at w _ (every_at w _ t.assoc i hi) j hj) k hk)) c hc) b hb) a ha

  mul_comm : (a b : ℕ) → a < 2 ^ w → b < 2 ^ w → times w p a b ≡ times w p b a
  mul_comm a b ha hb =
      on_basis (λ a. times w p a b) (times w p b) (left b) (right b) w
      (λ i hi. on_basis (times w p (2 ^ i)) (λ b. times w p b (2 ^ i)) (right (2 ^ i)) (left (2 ^ i)) w
      (λ j hj. eqb→eq _ _ (every_at w _ (every_at w _ t.comm i hi) j hj)) b hb) a ha

  mul-one : (a : ℕ) → a < 2 ^ w → times w p a 1 ≡ a
  mul-one a ha = on_basis (λ a. times w p a 1) (λ a. a) (left 1) (λ a b. refl) w (λ i hi. eqb→eq _ _ (every_at w _ t.one i hi)) a ha

  inv_test_at : (a : ℕ) → a < 2 ^ w → T (both (nat_lt ((binary w p).inv a) (2 ^ w)) (times w p a ((binary w p).inv a) == pick a 1))
  inv_test_at a ha = every_at (2 ^ w) _ t.inv a ha

  pub binary_laws : OnCodes (binary w p)
  binary_laws = record {
    two = t.two;
    fits = t.fits;
    add-below = λ a b. xor_lt w a b;
    mul-below = λ a b h _. product_below w p w a b t.degree.some t.degree.top h;
    neg-below = λ a h. h;
    inv-below = λ a h. ltb→lt _ _ (both_left _ _ (inv_test_at a h));
    add_comm = λ a b _ _. xor_comm a b;
    add_assoc = λ a b c _ _ _. xor_assoc a b c;
    add-zero = λ a _. xor_zero_r a;
    add-neg = λ a _. xor_self a;
    mul_comm = mul_comm;
    mul_assoc = mul_assoc;
    mul-one = mul-one;
    mul-add = λ a b c _ _ _. right a b c;
    mul-inv = λ a p h. eqb→eq _ _ (both_right _ _ (inv_test_at a h)) ∙ pick_one a p;
    inv-zero = eqb→eq _ _ t.inv-zero;
  }

pub nibble_degree : Degree 4 0x13
nibble_degree = record { some = lit< tt; small = lit≤ tt; top = refl }

nibble_passes : Passes 4 0x13
unfolding product powers
nibble_passes = record { degree = nibble_degree; two = lit< tt; fits = lit< tt; assoc = tt; comm = tt; one = tt; inv = tt; inv-zero = tt }

pub nibble_lawful : Lawful nibble
nibble_lawful = reading_lawful (binary 4 0x13) (binary_laws 4 0x13 nibble_passes)

pub byte_degree : Degree 8 0x11D
byte_degree = record { some = lit< tt; small = lit≤ tt; top = refl }

byte_passes : Passes 8 0x11D
unfolding product powers
byte_passes = record { degree = byte_degree; two = lit< tt; fits = lit< tt; assoc = tt; comm = tt; one = tt; inv = tt; inv-zero = tt }

pub byte_lawful : Lawful byte
byte_lawful = reading_lawful (binary 8 0x11D) (binary_laws 8 0x11D byte_passes)
