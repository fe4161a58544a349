-- The laws of arithmetic modulo q; the inverses, which need q to be prime, by a test at each code. Assumes nothing.
use Rattle.std.specs.Prelude.{◌≡◌, ℕ, zero, suc, ◌+◌, ◌-◌, ◌*◌, ◌/◌, ◌%◌, ◌<◌, Bool, T, ◌==◌, nat_lt, refl}
use Rattle.std.proofs.Common.{sym, ap, ◌∙◌, add_comm, add_assoc, add-zero, mul_comm, mul_assoc, mul-one, mul-add, add-mul, mod-lt, mod-eq_of_lt, div-add-mod', mul_right_comm, arith, eqb→eq, ltb→lt, lit<}
use Rattle.std.proofs.Math.Nat.{mod_self, mod-add-mod, add-mod-mod, add-mod, mul-add-mod_self_right}
use Rattle.field.specs.Arithmetic.{Lawful, powers}
use Rattle.field.specs.Binary.{pick}
use Rattle.field.specs.Prime.{modulo, prime}
use Rattle.field.specs.Every.{both, every, every_at, both_left, both_right}
use Rattle.field.specs.OnCodes.{OnCodes, reading_lawful}

abbrev inv-test : ℕ → Bool
inv-test q = every q (λ a. both (nat_lt ((modulo q).inv a) q) ((modulo q).mul a ((modulo q).inv a) == pick a 1))

pick_one : (a : ℕ) → 0 < a → pick a 1 ≡ 1
pick_one zero h = absurd (omega arith)
pick_one (suc a) h = refl

module _ (q : ℕ) where
  mod_mul : (a b : ℕ) → a % q * b % q ≡ a * b % q
  mod_mul a b =
      sym (ap (λ (x : ℕ). x * b % q) (sym (div-add-mod' a q))
      ∙ ap (λ (x : ℕ). x % q) (add-mul (a / q * q) (a % q) b ∙ ap (λ (x : ℕ). x + a % q * b) (mul_right_comm (a / q) q b))
      ∙ mul-add-mod_self_right (a / q * b) q (a % q * b))

  mul-mod : (a b : ℕ) → a * (b % q) % q ≡ a * b % q
  mul-mod a b = ap (λ (x : ℕ). x % q) (mul_comm a (b % q)) ∙ mod_mul b a ∙ ap (λ (x : ℕ). x % q) (mul_comm b a)

  pub modulo_laws : 1 < q → q < 65536 → T (inv-test q) → T ((modulo q).inv 0 == 0) → OnCodes (modulo q)
  modulo_laws two fits inverses zeros =
      let pos : 0 < q = omega arith in
      record {
        two = two;
        fits = fits;
        add-below = λ a b _ _. mod-lt (a + b) pos;
        mul-below = λ a b _ _. mod-lt (a * b) pos;
        neg-below = λ a _. mod-lt (q - a) pos;
        inv-below = λ a h. ltb→lt _ _ (both_left _ _ (every_at q _ inverses a h));
        add_comm = λ a b _ _. ap (λ (x : ℕ). x % q) (add_comm a b);
        add_assoc = λ a b c _ _ _. mod-add-mod (a + b) q c ∙ ap (λ (x : ℕ). x % q) (add_assoc a b c) ∙ sym (add-mod-mod a (b + c) q);
        add-zero = λ a h. ap (λ (x : ℕ). x % q) (add-zero a) ∙ mod-eq_of_lt h;
        add-neg = λ a h. add-mod-mod a (q - a) q ∙ ap (λ (x : ℕ). x % q) (let e : a + (q - a) ≡ q = omega arith in e) ∙ mod_self q;
        mul_comm = λ a b _ _. ap (λ (x : ℕ). x % q) (mul_comm a b);
        mul_assoc = λ a b c _ _ _. mod_mul (a * b) c ∙ ap (λ (x : ℕ). x % q) (mul_assoc a b c) ∙ sym (mul-mod a (b * c));
        mul-one = λ a h. ap (λ (x : ℕ). x % q) (mul-one a) ∙ mod-eq_of_lt h;
        mul-add = λ a b c _ _ _. mul-mod a (b + c) ∙ ap (λ (x : ℕ). x % q) (mul-add a b c) ∙ add-mod (a * b) (a * c) q;
        mul-inv = λ a p h. eqb→eq _ _ (both_right _ _ (every_at q _ inverses a h)) ∙ pick_one a p;
        inv-zero = eqb→eq _ _ zeros;
      }

pub prime_lawful : Lawful prime
unfolding powers
prime_lawful = reading_lawful (modulo 257) (modulo_laws 257 (lit< tt) (lit< tt) tt tt)
