-- Algebra in a field whose laws hold of every element. Assumes nothing.
use Rattle.std.proofs.Common.{◌≡◌, sym, refl, ap, ◌∙◌}

pub record Field (K : Type 0) : Type 0 where
  pub 𝟘 : K
  pub 𝟙 : K
  pub add : K → K → K
  pub mul : K → K → K
  pub neg : K → K
  pub inv : K → K
  pub add_comm : (a b : K) → add a b ≡ add b a
  pub add_assoc : (a b c : K) → add (add a b) c ≡ add a (add b c)
  pub add-zero : (a : K) → add a 𝟘 ≡ a
  pub add-neg : (a : K) → add a (neg a) ≡ 𝟘
  pub mul_comm : (a b : K) → mul a b ≡ mul b a
  pub mul_assoc : (a b c : K) → mul (mul a b) c ≡ mul a (mul b c)
  pub mul-one : (a : K) → mul a 𝟙 ≡ a
  pub mul-add : (a b c : K) → mul a (add b c) ≡ add (mul a b) (mul a c)
  pub mul-inv : (a : K) → (a ≡ 𝟘 → ⊥) → mul a (inv a) ≡ 𝟙
  pub one_nonzero : 𝟙 ≡ 𝟘 → ⊥

module _ {K : Type 0} (F : Field K) where
  open F use {𝟘, 𝟙, add as ◌⊕◌, mul as ◌⊗◌, neg, inv}

  infixl 6 ◌⊕◌
  infixl 7 ◌⊗◌
  pub add_comm : (a b : K) → a ⊕ b ≡ b ⊕ a
  add_comm = F.add_comm

  pub add_assoc : (a b c : K) → (a ⊕ b) ⊕ c ≡ a ⊕ (b ⊕ c)
  add_assoc = F.add_assoc

  pub mul_comm : (a b : K) → a ⊗ b ≡ b ⊗ a
  mul_comm = F.mul_comm

  pub mul_assoc : (a b c : K) → (a ⊗ b) ⊗ c ≡ a ⊗ (b ⊗ c)
  mul_assoc = F.mul_assoc

  pub mul-add : (a b c : K) → a ⊗ (b ⊕ c) ≡ a ⊗ b ⊕ a ⊗ c
  mul-add = F.mul-add

  pub add_left : (a b c : K) → a ⊕ (b ⊕ c) ≡ b ⊕ (a ⊕ c)
  add_left a b c = sym (add_assoc a b c) ∙ ap (λ x. x ⊕ c) (add_comm a b) ∙ add_assoc b a c

  pub mul_left : (a b c : K) → a ⊗ (b ⊗ c) ≡ b ⊗ (a ⊗ c)
  mul_left a b c = sym (mul_assoc a b c) ∙ ap (λ x. x ⊗ c) (mul_comm a b) ∙ mul_assoc b a c

  pub add-mul : (a b c : K) → (a ⊕ b) ⊗ c ≡ a ⊗ c ⊕ b ⊗ c
  add-mul a b c = mul_comm (a ⊕ b) c ∙ mul-add c a b ∙ simp mul_comm

  -- sums and products alike up to the semiring's laws
  pub ruleset ring = (mul-add, add-mul, add_assoc, mul_assoc, add_comm, mul_comm, add_left, mul_left)

  -- products alike up to their order
  pub ruleset factors = (mul_assoc, mul_comm, mul_left)

  pub add-zero : (a : K) → a ⊕ 𝟘 ≡ a
  add-zero = F.add-zero

  pub zero_add : (a : K) → 𝟘 ⊕ a ≡ a
  zero_add a = add_comm 𝟘 a ∙ add-zero a

  pub mul-one : (a : K) → a ⊗ 𝟙 ≡ a
  mul-one = F.mul-one

  pub one-mul : (a : K) → 𝟙 ⊗ a ≡ a
  one-mul a = mul_comm 𝟙 a ∙ mul-one a

  pub add-neg : (a : K) → a ⊕ neg a ≡ 𝟘
  add-neg = F.add-neg

  pub neg-add : (a : K) → neg a ⊕ a ≡ 𝟘
  neg-add a = add_comm (neg a) a ∙ add-neg a

  pub mul-inv : (a : K) → (a ≡ 𝟘 → ⊥) → a ⊗ inv a ≡ 𝟙
  mul-inv = F.mul-inv

  -- what is added can be taken away
  pub moved : (a b c : K) → a ⊕ b ≡ c → a ≡ c ⊕ neg b
  moved a b c e = sym (add-zero a) ∙ ap (λ x. a ⊕ x) (sym (add-neg b)) ∙ sym (add_assoc a b (neg b)) ∙ ap (λ x. x ⊕ neg b) e

  pub back : (a b c : K) → a ≡ c ⊕ neg b → a ⊕ b ≡ c
  back a b c e = ap (λ x. x ⊕ b) e ∙ add_assoc c (neg b) b ∙ ap (λ x. c ⊕ x) (neg-add b) ∙ add-zero c

  pub cancel : (a b c : K) → a ⊕ c ≡ b ⊕ c → a ≡ b
  cancel a b c e = moved a c (b ⊕ c) e ∙ sym (moved b c (b ⊕ c) refl)

  pub mul-zero : (a : K) → a ⊗ 𝟘 ≡ 𝟘
  mul-zero a = cancel (a ⊗ 𝟘) 𝟘 (a ⊗ 𝟘) (sym (mul-add a 𝟘 𝟘) ∙ ap (λ x. a ⊗ x) (add-zero 𝟘) ∙ sym (zero_add (a ⊗ 𝟘)))

  pub zero-mul : (a : K) → 𝟘 ⊗ a ≡ 𝟘
  zero-mul a = mul_comm 𝟘 a ∙ mul-zero a

  -- what has an inverse is not zero
  pub nonzero : (a b : K) → a ⊗ b ≡ 𝟙 → a ≡ 𝟘 → ⊥
  nonzero a b e z = F.one_nonzero (sym e ∙ ap (λ x. x ⊗ b) z ∙ zero-mul b)

  pub product : (a b : K) → (a ≡ 𝟘 → ⊥) → (b ≡ 𝟘 → ⊥) → a ⊗ b ≡ 𝟘 → ⊥
  product a b p q =
      nonzero (a ⊗ b) (inv a ⊗ inv b)
      (let r : a ⊗ b ⊗ (inv a ⊗ inv b) ≡ a ⊗ inv a ⊗ (b ⊗ inv b) = simp factors in
      r ∙ ap (λ x. x ⊗ (b ⊗ inv b)) (mul-inv a p) ∙ one-mul (b ⊗ inv b) ∙ mul-inv b q)

  pub inverse : (a : K) → (a ≡ 𝟘 → ⊥) → inv a ≡ 𝟘 → ⊥
  inverse a p = nonzero (inv a) a (mul_comm (inv a) a ∙ mul-inv a p)

  -- one step of the elimination, on the entries of a scaled Cauchy matrix:
  -- d = k₀ - y₀, d + e = k - y₀, d + z = k₀ - y, d + e + z = k - y
  pub schur : (a b a₀ b₀ d e z α β γ δ p : K) → (d ⊕ e ⊕ z) ⊗ α ≡ 𝟙 → (d ⊕ z) ⊗ β ≡ 𝟙 → (d ⊕ e) ⊗ γ ≡ 𝟙 → d ⊗ δ ≡ 𝟙 →
      a₀ ⊗ b₀ ⊗ δ ⊗ p ≡ 𝟙 →
      a ⊗ (e ⊗ γ) ⊗ (b ⊗ (z ⊗ β)) ⊗ α ⊕ a ⊗ b₀ ⊗ γ ⊗ (p ⊗ (a₀ ⊗ b ⊗ β)) ≡ a ⊗ b ⊗ α
  schur a b a₀ b₀ d e z α β γ δ p hα hβ hγ hδ hp =
      let pivot : a₀ ⊗ b₀ ⊗ p ≡ d =
      sym (mul-one (a₀ ⊗ b₀ ⊗ p)) ∙ ap (λ x. a₀ ⊗ b₀ ⊗ p ⊗ x) (sym hδ)
      ∙ (let r : a₀ ⊗ b₀ ⊗ p ⊗ (d ⊗ δ) ≡ d ⊗ (a₀ ⊗ b₀ ⊗ δ ⊗ p) = simp factors in r)
      ∙ ap (λ x. d ⊗ x) hp ∙ mul-one d in
      let num : e ⊗ z ⊗ α ⊕ d ≡ (d ⊕ e) ⊗ (d ⊕ z) ⊗ α =
      ap (λ x. e ⊗ z ⊗ α ⊕ x) (sym (mul-one d) ∙ ap (λ x. d ⊗ x) (sym hα)) ∙ simp ring in
      (let r : a ⊗ (e ⊗ γ) ⊗ (b ⊗ (z ⊗ β)) ⊗ α ⊕ a ⊗ b₀ ⊗ γ ⊗ (p ⊗ (a₀ ⊗ b ⊗ β)) ≡ a ⊗ b ⊗ (γ ⊗ β) ⊗ (e ⊗ z ⊗ α ⊕ a₀ ⊗ b₀ ⊗ p) = simp ring in r)
      ∙ ap (λ x. a ⊗ b ⊗ (γ ⊗ β) ⊗ (e ⊗ z ⊗ α ⊕ x)) pivot
      ∙ ap (λ x. a ⊗ b ⊗ (γ ⊗ β) ⊗ x) num
      ∙ (let r : a ⊗ b ⊗ (γ ⊗ β) ⊗ ((d ⊕ e) ⊗ (d ⊕ z) ⊗ α) ≡ a ⊗ b ⊗ α ⊗ ((d ⊕ e) ⊗ γ ⊗ ((d ⊕ z) ⊗ β)) = simp factors in r)
      ∙ ap (λ x. a ⊗ b ⊗ α ⊗ (x ⊗ ((d ⊕ z) ⊗ β))) hγ
      ∙ ap (λ x. a ⊗ b ⊗ α ⊗ (𝟙 ⊗ x)) hβ
      ∙ ap (λ x. a ⊗ b ⊗ α ⊗ x) (mul-one 𝟙)
      ∙ mul-one (a ⊗ b ⊗ α)
