-- What a call that is not refused knows, and that a pool refuses what its book refuses. Assumes nothing.
use Rattle.std.proofs.Common.{◌≡◌, ℕ, zero, suc, ◌+◌, ◌<◌, Bool, true, false, not, ◌&&◌, ltb, leb, Some, None, Option, refl, ap, ◌∙◌, not-suc-le-zero, arith}
use Rattle.std.proofs.lemmas.Bool.{leb-false, leb-true}
use Rattle.layout.specs.declared.refusal.Refusal.{Refusal}
use Rattle.field.specs.Arithmetic.{Arithmetic}
use Rattle.coding.specs.declared.group.Kind.{Kind}
use Rattle.coding.specs.Schemes.{Scheme, Sound}
use Rattle.coding.specs.Groups.{groups, parities, member}
use Rattle.coding.specs.Words.{lost, missing_pieces}
use Rattle.coding.proofs.Counting.{count_same}
use Rattle.pool.specs.declared.kinds.Phase.{Phase}
use Rattle.pool.specs.declared.kinds.Phase.TheVariants.{Before, UnderWay, Voided, After}
use Rattle.pool.specs.declared.kinds.Call.{Call}
use Rattle.pool.specs.declared.kinds.Call.TheVariants.{Read, Write, Pull, Refit, Begin, Carry, Ready, Close, Drop}
use Rattle.layout.specs.declared.refusal.Refusal.TheVariants.{WrongPhase, AlreadySo, ModuleOut, BeyondRepair}
use Rattle.pool.specs.Book.{Book, settled, group_of, modules, or_last, lowest, beyond, holds_piece, refuse_if, refuse_at, repair_refusal, under_way_refusal, is_before, phase_number, refusal, book_refusal}
use Rattle.pool.specs.Standing.{Standing, out_of}
use Rattle.pool.specs.Agrees.{Agrees}
use Rattle.pool.proofs.Places.{parity_module, chunk_module}

-- a refusal is not the absence of one
pub never : {X : Type 0} (x : X) → Some x ≡ None → ⊥
never x e = let z : ◌≡◌ {A = ℕ} 0 1 = cc in omega arith

-- one more number has none that passes, so the last does not pass
last_none : (o : Option ℕ) (b : Bool) (n : ℕ) → or_last o b n ≡ None → (o ≡ None) × (b ≡ false)
last_none (Some m) b n e = absurd (never m e)
last_none None true n e = absurd (never n e)
last_none None false n e = (refl, refl)

-- where there is no lowest number that passes, none passes
pub lowest_none : (f : ℕ → Bool) (n : ℕ) → lowest f n ≡ None → (k : ℕ) → k < n → f k ≡ false
lowest_none f zero e k l = absurd (not-suc-le-zero l)
lowest_none f (suc n) e k l =
    let both = last_none (lowest f n) (f n) n e in
    let before : k < n → f k ≡ false = λ h. lowest_none f n both.0 k h in
    elim (leb n k) as (λ b. leb n k ≡ b → f k ≡ false) [
      | true ↦ λ q. let is : k ≡ n = omega (arith, leb-true n k q) in ap f is ∙ both.1
      | false ↦ λ q. before (leb-false n k q)
    ]
    refl

-- tests that agree have one lowest number
pub lowest_same : (f g : ℕ → Bool) (n : ℕ) → ((k : ℕ) → k < n → f k ≡ g k) → lowest f n ≡ lowest g n
lowest_same f g zero h = refl
lowest_same f g (suc n) h =
    ap (λ o. or_last o (f n) n) (lowest_same f g n (λ k l. h k (omega arith))) ∙ ap (λ b. or_last (lowest g n) b n) (h n (omega arith))

-- a check that refuses nothing is passed, and so are those after it
pub passes : (b : Bool) (e : Refusal) (rest : Option Refusal) → refuse_if b e rest ≡ None → (b ≡ false) × (rest ≡ None)
passes true e rest h = absurd (never e h)
passes false e rest h = (refl, h)

-- the same of a check that names a number, and of the phase that carry, ready and close want
pub passes_at : (o : Option ℕ) (e : ℕ → Refusal) → refuse_at o e ≡ None → o ≡ None
passes_at None e h = refl
passes_at (Some n) e h = absurd (never (e n) h)

pub passes_under_way : (ph : Phase) (rest : Option Refusal) → under_way_refusal ph rest ≡ None → (ph ≡ UnderWay) × (rest ≡ None)
passes_under_way Before rest h = absurd (never (WrongPhase 0) h)
passes_under_way UnderWay rest h = (refl, h)
passes_under_way Voided rest h = absurd (never _ h)
passes_under_way After rest h = absurd (never (WrongPhase 3) h)

-- a phase that counts as not begun is that
pub is_before_lem : (ph : Phase) → not (is_before ph) ≡ false → ph ≡ Before
is_before_lem Before e = refl
is_before_lem UnderWay e = absurd (let z : ◌≡◌ {A = ℕ} 0 1 = cc in omega arith)
is_before_lem Voided e = absurd (let z : ◌≡◌ {A = ℕ} 0 1 = cc in omega arith)
is_before_lem After e = absurd (let z : ◌≡◌ {A = ℕ} 0 1 = cc in omega arith)

-- the checks after one that is passed
guarded : (b : Bool) (e : Refusal) (x y : Option Refusal) → (b ≡ false → x ≡ y) → refuse_if b e x ≡ refuse_if b e y
guarded true e x y h = refl
guarded false e x y h = h refl

-- the rules ask for the modules of the pool alone
module _ (A : Arithmetic) (p : Scheme) (sound : Sound A p) (out out' : ℕ → Bool) (same : (m : ℕ) → m < modules p → out m ≡ out' m) where
  pub misses_same : (t : Kind) (i : ℕ) → missing_pieces p t i out ≡ missing_pieces p t i out'
  misses_same t i =
      let a = count_same (lost p t i out) (lost p t i out') p.chunks (λ j lj. ap (λ b. member p t i j && b) (same (p.column j) (chunk_module A p sound j lj))) in
      let b = count_same (λ k. out (p.d' + k)) (λ k. out' (p.d' + k)) (parities p t) (λ k lk. same (p.d' + k) (parity_module p t k lk)) in
      omega arith

  beyond_same : (t : Kind) (i : ℕ) → beyond p t out i ≡ beyond p t out' i
  beyond_same t i = ap (λ n. ltb (parities p t) n) (misses_same t i)

  repair_same : (ph : Phase) (c : ℕ) → c < p.chunks → repair_refusal p ph out c ≡ repair_refusal p ph out' c
  repair_same ph c lc =
      let i : ℕ = group_of p (settled ph) c in
      ap (λ b. refuse_if (b && beyond p (settled ph) out i) (BeyondRepair i) None) (same (p.column c) (chunk_module A p sound c lc))
      ∙ ap (λ b. refuse_if (out' (p.column c) && b) (BeyondRepair i) None) (beyond_same (settled ph) i)

  -- so modules out that agree there give one refusal
  pub refusal_same : (q : ℕ) (ph : Phase) (n : ℕ) (c : Call) → refusal p q ph n out c ≡ refusal p q ph n out' c
  refusal_same q ph n (Read c o) =
      guarded (leb p.chunks c) _ _ _
      (λ h. guarded (leb p.len o) _ _ _ (λ _. repair_same ph c (leb-false p.chunks c h)))
  refusal_same q ph n (Write c o v) =
      guarded (leb p.chunks c) _ _ _
      (λ h. guarded (leb p.len o) _ _ _ (λ _. guarded (leb q v) _ _ _ (λ _. repair_same ph c (leb-false p.chunks c h))))
  refusal_same q ph n (Pull m) =
      guarded (leb (modules p) m) _ _ _ (λ h. ap (λ b. refuse_if b (AlreadySo m) None) (same m (leb-false (modules p) m h)))
  refusal_same q ph n (Refit m) =
      guarded (leb (modules p) m) _ _ _
      (λ h.
      ap (λ b. refuse_if (not b) (AlreadySo m) (refuse_at (lowest (λ i. holds_piece p (settled ph) m i && beyond p (settled ph) out i) (groups p (settled ph))) BeyondRepair))
      (same m (leb-false (modules p) m h))
      ∙ ap (λ o. refuse_if (not (out' m)) (AlreadySo m) (refuse_at o BeyondRepair))
      (lowest_same (λ i. holds_piece p (settled ph) m i && beyond p (settled ph) out i) (λ i. holds_piece p (settled ph) m i && beyond p (settled ph) out' i) (groups p (settled ph))
      (λ i li. ap (λ b. holds_piece p (settled ph) m i && b) (beyond_same (settled ph) i))))
  refusal_same q ph n Begin =
      ap (λ o. refuse_if (not (is_before ph)) (WrongPhase (phase_number ph)) (refuse_at o ModuleOut)) (lowest_same out out' (modules p) same)
  refusal_same q ph n Carry = refl
  refusal_same q ph n Ready = refl
  refusal_same q ph n Close = refl
  refusal_same q ph n Drop = refl

-- what is fitted is what is not out, so what is not fitted is what is out
out_back : (b c : Bool) → c ≡ not b → not c ≡ b
out_back true c e = ap not e
out_back false c e = ap not e

-- a pool that agrees with a book refuses what the book refuses
pub refused_alike : (A : Arithmetic) (p : Scheme) → Sound A p → (s : Standing) (b : Book) → Agrees A p s b → (q : ℕ) (c : Call) →
    refusal p q s.phase s.carried (out_of s) c ≡ book_refusal p q b c
refused_alike A p sound s b agrees q c =
    refusal_same A p sound (out_of s) b.out (λ m lm. out_back (b.out m) (s.held.fitted m) (agrees.out_is m lm)) q s.phase s.carried c
    ∙ ap (λ ph. refusal p q ph s.carried b.out c) agrees.phase_is
    ∙ ap (λ n. refusal p q b.phase n b.out c) agrees.carried_is
