-- Labels and their bytes. Assumes nothing.
use Rattle.std.proofs.Common.{◌≡◌, ℕ, zero, suc, ◌+◌, ◌*◌, ◌/◌, ◌%◌, ◌<◌, ◌≤◌, Bool, true, false, eqb, List, [], ◌∷◌, length, get_or, drop, Ok, refl, ap, ◌∙◌, lit<, arith}
use Rattle.std.proofs.lemmas.List.FromFn.{fill_by_all}
use Rattle.std.proofs.lemmas.List.{get_or-take, get_or-drop}
use Rattle.std.proofs.lemmas.Bool.{cond-false, or_from, not_from_true, eq-eqb, le-ltb}
use Rattle.std.specs.List.{flat_map}
use Rattle.std.specs.Simd.{first_chunks}
use mir.Val.{bool_byte}
use Rattle.layout.specs.Labels.{packed, flag, number, label_refusal, Reads}
use Rattle.layout.specs.Refusals.{plan_refusal, Judged}
use Rattle.layout.specs.declared.plan.Plan.{Plan}

-- two bytes are those of the number that they make
pair : (a b : ℕ) (xs ys : List ℕ) → a < 256 → b < 256 → xs ≡ ys → a ∷ b ∷ xs ≡ (a + 256 * b) % 256 ∷ (a + 256 * b) / 256 ∷ ys
pair a b xs ys p q e =
    let u : (a + 256 * b) % 256 ≡ a = omega arith in
    let v : (a + 256 * b) / 256 ≡ b = omega arith in
    rw (u, v, e)

module _ (l : List ℕ) (len : length l ≡ 16) (fit : (k : ℕ) → get_or l k 0 < 256) where
  listed : List ℕ
  listed = number l 0 ∷ number l 1 ∷ number l 2 ∷ number l 3 ∷ number l 4 ∷ number l 5 ∷ number l 6 ∷ number l 7 ∷ []

  numbers : l ≡ packed listed
  unfolding listed
  numbers =
      fill_by_all (λ k. get_or l k 0) l 16 0 len (λ k h. refl) ∙
      pair _ _ _ _ (fit 0) (fit 1)
      (pair _ _ _ _ (fit 2) (fit 3)
      (pair _ _ _ _ (fit 4) (fit 5)
      (pair _ _ _ _ (fit 6) (fit 7)
      (pair _ _ _ _ (fit 8) (fit 9)
      (pair _ _ _ _ (fit 10) (fit 11) (pair _ _ _ _ (fit 12) (fit 13) (pair _ _ _ _ (fit 14) (fit 15) refl)))))))

-- a flag is 0 or 1
pub flag_is : (n : ℕ) → n ≤ 1 → n ≡ flag (eqb n 1)
flag_is zero h = refl
flag_is (suc zero) h = refl
flag_is (suc (suc n)) h = omega (arith, h)

-- the numbers ns stand in the bytes l of a label
module _ (l ns : List ℕ) (len : length l ≡ 16) (at : (i : ℕ) → i < 8 → get_or ns i 0 ≡ number l i) (first : get_or ns 0 0 ≡ 1) (last : get_or ns 7 0 ≤ 1) where
  -- they are refused as their plan is
  pub as_plan : label_refusal l ≡ plan_refusal (get_or ns 1 0) (get_or ns 2 0) (get_or ns 3 0) (get_or ns 4 0) (get_or ns 5 0) (get_or ns 6 0)
  as_plan =
      let one : number l 0 ≡ 1 = omega (arith, at 0 (lit< tt)) in
      let flagged : number l 7 ≤ 1 = omega (arith, at 7 (lit< tt)) in
      rw (at 1 (lit< tt), at 2 (lit< tt), at 3 (lit< tt), at 4 (lit< tt), at 5 (lit< tt), at 6 (lit< tt))
      (cond-false _ _ _
      (or_from _ _ (not_from_true _ (eq-eqb _ _ len))
      (or_from _ _ (not_from_true _ (eq-eqb _ _ one)) (le-ltb 1 (number l 7) flagged))))

  -- where the plan is made, the bytes are those of the label that is read
  pub reads : ((k : ℕ) → get_or l k 0 < 256) → (p : Plan) →
      Judged (get_or ns 1 0) (get_or ns 2 0) (get_or ns 3 0) (get_or ns 4 0) (get_or ns 5 0) (get_or ns 6 0) (Ok p) →
      Reads l (Ok (record { plan = p; after = eqb (get_or ns 7 0) 1 }))
  unfolding listed
  reads fit p judged =
      let has = judged.1 in
      let same : listed l len fit ≡ 1 ∷ p.order ∷ p.d ∷ p.r ∷ p.d2 ∷ p.r2 ∷ p.len ∷ flag (eqb (get_or ns 7 0) 1) ∷ [] =
      cc (first, flag_is (get_or ns 7 0) last, at 0 (lit< tt), at 1 (lit< tt), at 2 (lit< tt), at 3 (lit< tt), at 4 (lit< tt), at 5 (lit< tt), at 6 (lit< tt), at 7 (lit< tt)) in
      (as_plan ∙ judged.0, numbers l len fit ∙ ap packed same)

-- each number as its two bytes
pub flattened : (ns : List ℕ) (pairs : List (List ℕ)) → length pairs ≡ length ns →
    ((i : ℕ) → i < length ns → get_or pairs i [] ≡ get_or ns i 0 % 256 ∷ get_or ns i 0 / 256 ∷ []) → flat_map (λ p. p) pairs ≡ packed ns
flattened [] [] len at = refl
flattened [] (p ∷ pairs) len at = absurd (omega (arith, len))
flattened (n ∷ ns) [] len at = absurd (omega (arith, len))
flattened (n ∷ ns) (p ∷ pairs) len at =
    let first : p ≡ n % 256 ∷ n / 256 ∷ [] = at 0 (omega arith) in
    let rest : flat_map (λ p. p) pairs ≡ packed ns = flattened ns pairs (omega (arith, len)) (λ i h. at (suc i) (omega (arith, h))) in
    rw (first, rest)

pub flag_byte : (b : Bool) → bool_byte b ≡ flag b
flag_byte true = refl
flag_byte false = refl

-- byte k of pair i
pub in_pair : (n i k : ℕ) (xs : List ℕ) → i < n → k < 2 → get_or (get_or (first_chunks 2 n xs) i []) k 0 ≡ get_or xs (2 * i + k) 0
in_pair zero i k xs h g = absurd (omega (arith, h))
in_pair (suc n) zero k xs h g = let e : 2 * 0 + k ≡ k = omega arith in rw e (get_or-take 2 xs k 0 g)
in_pair (suc n) (suc i) k xs h g =
    let e : 2 * suc i + k ≡ 2 + (2 * i + k) = omega arith in
    rw e (in_pair n i k (drop 2 xs) (omega (arith, h)) g ∙ get_or-drop 2 xs (2 * i + k) 0)

-- a pair of bytes is a number of the label
pub numbered : (bytes : List ℕ) (pairs : List (List ℕ)) (n i : ℕ) → pairs ≡ first_chunks 2 n bytes → i < n →
    get_or (get_or pairs i []) 0 0 + get_or (get_or pairs i []) 1 0 * 256 ≡ number bytes i
numbered bytes pairs n i e h =
    let low : get_or (get_or (first_chunks 2 n bytes) i []) 0 0 ≡ get_or bytes (2 * i + 0) 0 = in_pair n i 0 bytes h (omega arith) in
    let high : get_or (get_or (first_chunks 2 n bytes) i []) 1 0 ≡ get_or bytes (2 * i + 1) 0 = in_pair n i 1 bytes h (omega arith) in
    let none : 2 * i + 0 ≡ 2 * i = omega arith in
    rw (e, low, high, none) (omega arith)
