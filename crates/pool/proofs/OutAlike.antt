-- Only the modules of a pool matter among those that are out. Assumes nothing.
use Rattle.std.proofs.Common.{◌≡◌, ℕ, ◌+◌, ◌<◌, ◌≤◌, Bool, true, false, cond, not, ◌&&◌, ltb, Some, None, Option, sym, ap, ◌∙◌, ⊎_elim, arith}
use Rattle.std.proofs.lemmas.Bool.{and_parts, and_left, not-true, le-ltb, cond-false, cases_lt}
use Rattle.field.specs.Arithmetic.{Arithmetic}
use Rattle.rack.specs.Meaning.{Meaning}
use Rattle.coding.specs.declared.group.Kind.{Kind}
use Rattle.coding.specs.Schemes.{Scheme, Sound}
use Rattle.coding.specs.Groups.{parities, member, slot_of, count}
use Rattle.coding.specs.Words.{lost, missing_chunks, used, Fixed}
use Rattle.coding.specs.Repairs.{used_parity}
use Rattle.coding.proofs.Counting.{count_same}
use Rattle.pool.specs.Book.{modules}
use Rattle.pool.proofs.Places.{parity_module, chunk_module}

-- what the first pieces fix depends on the symbols of modules that are not out, and on which modules of the pool are out
module _ (A : Arithmetic) (p : Scheme) (sound : Sound A p) (out out' : ℕ → Bool) (same : (n : ℕ) → n < modules p → out n ≡ out' n) (t : Kind) (i : ℕ) where
  missing_same : missing_chunks p t i out ≡ missing_chunks p t i out'
  missing_same = count_same (lost p t i out) (lost p t i out') p.chunks (λ j lj. ap (λ b. member p t i j && b) (same (p.column j) (chunk_module A p sound j lj)))

  pub used_same : (k : ℕ) → k < parities p t → used p t i out k ≡ used p t i out' k
  used_same k lk =
      let a : out (p.d' + k) ≡ out' (p.d' + k) = same (p.d' + k) (parity_module p t k lk) in
      let b : count (λ q. not (out (p.d' + q))) k ≡ count (λ q. not (out' (p.d' + q))) k =
      count_same (λ q. not (out (p.d' + q))) (λ q. not (out' (p.d' + q))) k (λ q lq. ap not (same (p.d' + q) (parity_module p t q (omega arith)))) in
      ap (λ x. not x && ltb (count (λ q. not (out (p.d' + q))) k) (missing_chunks p t i out)) a
      ∙ ap (λ n. not (out' (p.d' + k)) && ltb n (missing_chunks p t i out)) b
      ∙ ap (λ n. not (out' (p.d' + k)) && ltb (count (λ q. not (out' (p.d' + q))) k) n) missing_same

  pub fixed_same : (w w' : Meaning) (u : ℕ) (v : ℕ → ℕ) → ((n slot b : ℕ) → out n ≡ false → w.symbol n slot b ≡ w'.symbol n slot b) → Fixed A p t i out w u v → Fixed A p t i out' w' u v
  fixed_same w w' u v agree fixed =
      record {
        codes = fixed.codes;
        on_chunks = λ j lj mem o.
            let fitted : out (p.column j) ≡ false = same (p.column j) (chunk_module A p sound j lj) ∙ o in
            fixed.on_chunks j lj mem fitted ∙ agree (p.column j) (p.row j) u fitted;
        on_parities = λ k lk us.
            let is : used p t i out k ≡ true = used_same k lk ∙ us in
            let fitted : out (p.d' + k) ≡ false = not-true (out (p.d' + k)) (and_parts (not (out (p.d' + k))) (ltb (count (λ q. not (out (p.d' + q))) k) (missing_chunks p t i out)) is).0 in
            fixed.on_parities k lk is ∙ agree (p.d' + k) (slot_of p t i) u fitted;
      }

  pub parity_same : (w : Meaning) (o k : ℕ) → used_parity p t i out w o k ≡ used_parity p t i out' w o k
  parity_same w o k =
      let found : Option ℕ = Some (w.symbol (p.d' + k) (slot_of p t i) o) in
      ⊎_elim
      (λ (l : k < parities p t). ap (λ b. cond (ltb k (parities p t) && b) found None) (used_same k l))
      (λ (l : parities p t ≤ k).
      let high : ltb k (parities p t) ≡ false = le-ltb k (parities p t) l in
      cond-false (ltb k (parities p t) && used p t i out k) found None (and_left _ _ high) ∙ sym (cond-false (ltb k (parities p t) && used p t i out' k) found None (and_left _ _ high)))
      (cases_lt k (parities p t))
