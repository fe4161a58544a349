-- Sums over the chunks of a group, with the coefficients in an array. Assumes nothing.
use Rattle.std.proofs.Common.{◌≡◌, ℕ, List, get_or, sym, ap, ◌∙◌, arith}
use Rattle.field.specs.Arithmetic.{Arithmetic, Lawful}
use Rattle.field.specs.Sums.{total, coefficient}
use Rattle.field.proofs.Codes.{zero-mul, total_rest}
use Rattle.coding.specs.declared.group.Kind.{Kind}
use Rattle.coding.specs.declared.group.Group.{Group}
use Rattle.coding.specs.Schemes.{Scheme}
use Rattle.coding.specs.Groups.{size, chunk_of}
use Rattle.coding.specs.Pieces.{Grouped, Weights, ParityOf}
use Rattle.coding.proofs.Parities.{total_same}
use Rattle.coding.proofs.Grouping.{group_sum}

module _ (A : Arithmetic) (L : Lawful A) where
  -- what is past the chunks of the group adds nothing
  pub weighted : (g : Group) (p : Scheme) (t : Kind) (i : ℕ) → Grouped p t i g → (k : ℕ) (row : List ℕ) → Weights A g k row → (b : ℕ → ℕ) →
      total A 14 (λ e. A.mul (get_or row e 0) (b e)) ≡ total A (size p t) (λ e. A.mul (coefficient A k (p.x (chunk_of p t i e))) (b e))
  weighted g p t i is k row weights b =
      total_rest A L (size p t) 14 (λ e. A.mul (get_or row e 0) (b e)) is.short
      (λ e h. ap (λ z. A.mul z (b e)) (weights.rest e (omega (arith, is.size_is))) ∙ zero-mul A L (b e))
      ∙ total_same A L (size p t) _ _
      (λ e h.
      ap (λ z. A.mul z (b e)) (weights.is e (omega (arith, is.size_is)) (omega (arith, is.short)))
      ∙ ap (λ x. A.mul (coefficient A k x) (b e)) (is.xs_are e h))

  pub parity_is : (g : Group) (k : ℕ) (row a : List ℕ) (r : ℕ) → Weights A g k row → r ≡ total A 14 (λ e. A.mul (get_or row e 0) (get_or a e 0)) → ParityOf A g k a r
  parity_is g k row a r weights e p t i v sound li is holds =
      e ∙ weighted g p t i is k row weights (λ j. get_or a j 0)
      ∙ total_same A L (size p t) _ _ (λ j h. ap (λ z. A.mul (coefficient A k (p.x (chunk_of p t i j))) z) (sym (holds j h)))
      ∙ sym (group_sum A p sound L k v i t li)
