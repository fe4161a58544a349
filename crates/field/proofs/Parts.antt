-- What `eliminate` has written. Assumes nothing.
use Rattle.std.proofs.Common.{◌≡◌, ℕ, ◌<◌, ◌≢◌, List, [], get_or, sym, ap, ◌∙◌}
use Rattle.field.specs.Arithmetic.{Arithmetic}
use Rattle.field.specs.Sums.{minus}
use Rattle.field.specs.Systems.{at}
use Rattle.field.specs.Elimination.{Scaled, Reduced, Stepped}

-- row c and side c are `top` and `side`; every other row is reduced by `top`, and every other side by `side`
pub stepped : (A : Arithmetic) (c : ℕ) (a : List (List ℕ)) (b : List ℕ) (by : ℕ) (top : List ℕ) (side : ℕ) (rows : List (List ℕ)) (sides : List ℕ) →
    by ≡ A.inv (at a c c) → Scaled A by (get_or a c []) top → side ≡ A.mul by (get_or b c 0) →
    get_or rows c [] ≡ top → ((i : ℕ) → i < 4 → i ≢ c → Reduced A (at a i c) (get_or a i []) top (get_or rows i [])) →
    get_or sides c 0 ≡ side → ((i : ℕ) → i < 4 → i ≢ c → get_or sides i 0 ≡ minus A (get_or b i 0) (A.mul (at a i c) side)) → Stepped A c a b rows sides
stepped A c a b by top side rows sides e scale s on reduced on-side less =
    record {
      row = λ j h. ap (λ (r : List ℕ). get_or r j 0) on ∙ scale j h ∙ ap (λ x. A.mul x (at a c j)) e;
      side = on-side ∙ s ∙ ap (λ x. A.mul x (get_or b c 0)) e;
      rows = λ i j hi hj ne. reduced i hi ne j hj ∙ ap (λ (r : List ℕ). minus A (at a i j) (A.mul (at a i c) (get_or r j 0))) (sym on);
      sides = λ i hi ne. less i hi ne ∙ ap (λ x. minus A (get_or b i 0) (A.mul (at a i c) x)) (sym on-side);
    }
