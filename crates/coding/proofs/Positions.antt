-- A loop that notes the places of flags. Assumes nothing.
use Rattle.std.proofs.Common.{◌≡◌, ℕ, suc, ◌+◌, ◌<◌, ◌≤◌, Bool, true, false, cond, ◌&&◌, eqb, ◌≢◌, List, [], ◌∷◌, length, get_or, set, replicate, sym, refl, ap, ◌∙◌, subst, not-suc-le-zero, add-one, arith, length-set, get_or-set_other, get_or-set_same}
use mathlib.Core.Logic.{by_cases}
use native.Mathlib.Decide.{ℕ_discrete}
use lib.ListN.{get_or-replicate}
use Rattle.std.proofs.lemmas.Bool.{eq-eqb, ne_eqb}
use Rattle.coding.specs.Groups.{count, nth}
use Rattle.coding.specs.Steps.{flags, Positions}
use Rattle.coding.proofs.Counting.{count_le}

-- after the first e flags
pub record Found (xs : List Bool) (e : ℕ) (list : List ℕ) (n : ℕ) : Type 0 where
  pub size : length list ≡ 4
  pub count_is : n ≡ count (flags xs) e
  pub are : (j : ℕ) → j < 4 → j < n → get_or list j 0 ≡ nth (flags xs) e j
  pub inside : (j : ℕ) → j < 4 → get_or list j 0 < length xs

zeros_low : (n j : ℕ) → 0 < n → j < 4 → get_or (replicate 4 0) j 0 < n
zeros_low n j l h = subst (λ (x : ℕ). x < n) (sym (get_or-replicate 4 j 0 0 h)) l

pub begun : (xs : List Bool) → 0 < length xs → Found xs 0 (0 ∷ 0 ∷ 0 ∷ 0 ∷ []) 0
begun xs l = record { size = refl; count_is = refl; are = λ j _ h. absurd (not-suc-le-zero h); inside = λ j. zeros_low (length xs) j l }

module _ (xs : List Bool) (e : ℕ) (list : List ℕ) (n : ℕ) (f : Found xs e list n) where
  pub found_le : n ≤ e
  found_le = omega (arith, f.count_is, count_le (flags xs) e)

  -- a flag that is not set
  pub passed : flags xs e ≡ false → Found xs (e + 1) list n
  passed q =
      subst (λ (i : ℕ). Found xs i list n) (sym (add-one e))
      (record {
        size = f.size;
        count_is = f.count_is ∙ omega arith ∙ sym (ap (λ b. count (flags xs) e + cond b 1 0) q);
        are = λ j l h. f.are j l h ∙ sym (ap (λ b. cond (b && eqb (count (flags xs) e) j) e (nth (flags xs) e j)) q);
        inside = f.inside;
      })

  module _ (q : flags xs e ≡ true) where
    last : nth (flags xs) (suc e) n ≡ e
    last = ap (λ b. cond (b && eqb (count (flags xs) e) n) e (nth (flags xs) e n)) q ∙ ap (λ b. cond b e (nth (flags xs) e n)) (eq-eqb (count (flags xs) e) n (sym f.count_is))

    before : (j : ℕ) → j < n → nth (flags xs) (suc e) j ≡ nth (flags xs) e j
    before j h =
        ap (λ b. cond (b && eqb (count (flags xs) e) j) e (nth (flags xs) e j)) q
        ∙ ap (λ b. cond b e (nth (flags xs) e j)) (ne_eqb (count (flags xs) e) j (λ s. omega (arith, f.count_is, s)))

    more : n + 1 ≡ count (flags xs) (suc e)
    more = ap (λ m. m + 1) f.count_is ∙ sym (ap (λ b. count (flags xs) e + cond b 1 0) q)

    -- one that is set, and noted
    pub noted : n < 4 → e < length xs → Found xs (e + 1) (set list n e) (n + 1)
    noted l le =
        subst (λ (i : ℕ). Found xs i (set list n e) (n + 1)) (sym (add-one e))
        (record {
          size = length-set list n e ∙ f.size;
          count_is = more;
          are = λ j lj h. by_cases (ℕ_discrete j n)
              (λ (s : j ≡ n). subst (λ (i : ℕ). get_or (set list n e) i 0 ≡ nth (flags xs) (suc e) i) (sym s) (get_or-set_same list n e 0 (omega (arith, f.size)) ∙ sym last))
              (λ (ne : j ≢ n). get_or-set_other list n j e 0 ne ∙ f.are j lj (omega arith) ∙ sym (before j (omega arith)));
          inside = λ j lj. by_cases (ℕ_discrete j n)
              (λ (s : j ≡ n). subst (λ (i : ℕ). get_or (set list n e) i 0 < length xs) (sym s) (subst (λ (x : ℕ). x < length xs) (sym (get_or-set_same list n e 0 (omega (arith, f.size)))) le))
              (λ (ne : j ≢ n). subst (λ (x : ℕ). x < length xs) (sym (get_or-set_other list n j e 0 ne)) (f.inside j lj));
        })

    -- one past the fourth
    pub full : 4 ≤ n → Found xs (e + 1) list (n + 1)
    full l =
        subst (λ (i : ℕ). Found xs i list (n + 1)) (sym (add-one e))
        (record {
          size = f.size;
          count_is = more;
          are = λ j lj h. f.are j lj (omega arith) ∙ sym (before j (omega arith));
          inside = f.inside;
        })

  pub positions : e ≡ length xs → Positions xs list n
  positions s =
      record {
        count_is = f.count_is ∙ ap (count (flags xs)) s;
        are = λ j l h. f.are j l h ∙ ap (λ (i : ℕ). nth (flags xs) i j) s;
        inside = f.inside;
      }

pub found_as : (xs : List Bool) (e : ℕ) (list ys : List ℕ) (n m : ℕ) → ys ≡ list → m ≡ n → Found xs e list n → Found xs e ys m
found_as xs e list ys n m s t f = subst (λ (i : ℕ). Found xs e ys i) (sym t) (subst (λ (zs : List ℕ). Found xs e zs n) (sym s) f)
