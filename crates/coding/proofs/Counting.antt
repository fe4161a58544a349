-- How many numbers pass a test, and which they are. Assumes nothing.
use Rattle.std.proofs.Common.{◌≡◌, ℕ, zero, suc, ◌+◌, ◌*◌, ◌<◌, ◌≤◌, Bool, true, false, cond, not, ◌&&◌, eqb, ltb, ◌≢◌, sym, refl, ap, ◌∙◌, subst, not-suc-le-zero, arith}
use mathlib.Core.Logic.{by_cases}
use native.Mathlib.Decide.{ℕ_discrete}
use Rattle.std.proofs.lemmas.Bool.Decides.{nat_tests}
use Rattle.coding.specs.Groups.{count, nth}
use Rattle.coding.proofs.Listed.{Lists}
use Rattle.coding.proofs.Sums as sums
use Rattle.coding.proofs.Sums.{numbers}

-- the first n of the numbers that pass
abbrev pub first : (ℕ → Bool) → ℕ → ℕ → Bool
first f n k = f k && ltb (count f k) n

pub count_mono : (f : ℕ → Bool) (j l : ℕ) → j ≤ l → count f j ≤ count f l
count_mono f zero zero h = omega arith
count_mono f (suc j) zero h = omega arith
count_mono f j (suc l) h =
    by_cases (ℕ_discrete j (suc l))
    (λ (e : j ≡ suc l). subst (λ (i : ℕ). count f j ≤ count f i) e (omega arith))
    (λ (ne : j ≢ suc l). let a : count f j ≤ count f l = count_mono f j l (omega arith) in omega arith)

clash : (b : Bool) → b ≡ true → b ≡ false → ⊥
clash b p q = let z : ◌≡◌ {A = ℕ} 0 1 = cc in omega arith

-- the last number passes, or not
module _ (f : ℕ → Bool) (l : ℕ) (ih : Lists l (count f l) f (nth f l) (count f)) where
  module _ (q : f l ≡ true) where
    more : count f (suc l) ≡ count f l + 1
    more = ap (λ b. count f l + cond b 1 0) q

    at_last : nth f (suc l) (count f l) ≡ l
    at_last = grind (arith, nat_tests)

    at_others : (e : ℕ) → count f l ≢ e → nth f (suc l) e ≡ nth f l e
    at_others e ne = grind (arith, nat_tests)

    with_last : Lists (suc l) (count f (suc l)) f (nth f (suc l)) (count f)
    with_last =
        record {
          below = λ e le. by_cases (ℕ_discrete (count f l) e)
              (λ (is : count f l ≡ e). subst (λ (i : ℕ). nth f (suc l) i < suc l) is (omega (arith, at_last)))
              (λ (ne : count f l ≢ e). omega (arith, at_others e ne, ih.below e (omega (arith, more))));
          pass = λ e le. by_cases (ℕ_discrete (count f l) e)
              (λ (is : count f l ≡ e). subst (λ (i : ℕ). f (nth f (suc l) i) ≡ true) is (ap f at_last ∙ q))
              (λ (ne : count f l ≢ e). ap f (at_others e ne) ∙ ih.pass e (omega (arith, more)));
          place = λ e le. by_cases (ℕ_discrete (count f l) e)
              (λ (is : count f l ≡ e). subst (λ (i : ℕ). count f (nth f (suc l) i) ≡ i) is (ap (count f) at_last))
              (λ (ne : count f l ≢ e). ap (count f) (at_others e ne) ∙ ih.place e (omega (arith, more)));
          placed = λ j lj pj. by_cases (ℕ_discrete j l)
              (λ (is : j ≡ l). omega (arith, more, ap (count f) is))
              (λ (ne : j ≢ l). omega (arith, more, ih.placed j (omega arith) pj));
          back = λ j lj pj. by_cases (ℕ_discrete j l)
              (λ (is : j ≡ l). subst (λ (i : ℕ). nth f (suc l) (count f i) ≡ i) (sym is) at_last)
              (λ (ne : j ≢ l). at_others (count f j) (omega (arith, ih.placed j (omega arith) pj)) ∙ ih.back j (omega arith) pj);
        }

  module _ (q : f l ≡ false) where
    no_more : count f (suc l) ≡ count f l
    no_more = ap (λ b. count f l + cond b 1 0) q ∙ omega arith

    at_all : (e : ℕ) → nth f (suc l) e ≡ nth f l e
    at_all e = ap (λ b. cond (b && eqb (count f l) e) l (nth f l e)) q

    without : Lists (suc l) (count f (suc l)) f (nth f (suc l)) (count f)
    without =
        record {
          below = λ e le. omega (arith, at_all e, ih.below e (omega (arith, no_more)));
          pass = λ e le. ap f (at_all e) ∙ ih.pass e (omega (arith, no_more));
          place = λ e le. ap (count f) (at_all e) ∙ ih.place e (omega (arith, no_more));
          placed = λ j lj pj.
              let ne : j ≢ l = λ is. clash (f l) (ap f (sym is) ∙ pj) q in
              omega (arith, no_more, ih.placed j (omega arith) pj);
          back = λ j lj pj.
              let ne : j ≢ l = λ is. clash (f l) (ap f (sym is) ∙ pj) q in
              at_all (count f j) ∙ ih.back j (omega arith) pj;
        }

  step : (b : Bool) → f l ≡ b → Lists (suc l) (count f (suc l)) f (nth f (suc l)) (count f)
  step true q = with_last q
  step false q = without q

-- nth lists the numbers that pass
pub counted : (f : ℕ → Bool) (l : ℕ) → Lists l (count f l) f (nth f l) (count f)
counted f zero =
    record {
      below = λ e le. absurd (not-suc-le-zero le);
      pass = λ e le. absurd (not-suc-le-zero le);
      place = λ e le. absurd (not-suc-le-zero le);
      placed = λ j lj pj. absurd (not-suc-le-zero lj);
      back = λ j lj pj. absurd (not-suc-le-zero lj);
    }
counted f (suc l) = step f l (counted f l) (f l) refl

-- one more number
first_more : (f : ℕ → Bool) (n m : ℕ) (b c : Bool) → f m ≡ b → ltb (count f m) n ≡ c → count (first f n) m ≡ cond (ltb (count f m) n) (count f m) n →
    count (first f n) (suc m) ≡ cond (ltb (count f (suc m)) n) (count f (suc m)) n
first_more f n m b c p q ih = grind (arith, nat_tests)

-- the first n are n, or all that pass
pub count_first : (f : ℕ → Bool) (n m : ℕ) → count (first f n) m ≡ cond (ltb (count f m) n) (count f m) n
count_first f zero zero = refl
count_first f (suc n) zero = grind (arith, nat_tests)
count_first f n (suc m) = first_more f n m (f m) (ltb (count f m) n) refl refl (count_first f n m)

pub count_first_all : (f : ℕ → Bool) (n m : ℕ) → n ≤ count f m → count (first f n) m ≡ n
count_first_all f n m h = let e = count_first f n m in grind (arith, nat_tests)

both : (b c : Bool) → (b && c) ≡ true → (b ≡ true) × (c ≡ true)
both b c e = (grind arith, grind arith)

-- the first n of the list that nth makes
pub firsts : (f : ℕ → Bool) (n m : ℕ) → n ≤ count f m → Lists m n (first f n) (nth f m) (count f)
firsts f n m h =
    let all = counted f m in
    record {
      below = λ e le. all.below e (omega arith);
      pass = λ e le. let a = all.pass e (omega arith) in let b = all.place e (omega arith) in grind (arith, nat_tests);
      place = λ e le. all.place e (omega arith);
      placed = λ j lj t. let q : ltb (count f j) n ≡ true = (both (f j) (ltb (count f j) n) t).1 in grind (arith, nat_tests);
      back = λ j lj t. all.back j lj (both (f j) (ltb (count f j) n) t).0;
    }

pub count_le : (f : ℕ → Bool) (n : ℕ) → count f n ≤ n
count_le f zero = omega arith
count_le f (suc n) = let a = count_le f n in grind (arith, nat_tests)

pub count_same : (f g : ℕ → Bool) (n : ℕ) → ((k : ℕ) → k < n → f k ≡ g k) → count f n ≡ count g n
count_same f g zero h = refl
count_same f g (suc n) h = let a = count_same f g n (λ k l. h k (omega arith)) in let b = h n (omega arith) in cc

pub nth_same : (f g : ℕ → Bool) (n e : ℕ) → ((k : ℕ) → k < n → f k ≡ g k) → nth f n e ≡ nth g n e
nth_same f g zero e h = refl
nth_same f g (suc n) e h =
    let a = nth_same f g n e (λ k l. h k (omega arith)) in
    let b = h n (omega arith) in
    let d = count_same f g n (λ k l. h k (omega arith)) in
    cc

pub count_none : (f : ℕ → Bool) (n : ℕ) → ((k : ℕ) → k < n → f k ≡ false) → count f n ≡ 0
count_none f zero h = refl
count_none f (suc n) h = let a = count_none f n (λ k l. h k (omega arith)) in let b = h n (omega arith) in ap (λ t. count f n + cond t 1 0) b ∙ omega arith

not_more : (f : ℕ → Bool) (n : ℕ) (b : Bool) → f n ≡ b → count f n + count (λ k. not (f k)) n ≡ n → count f (suc n) + count (λ k. not (f k)) (suc n) ≡ suc n
not_more f n b q ih = grind (arith, nat_tests)

pub count_not : (f : ℕ → Bool) (n : ℕ) → count f n + count (λ k. not (f k)) n ≡ n
count_not f zero = refl
count_not f (suc n) = not_more f n (f n) refl (count_not f n)

-- those below r
pub count_cut : (f : ℕ → Bool) (r m : ℕ) → r ≤ m → count (λ k. ltb k r && f k) m ≡ count f r
count_cut f r zero h = let z : r ≡ 0 = omega arith in sym (ap (count f) z)
count_cut f r (suc m) h =
    by_cases (ℕ_discrete r (suc m))
    (λ (e : r ≡ suc m). count_same (λ k. ltb k r && f k) f (suc m) (λ k l. grind (arith, nat_tests)) ∙ ap (count f) (sym e))
    (λ (ne : r ≢ suc m). let a = count_cut f r m (omega arith) in let b : ltb m r ≡ false = grind (arith, nat_tests) in grind (arith, nat_tests))

pub nth_cut : (f : ℕ → Bool) (r m e : ℕ) → r ≤ m → nth (λ k. ltb k r && f k) m e ≡ nth f r e
nth_cut f r zero e h = let z : r ≡ 0 = omega arith in sym (ap (λ (i : ℕ). nth f i e) z)
nth_cut f r (suc m) e h =
    by_cases (ℕ_discrete r (suc m))
    (λ (s : r ≡ suc m). nth_same (λ k. ltb k r && f k) f (suc m) e (λ k l. grind (arith, nat_tests)) ∙ ap (λ (i : ℕ). nth f i e) (sym s))
    (λ (ne : r ≢ suc m). let a = nth_cut f r m e (omega arith) in let b : ltb m r ≡ false = grind (arith, nat_tests) in grind (arith, nat_tests))

-- a count is a sum
pub count_is : (f : ℕ → Bool) (n : ℕ) → count f n ≡ sums.sum numbers n (λ j. cond (f j) 1 0)
count_is f zero = refl
count_is f (suc n) = ap (λ z. z + cond (f n) 1 0) (count_is f n)

-- how many of a listed group pass a test
pub count_listed : (l n : ℕ) (g q : ℕ → Bool) (c h : ℕ → ℕ) → Lists l n g c h → count (λ j. g j && q j) l ≡ count (λ e. q (c e)) n
count_listed l n g q c h lists =
    count_is (λ j. g j && q j) l
    ∙ sums.sum_same numbers l (λ j. cond (g j && q j) 1 0) (λ j. sums.only numbers (g j) (cond (q j) 1 0)) (λ j lj. sums.nested numbers (g j) (q j) 1)
    ∙ sums.listed numbers l n g c h lists (λ j. cond (q j) 1 0) ∙ sym (count_is (λ e. q (c e)) n)

-- by columns
sum_le : (n : ℕ) (f g : ℕ → ℕ) → ((j : ℕ) → j < n → f j ≤ g j) → sums.sum numbers n f ≤ sums.sum numbers n g
sum_le zero f g h = omega arith
sum_le (suc n) f g h = omega (arith, sum_le n f g (λ j l. h j (omega arith)), h n (omega arith))

at_out : (s x : ℕ) (b : Bool) → b ≡ true → x ≤ s → x ≤ s * cond b 1 0
at_out s x true e h = omega arith
at_out s x false e h = absurd (let z : ◌≡◌ {A = ℕ} 0 1 = cc in omega arith)

module _ (l n s : ℕ) (g out : ℕ → Bool) (col : ℕ → ℕ) (inside : (j : ℕ) → j < l → col j < n) (few : (m : ℕ) → m < n → count (λ j. g j && eqb (col j) m) l ≤ s) where
  spot : ℕ → ℕ → ℕ
  spot j m = cond (g j && eqb (col j) m && out m) 1 0

  spot_not : (j m : ℕ) → col j ≢ m → spot j m ≡ 0
  unfolding spot
  spot_not j m ne = grind (arith, nat_tests)

  spot_here : (j : ℕ) → spot j (col j) ≡ cond (g j && out (col j)) 1 0
  unfolding spot
  spot_here j = grind (arith, nat_tests)

  by_column : (m : ℕ) → m < n → (b : Bool) → out m ≡ b → sums.sum numbers l (λ j. spot j m) ≤ s * cond (out m) 1 0
  unfolding spot
  by_column m lm true q =
      let e : sums.sum numbers l (λ j. spot j m) ≡ sums.sum numbers l (λ j. cond (g j && eqb (col j) m) 1 0) = sums.sum_same numbers l _ _ (λ j lj. grind (arith, nat_tests)) in
      at_out s (sums.sum numbers l (λ j. spot j m)) (out m) q (omega (arith, few m lm, count_is (λ j. g j && eqb (col j) m) l))
  by_column m lm false q = omega (arith, sums.sum_none numbers l (λ j. spot j m) (λ j lj. grind (arith, nat_tests)))

  times : (k : ℕ) → sums.sum numbers k (λ m. s * cond (out m) 1 0) ≡ s * count out k
  times zero = omega arith
  times (suc k) = omega (arith, times k)

  -- the chunks of a group on the modules that are out, where each module has at most s of them
  pub spread_out : count (λ j. g j && out (col j)) l ≤ s * count out n
  spread_out =
      let a : sums.sum numbers l (λ j. cond (g j && out (col j)) 1 0) ≡ sums.sum numbers l (λ j. sums.sum numbers n (λ m. spot j m)) =
      sums.sum_same numbers l _ _ (λ j lj. sym (sums.sum_one numbers n (col j) (λ m. spot j m) (inside j lj) (λ m lm ne. spot_not j m ne) ∙ spot_here j)) in
      let b = sums.sum_swap numbers l n spot in
      let c : sums.sum numbers n (λ m. sums.sum numbers l (λ j. spot j m)) ≤ sums.sum numbers n (λ m. s * cond (out m) 1 0) = sum_le n _ _ (λ m lm. by_column m lm (out m) refl) in
      omega (arith, count_is (λ j. g j && out (col j)) l, times n)

-- at most one number passes
pub at_most_one : (f : ℕ → Bool) (n : ℕ) → ((a b : ℕ) → a < n → b < n → f a ≡ true → f b ≡ true → a ≡ b) → count f n ≤ 1
at_most_one f n h =
    let lists = counted f n in
    by_cases (ℕ_discrete (count f n) 0) (λ (e : count f n ≡ 0). omega arith)
    (λ (ne : count f n ≢ 0).
    by_cases (ℕ_discrete (count f n) 1) (λ (e : count f n ≡ 1). omega arith)
    (λ (two : count f n ≢ 1).
    let a : 0 < count f n = omega arith in
    let b : 1 < count f n = omega arith in
    let same : nth f n 0 ≡ nth f n 1 = h (nth f n 0) (nth f n 1) (lists.below 0 a) (lists.below 1 b) (lists.pass 0 a) (lists.pass 1 b) in
    omega (arith, lists.place 0 a, lists.place 1 b, ap (count f) same)))
