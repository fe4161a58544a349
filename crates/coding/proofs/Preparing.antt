-- What is worked out for a repair is what it needs. Assumes nothing.
use Rattle.std.proofs.Common.{◌≡◌, ℕ, ◌+◌, ◌<◌, ◌≤◌, Bool, not, ◌&&◌, ltb, List, [], length, get_or, sym, ap, ◌∙◌, subst, ⊎_elim, arith}
use Rattle.std.proofs.lemmas.Bool.{and_left, lt-ltb, le-ltb, cases_lt}
use Rattle.field.specs.Arithmetic.{Arithmetic, Lawful}
use Rattle.field.specs.Systems.{Posed, Inverse}
use Rattle.layout.specs.declared.plan.Plan.{Plan}
use Rattle.coding.specs.declared.group.Kind.{Kind}
use Rattle.coding.specs.declared.group.Group.{Group}
use Rattle.coding.specs.declared.repair.Repair.{Repair}
use Rattle.coding.specs.Schemes.{Sound, scheme_of}
use Rattle.coding.specs.Groups.{groups, size, parities, chunk_of, count, nth}
use Rattle.coding.specs.Words.{missing_chunks, missing_pieces}
use Rattle.coding.specs.Pieces.{Grouped, Weights, module_at, x_at}
use Rattle.coding.specs.Steps.{flags, Gone, Left, Positions}
use Rattle.coding.specs.Repairs.{Ready}
use Rattle.coding.proofs.Loops.{and_is}
use Rattle.coding.proofs.Counting.{count_le, count_same, count_cut, count_not, nth_same, nth_cut}
use Rattle.coding.proofs.OfPlan as plan
use Rattle.coding.proofs.Chosen as chosen

module _ (p : Plan) (t : Kind) (i : ℕ) (li : i < groups (scheme_of p) t) (g : Group) (is : Grouped (scheme_of p) t i g) (out : List Bool)
    (xs : List Bool) (xs-long : length xs ≡ 14) (xs_are : Gone g out xs) (ys : List Bool) (ys-long : length ys ≡ 4) (ys-are : Left g out ys) where
  gone : ℕ → Bool
  gone e = flags out ((scheme_of p).column (chunk_of (scheme_of p) t i e))

  held : ℕ → Bool
  held k = not (flags out (p.d2 + k))

  gone_cut : (e : ℕ) → e < 14 → flags xs e ≡ (ltb e (size (scheme_of p) t) && gone e)
  unfolding gone
  gone_cut e h =
      xs_are.is e h
      ∙ ⊎_elim
      (λ (l : e < size (scheme_of p) t).
      ap (λ (z : ℕ). ltb e z && flags out (module_at g e)) is.size_is ∙ ap (λ (z : ℕ). ltb e (size (scheme_of p) t) && flags out z) (is.modules_are e l))
      (λ (l : size (scheme_of p) t ≤ e).
      and_left _ _ (ap (ltb e) is.size_is ∙ le-ltb e (size (scheme_of p) t) l) ∙ sym (and_left _ _ (le-ltb e (size (scheme_of p) t) l)))
      (cases_lt e (size (scheme_of p) t))

  held_cut : (k : ℕ) → k < 4 → flags ys k ≡ (ltb k (parities (scheme_of p) t) && held k)
  unfolding held
  held_cut k h =
      ys-are.is k h ∙ ap (λ (z : ℕ). ltb k z && not (flags out (g.first + k))) is.parities_is
      ∙ ap (λ (z : ℕ). ltb k (parities (scheme_of p) t) && not (flags out (z + k))) is.first_is

  -- how many chunks are missing, and how many parities are left
  gone_count : count (flags xs) 14 ≡ missing_chunks (scheme_of p) t i (flags out)
  unfolding gone
  gone_count =
      count_same (flags xs) (λ e. ltb e (size (scheme_of p) t) && gone e) 14 gone_cut
      ∙ count_cut gone (size (scheme_of p) t) 14 is.short
      ∙ sym (plan.missing_is p t i (flags out) li)

  held_count : count (flags ys) 4 ≡ count held (parities (scheme_of p) t)
  held_count =
      count_same (flags ys) (λ k. ltb k (parities (scheme_of p) t) && held k) 4 held_cut
      ∙ count_cut held (parities (scheme_of p) t) 4 (plan.group_parities_le p t)

  -- the group misses too many pieces, or not
  too_few_counted : count (flags ys) 4 < count (flags xs) 14 → parities (scheme_of p) t < missing_pieces (scheme_of p) t i (flags out)
  unfolding held
  too_few_counted h = omega (arith, gone_count, held_count, count_not (λ k. flags out (p.d2 + k)) (parities (scheme_of p) t))

  enough_counted : count (flags xs) 14 ≤ count (flags ys) 4 → missing_pieces (scheme_of p) t i (flags out) ≤ parities (scheme_of p) t
  unfolding held
  enough_counted h = omega (arith, gone_count, held_count, count_not (λ k. flags out (p.d2 + k)) (parities (scheme_of p) t))

  pub beyond : ltb (count (flags ys) 4) (count (flags xs) 14) ≡ ltb (parities (scheme_of p) t) (missing_pieces (scheme_of p) t i (flags out))
  beyond =
      let n : ℕ = count (flags xs) 14 in
      let m : ℕ = count (flags ys) 4 in
      ⊎_elim (λ (l : m < n). lt-ltb m n l ∙ sym (lt-ltb _ _ (too_few_counted l))) (λ (l : n ≤ m). le-ltb m n l ∙ sym (le-ltb _ _ (enough_counted l))) (cases_lt m n)

  module _ (js : List ℕ) (n : ℕ) (found : Positions xs js n) (ks : List ℕ) (m : ℕ) (left : Positions ys ks m) where
    n_counted : n ≡ count (flags xs) 14
    n_counted = found.count_is ∙ ap (count (flags xs)) xs-long

    m_counted : m ≡ count (flags ys) 4
    m_counted = left.count_is ∙ ap (count (flags ys)) ys-long

    pub count_is : n ≡ missing_chunks (scheme_of p) t i (flags out)
    count_is = n_counted ∙ gone_count

    pub too_few : m < n → parities (scheme_of p) t < missing_pieces (scheme_of p) t i (flags out)
    too_few h = too_few_counted (omega (arith, n_counted, m_counted))

    pub enough : n ≤ m → missing_pieces (scheme_of p) t i (flags out) ≤ parities (scheme_of p) t
    enough h = enough_counted (omega (arith, n_counted, m_counted))

    pub few : n ≤ m → n ≤ 4
    few h = omega (arith, m_counted, held_count, count_le held (parities (scheme_of p) t), plan.group_parities_le p t)

    missing_are : (j : ℕ) → j < 4 → j < n → get_or js j 0 ≡ nth gone (size (scheme_of p) t) j
    missing_are j l h =
        found.are j l h ∙ ap (λ (z : ℕ). nth (flags xs) z j) xs-long ∙ nth_same (flags xs) (λ e. ltb e (size (scheme_of p) t) && gone e) 14 j gone_cut
        ∙ nth_cut gone (size (scheme_of p) t) 14 j is.short

    parities_are : (j : ℕ) → j < 4 → j < m → get_or ks j 0 ≡ nth held (parities (scheme_of p) t) j
    parities_are j l h =
        left.are j l h ∙ ap (λ (z : ℕ). nth (flags ys) z j) ys-long ∙ nth_same (flags ys) (λ k. ltb k (parities (scheme_of p) t) && held k) 4 j held_cut
        ∙ nth_cut held (parities (scheme_of p) t) 4 j (plan.group_parities_le p t)

    module _ (A : Arithmetic) (L : Lawful A) (order_is : A.order ≡ p.order) (some : n ≤ m) (s : Repair) (group_is : s.group ≡ g) (gone_is : s.gone ≡ xs) (n-is : s.count ≡ n)
        (js-is : s.missing ≡ js) (ks-is : s.parities ≡ ks) (sources : (j : ℕ) → j < 4 → get_or s.sources j 0 ≡ g.first + get_or ks j 0)
        (rows : (j : ℕ) → j < n → Weights A g (get_or ks j 0) (get_or s.coefficients j [])) (columns : (j : ℕ) → j < 4 → get_or s.columns j 0 ≡ x_at g (get_or js j 0))
        (inverse : Posed A n ks s.columns → Inverse A n ks s.columns s.inverse) where
      sound : Sound A (scheme_of p)
      sound = plan.sound p A order_is

      js_are : (j : ℕ) → j < n → get_or js j 0 ≡ nth (λ e. flags out ((scheme_of p).column (chunk_of (scheme_of p) t i e))) (size (scheme_of p) t) j
      unfolding gone
      js_are j h = missing_are j (omega (arith, h, few some)) h

      ks_are : (j : ℕ) → j < n → get_or ks j 0 ≡ nth (λ k. not (flags out (p.d2 + k))) (parities (scheme_of p) t) j
      unfolding held
      ks_are j h = parities_are j (omega (arith, h, few some)) (omega (arith, h, some))

      posed : Posed A n ks s.columns
      posed =
          chosen.posed A L (scheme_of p) sound t i li (flags out) (enough some) n js ks count_is js_are ks_are s.columns
          (λ j h.
          columns j (omega (arith, h, few some))
          ∙ is.xs_are (get_or js j 0)
          ((chosen.chunks_listed A L (scheme_of p) sound t i li (flags out) (enough some) n js ks count_is js_are ks_are).below j h))

      pub ready : Ready A (scheme_of p) t i (flags out) s
      unfolding gone
      ready =
          record {
            sound = sound;
            inside = li;
            enough = enough some;
            grouped = subst (Grouped (scheme_of p) t i) (sym group_is) is;
            gone_is = λ e l. ap (λ (zs : List Bool). flags zs e) gone_is ∙ gone_cut e (omega (arith, l, is.short)) ∙ and_is _ _ (lt-ltb e (size (scheme_of p) t) l);
            count_is = n-is ∙ count_is;
            missing_are = λ j h. ap (λ (zs : List ℕ). get_or zs j 0) js-is ∙ js_are j (omega (arith, h, n-is));
            parities_are = λ j h. ap (λ (zs : List ℕ). get_or zs j 0) ks-is ∙ ks_are j (omega (arith, h, n-is));
            sources_are = λ j h.
                sources j (omega (arith, h, n-is, few some)) ∙ ap (λ (x : ℕ). x + get_or ks j 0) is.first_is ∙ ap (λ (zs : List ℕ). p.d2 + get_or zs j 0) (sym ks-is);
            weights = λ j h.
                subst (λ (zs : List ℕ). Weights A s.group (get_or zs j 0) (get_or s.coefficients j [])) (sym ks-is)
                (subst (λ (x : Group). Weights A x (get_or ks j 0) (get_or s.coefficients j [])) (sym group_is) (rows j (omega (arith, h, n-is))));
            columns_are = λ j h.
                columns j (omega (arith, h, n-is, few some)) ∙ ap (λ (zs : List ℕ). x_at g (get_or zs j 0)) (sym js-is) ∙ ap (λ (x : Group). x_at x (get_or s.missing j 0)) (sym group_is);
            inverse_is =
                subst (λ (x : ℕ). Inverse A x s.parities s.columns s.inverse) (sym n-is)
                (subst (λ (zs : List ℕ). Inverse A n zs s.columns s.inverse) (sym ks-is) (inverse posed));
          }
