-- The missing chunks of a group, and the parities that stand in for them. Assumes nothing.
use Rattle.std.proofs.Common.{◌≡◌, ℕ, ◌+◌, ◌<◌, ◌≤◌, Bool, not, List, get_or, sym, ap, ◌∙◌, subst, arith}
use Rattle.field.specs.Arithmetic.{Arithmetic, Lawful}
use Rattle.field.specs.Systems.{Posed}
use Rattle.coding.specs.declared.group.Kind.{Kind}
use Rattle.coding.specs.Schemes.{Scheme, Sound}
use Rattle.coding.specs.Groups.{groups, size, parities, chunk_of, index_of, count, nth}
use Rattle.coding.specs.Words.{missing_chunks, missing_pieces, used}
use Rattle.coding.proofs.Listed.{Lists}
use Rattle.coding.proofs.Counting.{counted, firsts, count_le}
use Rattle.coding.proofs.Grouping as grouping
use Rattle.coding.proofs.Rebuilding as rebuilding

-- a list under another name
pub renamed : (l n : ℕ) (P : ℕ → Bool) (js ks at : ℕ → ℕ) → Lists l n P js at → ((e : ℕ) → e < n → ks e ≡ js e) → Lists l n P ks at
renamed l n P js ks at lists same =
    record {
      below = λ e h. subst (λ (j : ℕ). j < l) (sym (same e h)) (lists.below e h);
      pass = λ e h. ap P (same e h) ∙ lists.pass e h;
      place = λ e h. ap at (same e h) ∙ lists.place e h;
      placed = lists.placed;
      back = λ j lj q. same (at j) (lists.placed j lj q) ∙ lists.back j lj q;
    }

module _ (A : Arithmetic) (L : Lawful A) (p : Scheme) (sound : Sound A p) (t : Kind) (i : ℕ) (li : i < groups p t) (out : ℕ → Bool) (enough : missing_pieces p t i out ≤ parities p t)
    (n : ℕ) (js ks : List ℕ) (n-is : n ≡ missing_chunks p t i out)
    (js_are : (j : ℕ) → j < n → get_or js j 0 ≡ nth (λ e. out (p.column (chunk_of p t i e))) (size p t) j)
    (ks_are : (j : ℕ) → j < n → get_or ks j 0 ≡ nth (λ k. not (out (p.d' + k))) (parities p t) j) where
  abbrev gone : ℕ → Bool
  gone e = out (p.column (chunk_of p t i e))

  abbrev held : ℕ → Bool
  held k = not (out (p.d' + k))

  -- the missing chunks, by their places in the group
  pub chunks_listed : Lists (size p t) n (λ e. out (p.column (chunk_of p t i e))) (λ j. get_or js j 0) (count (λ e. out (p.column (chunk_of p t i e))))
  chunks_listed =
      renamed (size p t) n gone (nth gone (size p t)) (λ j. get_or js j 0) (count gone)
      (subst (λ (m : ℕ). Lists (size p t) m gone (nth gone (size p t)) (count gone)) (sym (n-is ∙ grouping.missing_is A p sound t i out li)) (counted gone (size p t)))
      js_are

  -- the parities that are used
  pub parities_listed : Lists (parities p t) n (used p t i out) (λ j. get_or ks j 0) (count (λ k. not (out (p.d' + k))))
  parities_listed =
      renamed (parities p t) n (used p t i out) (nth held (parities p t)) (λ j. get_or ks j 0) (count held)
      (subst (λ (m : ℕ). Lists (parities p t) m (used p t i out) (nth held (parities p t)) (count held)) (sym n-is)
      (firsts held (missing_chunks p t i out) (parities p t) (rebuilding.enough_used A L p sound t i out enough)))
      ks_are

  pub few : n ≤ 4
  few = omega (arith, n-is, rebuilding.enough_used A L p sound t i out enough, count_le held (parities p t), grouping.few_parities A p sound t)

  -- they give a system of equations
  pub posed : (xs : List ℕ) → ((j : ℕ) → j < n → get_or xs j 0 ≡ p.x (chunk_of p t i (get_or js j 0))) → Posed A n ks xs
  posed xs xs_are =
      let members = grouping.members A p sound t i li in
      let place : (j : ℕ) → j < n → get_or js j 0 < size p t = λ j h. chunks_listed.below j h in
      record {
        few = few;
        rows = λ j h. omega (arith, parities_listed.below j h, grouping.few_parities A p sound t);
        columns = λ j h. omega (arith, xs_are j h, sound.points _ (members.below (get_or js j 0) (place j h)));
        ks_once = λ j k hj hk ne e. ne (sym (parities_listed.place j hj) ∙ ap (count held) e ∙ parities_listed.place k hk);
        xs_once = λ j k hj hk ne e.
            let one : chunk_of p t i (get_or js j 0) ≡ chunk_of p t i (get_or js k 0) =
            grouping.apart A p sound t i _ _ (members.below _ (place j hj)) (members.below _ (place k hk)) (members.pass _ (place j hj)) (members.pass _ (place k hk))
            (sym (xs_are j hj) ∙ e ∙ xs_are k hk) in
            let same : get_or js j 0 ≡ get_or js k 0 = sym (members.place _ (place j hj)) ∙ ap (index_of p t) one ∙ members.place _ (place k hk) in
            ne (sym (chunks_listed.place j hj) ∙ ap (count gone) same ∙ chunks_listed.place k hk);
      }
