-- What is left of a group fixes it. Assumes nothing.
use Rattle.std.proofs.Common.{◌≡◌, ℕ, zero, suc, ◌+◌, ◌<◌, ◌≤◌, Bool, true, false, not, ◌&&◌, ◌||◌, ltb, List, get_or, sym, refl, ap, ◌∙◌, subst, arith}
use Rattle.std.proofs.lemmas.Bool.{and_parts, and_from, not-true, ltb-true}
use Rattle.field.specs.Arithmetic.{Arithmetic, Lawful}
use Rattle.field.specs.Sums.{minus}
use Rattle.field.proofs.Ring.{Field}
use Rattle.field.proofs.Linear as linear
use Rattle.field.proofs.Unique as systems
use Rattle.field.proofs.Codes.{Code, field, code, one_number, code_inv, code_minus}
use Rattle.coding.specs.declared.group.Kind.{Kind}
use Rattle.coding.specs.Schemes.{Scheme, Sound}
use Rattle.coding.specs.Groups.{groups, size, parities, member, chunk_of, index_of, share, parity, count, nth}
use Rattle.coding.specs.Words.{missing_chunks, missing_pieces, used, Fixed, OneWord}
use Rattle.coding.specs.Repairs.{Rebuilt}
use Rattle.rack.specs.Meaning.{Meaning}
use Rattle.coding.proofs.Listed.{Lists}
use Rattle.coding.proofs.Sums as sums
use Rattle.coding.proofs.Counting.{counted, count_cut, count_not, count_first_all}
use Rattle.coding.proofs.Parities.{codes, code_total, cancelled, C, code_share, parity_below, same_chunks, two_groups, listed}
use Rattle.coding.proofs.Grouping as grouping

dot_is : {K : Type 0} (F : Field K) (n : ℕ) (f u : ℕ → K) → linear.dot F n f u ≡ sums.sum (sums.elements F) n (λ j. F.mul (f j) (u j))
dot_is F zero f u = refl
dot_is F (suc n) f u = ap (λ z. F.add z (F.mul (f n) (u n))) (dot_is F n f u)

one_part : (b c : Bool) → (b && c && (b && not c)) ≡ false
one_part true true = refl
one_part true false = refl
one_part false true = refl
one_part false false = refl

parts : (b c : Bool) → b ≡ ((b && c) || (b && not c))
parts true true = refl
parts true false = refl
parts false true = refl
parts false false = refl

-- v and w agree on the chunks of g that are not gone and on the parities that are held
pub record Alike (A : Arithmetic) (p : Scheme) (g gone held : ℕ → Bool) (v w : ℕ → ℕ) : Type 0 where
  pub chunks : (j : ℕ) → j < p.chunks → g j ≡ true → gone j ≡ false → v j ≡ w j
  pub parities : (k : ℕ) → k < 4 → held k ≡ true → parity A p g k v ≡ parity A p g k w

-- the chunks of a group have points of their own
abbrev pub Apart : Scheme → (ℕ → Bool) → Type 0
Apart p g = (i j : ℕ) → i < p.chunks → j < p.chunks → g i ≡ true → g j ≡ true → p.x i ≡ p.x j → i ≡ j

-- at least as many parities are held as chunks are gone
abbrev pub Enough : Scheme → (ℕ → Bool) → (ℕ → Bool) → (ℕ → Bool) → Type 0
Enough p g gone held = count (λ j. g j && gone j) p.chunks ≤ count held 4

abbrev pub Codes : Arithmetic → Scheme → (ℕ → ℕ) → Type 0
Codes A p v = (j : ℕ) → j < p.chunks → v j < A.order

module _ (A : Arithmetic) (L : Lawful A) (p : Scheme) (sound : Sound A p) where
  module _ (g gone held : ℕ → Bool) (v w : ℕ → ℕ) (apart : Apart p g) (enough : Enough p g gone held) (hv : Codes A p v) (hw : Codes A p w) (alike : Alike A p g gone held v w) where
    away : ℕ → Bool
    away j = g j && gone j

    -- the chunks that are gone have the same parities
    away_parity : (k : ℕ) → k < 4 → held k ≡ true → parity A p away k v ≡ parity A p away k w
    unfolding away
    away_parity k lk h =
        let there : ℕ → Bool = λ j. g j && not (gone j) in
        let split : (u : ℕ → ℕ) → parity A p g k u ≡ A.add (parity A p away k u) (parity A p there k u) =
        λ u. two_groups A L p k u away there g (λ j lj. one_part (g j) (gone j)) (λ j lj. parts (g j) (gone j)) in
        let same : parity A p there k v ≡ parity A p there k w =
        same_chunks A L p k there v w (λ j lj t. let b = and_parts (g j) (not (gone j)) t in alike.chunks j lj b.0 (not-true (gone j) b.1)) in
        cancelled A L (parity A p away k v) (parity A p away k w) (parity A p there k w) (parity_below A L p k away v) (parity_below A L p k away w)
        (ap (λ z. A.add (parity A p away k v) z) (sym same) ∙ sym (split v) ∙ alike.parities k lk h ∙ split w)

    n : ℕ
    n = count away p.chunks

    js : ℕ → ℕ
    js = nth away p.chunks

    lists : Lists p.chunks n away js (count away)
    unfolding n js
    lists = counted away p.chunks

    use_k : ℕ → ℕ
    use_k = nth held 4

    ks : Lists 4 (count held 4) held use_k (count held)
    unfolding use_k
    ks = counted held 4

    held_k : (i : ℕ) → i < n → i < count held 4
    unfolding n away
    held_k i h = omega (arith, enough)

    M : ℕ → ℕ → Code A L
    M i e = C A L p (use_k i) (js e)

    row_sum : (u : ℕ → ℕ) (i : ℕ) → i < n → code A L (parity A p away (use_k i) u) ≡ linear.dot (field A L) n (M i) (λ e. code A L (u (js e)))
    unfolding M
    row_sum u i hi =
        ap (code A L) (listed A L p (use_k i) u n away js (count away) lists)
        ∙ code_total A L n (λ e. share A p (use_k i) (js e) (u (js e)))
        ∙ sums.sum_same (codes A L) n (λ e. code A L (share A p (use_k i) (js e) (u (js e)))) (λ e. (field A L).mul (M i e) (code A L (u (js e))))
        (λ e le. code_share A L p (use_k i) (js e) (u (js e)))
        ∙ sym (dot_is (field A L) n (M i) (λ e. code A L (u (js e))))

    xpoint : ℕ → Code A L
    xpoint i = code A L (use_k i)

    ypoint : ℕ → Code A L
    ypoint e = code A L (4 + p.x (js e))

    k_below : (i e : ℕ) → i < n → e < n → use_k i < A.order
    k_below i e hi he = omega (arith, ks.below i (held_k i hi), sound.points (js e) (lists.below e he))

    M-is : (i e : ℕ) → i < n → e < n → M i e ≡ (field A L).inv ((field A L).add (xpoint i) ((field A L).neg (ypoint e)))
    unfolding M xpoint ypoint C
    M-is i e hi he = code_inv A L (minus A (use_k i) (4 + p.x (js e))) ∙ ap (field A L).inv (code_minus A L (use_k i) (4 + p.x (js e)))

    in_g : (e : ℕ) → e < n → g (js e) ≡ true
    unfolding away
    in_g e he = (and_parts (g (js e)) (gone (js e)) (lists.pass e he)).0

    points : linear.Points (field A L) n xpoint ypoint
    unfolding xpoint ypoint
    points =
        record {
          apart = λ i e hi he z.
              let b = sound.points (js e) (lists.below e he) in
              let same : use_k i ≡ 4 + p.x (js e) = one_number A L _ _ (k_below i e hi he) b (linear.equal (field A L) (xpoint i) (ypoint e) z) in
              omega (arith, ks.below i (held_k i hi));
          x_once = λ i j hi hj ne z.
              let same : use_k i ≡ use_k j = one_number A L _ _ (k_below i j hi hj) (k_below j j hj hj) z in
              ne (sym (ks.place i (held_k i hi)) ∙ ap (count held) same ∙ ks.place j (held_k j hj));
          y_once = λ i j hi hj ne z.
              let li = lists.below i hi in
              let lj = lists.below j hj in
              let same : 4 + p.x (js i) ≡ 4 + p.x (js j) = one_number A L _ _ (sound.points (js i) li) (sound.points (js j) lj) z in
              let one : js i ≡ js j = apart (js i) (js j) li lj (in_g i hi) (in_g j hj) (omega arith) in
              ne (sym (lists.place i hi) ∙ ap (count away) one ∙ lists.place j hj);
        }

    -- a chunk that is gone
    found : (e : ℕ) → e < n → v (js e) ≡ w (js e)
    found e he =
        let same : code A L (v (js e)) ≡ code A L (w (js e)) =
        systems.unique (field A L) n xpoint ypoint M (λ i. linear.dot (field A L) n (M i) (λ e. code A L (w (js e)))) (λ e. code A L (v (js e))) (λ e. code A L (w (js e)))
        points M-is
        (λ i hi. sym (row_sum v i hi) ∙ ap (code A L) (away_parity (use_k i) (ks.below i (held_k i hi)) (ks.pass i (held_k i hi))) ∙ row_sum w i hi)
        (λ i hi. refl) e he in
        one_number A L _ _ (hv (js e) (lists.below e he)) (hw (js e) (lists.below e he)) same

    by : (j : ℕ) → j < p.chunks → g j ≡ true → (b : Bool) → gone j ≡ b → v j ≡ w j
    unfolding away
    by j lj t false q = alike.chunks j lj t q
    by j lj t true q =
        let is : away j ≡ true = and_from (g j) (gone j) t q in
        subst (λ (i : ℕ). v i ≡ w i) (lists.back j lj is) (found (count away j) (lists.placed j lj is))

  -- what is left fixes every chunk of the group
  pub fixes : (g gone held : ℕ → Bool) (v w : ℕ → ℕ) → Apart p g → Enough p g gone held → Codes A p v → Codes A p w →
      Alike A p g gone held v w → (j : ℕ) → j < p.chunks → g j ≡ true → v j ≡ w j
  fixes g gone held v w apart enough hv hw alike j lj t = by g gone held v w apart enough hv hw alike j lj t (gone j) refl

  -- there are as many parities in use as chunks are out
  pub enough_used : (t : Kind) (i : ℕ) (out : ℕ → Bool) → missing_pieces p t i out ≤ parities p t → missing_chunks p t i out ≤ count (λ q. not (out (p.d' + q))) (parities p t)
  enough_used t i out h = omega (arith, count_not (λ k. out (p.d' + k)) (parities p t))

  pub used_count : (t : Kind) (i : ℕ) (out : ℕ → Bool) → missing_pieces p t i out ≤ parities p t → count (used p t i out) (parities p t) ≡ missing_chunks p t i out
  used_count t i out h = count_first_all (λ q. not (out (p.d' + q))) (missing_chunks p t i out) (parities p t) (enough_used t i out h)

  -- the first pieces fix the group
  pub one_word : OneWord A p
  one_word t i out w o v u li enough fv fu j lj tj =
      let held : ℕ → Bool = λ k. ltb k (parities p t) && used p t i out k in
      let all : count held 4 ≡ missing_chunks p t i out = count_cut (used p t i out) (parities p t) 4 (grouping.few_parities A p sound t) ∙ used_count t i out enough in
      fixes (member p t i) (λ j. out (p.column j)) held v u (grouping.apart A p sound t i) (omega (arith, all)) fv.codes fu.codes
      (record {
        chunks = λ j lj t q. fv.on_chunks j lj t q ∙ sym (fu.on_chunks j lj t q);
        parities = λ k lk h.
            let b = and_parts (ltb k (parities p t)) (used p t i out k) h in
            let l : k < parities p t = ltb-true k (parities p t) b.0 in
            fv.on_parities k l b.1 ∙ sym (fu.on_parities k l b.1);
      })
      j lj tj

  -- where the rack holds the pieces of a word, what a repair answers is that word
  pub recovered : (t : Kind) (i : ℕ) (out : ℕ → Bool) (w : Meaning) (o : ℕ) (a : List ℕ) (v : ℕ → ℕ) → i < groups p t → missing_pieces p t i out ≤ parities p t →
      Rebuilt A p t i out w o a → Fixed A p t i out w o v → (e : ℕ) → e < size p t → get_or a e 0 ≡ v (chunk_of p t i e)
  recovered t i out w o a v li enough r fv e le =
      let lists = grouping.members A p sound t i li in
      ap (λ (k : ℕ). get_or a k 0) (sym (lists.place e le))
      ∙ one_word t i out w o (λ j. get_or a (index_of p t j) 0) v li enough r.fixed fv (chunk_of p t i e) (lists.below e le) (lists.pass e le)
