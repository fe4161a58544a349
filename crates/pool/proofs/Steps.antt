-- Every call of a pool follows the book. Assumes nothing.
use Rattle.std.proofs.Common.{◌≡◌, ℕ, ◌<◌, ◌≤◌, Bool, true, false, not, ◌&&◌, ltb, leb, Some, None, Option, sym, refl, ap, ◌∙◌, subst, MatchOption, Ok, Err}
use Rattle.std.proofs.lemmas.Bool.{leb-false, ltb-false, not-true, not-false, both_ways}
use Rattle.layout.specs.declared.refusal.Refusal.{Refusal}
use Rattle.field.specs.Arithmetic.{Arithmetic, Lawful}
use Rattle.coding.specs.Schemes.{Scheme, Sound}
use Rattle.coding.specs.Groups.{groups}
use Rattle.pool.specs.declared.kinds.Phase.{Phase}
use Rattle.pool.specs.declared.kinds.Phase.TheVariants.{Before, UnderWay}
use Rattle.pool.specs.declared.kinds.Call.{Call}
use Rattle.pool.specs.declared.kinds.Call.TheVariants.{Read, Write, Pull, Refit, Begin, Carry, Ready, Close, Drop}
use Rattle.pool.specs.Replies.{Answer}
use Rattle.pool.specs.declared.kinds.Reply.TheVariants.{Symbol, Carried}
use Rattle.pool.specs.Book.{Book, settled, group_of, modules, lowest, beyond, holds_piece, refusal, is_before, granted, noted, answer_by, note_by, book_refusal, carried_data, carried_parities}
use Rattle.pool.specs.Standing.{Standing, out_of, Kept}
use Rattle.pool.specs.Agrees.{Agrees}
use Rattle.pool.specs.Effects.{Effect, Does}
use Rattle.pool.specs.Law.{of_changeover, DataKept, Follows}
use Rattle.pool.proofs.Refusing.{lowest_none, passes, passes_at, passes_under_way, is_before_lem, refused_alike}
use Rattle.pool.proofs.Reading.{holds_image}
use Rattle.pool.proofs.Writing.{write_agrees}
use Rattle.pool.proofs.Carrying.{begun_chunk, begin_agrees, carried_chunk, carry_agrees, close_agrees, drop_agrees}
use Rattle.pool.proofs.Fitting.{pull_agrees, refit_agrees}

-- a call that its checks refuse, and one that they accept
pub does_refused : (A : Arithmetic) (p : Scheme) (s : Standing) (c : Call) (a : Answer) (t : Standing) (e : Refusal) →
    refusal p A.order s.phase s.carried (out_of s) c ≡ Some e → a ≡ Err e → t ≡ s → Does A p s c a t
does_refused A p s c a t e r is same =
    subst (λ (o : Option Refusal). MatchOption o (Effect A p s c a t) (λ e. (a ≡ Err e) × (t ≡ s))) (sym r) (is, same)

pub does_granted : (A : Arithmetic) (p : Scheme) (s : Standing) (c : Call) (a : Answer) (t : Standing) →
    refusal p A.order s.phase s.carried (out_of s) c ≡ None → Effect A p s c a t → Does A p s c a t
does_granted A p s c a t r f = subst (λ (o : Option Refusal). MatchOption o (Effect A p s c a t) (λ e. (a ≡ Err e) × (t ≡ s))) (sym r) f

-- what the checks that a call has passed say
pub record WordFits (p : Scheme) (ph : Phase) (out : ℕ → Bool) (c o : ℕ) : Type 0 where
  pub chunk : c < p.chunks
  pub offset : o < p.len
  pub whole : (out (p.column c) && beyond p (settled ph) out (group_of p (settled ph) c)) ≡ false

pub read_fits : (p : Scheme) (q : ℕ) (ph : Phase) (n : ℕ) (out : ℕ → Bool) (c o : ℕ) → refusal p q ph n out (Read c o) ≡ None → WordFits p ph out c o
read_fits p q ph n out c o e =
    let a = passes (leb p.chunks c) _ _ e in
    let b = passes (leb p.len o) _ _ a.1 in
    record { chunk = leb-false p.chunks c a.0; offset = leb-false p.len o b.0; whole = (passes (out (p.column c) && beyond p (settled ph) out (group_of p (settled ph) c)) _ _ b.1).0 }

pub write_fits : (p : Scheme) (q : ℕ) (ph : Phase) (n : ℕ) (out : ℕ → Bool) (c o v : ℕ) → refusal p q ph n out (Write c o v) ≡ None → WordFits p ph out c o × (v < q)
write_fits p q ph n out c o v e =
    let a = passes (leb p.chunks c) _ _ e in
    let b = passes (leb p.len o) _ _ a.1 in
    let d = passes (leb q v) _ _ b.1 in (
      record { chunk = leb-false p.chunks c a.0; offset = leb-false p.len o b.0; whole = (passes (out (p.column c) && beyond p (settled ph) out (group_of p (settled ph) c)) _ _ d.1).0 },
      leb-false q v d.0,
    )

pub pull_fits : (p : Scheme) (q : ℕ) (ph : Phase) (n : ℕ) (out : ℕ → Bool) (m : ℕ) → refusal p q ph n out (Pull m) ≡ None → (m < modules p) × (out m ≡ false)
pull_fits p q ph n out m e =
    let a = passes (leb (modules p) m) _ _ e in
    (leb-false (modules p) m a.0, (passes (out m) _ _ a.1).0)

pub record RefitFits (p : Scheme) (ph : Phase) (out : ℕ → Bool) (m : ℕ) : Type 0 where
  pub inside : m < modules p
  pub is_out : out m ≡ true
  pub fine : (i : ℕ) → i < groups p (settled ph) → (holds_piece p (settled ph) m i && beyond p (settled ph) out i) ≡ false

pub refit_fits : (p : Scheme) (q : ℕ) (ph : Phase) (n : ℕ) (out : ℕ → Bool) (m : ℕ) → refusal p q ph n out (Refit m) ≡ None → RefitFits p ph out m
refit_fits p q ph n out m e =
    let a = passes (leb (modules p) m) _ _ e in
    let b = passes (not (out m)) _ _ a.1 in
    let test : ℕ → Bool = λ i. holds_piece p (settled ph) m i && beyond p (settled ph) out i in
    record {
      inside = leb-false (modules p) m a.0;
      is_out = not-false (out m) b.0;
      fine = lowest_none test (groups p (settled ph)) (passes_at (lowest test (groups p (settled ph))) _ b.1);
    }

pub begin_fits : (p : Scheme) (q : ℕ) (ph : Phase) (n : ℕ) (out : ℕ → Bool) → refusal p q ph n out Begin ≡ None → (ph ≡ Before) × ((m : ℕ) → m < modules p → out m ≡ false)
begin_fits p q ph n out e =
    let a = passes (not (is_before ph)) _ _ e in
    (is_before_lem ph a.0, lowest_none out (modules p) (passes_at (lowest out (modules p)) _ a.1))

pub carry_fits : (p : Scheme) (q : ℕ) (ph : Phase) (n : ℕ) (out : ℕ → Bool) → refusal p q ph n out Carry ≡ None → (ph ≡ UnderWay) × (n < p.stripes)
carry_fits p q ph n out e =
    let a = passes_under_way ph _ e in
    (a.0, leb-false p.stripes n (passes (leb p.stripes n) _ _ a.1).0)

pub close_fits : (p : Scheme) (q : ℕ) (ph : Phase) (n : ℕ) (out : ℕ → Bool) → refusal p q ph n out Close ≡ None → (ph ≡ UnderWay) × (p.stripes ≤ n)
close_fits p q ph n out e =
    let a = passes_under_way ph _ e in
    (a.0, ltb-false n p.stripes (passes (ltb n p.stripes) _ _ a.1).0)

-- an accepted call answers what the book does, and leaves pool and book in agreement
abbrev pub Grants : Arithmetic → Scheme → Standing → Book → Call → Answer → Standing → Type 0
Grants A p s b c a t = (a ≡ granted p b c) × Agrees A p t (noted b c) × (of_changeover c ≡ true → DataKept p s.held t.held)

no_changeover : {X : Type 0} → false ≡ true → X
no_changeover e = absurd (both_ways true (sym e) refl)

module _ (A : Arithmetic) (L : Lawful A) (p : Scheme) (sound : Sound A p) (s : Standing) (b : Book) (kept : Kept A p s) (agrees : Agrees A p s b) where
  -- a standing that is as told agrees with the book
  told : (t u : Standing) (d : Book) → t ≡ u → Agrees A p u d → Agrees A p t d
  told t u d e h = subst (λ (x : Standing). Agrees A p x d) (sym e) h

  -- a call that leaves the symbols as they are keeps the data
  same_data : (t u : Standing) → t ≡ u → DataKept p s.held u.held → DataKept p s.held t.held
  same_data t u e h = subst (λ (x : Standing). DataKept p s.held x.held) (sym e) h

  grants : (c : Call) (a : Answer) (t : Standing) → refusal p A.order s.phase s.carried (out_of s) c ≡ None → Effect A p s c a t → Grants A p s b c a t
  grants (Read c o) a t e f =
      let fits = read_fits p A.order s.phase s.carried (out_of s) c o e in
      let is : f.0 ≡ b.image c o = holds_image A L p sound s b agrees c o f.0 fits.chunk fits.offset fits.whole f.1 in
      (f.2 ∙ ap (λ (v : ℕ). Ok (Symbol v)) is, told t s b f.3 agrees, no_changeover)
  grants (Write c o v) a t e f =
      let both = write_fits p A.order s.phase s.carried (out_of s) c o v e in
      let fits = both.0 in
      let is : f.0 ≡ b.image c o = holds_image A L p sound s b agrees c o f.0 fits.chunk fits.offset fits.whole f.1 in
      (f.2, told t _ _ f.3 (write_agrees A L p sound s b agrees c o v f.0 fits.chunk fits.offset both.1 is), no_changeover)
  grants (Pull m) a t e f = (f.0, told t _ _ f.1 (pull_agrees A L p sound s b agrees m), no_changeover)
  grants (Refit m) a t e f =
      let fits = refit_fits p A.order s.phase s.carried (out_of s) m e in
      let settles : s.phase ≡ UnderWay → ⊥ = λ w. both_ways (s.held.fitted m) (not-true (s.held.fitted m) fits.is_out) (kept.whole w m fits.inside) in
      (f.2, told t _ _ f.3 (refit_agrees A L p sound s b agrees m f.0 f.1 settles fits.fine), no_changeover)
  grants Begin a t e f =
      let fits = begin_fits p A.order s.phase s.carried (out_of s) e in (
        f.0,
        told t _ _ f.1 (begin_agrees A L p sound s b agrees fits.0),
        λ _. same_data t _ f.1 (λ j o lj lo _. begun_chunk A L p sound s b agrees j o lj),
      )
  grants Carry a t e f =
      let fits = carry_fits p A.order s.phase s.carried (out_of s) e in (
        f.0 ∙ ap (λ n. Ok (Carried (carried_data p n) (carried_parities p))) agrees.carried_is,
        told t _ _ f.1 (carry_agrees A L p sound s b agrees fits.0 fits.1 (kept.whole fits.0)),
        λ _. same_data t _ f.1 (λ j o lj lo _. carried_chunk A L p sound s b agrees s.carried j o lj),
      )
  grants Ready a t e f = (f.0, told t s b f.1 agrees, λ _. same_data t s f.1 (λ j o lj lo _. refl))
  grants Close a t e f =
      let fits = close_fits p A.order s.phase s.carried (out_of s) e in
      (f.0, told t _ _ f.1 (close_agrees A L p sound s b agrees fits.0 fits.1), λ _. same_data t _ f.1 (λ j o lj lo _. refl))
  grants Drop a t e f = (f.0, told t _ _ f.1 (drop_agrees A L p sound s b agrees), λ _. same_data t _ f.1 (λ j o lj lo _. refl))

  -- by whether the call is refused
  by_refusal : (c : Call) (a : Answer) (t : Standing) (r : Option Refusal) → refusal p A.order s.phase s.carried (out_of s) c ≡ r →
      MatchOption r (Effect A p s c a t) (λ e. (a ≡ Err e) × (t ≡ s)) → Follows A p s b c a t
  by_refusal c a t None e f =
      let is : book_refusal p A.order b c ≡ None = sym (refused_alike A p sound s b agrees A.order c) ∙ e in
      let g = grants c a t e f in
      record {
        says = g.0 ∙ ap (λ (o : Option Refusal). answer_by o (granted p b c)) (sym is);
        agrees = subst (λ (o : Option Refusal). Agrees A p t (note_by o (noted b c) b)) (sym is) g.1;
        keeps = g.2;
        does = does_granted A p s c a t e f;
      }
  by_refusal c a t (Some r) e f =
      let is : book_refusal p A.order b c ≡ Some r = sym (refused_alike A p sound s b agrees A.order c) ∙ e in
      record {
        says = f.0 ∙ ap (λ (o : Option Refusal). answer_by o (granted p b c)) (sym is);
        agrees = subst (λ (o : Option Refusal). Agrees A p t (note_by o (noted b c) b)) (sym is) (told t s b f.1 agrees);
        keeps = λ _. same_data t s f.1 (λ j o lj lo _. refl);
        does = does_refused A p s c a t r e f.0 f.1;
      }

-- whatever call is made of a pool that agrees with a book, over any field and any sound scheme, it follows the book
pub step :
    (A : Arithmetic) → Lawful A → (p : Scheme) → Sound A p → (s : Standing) (b : Book) (c : Call) (a : Answer) (t : Standing) →
    Kept A p s → Agrees A p s b → Does A p s c a t → Follows A p s b c a t
step A L p sound s b c a t kept agrees does =
    by_refusal A L p sound s b kept agrees c a t (refusal p A.order s.phase s.carried (out_of s) c) refl does
