-- One call more of a list that a pool is made. Assumes nothing.
use Rattle.std.proofs.Common.{◌≡◌, ℕ, ◌<◌, ◌≤◌, List, [], ◌∷◌, ◌++◌, length, take, drop, sym, refl, ap, ◌∙◌, subst, ⊎_elim, arith, take_all}
use Rattle.std.proofs.lemmas.List.{drop_all}
use Rattle.std.proofs.lemmas.Bool.{cases_lt}
use Rattle.field.specs.Arithmetic.{Arithmetic, Lawful}
use Rattle.rack.specs.Meaning.{Meaning}
use Rattle.layout.specs.declared.plan.Plan.{Plan}
use Rattle.coding.specs.Schemes.{scheme_of}
use Rattle.coding.proofs.OfPlan.{sound}
use Rattle.pool.specs.declared.kinds.Call.{Call}
use Rattle.pool.specs.Replies.{Answer}
use Rattle.pool.specs.declared.pool.Pool.{Pool}
use Rattle.pool.specs.Book.{Book, blank}
use Rattle.pool.specs.Standing.{Standing, Kept}
use Rattle.pool.specs.Agrees.{Agrees}
use Rattle.pool.specs.Effects.{Does}
use Rattle.pool.specs.Law.{Runs}
use Rattle.pool.specs.Openings.{laid_over}
use Rattle.pool.specs.Pools.{standing, Held, Obeys}
use Rattle.pool.specs.Replays.{Law, Replays, LaidAndReplayed}
use Rattle.pool.proofs.Runs.{plays_push, runs_answers, runs_agree, runs_step}
use Rattle.pool.proofs.Totals.{plan_adds_up}

-- the law of a run
pub law_of : (A : Arithmetic) (p : Plan) (s : Standing) (b : Book) (cs : List Call) (xs : List Answer) (e : Standing) →
    Agrees A (scheme_of p) s b → Runs A (scheme_of p) s b cs xs e → Law A p s b cs xs e
law_of A p s b cs xs e agrees runs =
    record {
      each_call = runs;
      answers_are = runs_answers A (scheme_of p) s b cs xs e runs;
      agrees = runs_agree A (scheme_of p) s b cs xs e agrees runs;
      adds_up = plan_adds_up p A s b cs xs e runs;
    }

module _ {F R : Type 0} (arithmetic : F → Arithmetic) (lawful : (f : F) → Lawful (arithmetic f)) (valid : R → Type 0) (meaning : R → Meaning) where
  -- no call yet
  pub none_yet : (x : Pool F R) → Replays arithmetic valid meaning x x [] []
  none_yet x held =
      record {
        held = held;
        same_plan = refl;
        same_field = refl;
        plays = refl;
        law = λ b agrees. law_of (arithmetic x.field) x.plan (standing arithmetic valid meaning x) b [] [] (standing arithmetic valid meaning x) agrees refl;
      }

  -- a call more
  pub one_more : (x y z : Pool F R) (cs : List Call) (xs : List Answer) (c : Call) (a : Answer) →
      Replays arithmetic valid meaning x y cs xs → Obeys arithmetic valid meaning y z c a → Replays arithmetic valid meaning x z (cs ++ c ∷ []) (xs ++ a ∷ [])
  one_more x y z cs xs c a sofar obeys held =
      let r = sofar held in
      let q = obeys r.held in
      let A : Arithmetic = arithmetic x.field in
      let s : Standing = standing arithmetic valid meaning x in
      let t : Standing = standing arithmetic valid meaning y in
      let u : Standing = standing arithmetic valid meaning z in
      let kept : Kept A (scheme_of x.plan) t =
      subst (λ (f : F). Kept (arithmetic f) (scheme_of x.plan) t) r.same_field (subst (λ (p : Plan). Kept (arithmetic y.field) (scheme_of p) t) r.same_plan r.held.kept) in
      let does : Does A (scheme_of x.plan) t c a u =
      subst (λ (f : F). Does (arithmetic f) (scheme_of x.plan) t c a u) r.same_field (subst (λ (p : Plan). Does (arithmetic y.field) (scheme_of p) t c a u) r.same_plan q.does) in
      record {
        held = q.held;
        same_plan = q.same_plan ∙ r.same_plan;
        same_field = q.same_field ∙ r.same_field;
        plays = plays_push A (scheme_of x.plan) s cs xs t c a u r.plays does;
        law = λ b agrees.
            law_of A x.plan s b (cs ++ c ∷ []) (xs ++ a ∷ []) u agrees
            (runs_step A (lawful x.field) (scheme_of x.plan) (sound x.plan A held.order_is) s b cs xs t c a u agrees (r.law b agrees).each_call kept does);
      }

  -- a pool that is laid, and then made calls
  pub laid_replayed : (p : Plan) (f : F) (x : R) (l y : Pool F R) (cs : List Call) (xs : List Answer) → Held arithmetic valid meaning l → l.plan ≡ p → l.field ≡ f →
      standing arithmetic valid meaning l ≡ laid_over p (meaning x) → Agrees (arithmetic f) (scheme_of p) (standing arithmetic valid meaning l) blank →
      Replays arithmetic valid meaning l y cs xs → LaidAndReplayed arithmetic valid meaning p f x y cs xs
  laid_replayed p f x l y cs xs held same_plan same_field stands agrees replays =
      let r = replays held in
      let s : Standing = standing arithmetic valid meaning l in
      let e : Standing = standing arithmetic valid meaning y in
      let starts : Agrees (arithmetic l.field) (scheme_of l.plan) s blank =
      subst (λ (q : Plan). Agrees (arithmetic l.field) (scheme_of q) s blank) (sym same_plan) (subst (λ (h : F). Agrees (arithmetic h) (scheme_of p) s blank) (sym same_field) agrees) in
      let law : Law (arithmetic f) p s blank cs xs e =
      subst (λ (h : F). Law (arithmetic h) p s blank cs xs e) same_field (subst (λ (q : Plan). Law (arithmetic l.field) q s blank cs xs e) same_plan (r.law blank starts)) in
      record {
        held = r.held;
        same_plan = r.same_plan ∙ same_plan;
        same_field = r.same_field ∙ same_field;
        starts = subst (λ (t : Standing). Agrees (arithmetic f) (scheme_of p) t blank) stands agrees;
        law = subst (λ (t : Standing). Law (arithmetic f) p t blank cs xs e) stands law;
      }

-- the places of a list up to the shorter of two lengths, and past them
module _ {X : Type 0} (n m : ℕ) (xs : List X) (short : n ≤ m) (most : n < m → length xs ≤ n) where
  pub take_short : take n xs ≡ take m xs
  take_short = ⊎_elim (λ (l : n < m). take_all n xs (most l) ∙ sym (take_all m xs (omega (arith, most l)))) (λ (l : m ≤ n). ap (λ k. take k xs) (let e : n ≡ m = omega arith in e)) (cases_lt n m)

  pub drop_short : drop n xs ≡ drop m xs
  drop_short = ⊎_elim (λ (l : n < m). drop_all n xs (most l) ∙ sym (drop_all m xs (omega (arith, most l)))) (λ (l : m ≤ n). ap (λ k. drop k xs) (let e : n ≡ m = omega arith in e)) (cases_lt n m)
