-- What a call of a pool has to show. Assumes nothing.
use Rattle.std.proofs.Common.{◌≡◌, ℕ, ◌+◌, ◌<◌, true, false, not, ltb, leb, Some, None, sym, refl, ap, ◌∙◌, subst, arith, Ok, Err}
use Rattle.std.proofs.lemmas.Bool.{not-false, and_parts, lt-leb, cond-true, cond-false}
use Rattle.layout.specs.declared.plan.Plan.{Plan}
use Rattle.layout.specs.Counts.{slots_of}
use Rattle.layout.specs.Placing.{stripes_of}
use Rattle.layout.specs.declared.refusal.Refusal.{Refusal}
use Rattle.field.specs.Arithmetic.{Arithmetic, Lawful}
use Rattle.rack.specs.Meaning.{Meaning, flagged, pulls, Pulls}
use Rattle.coding.specs.Schemes.{Scheme, scheme_of}
use Rattle.coding.proofs.OfPlan as plan
use Rattle.pool.specs.declared.kinds.Call.{Call}
use Rattle.pool.specs.declared.kinds.Call.TheVariants.{Begin, Pull}
use Rattle.pool.specs.Replies.{Answer}
use Rattle.pool.specs.declared.kinds.Reply.TheVariants.{Done}
use Rattle.pool.specs.declared.kinds.Phase.{Phase}
use Rattle.pool.specs.declared.kinds.Phase.TheVariants.{UnderWay}
use Rattle.pool.specs.declared.pool.Pool.{Pool}
use Rattle.pool.specs.Book.{modules, pulled_phase}
use Rattle.pool.specs.Standing.{Standing, out_of, Kept}
use Rattle.pool.specs.Effects.{Effect, Does}
use Rattle.pool.specs.Pools.{standing, Held, Called}
use Rattle.pool.specs.Asked.{refusal_of}
use Rattle.pool.specs.Blocks.{zeroed, Blocked}
use Rattle.pool.proofs.Steps.{begin_fits, does_refused, does_granted}
use Rattle.pool.proofs.Keeping.{kept_step}

module _ {F R : Type 0} (arithmetic : F → Arithmetic) (lawful : (f : F) → Lawful (arithmetic f)) (valid : R → Type 0) (meaning : R → Meaning) where
  module _ (x y : Pool F R) (held : Held arithmetic valid meaning x) (rack_is_valid : valid y.rack) (same_plan : y.plan ≡ x.plan) (same_field : y.field ≡ x.field) where
    -- what a call does is what it has to do, and a valid rack is left
    pub called : (c : Call) (a : Answer) →
        Does (arithmetic x.field) (scheme_of x.plan) (standing arithmetic valid meaning x) c a (standing arithmetic valid meaning y) →
        Called arithmetic valid meaning x y c a
    called c a does =
        let A : Arithmetic = arithmetic x.field in
        let t : Standing = standing arithmetic valid meaning y in
        let kept : Kept A (scheme_of x.plan) t =
        kept_step A (lawful x.field) (scheme_of x.plan) (plan.sound x.plan A held.order_is) (standing arithmetic valid meaning x) c a t held.kept does in
        record {
          held = record {
            rack_is_valid = rack_is_valid;
            order_is = ap (λ (f : F). (arithmetic f).order) same_field ∙ held.order_is ∙ ap (λ (p : Plan). p.order) (sym same_plan);
            kept =
                subst (λ (f : F). Kept (arithmetic f) (scheme_of y.plan) t) (sym same_field)
                (subst (λ (p : Plan). Kept A (scheme_of p) t) (sym same_plan) kept);
          };
          same_plan = same_plan;
          same_field = same_field;
          does = does;
        }

    -- a call that is refused, and alters nothing
    pub called_refused : (c : Call) (e : Refusal) → refusal_of arithmetic valid meaning x c ≡ Some e → standing arithmetic valid meaning y ≡ standing arithmetic valid meaning x →
        Called arithmetic valid meaning x y c (Err e)
    called_refused c e r same =
        called c (Err e)
        (does_refused (arithmetic x.field) (scheme_of x.plan) (standing arithmetic valid meaning x) c (Err e) (standing arithmetic valid meaning y) e r refl same)

    -- a call that is not refused, and has its effect
    pub called_granted : (c : Call) (a : Answer) → refusal_of arithmetic valid meaning x c ≡ None →
        Effect (arithmetic x.field) (scheme_of x.plan) (standing arithmetic valid meaning x) c a (standing arithmetic valid meaning y) →
        Called arithmetic valid meaning x y c a
    called_granted c a r effect =
        called c a (does_granted (arithmetic x.field) (scheme_of x.plan) (standing arithmetic valid meaning x) c a (standing arithmetic valid meaning y) r effect)

  -- the staged slots of a pool in which no module is out
  pub staged_block : (x : Pool F R) → Held arithmetic valid meaning x → refusal_of arithmetic valid meaning x Begin ≡ None →
      Blocked x.plan.d2 (x.plan.d2 + x.plan.r2) (stripes_of x.plan.d x.plan.d2) (slots_of x.plan.d x.plan.d2) x.plan.len (meaning x.rack)
  staged_block x held r =
      let p : Scheme = scheme_of x.plan in
      let s : Standing = standing arithmetic valid meaning x in
      let kept = held.kept in
      let fits = begin_fits p (arithmetic x.field).order x.phase x.carried (out_of s) r in
      record {
        modules_rise = omega arith;
        modules_fit = omega (arith, kept.modules_fit);
        slots_rise = omega arith;
        slots_fit = kept.slots_fit;
        length_fits = kept.length_fits;
        whole = λ i low high. not-false ((meaning x.rack).fitted i) (fits.1 i (omega arith));
      }

  -- a begin: the staged slots are cleared
  pub begun : (x : Pool F R) (y : R) (a b : ℕ) → a ≡ stripes_of x.plan.d x.plan.d2 → b ≡ slots_of x.plan.d x.plan.d2 →
      (valid x.rack → Blocked x.plan.d2 (x.plan.d2 + x.plan.r2) a b x.plan.len (meaning x.rack) →
      (meaning y ≡ zeroed x.plan.d2 (x.plan.d2 + x.plan.r2) a b x.plan.len (meaning x.rack)) × valid y) →
      (valid x.rack → None ≡ refusal_of arithmetic valid meaning x Begin) → Held arithmetic valid meaning x →
      Called arithmetic valid meaning x (record { plan = x.plan; field = x.field; rack = y; phase = UnderWay; carried = 0 }) Begin (Ok Done)
  begun x y a b a-is b-is clears passed held =
      let none : refusal_of arithmetic valid meaning x Begin ≡ None = sym (passed held.rack_is_valid) in
      let low : ℕ = x.plan.d2 in
      let high : ℕ = x.plan.d2 + x.plan.r2 in
      let len : ℕ = x.plan.len in
      let w : Meaning = meaning x.rack in
      let stripes : ℕ = stripes_of x.plan.d x.plan.d2 in
      let slots : ℕ = slots_of x.plan.d x.plan.d2 in
      let block : Blocked low high a b len w =
      subst (λ n. Blocked low high n b len w) (sym a-is) (subst (λ n. Blocked low high stripes n len w) (sym b-is) (staged_block x held none)) in
      let done = clears held.rack_is_valid block in
      let is : meaning y ≡ zeroed low high stripes slots len w = done.0 ∙ ap (λ n. zeroed low high n b len w) a-is ∙ ap (λ n. zeroed low high stripes n len w) b-is in
      called_granted x (record { plan = x.plan; field = x.field; rack = y; phase = UnderWay; carried = 0 }) held done.1 refl refl Begin (Ok Done) none
      (refl, ap (λ (v : Meaning). record { phase = UnderWay; carried = 0; held = v }) is)

  -- a pull: the module is out
  pub pulled : (x : Pool F R) (y : R) (ph : Phase) (m : ℕ) → m < modules (scheme_of x.plan) → ph ≡ pulled_phase x.phase →
      (valid x.rack → Pulls (meaning x.rack) (meaning y) m true × valid y) → Held arithmetic valid meaning x →
      Called arithmetic valid meaning x (record { plan = x.plan; field = x.field; rack = y; phase = ph; carried = x.carried }) (Pull m) (Ok Done)
  pulled x y ph m lm phase_is pulls-it held =
      let w : Meaning = meaning x.rack in
      let done = pulls-it held.rack_is_valid in
      let goes : pulls w m ≡ true = sym done.0.answer in
      let fitted : w.fitted m ≡ true = (and_parts (ltb m w.modules) (w.fitted m) goes).1 in
      let is : meaning y ≡ flagged w m false = done.0.after ∙ cond-true (pulls w m) (flagged w m false) w goes in
      let none : refusal_of arithmetic valid meaning x (Pull m) ≡ None =
      cond-false (leb (modules (scheme_of x.plan)) m) _ _ (lt-leb (modules (scheme_of x.plan)) m lm) ∙ cond-false (not (w.fitted m)) _ _ (ap not fitted) in
      called_granted x (record { plan = x.plan; field = x.field; rack = y; phase = ph; carried = x.carried }) held done.1 refl refl (Pull m) (Ok Done) none
      (refl, λ i. record { phase = phase_is i; carried = x.carried; held = is i })
