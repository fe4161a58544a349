-- A pool that is laid or opened. Assumes nothing.
use Rattle.std.proofs.Common.{◌≡◌, ℕ, ◌+◌, ◌*◌, ◌/◌, ◌%◌, ◌<◌, ◌≤◌, Bool, true, false, not, eqb, ltb, List, Some, None, Option, sym, refl, ap, ◌∙◌, subst, arith}
use Rattle.std.proofs.lemmas.Bool.{and_from, lt-ltb, le-leb, ltb-false, eqb-true, not-false, cond-true}
use Rattle.layout.specs.declared.label.Label.{Label}
use Rattle.layout.specs.declared.plan.Plan.{Plan}
use Rattle.layout.specs.declared.refusal.Refusal.{Refusal}
use Rattle.layout.specs.Counts.{modules_of, slots_of}
use Rattle.layout.specs.Labels.{label_of, number, label_refusal}
use Rattle.field.specs.Arithmetic.{Arithmetic, Lawful}
use Rattle.rack.specs.Meaning.{Meaning, Bounded}
use Rattle.coding.specs.Schemes.{scheme_of}
use Rattle.coding.proofs.OfPlan as plan
use Rattle.pool.specs.declared.kinds.Phase.{Phase}
use Rattle.pool.specs.declared.kinds.Phase.TheVariants.{Before, UnderWay}
use Rattle.pool.specs.declared.pool.Pool.{Pool}
use Rattle.pool.specs.Book.{lowest, blank, opened_phase}
use Rattle.pool.specs.Standing.{Standing, Kept}
use Rattle.pool.specs.Agrees.{Agrees}
use Rattle.pool.specs.Blocks.{in_block, zeroed, Blocked}
use Rattle.pool.specs.Pools.{standing, Held}
use Rattle.pool.specs.Openings.{or_else, misfit, fit_refusal, lay_refusal, open_refusal, laid_over}
use Rattle.pool.proofs.Refusing.{never, lowest_none, passes, passes_at}
use Rattle.pool.proofs.Laying.{laid}

-- where no check refuses, none of the two does
pub neither : (a b : Option Refusal) → or_else a b ≡ None → (a ≡ None) × (b ≡ None)
neither None b e = (refl, e)
neither (Some x) b e = absurd (never x e)

-- what a field and a memory have that fit a plan
pub record Fit (p : Plan) (q : ℕ) (w : Meaning) : Type 0 where
  pub field_order : q ≡ p.order
  pub rack_order : w.order ≡ p.order
  pub modules_fit : modules_of p.r p.d2 p.r2 ≤ w.modules
  pub slots_fit : slots_of p.d p.d2 ≤ w.slots
  pub length_fits : p.len ≤ w.length

pub fit_from : (p : Plan) (q : ℕ) (w : Meaning) → fit_refusal p q w ≡ None → Fit p q w
fit_from p q w e =
    let a = passes (not (eqb q p.order)) _ _ e in
    let b = passes (not (eqb w.order p.order)) _ _ a.1 in
    let c = passes (ltb w.modules (modules_of p.r p.d2 p.r2)) _ _ b.1 in
    let d = passes (ltb w.slots (slots_of p.d p.d2)) _ _ c.1 in
    let f = passes (ltb w.length p.len) _ _ d.1 in
    record {
      field_order = eqb-true q p.order (not-false (eqb q p.order) a.0);
      rack_order = eqb-true w.order p.order (not-false (eqb w.order p.order) b.0);
      modules_fit = ltb-false w.modules (modules_of p.r p.d2 p.r2) c.0;
      slots_fit = ltb-false w.slots (slots_of p.d p.d2) d.0;
      length_fits = ltb-false w.length p.len f.0;
    }

-- what always holds of a pool holds of one over a memory that fits, with no changeover under way
pub fresh_kept : (p : Plan) (A : Arithmetic) (w : Meaning) (ph : Phase) → Bounded w → fit_refusal p A.order w ≡ None → (ph ≡ UnderWay → ⊥) →
    Kept A (scheme_of p) (record { phase = ph; carried = 0; held = w })
fresh_kept p A w ph b e still =
    let fit = fit_from p A.order w e in
    record {
      bounded = b;
      order_is = fit.rack_order ∙ sym fit.field_order;
      modules_fit = fit.modules_fit;
      slots_fit = fit.slots_fit;
      length_fits = fit.length_fits;
      few_carried = omega arith;
      whole = λ way. absurd (still way);
    }

before_still : Before ≡ UnderWay → ⊥
before_still e = let z : ◌≡◌ {A = ℕ} 0 1 = cc in omega arith

pub opened_still : (b : Bool) → opened_phase b ≡ UnderWay → ⊥
opened_still true e = let z : ◌≡◌ {A = ℕ} 0 1 = cc in omega arith
opened_still false e = before_still e

-- laying
module _ (p : Plan) (A : Arithmetic) (w : Meaning) (r : lay_refusal p A.order w ≡ None) where
  passed : (fit_refusal p A.order w ≡ None) × ((m : ℕ) → m < modules_of p.r p.d2 p.r2 → w.fitted m ≡ true)
  passed =
      let both = neither (fit_refusal p A.order w) _ r in
      let out : ℕ → Bool = λ m. not (w.fitted m) in
      (both.0, λ m lm. not-false (w.fitted m) (lowest_none out (modules_of p.r p.d2 p.r2) (passes_at (lowest out (modules_of p.r p.d2 p.r2)) _ both.1) m lm))

  -- the places that are cleared
  pub laid_block : Blocked 0 (modules_of p.r p.d2 p.r2) 0 (slots_of p.d p.d2) p.len w
  laid_block =
      let fit = fit_from p A.order w passed.0 in
      record {
        modules_rise = omega arith;
        modules_fit = fit.modules_fit;
        slots_rise = omega arith;
        slots_fit = fit.slots_fit;
        length_fits = fit.length_fits;
        whole = λ i low high. passed.1 i high;
      }

  -- the pool agrees with the blank book
  pub laid_agrees : Lawful A → Agrees A (scheme_of p) (laid_over p w) blank
  laid_agrees L =
      let M : ℕ = modules_of p.r p.d2 p.r2 in
      let S : ℕ = slots_of p.d p.d2 in
      laid A L (scheme_of p) (plan.sound p A (fit_from p A.order w passed.0).field_order) (laid_over p w) refl refl passed.1
      (λ m slot u lm ls lu.
      cond-true (in_block 0 M 0 S p.len m slot u) 0 (w.symbol m slot u)
      (and_from _ _ (and_from _ _ (le-leb 0 m (omega arith)) (lt-ltb m M lm))
      (and_from _ _ (and_from _ _ (le-leb 0 slot (omega arith)) (lt-ltb slot S ls)) (lt-ltb u p.len lu))))

module _ {F R : Type 0} (arithmetic : F → Arithmetic) (lawful : (f : F) → Lawful (arithmetic f)) (valid : R → Type 0) (meaning : R → Meaning) (bounded : (x : R) → valid x → Bounded (meaning x)) where
  -- a pool over a rack that fits, with no changeover under way
  pub fresh_held : (p : Plan) (f : F) (x : R) (ph : Phase) → valid x → fit_refusal p (arithmetic f).order (meaning x) ≡ None → (ph ≡ UnderWay → ⊥) →
      Held arithmetic valid meaning (record { plan = p; field = f; rack = x; phase = ph; carried = 0 })
  fresh_held p f x ph v e still =
      record {
        rack_is_valid = v;
        order_is = (fit_from p (arithmetic f).order (meaning x) e).field_order;
        kept = fresh_kept p (arithmetic f) (meaning x) ph (bounded x v) e still;
      }

  -- what laying a pool promises
  pub record Laid (p : Plan) (f : F) (x : R) (r : Pool F R) : Type 0 where
    pub held : Held arithmetic valid meaning r
    pub stands : standing arithmetic valid meaning r ≡ laid_over p (meaning x)
    pub agrees : Agrees (arithmetic f) (scheme_of p) (standing arithmetic valid meaning r) blank

  pub laid_pool : (p : Plan) (f : F) (x y : R) (a b : ℕ) → a ≡ modules_of p.r p.d2 p.r2 → b ≡ slots_of p.d p.d2 →
      valid x → lay_refusal p (arithmetic f).order (meaning x) ≡ None →
      (valid x → Blocked 0 a 0 b p.len (meaning x) → (meaning y ≡ zeroed 0 a 0 b p.len (meaning x)) × valid y) →
      Laid p f x (record { plan = p; field = f; rack = y; phase = Before; carried = 0 })
  laid_pool p f x y a b a-is b-is v r clears =
      let A : Arithmetic = arithmetic f in
      let w : Meaning = meaning x in
      let M : ℕ = modules_of p.r p.d2 p.r2 in
      let S : ℕ = slots_of p.d p.d2 in
      let len : ℕ = p.len in
      let block : Blocked 0 a 0 b len w =
      subst (λ n. Blocked 0 n 0 b len w) (sym a-is) (subst (λ n. Blocked 0 M 0 n len w) (sym b-is) (laid_block p A w r)) in
      let done = clears v block in
      let is : meaning y ≡ zeroed 0 M 0 S len w = done.0 ∙ ap (λ n. zeroed 0 n 0 b len w) a-is ∙ ap (λ n. zeroed 0 M 0 n len w) b-is in
      let fits : fit_refusal p A.order (meaning y) ≡ None = ap (fit_refusal p A.order) is ∙ (neither (fit_refusal p A.order w) _ r).0 in
      let same : record { phase = Before; carried = 0; held = meaning y } ≡ laid_over p w = ap (λ (u : Meaning). record { phase = Before; carried = 0; held = u }) is in
      record {
        held = fresh_held p f y Before done.1 fits before_still;
        stands = same;
        agrees = subst (λ (s : Standing). Agrees A (scheme_of p) s blank) (sym same) (laid_agrees p A w r (lawful f));
      }

whole : (n : ℕ) → n % 256 + 256 * (n / 256) ≡ n
whole n = omega arith

-- the bytes of a label that is read give the refusal of its plan
same_refusal : (bytes : List ℕ) (m : Label) (q : ℕ) (w : Meaning) → label_refusal bytes ≡ None → bytes ≡ label_of m → open_refusal bytes q w ≡ fit_refusal m.plan q w
same_refusal bytes m q w r e =
    let order : number bytes 1 ≡ m.plan.order = ap (λ (l : List ℕ). number l 1) e ∙ whole m.plan.order in
    let d : number bytes 2 ≡ m.plan.d = ap (λ (l : List ℕ). number l 2) e ∙ whole m.plan.d in
    let r₁ : number bytes 3 ≡ m.plan.r = ap (λ (l : List ℕ). number l 3) e ∙ whole m.plan.r in
    let d₂ : number bytes 4 ≡ m.plan.d2 = ap (λ (l : List ℕ). number l 4) e ∙ whole m.plan.d2 in
    let r₂ : number bytes 5 ≡ m.plan.r2 = ap (λ (l : List ℕ). number l 5) e ∙ whole m.plan.r2 in
    let len : number bytes 6 ≡ m.plan.len = ap (λ (l : List ℕ). number l 6) e ∙ whole m.plan.len in
    ap (λ (o : Option Refusal). or_else o (misfit (number bytes 1) (modules_of (number bytes 3) (number bytes 4) (number bytes 5)) (slots_of (number bytes 2) (number bytes 4)) (number bytes 6) q w)) r
    ∙ (λ i. misfit (order i) (modules_of (r₁ i) (d₂ i) (r₂ i)) (slots_of (d i) (d₂ i)) (len i) q w)

pub opens : (bytes : List ℕ) (m : Label) (q : ℕ) (w : Meaning) (o : Option Refusal) → (label_refusal bytes ≡ None) × (bytes ≡ label_of m) → o ≡ fit_refusal m.plan q w →
    o ≡ open_refusal bytes q w
opens bytes m q w o read e = e ∙ sym (same_refusal bytes m q w read.0 read.1)
