-- What a call of a pool owes, from what it does. Assumes nothing.
use Rattle.std.proofs.Common.{◌≡◌, ℕ, ◌+◌, ◌<◌, ◌≤◌, leb, Some, None, Option, sym, refl, ap, ◌∙◌, subst, add-one, Ok, Err}
use Rattle.std.proofs.lemmas.Bool.{lt-leb, le-leb, cond-true, cond-false}
use Rattle.field.specs.Arithmetic.{Arithmetic, Lawful}
use Rattle.layout.specs.declared.plan.Plan.{Plan}
use Rattle.layout.specs.declared.refusal.Refusal.{Refusal}
use Rattle.rack.specs.Meaning.{Meaning}
use Rattle.coding.specs.Schemes.{Scheme, scheme_of}
use Rattle.pool.specs.declared.kinds.Phase.{Phase}
use Rattle.pool.specs.declared.kinds.Phase.TheVariants.{Before, UnderWay, Voided, After}
use Rattle.pool.specs.declared.kinds.Call.{Call}
use Rattle.pool.specs.declared.kinds.Call.TheVariants.{Carry}
use Rattle.pool.specs.declared.kinds.Reply.TheVariants.{Carried}
use Rattle.pool.specs.declared.pool.Pool.{Pool}
use Rattle.pool.specs.Book.{refusal, refuse_if, under_way_refusal, carried_data, carried_parities}
use Rattle.layout.specs.declared.refusal.Refusal.TheVariants.{WrongCount}
use Rattle.pool.specs.Standing.{Standing, out_of}
use Rattle.pool.specs.Effects.{changed, carried_symbol}
use Rattle.pool.specs.declared.load.Load.{Load}
use Rattle.pool.specs.Growth.{Loaded, Whole, LoadOf}
use Rattle.pool.specs.Pools.{standing, Held, Called}
use Rattle.pool.proofs.Refusing.{never, passes_under_way}
use Rattle.pool.proofs.Calls.{called_refused, called_granted}

-- where the phase refuses, what would be checked after it does not matter
pub first_refusal : (ph : Phase) (rest : Option Refusal) (e : Refusal) → under_way_refusal ph None ≡ Some e → under_way_refusal ph rest ≡ Some e
first_refusal Before rest e is = is
first_refusal UnderWay rest e is = absurd (never e (sym is))
first_refusal Voided rest e is = is
first_refusal After rest e is = is

abbrev pair : ℕ → ℕ → ℕ × ℕ
pair a b = (a, b)

module _ {F R : Type 0} (arithmetic : F → Arithmetic) (lawful : (f : F) → Lawful (arithmetic f)) (valid : R → Type 0) (meaning : R → Meaning) (x : Pool F R) (held : Held arithmetic valid meaning x) where
  -- a call that its checks refuse, and that leaves the pool as it is
  pub refuses : (c : Call) (e : Refusal) → refusal (scheme_of x.plan) (arithmetic x.field).order x.phase x.carried (out_of (standing arithmetic valid meaning x)) c ≡ Some e →
      Called arithmetic valid meaning x x c (Err e)
  refuses c e is = called_refused arithmetic lawful valid meaning x x held held.rack_is_valid refl refl c e is refl

  -- while the changeover is under way all modules are fitted
  pub whole : x.phase ≡ UnderWay → Whole (arithmetic x.field) (scheme_of x.plan) (meaning x.rack)
  whole way =
      record {
        order_is = held.kept.order_is;
        modules_fit = held.kept.modules_fit;
        slots_fit = held.kept.slots_fit;
        length_fits = held.kept.length_fits;
        whole = held.kept.whole way;
      }

  -- the refusals of a carry
  pub refuses_phase : (e : Refusal) → under_way_refusal x.phase None ≡ Some e → Called arithmetic valid meaning x x Carry (Err e)
  refuses_phase e is = refuses Carry e (first_refusal x.phase _ e is)

  pub refuses_count : (e : Refusal) → e ≡ WrongCount x.carried → under_way_refusal x.phase None ≡ None → (scheme_of x.plan).stripes ≤ x.carried → Called arithmetic valid meaning x x Carry (Err e)
  refuses_count e is under many =
      let n : ℕ = (scheme_of x.plan).stripes in
      refuses Carry e
      (ap (λ (ph : Phase). under_way_refusal ph (refuse_if (leb n x.carried) (WrongCount x.carried) None)) (passes_under_way x.phase None under).0
      ∙ cond-true (leb n x.carried) (Some (WrongCount x.carried)) None (le-leb n x.carried many)
      ∙ ap Some (sym is))

  -- a stripe is carried
  pub carries : (rack : R) (m k : ℕ) → x.phase ≡ UnderWay → x.carried < (scheme_of x.plan).stripes → valid rack →
      meaning rack ≡ changed (meaning x.rack) (carried_symbol (arithmetic x.field) (scheme_of x.plan) x.carried (meaning x.rack)) →
      ◌≡◌ {A = ℕ × ℕ} (m, k) (carried_data (scheme_of x.plan) x.carried, carried_parities (scheme_of x.plan)) →
      Called arithmetic valid meaning x (record { plan = x.plan; field = x.field; rack = rack; phase = x.phase; carried = x.carried + 1 }) Carry (Ok (Carried m k))
  carries rack m k way more ok is counts =
      let A : Arithmetic = arithmetic x.field in
      let p : Scheme = scheme_of x.plan in
      let s : Standing = standing arithmetic valid meaning x in
      let y : Pool F R = record { plan = x.plan; field = x.field; rack = rack; phase = x.phase; carried = x.carried + 1 } in
      let accepted : refusal p A.order s.phase s.carried (out_of s) Carry ≡ None =
      ap (λ (ph : Phase). under_way_refusal ph (refuse_if (leb p.stripes x.carried) (WrongCount x.carried) None)) way
      ∙ cond-false (leb p.stripes x.carried) (Some (WrongCount x.carried)) None (lt-leb p.stripes x.carried more) in
      called_granted arithmetic lawful valid meaning x y held ok refl refl Carry (Ok (Carried m k)) accepted (
        ap (λ (c : ℕ × ℕ). Ok (Carried c.0 c.1)) counts,
        λ i. record { phase = x.phase; carried = add-one x.carried i; held = is i },
      )

  -- the same from what carrying a load does
  pub carries_load : (load : Load) → LoadOf (arithmetic x.field) x.plan x.carried load → (rack : R) (counts : ℕ × ℕ) → under_way_refusal x.phase None ≡ None →
      (valid x.rack → Whole (arithmetic x.field) (scheme_of load.plan) (meaning x.rack) → valid rack
      × (meaning rack ≡ changed (meaning x.rack) (carried_symbol (arithmetic x.field) (scheme_of load.plan) load.group.index (meaning x.rack)))) →
      counts ≡ (carried_data (scheme_of load.plan) load.group.index, carried_parities (scheme_of load.plan)) →
      Called arithmetic valid meaning x (record { plan = x.plan; field = x.field; rack = rack; phase = x.phase; carried = x.carried + 1 }) Carry (Ok (Carried counts.0 counts.1))
  carries_load load made rack counts under step is =
      let A : Arithmetic = arithmetic x.field in
      let w : Meaning = meaning x.rack in
      let way = (passes_under_way x.phase None under).0 in
      let more : x.carried < (scheme_of x.plan).stripes =
      subst (λ (i : ℕ). i < (scheme_of x.plan).stripes) made.index_is (subst (λ (q : Plan). load.group.index < (scheme_of q).stripes) made.plan_is made.loaded.inside) in
      let done = step held.rack_is_valid (subst (λ (q : Plan). Whole A (scheme_of q) w) (sym made.plan_is) (whole way)) in
      carries rack counts.0 counts.1 way more done.0
      (done.1 ∙ ap (λ (q : Plan). changed w (carried_symbol A (scheme_of q) load.group.index w)) made.plan_is ∙ ap (λ (i : ℕ). changed w (carried_symbol A (scheme_of x.plan) i w)) made.index_is)
      (is
      ∙ ap (λ (q : Plan). pair (carried_data (scheme_of q) load.group.index) (carried_parities (scheme_of q))) made.plan_is
      ∙ ap (λ (i : ℕ). pair (carried_data (scheme_of x.plan) i) (carried_parities (scheme_of x.plan))) made.index_is)

  -- the same, where the stripe is carried over a field that is the pool's
  pub carries_stripe : (f : F) → f ≡ x.field → (load : Load) → Loaded (arithmetic f) load → load.plan ≡ x.plan → load.group.index ≡ x.carried →
      (rack : R) (counts : ℕ × ℕ) → under_way_refusal x.phase None ≡ None →
      (valid x.rack → Whole (arithmetic f) (scheme_of load.plan) (meaning x.rack) → valid rack
      × (meaning rack ≡ changed (meaning x.rack) (carried_symbol (arithmetic f) (scheme_of load.plan) load.group.index (meaning x.rack)))) →
      counts ≡ (carried_data (scheme_of load.plan) load.group.index, carried_parities (scheme_of load.plan)) →
      Called arithmetic valid meaning x (record { plan = x.plan; field = x.field; rack = rack; phase = x.phase; carried = x.carried + 1 }) Carry (Ok (Carried counts.0 counts.1))
  carries_stripe f same load loaded plan_is index_is rack counts under step is =
      carries_load load (record { loaded = subst (λ (h : F). Loaded (arithmetic h) load) same loaded; plan_is = plan_is; index_is = index_is }) rack counts under
      (subst (λ (h : F). valid x.rack → Whole (arithmetic h) (scheme_of load.plan) (meaning x.rack) → valid rack
      × (meaning rack ≡ changed (meaning x.rack) (carried_symbol (arithmetic h) (scheme_of load.plan) load.group.index (meaning x.rack)))) same step)
      is
