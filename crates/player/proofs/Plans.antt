-- What lines answer that set a plan, or ask for a rack or a pool. Assumes nothing.
use Rattle.std.proofs.Common.{◌≡◌, ℕ, List, Some, None, Ok, Err, codes, IfOk, Option, Result, sym, refl, ap, ◌∙◌, subst, MatchOption}
use Rattle.layout.specs.declared.label.Label as layout-label
use Rattle.layout.specs.declared.plan.Plan as layout-plan
use Rattle.layout.specs.declared.refusal.Refusal.{Refusal}
use Rattle.layout.specs.Labels.{label_of}
use Rattle.layout.specs.Refusals.{plan_refusal, Has, Judged}
use Rattle.pool.specs.Openings.{lay_refusal, open_refusal, laid_over}
use Rattle.rack.specs.Meaning.{Meaning}
use Rattle.player.specs.declared.request.Request.{Request}
use Rattle.player.specs.declared.request.Request.TheVariants as request
use Rattle.player.specs.declared.request.By.{By}
use Rattle.player.specs.declared.request.By.TheVariants as by
use Rattle.player.specs.declared.request.Wanted.{Wanted}
use Rattle.script.specs.declared.command.Command.{Command}
use Rattle.script.specs.declared.command.Command.TheVariants.{Plan, Map, Label, Rack, OnRack, Lay, Open, OnPool, Show, PoolLabel}
use Rattle.script.specs.declared.command.RackCall.{RackCall}
use Rattle.pool.specs.declared.kinds.Call.{Call}
use Rattle.field.specs.Arithmetic.{Arithmetic}
use Rattle.script.specs.declared.command.FieldKind.{FieldKind}
use Rattle.layout.specs.Rules.{refused_text}
use Rattle.player.specs.Answers.{Memory, pooled, rack_in, State, state, arithmetic_of, Says, Lays, Opens, label_bytes, opened_over, Responds}
use Rattle.player.specs.Holding.{started_over, started_on, memory_by, Fits, Possible, PlanSet, wanted_refusal, Starts, PoolAsked, LayAsked, IsAlike}

at_none : (o : Option Refusal) (P : Type 0) (Q : Refusal → Type 0) → o ≡ None → P → MatchOption o P Q
at_none o P Q e h = subst (λ x. MatchOption x P Q) (sym e) h

at_some : (o : Option Refusal) (P : Type 0) (Q : Refusal → Type 0) (r : Refusal) → o ≡ Some r → Q r → MatchOption o P Q
at_some o P Q r e h = subst (λ x. MatchOption x P Q) (sym e) h

-- a line that asks for nothing leaves all as it is
pub says : (plan out : Option layout-plan.Plan) (m : Memory) (r : Option Request) (text saying : List ℕ) → out ≡ plan → r ≡ None → text ≡ saying → Says (state plan m) saying (state out (memory_by r m)) text
says plan out m r text saying same none e = (ap (λ x. state out (memory_by x m)) none ∙ ap (λ p. state p m) same, e)

pub none_possible : (r : Option Request) (o : Option Meaning) → r ≡ None → Possible r o
none_possible r o e = subst (λ x. Possible x o) (sym e) tt

-- the two ways of a line that sets the plan
Made : State → ℕ → ℕ → ℕ → ℕ → ℕ → ℕ → State → List ℕ → Type 0
Made b q d r d' r' L e text = (p : layout-plan.Plan) × Has q d r d' r' L p × (e ≡ state (Some p) b.memory) × (text ≡ codes "ok")

plan_set : (plan : Option layout-plan.Plan) (m : Memory) (q d r d' r' L : ℕ) (new : Result layout-plan.Plan Refusal) (out : Option layout-plan.Plan) (text : List ℕ) →
    Judged q d r d' r' L new → PlanSet plan new out text → Responds (state plan m) (Plan q d r d' r' L) (state out m) text
unfolding Made
plan_set plan m q d r d' r' L (Ok p) out text judged set =
    at_none (plan_refusal q d r d' r' L) (Made (state plan m) q d r d' r' L (state out m) text) (λ x. Says (state plan m) (refused_text x) (state out m) text) judged.0
    (p, judged.1, ap (λ o. state o m) set.0, set.1)
plan_set plan m q d r d' r' L (Err e) out text judged set =
    at_some (plan_refusal q d r d' r' L) (Made (state plan m) q d r d' r' L (state out m) text) (λ x. Says (state plan m) (refused_text x) (state out m) text) e judged
    (ap (λ o. state o m) set.0, set.1)

pub sets_plan : (c : Command) (plan : Option layout-plan.Plan) (m : Memory) (q d r d' r' L : ℕ) (new : Result layout-plan.Plan Refusal) (out : Option layout-plan.Plan) (made : Option Request) (text : List ℕ) →
    c ≡ Plan q d r d' r' L → Judged q d r d' r' L new → made ≡ None → PlanSet plan new out text → Responds (state plan m) c (state out (memory_by made m)) text
sets_plan c plan m q d r d' r' L new out made text is judged none set =
    subst (λ x. Responds (state plan m) x (state out (memory_by made m)) text) (sym is)
    (subst (λ y. Responds (state plan m) (Plan q d r d' r' L) (state out (memory_by y m)) text) (sym none) (plan_set plan m q d r d' r' L new out text judged set))

-- a pool that a plan or a label starts
started_plan : (A : Arithmetic) (p : layout-plan.Plan) (w : Meaning) (y : By) → Starts (Wanted.Lay p) y → started_over A y w ≡ pooled A p (laid_over p w)
started_plan A p w (by.Plan x) e = ap (λ z. pooled A z (laid_over z w)) e
started_plan A p w (by.Label l) e = absurd e

label_in : (bytes : Option (List ℕ)) (y : By) → Starts (Wanted.Open bytes) y → (l : layout-label.Label) × (y ≡ by.Label l) × (label_bytes bytes ≡ label_of l)
label_in bytes (by.Plan x) e = absurd e
label_in bytes (by.Label l) e = (l, refl, e)

module _ (plan : Option layout-plan.Plan) (m : Memory) (w : Meaning) (f : FieldKind) (r : Option Request) (text : List ℕ) (is : rack_in m ≡ Some w) where
  -- the memory after a line that starts a pool
  pool_memory : (y : By) → r ≡ Some (request.Pool (record { field = f; by = y })) → state plan (memory_by r m) ≡ state plan (started_over (arithmetic_of f) y w)
  pool_memory y e = ap (λ x. state plan (memory_by x m)) e ∙ ap (λ o. state plan (started_on (record { field = f; by = y }) o)) is

  -- a line that lays a pool, by its refusal
  laid_by : (p : layout-plan.Plan) (x : Option Refusal) →
      MatchOption x ((y : By) × Starts (Wanted.Lay p) y × Fits y (arithmetic_of f).order w × (r ≡ Some (request.Pool (record { field = f; by = y }))) × (text ≡ codes "ok")) (λ e. (r ≡ None) × (text ≡ refused_text e)) →
      MatchOption x ((state plan (memory_by r m) ≡ state plan (pooled (arithmetic_of f) p (laid_over p w))) × (text ≡ codes "ok")) (λ e. Says (state plan m) (refused_text e) (state plan (memory_by r m)) text)
  laid_by p (Some e) h = (ap (λ y. state plan (memory_by y m)) h.0, h.1)
  laid_by p None h = (pool_memory h.0 h.3 ∙ ap (state plan) (started_plan (arithmetic_of f) p w h.0 h.1), h.4)

  -- a line that opens a pool, by its refusal
  opened_by : (bytes : Option (List ℕ)) (x : Option Refusal) →
      MatchOption x ((y : By) × Starts (Wanted.Open bytes) y × Fits y (arithmetic_of f).order w × (r ≡ Some (request.Pool (record { field = f; by = y }))) × (text ≡ codes "ok")) (λ e. (r ≡ None) × (text ≡ refused_text e)) →
      MatchOption x ((l : layout-label.Label) × (label_bytes bytes ≡ label_of l) × (state plan (memory_by r m) ≡ state plan (pooled (arithmetic_of f) l.plan (opened_over l w))) × (text ≡ codes "ok")) (λ e. Says (state plan m) (refused_text e) (state plan (memory_by r m)) text)
  opened_by bytes (Some e) h = (ap (λ y. state plan (memory_by y m)) h.0, h.1)
  opened_by bytes None h = let l = label_in bytes h.0 h.1 in (l.0, l.2, pool_memory h.0 h.3 ∙ ap (λ y. state plan (started_over (arithmetic_of f) y w)) l.1, h.4)

lays : (plan : Option layout-plan.Plan) (o : Option Meaning) (m : Memory) (f : FieldKind) (r : Option Request) (text : List ℕ) → rack_in m ≡ o → LayAsked plan f o r text → Lays (state plan m) f plan o (state plan (memory_by r m)) text
lays None o m f r text is h = says None None m r text (codes "no plan") refl h.0 h.1
lays (Some p) None m f r text is h = says (Some p) (Some p) m r text (codes "no rack") refl h.0 h.1
lays (Some p) (Some w) m f r text is h = laid_by (Some p) m w f r text is p (lay_refusal p (arithmetic_of f).order w) h

opens : (plan : Option layout-plan.Plan) (bytes : Option (List ℕ)) (o : Option Meaning) (m : Memory) (f : FieldKind) (r : Option Request) (text : List ℕ) → rack_in m ≡ o → PoolAsked f (Wanted.Open bytes) o r text →
    Opens (state plan m) f (label_bytes bytes) o (state plan (memory_by r m)) text
opens plan bytes None m f r text is h = says plan plan m r text (codes "no rack") refl h.0 h.1
opens plan bytes (Some w) m f r text is h = opened_by plan m w f r text is bytes (open_refusal (label_bytes bytes) (arithmetic_of f).order w) h

pub asks_lay : (c : Command) (plan : Option layout-plan.Plan) (o : Option Meaning) (m : Memory) (f : FieldKind) (r : Option Request) (text : List ℕ) →
    c ≡ Lay f → rack_in m ≡ o → LayAsked plan f o r text → Responds (state plan m) c (state plan (memory_by r m)) text
asks_lay c plan o m f r text is at h =
    subst (λ x. Responds (state plan m) x (state plan (memory_by r m)) text) (sym is)
    (subst (λ y. Lays (state plan m) f plan y (state plan (memory_by r m)) text) (sym at) (lays plan o m f r text at h))

pub asks_open : (c : Command) (plan : Option layout-plan.Plan) (o : Option Meaning) (m : Memory) (f : FieldKind) (bytes : Option (List ℕ)) (r : Option Request) (text : List ℕ) →
    c ≡ Open f bytes → rack_in m ≡ o → PoolAsked f (Wanted.Open bytes) o r text → Responds (state plan m) c (state plan (memory_by r m)) text
asks_open c plan o m f bytes r text is at h =
    subst (λ x. Responds (state plan m) x (state plan (memory_by r m)) text) (sym is)
    (subst (λ y. Opens (state plan m) f (label_bytes bytes) y (state plan (memory_by r m)) text) (sym at) (opens plan bytes o m f r text at h))

-- a pool is asked for only where it can be had
possible_by : (x : Wanted) (f : FieldKind) (w : Meaning) (r : Option Request) (text : List ℕ) (e : Option Refusal) →
    MatchOption e ((y : By) × Starts x y × Fits y (arithmetic_of f).order w × (r ≡ Some (request.Pool (record { field = f; by = y }))) × (text ≡ codes "ok")) (λ e. (r ≡ None) × (text ≡ refused_text e)) → Possible r (Some w)
possible_by x f w r text (Some e) h = none_possible r (Some w) h.0
possible_by x f w r text None h = subst (λ y. Possible y (Some w)) (sym h.3) h.2

pub pool_possible : (x : Wanted) (o : Option Meaning) (f : FieldKind) (r : Option Request) (text : List ℕ) → PoolAsked f x o r text → Possible r o
pool_possible x None f r text h = none_possible r None h.0
pool_possible x (Some w) f r text h = possible_by x f w r text (wanted_refusal x (arithmetic_of f).order w) h

pub lay_possible : (plan : Option layout-plan.Plan) (o : Option Meaning) (f : FieldKind) (r : Option Request) (text : List ℕ) → LayAsked plan f o r text → Possible r o
lay_possible None o f r text h = none_possible r o h.0
lay_possible (Some p) o f r text h = pool_possible (Wanted.Lay p) o f r text h

-- what starts a pool that the check grants
pub asked_started : (x : Wanted) (f : FieldKind) (w : Meaning) (y : By) (r : Option Request) (text : List ℕ) → None ≡ wanted_refusal x (arithmetic_of f).order w → Starts x y → Fits y (arithmetic_of f).order w →
    r ≡ Some (request.Pool (record { field = f; by = y })) → text ≡ codes "ok" → PoolAsked f x (Some w) r text
asked_started x f w y r text why starts fits asks e =
    subst (λ z. MatchOption z ((y : By) × Starts x y × Fits y (arithmetic_of f).order w × (r ≡ Some (request.Pool (record { field = f; by = y }))) × (text ≡ codes "ok")) (λ u. (r ≡ None) × (text ≡ refused_text u)))
    why (y, starts, fits, asks, e)

-- commands that are answered alike
pub alike : (c : Command) → ((x : RackCall) → c ≡ OnRack x → ⊥) → ((x : Call) → c ≡ OnPool x → ⊥) → (c ≡ Show → ⊥) → (c ≡ PoolLabel → ⊥) → IsAlike c
alike (Plan q d r d' r' L) a b x y = tt
alike Map a b x y = tt
alike (Label after) a b x y = tt
alike (Rack kind size) a b x y = tt
alike (OnRack c) a b x y = absurd (a c refl)
alike (Lay f) a b x y = tt
alike (Open f bytes) a b x y = tt
alike (OnPool c) a b x y = absurd (b c refl)
alike Show a b x y = absurd (x refl)
alike PoolLabel a b x y = absurd (y refl)

-- what follows of a value, where there is one
pub on_ok : {A E : Type 0} {P Q : A → Type 0} (r : Result A E) → ((a : A) → P a → Q a) → IfOk r P → IfOk r Q
on_ok (Ok a) f h = f a h
on_ok (Err e) f h = h
