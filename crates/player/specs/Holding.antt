-- What a script acts on, as the program holds it. Assumes nothing.
use Rattle.std.specs.Prelude.{◌≡◌, ℕ, true, List, IfSome, Some, None, Ok, Err, codes, Option, Result, MatchOption}
use Rattle.field.specs.Arithmetic.{Arithmetic}
use Rattle.layout.specs.declared.plan.Plan.{Plan}
use Rattle.layout.specs.declared.refusal.Refusal.{Refusal}
use Rattle.rack.specs.Laid.{blank, fair, unless}
use Rattle.rack.specs.Meaning.{Meaning}
use Rattle.pool.specs.declared.kinds.Call.{Call}
use Rattle.pool.specs.declared.pool.Pool.{Pool}
use Rattle.layout.specs.Labels.{label_of}
use Rattle.pool.specs.Openings.{lay_refusal, open_refusal, fit_refusal, laid_over}
use Rattle.pool.specs.Pools.{standing}
use Rattle.script.specs.declared.command.Command.{Command}
use Rattle.script.specs.declared.command.Command.TheVariants as command
use Rattle.script.specs.declared.command.FieldKind.{FieldKind}
use Rattle.player.specs.declared.racks.Outcome.{Outcome}
use Rattle.player.specs.declared.racks.Outcome.TheVariants.{Got, Done, Fitted, NoRack}
use Rattle.player.specs.declared.request.RackRequest.{RackRequest}
use Rattle.player.specs.declared.request.By.{By}
use Rattle.player.specs.declared.request.By.TheVariants as by
use Rattle.player.specs.declared.request.Start.{Start}
use Rattle.player.specs.declared.request.Wanted.{Wanted}
use Rattle.player.specs.declared.request.Wanted.TheVariants.{Lay, Open}
use Rattle.player.specs.declared.request.Request.{Request}
use Rattle.player.specs.declared.request.Request.TheVariants as request
use Rattle.layout.specs.Rules.{refused_text}
use Rattle.player.specs.Answers.{Memory, nothing, bare, pooled, rack_in, arithmetic_of, got_text, done_text, asked_text, label_bytes, opened_over}

-- the text of what a call on the rack came to
abbrev pub outcome_text : Outcome → List ℕ
outcome_text (Got o) = got_text o
outcome_text (Done b) = done_text b
outcome_text (Fitted b) = asked_text b
outcome_text NoRack = codes "no rack"

-- the rack, if there is one, keeps what it keeps true of itself
abbrev pub Ready : {R : Type 0} → (R → Type 0) → Option R → Type 0
Ready valid o = IfSome o valid

-- the memory where no pool has the rack
abbrev pub alone : Option Meaning → Memory
alone None = nothing
alone (Some w) = bare w

-- the memory where a pool has it
module _ {F R : Type 0} (arithmetic : F → Arithmetic) (valid : R → Type 0) (meaning : R → Meaning) where
  abbrev pub within : Pool F R → Memory
  within x = pooled (arithmetic x.field) x.plan (standing arithmetic valid meaning x)

-- the pool that a line starts over the rack in use
abbrev pub started_over : Arithmetic → By → Meaning → Memory
started_over A (by.Plan p) w = pooled A p (laid_over p w)
started_over A (by.Label m) w = pooled A m.plan (opened_over m w)

abbrev pub started : Start → Meaning → Memory
started s w = started_over (arithmetic_of s.field) s.by w

abbrev pub started_on : Start → Option Meaning → Memory
started_on s None = nothing
started_on s (Some w) = started s w

-- the memory after a line: what the line asks for, or else what is there
abbrev pub memory_by : Option Request → Memory → Memory
memory_by None m = m
memory_by (Some (request.Rack q)) m = bare (blank q.size)
memory_by (Some (request.Pool s)) m = started_on s (rack_in m)

-- a start over a field of order q that the check does not refuse
abbrev pub Fits : By → ℕ → Meaning → Type 0
Fits (by.Plan p) q w = lay_refusal p q w ≡ None
Fits (by.Label m) q w = fit_refusal m.plan q w ≡ None

abbrev pub Startable : Start → Meaning → Type 0
Startable s w = Fits s.by (arithmetic_of s.field).order w

-- what is asked for can be had: a rack has its numbers in their bounds, a pool has a rack that fits it
abbrev pub Possible : Option Request → Option Meaning → Type 0
Possible None o = Unit {0}
Possible (Some (request.Rack q)) o = fair q.size ≡ true
Possible (Some (request.Pool s)) o = MatchOption o ⊥ (Startable s)

-- a rack that is given back, with what is asked for over it
abbrev pub Left : {R : Type 0} → (R → Type 0) → (R → Meaning) → R → Option Request → Type 0
Left valid meaning x r = valid x × Possible r (Some (meaning x))

-- what a line that sets the plan leaves and answers
abbrev pub PlanSet : Option Plan → Result Plan Refusal → Option Plan → List ℕ → Type 0
PlanSet old (Ok p) new text = (new ≡ Some p) × (text ≡ codes "ok")
PlanSet old (Err e) new text = (new ≡ old) × (text ≡ refused_text e)

-- what a line that asks for a rack asks and answers
abbrev pub RackAsked : RackRequest → Option Request → List ℕ → Type 0
RackAsked q r text =
    MatchOption (unless (fair q.size)) ((r ≡ Some (request.Rack q)) × (text ≡ codes "ok")) (λ e. (r ≡ None) × (text ≡ refused_text e))

-- why a pool is refused that a line wants over a field of order q and a rack
abbrev pub wanted_refusal : Wanted → ℕ → Meaning → Option Refusal
wanted_refusal (Lay p) q w = lay_refusal p q w
wanted_refusal (Open bytes) q w = open_refusal (label_bytes bytes) q w

-- what starts the pool that a line wants: its plan, or the label that its bytes are
abbrev pub Starts : Wanted → By → Type 0
Starts (Lay p) (by.Plan p') = p' ≡ p
Starts (Lay p) (by.Label m) = ⊥
Starts (Open bytes) (by.Plan p) = ⊥
Starts (Open bytes) (by.Label m) = label_bytes bytes ≡ label_of m

-- what a line that wants a pool asks and answers
abbrev pub PoolAsked : FieldKind → Wanted → Option Meaning → Option Request → List ℕ → Type 0
PoolAsked f x None r text = (r ≡ None) × (text ≡ codes "no rack")
PoolAsked f x (Some w) r text =
    MatchOption (wanted_refusal x (arithmetic_of f).order w)
    ((y : By) × Starts x y × Fits y (arithmetic_of f).order w × (r ≡ Some (request.Pool (record { field = f; by = y }))) × (text ≡ codes "ok"))
    (λ e. (r ≡ None) × (text ≡ refused_text e))

abbrev pub LayAsked : Option Plan → FieldKind → Option Meaning → Option Request → List ℕ → Type 0
LayAsked None f o r text = (r ≡ None) × (text ≡ codes "no plan")
LayAsked (Some p) f o r text = PoolAsked f (Lay p) o r text

-- the call on a pool that a command is
abbrev pub call_in : Option Command → Option Call
call_in None = None
call_in (Some (command.Plan q d r d' r' L)) = None
call_in (Some command.Map) = None
call_in (Some (command.Label flag)) = None
call_in (Some (command.Rack kind size)) = None
call_in (Some (command.OnRack c)) = None
call_in (Some (command.Lay f)) = None
call_in (Some (command.Open f bytes)) = None
call_in (Some (command.OnPool c)) = Some c
call_in (Some command.Show) = None
call_in (Some command.PoolLabel) = None

-- a command that is answered alike whether a pool has the rack or none has
abbrev pub IsAlike : Command → Type 0
IsAlike (command.Plan q d r d' r' L) = Unit {0}
IsAlike command.Map = Unit {0}
IsAlike (command.Label flag) = Unit {0}
IsAlike (command.Rack kind size) = Unit {0}
IsAlike (command.OnRack c) = ⊥
IsAlike (command.Lay f) = Unit {0}
IsAlike (command.Open f bytes) = Unit {0}
IsAlike (command.OnPool c) = ⊥
IsAlike command.Show = ⊥
IsAlike command.PoolLabel = ⊥
