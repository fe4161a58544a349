-- What the program answers to a command, and what it leaves for the lines after it. Assumes nothing.
use Rattle.std.specs.Prelude.{◌≡◌, ℕ, Bool, cond, ◌⊎◌, List, [], ◌++◌, Some, None, codes, decimal, Option, MatchOption}
use Rattle.layout.specs.declared.plan.Plan as layout-plan
use Rattle.layout.specs.Labels.{label_of}
use Rattle.layout.specs.Refusals.{plan_refusal, Has}
use Rattle.rack.specs.Laid.{blank, fair, unless}
use Rattle.rack.specs.Meaning.{Meaning, symbol_at, takes, pulls, fits, after_put, after_pull, after_fit}
use Rattle.script.specs.declared.command.Command.{Command}
use Rattle.script.specs.declared.command.Command.TheVariants.{Plan, Map, Label, Rack, OnRack, Lay, Open, OnPool, Show, PoolLabel}
use Rattle.script.specs.declared.command.FieldKind.{FieldKind}
use Rattle.script.specs.declared.command.FieldKind.TheVariants.{Byte, Nibble, Prime}
use Rattle.script.specs.declared.command.RackCall.{RackCall}
use Rattle.script.specs.declared.command.RackCall.TheVariants.{Get, Put, Pull, Fit, Ask}
use Rattle.field.specs.Arithmetic.{Arithmetic}
use Rattle.field.specs.Binary.{byte, nibble}
use Rattle.field.specs.Prime.{prime}
use Rattle.layout.specs.declared.label.Label as layout-label
use Rattle.coding.specs.Schemes.{scheme_of}
use Rattle.pool.specs.declared.kinds.Call.{Call}
use Rattle.pool.specs.Replies.{Answer}
use Rattle.pool.specs.Standing.{Standing}
use Rattle.pool.specs.Effects.{Does}
use Rattle.pool.specs.Book.{opened_phase}
use Rattle.pool.specs.Openings.{lay_refusal, open_refusal, laid_over, is_after}
use Rattle.layout.specs.Rules.{refused_text}
use Rattle.player.specs.Texts.{map_text, label_text}
use Rattle.player.specs.Shows.{answer_text, show_text}

-- the answer that a plan gives, or that there is none yet
abbrev pub asked : Option layout-plan.Plan → (layout-plan.Plan → List ℕ) → List ℕ
asked None f = codes "no plan"
asked (Some p) f = f p

-- what a script's calls act on: nothing yet, a rack, or a pool over a field and by a plan, which has the rack
pub data Memory : Type 0 where
  nothing : Memory
  bare : Meaning → Memory
  pooled : Arithmetic → layout-plan.Plan → Standing → Memory

-- what the rack in use means, whether a pool has it or not
abbrev pub rack_in : Memory → Option Meaning
rack_in nothing = None
rack_in (bare w) = Some w
rack_in (pooled A p s) = Some s.held

-- what the lines of a script act on: the plan in use, and the memory
pub record State : Type 0 where
  pub plan : Option layout-plan.Plan
  pub memory : Memory

abbrev pub state : Option layout-plan.Plan → Memory → State
state p m = record { plan = p; memory = m }

abbrev pub arithmetic_of : FieldKind → Arithmetic
arithmetic_of Byte = byte
arithmetic_of Nibble = nibble
arithmetic_of Prime = prime

abbrev pub got_text : Option ℕ → List ℕ
got_text None = codes "nothing"
got_text (Some v) = codes "ok " ++ decimal v

abbrev pub done_text : Bool → List ℕ
done_text b = cond b (codes "done") (codes "nothing done")

abbrev pub asked_text : Bool → List ℕ
asked_text b = cond b (codes "fitted") (codes "out")

-- the text that a call on a rack answers, and what the rack means after it
abbrev pub called_text : Meaning → RackCall → List ℕ
called_text w (Get m s o) = got_text (symbol_at w m s o)
called_text w (Put m s o v) = done_text (takes w m s o v)
called_text w (Pull m) = done_text (pulls w m)
called_text w (Fit m) = done_text (fits w m)
called_text w (Ask m) = asked_text (pulls w m)

abbrev pub called : Meaning → RackCall → Meaning
called w (Get m s o) = w
called w (Put m s o v) = after_put w m s o v
called w (Pull m) = after_pull w m
called w (Fit m) = after_fit w m
called w (Ask m) = w

-- the same where there may be no rack, or a pool has it
abbrev pub rack_text : Memory → RackCall → List ℕ
rack_text nothing c = codes "no rack"
rack_text (bare w) c = called_text w c
rack_text (pooled A p s) c = codes "no rack"

abbrev pub rack_after : Memory → RackCall → Memory
rack_after nothing c = nothing
rack_after (bare w) c = bare (called w c)
rack_after (pooled A p s) c = pooled A p s

-- a command that leaves all as it is
abbrev pub Says : State → List ℕ → State → List ℕ → Type 0
Says b saying e text = (e ≡ b) × (text ≡ saying)

-- a pool is laid by the plan in use over the rack in use
abbrev pub Lays : State → FieldKind → Option layout-plan.Plan → Option Meaning → State → List ℕ → Type 0
Lays b f None o e text = Says b (codes "no plan") e text
Lays b f (Some p) None e text = Says b (codes "no rack") e text
Lays b f (Some p) (Some w) e text =
    MatchOption (lay_refusal p (arithmetic_of f).order w) ((e ≡ state b.plan (pooled (arithmetic_of f) p (laid_over p w))) × (text ≡ codes "ok")) (λ x. Says b (refused_text x) e text)

-- a pool that was just opened by a label over a rack
abbrev pub opened_over : layout-label.Label → Meaning → Standing
opened_over m w = record { phase = opened_phase m.after; carried = 0; held = w }

-- the bytes that a label is opened from; any number of them that is not 16 is refused alike
abbrev pub label_bytes : Option (List ℕ) → List ℕ
label_bytes None = []
label_bytes (Some bytes) = bytes

-- a pool is opened by a label over the rack in use
abbrev pub Opens : State → FieldKind → List ℕ → Option Meaning → State → List ℕ → Type 0
Opens b f bytes None e text = Says b (codes "no rack") e text
Opens b f bytes (Some w) e text =
    MatchOption (open_refusal bytes (arithmetic_of f).order w)
    ((m : layout-label.Label) × (bytes ≡ label_of m) × (e ≡ state b.plan (pooled (arithmetic_of f) m.plan (opened_over m w))) × (text ≡ codes "ok"))
    (λ x. Says b (refused_text x) e text)

-- a call on the pool does what its rule says
abbrev pub CallsPool : State → Call → Memory → State → List ℕ → Type 0
CallsPool b c nothing e text = Says b (codes "no pool") e text
CallsPool b c (bare w) e text = Says b (codes "no pool") e text
CallsPool b c (pooled A p s) e text = (a : Answer) × (t : Standing) × Does A (scheme_of p) s c a t × (e ≡ state b.plan (pooled A p t)) × (text ≡ answer_text a)

-- a text about the pool, or that there is none
abbrev pub pool_text : Memory → (layout-plan.Plan → Standing → List ℕ) → List ℕ
pool_text nothing f = codes "no pool"
pool_text (bare w) f = codes "no pool"
pool_text (pooled A p s) f = f p s

abbrev pub standing_text : layout-plan.Plan → Standing → List ℕ
standing_text p s = show_text p s.phase s.carried s.held

abbrev pub pool_label_text : layout-plan.Plan → Standing → List ℕ
pool_label_text p s = label_text p (is_after s.phase)

-- a command answers a text, and leaves a plan and a memory for the lines after it
abbrev pub Responds : State → Command → State → List ℕ → Type 0
Responds b (Plan q d r d' r' L) e text =
    MatchOption (plan_refusal q d r d' r' L)
    ((p : layout-plan.Plan) × Has q d r d' r' L p × (e ≡ state (Some p) b.memory) × (text ≡ codes "ok"))
    (λ x. Says b (refused_text x) e text)
Responds b Map e text = Says b (asked b.plan map_text) e text
Responds b (Label flag) e text = Says b (asked b.plan (λ p. label_text p flag)) e text
Responds b (Rack kind size) e text =
    MatchOption (unless (fair size)) ((e ≡ state b.plan (bare (blank size))) × (text ≡ codes "ok")) (λ x. Says b (refused_text x) e text)
Responds b (OnRack c) e text = (e ≡ state b.plan (rack_after b.memory c)) × (text ≡ rack_text b.memory c)
Responds b (Lay f) e text = Lays b f b.plan (rack_in b.memory) e text
Responds b (Open f bytes) e text = Opens b f (label_bytes bytes) (rack_in b.memory) e text
Responds b (OnPool c) e text = CallsPool b c b.memory e text
Responds b Show e text = Says b (pool_text b.memory standing_text) e text
Responds b PoolLabel e text = Says b (pool_text b.memory pool_label_text) e text

-- what is read of a line, a command or none, answers as the command does; where no command is written nothing changes
abbrev pub Replies : State → Option Command → State → List ℕ → Type 0
Replies b (Some c) e text = Responds b c e text
Replies b None e text = Says b (codes "not understood") e text

-- a line answers as its command does, by which lines write which commands; one that writes no command changes nothing
abbrev pub Answers : (List ℕ → Command → Type 0) → State → List ℕ → State → List ℕ → Type 0
Answers writes b line e text =
    ((c : Command) × writes line c × Responds b c e text)
    ⊎ (((c : Command) → writes line c → ⊥) × Says b (codes "not understood") e text)
