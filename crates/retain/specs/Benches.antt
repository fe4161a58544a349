-- What the program prints, said of plans and racks alone. Assumes nothing.
use Rattle.std.specs.Prelude.{◌≡◌, ℕ, ◌⊎◌, List, [], ◌∷◌, ◌++◌, Some, None, codes, MatchBool, Option, MatchOption}
use Rattle.layout.specs.declared.plan.Plan as layout-plan
use Rattle.layout.specs.Refusals.{plan_refusal, Has}
use Rattle.rack.specs.Laid.{blank, fair, unless}
use Rattle.rack.specs.Meaning.{Meaning}
use Rattle.script.specs.declared.command.Command.{Command}
use Rattle.script.specs.declared.command.Command.TheVariants.{Plan, Map, Label, Rack, OnRack, Lay, Open, OnPool, Show, PoolLabel}
use Rattle.script.specs.declared.command.RackCall.{RackCall}
use Rattle.script.specs.Script.{WritesWithoutPools}
use Rattle.player.specs.Answers.{asked, called, called_text}
use Rattle.layout.specs.Rules.{refused_text}
use Rattle.player.specs.Texts.{map_text, label_text}
use Rattle.player.specs.Transcripts.{passed_over}

-- what the lines of a script act on: the plan in use, and what the rack in use means
pub record Bench : Type 0 where
  pub plan : Option layout-plan.Plan
  pub rack : Option Meaning

abbrev pub bench : Option layout-plan.Plan → Option Meaning → Bench
bench p w = record { plan = p; rack = w }

-- the text that a call on the rack answers, and what the rack means after it, where there may be none
abbrev pub rack_text : Option Meaning → RackCall → List ℕ
rack_text None c = codes "no rack"
rack_text (Some w) c = called_text w c

abbrev pub rack_after : Option Meaning → RackCall → Option Meaning
rack_after None c = None
rack_after (Some w) c = Some (called w c)

-- a command answers a text, and leaves a plan and a rack for the lines after it; commands of pools are not in the language
abbrev pub Responds : Bench → Command → Bench → List ℕ → Type 0
Responds b (Plan q d r d' r' L) e text =
    MatchOption (plan_refusal q d r d' r' L)
    ((p : layout-plan.Plan) × Has q d r d' r' L p × (e ≡ bench (Some p) b.rack) × (text ≡ codes "ok"))
    (λ x. (e ≡ b) × (text ≡ refused_text x))
Responds b Map e text = (e ≡ b) × (text ≡ asked b.plan map_text)
Responds b (Label flag) e text = (e ≡ b) × (text ≡ asked b.plan (λ p. label_text p flag))
Responds b (Rack kind size) e text =
    MatchOption (unless (fair size)) ((e ≡ bench b.plan (Some (blank size))) × (text ≡ codes "ok")) (λ x. (e ≡ b) × (text ≡ refused_text x))
Responds b (OnRack c) e text = (e ≡ bench b.plan (rack_after b.rack c)) × (text ≡ rack_text b.rack c)
Responds b (Lay f) e text = ⊥
Responds b (Open f bytes) e text = ⊥
Responds b (OnPool c) e text = ⊥
Responds b Show e text = ⊥
Responds b PoolLabel e text = ⊥

-- a line answers as its command does; one that writes no command changes nothing
abbrev pub Answers : Bench → List ℕ → Bench → List ℕ → Type 0
Answers b line e text =
    ((c : Command) × WritesWithoutPools line c × Responds b c e text)
    ⊎ (((c : Command) → WritesWithoutPools line c → ⊥) × (e ≡ b) × (text ≡ codes "not understood"))

-- a line is printed with its answer, and then what the rest prints with what the line leaves
abbrev pub LinePrinted : Bench → List ℕ → (Bench → List ℕ → Type 0) → List ℕ → Type 0
LinePrinted b line Rest out =
    (after : Bench) × (text : List ℕ) × (more : List ℕ) × (out ≡ line ++ (codes ": " ++ (text ++ 10 ∷ more))) × Answers b line after text × Rest after more

-- the lines that are not passed over are printed, each with its answer, in order; b is what they act on
abbrev pub Printed : Bench → List (List ℕ) → List ℕ → Type 0
Printed b [] out = out ≡ []
Printed b (line ∷ rest) out = MatchBool (passed_over line) (Printed b rest out) (LinePrinted b line (λ after more. Printed after rest more) out)
