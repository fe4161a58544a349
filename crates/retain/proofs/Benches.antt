-- What is printed in the language without pools is what is printed of plans and racks alone. Assumes nothing.
use Rattle.std.proofs.Common.{◌≡◌, ℕ, Bool, true, false, List, [], ◌∷◌, IfOk, Some, None, Ok, Err, codes, MatchBool, Option, MatchOption, Result, refl, subst, inl, inr, arith}
use Rattle.layout.specs.declared.plan.Plan as layout-plan
use Rattle.layout.specs.declared.refusal.Refusal.{Refusal}
use Rattle.layout.specs.Refusals.{plan_refusal, Has}
use Rattle.rack.specs.declared.size.Size.{Size}
use Rattle.rack.specs.Laid.{blank, fair, unless}
use Rattle.rack.specs.Meaning.{Meaning}
use Rattle.script.specs.declared.command.Command.{Command}
use Rattle.script.specs.declared.command.Command.TheVariants.{Plan, Map, Label, Rack, OnRack, Lay, Open, OnPool, Show, PoolLabel}
use Rattle.script.specs.declared.command.RackCall.{RackCall}
use Rattle.script.specs.Script.{of_pools, WritesWithoutPools}
use Rattle.player.specs.Answers as player
use Rattle.player.specs.Holding.{alone}
use Rattle.layout.specs.Rules.{refused_text}
use Rattle.player.specs.Transcripts as transcript
use Rattle.player.specs.Transcripts.{passed_over}
use Rattle.retain.specs.Benches.{Bench, bench, rack_text, rack_after, Responds, Answers, LinePrinted, Printed}

-- the state that stands for a plan and a rack
abbrev pub state_of : Bench → player.State
state_of b = player.state b.plan (alone b.rack)

-- the answer to a command, and what it leaves
abbrev pub Left : Bench → Command → player.State → List ℕ → Type 0
Left b c e text = (next : Bench) × (e ≡ state_of next) × Responds b c next text

plan_by : (b : Bench) (q d r d' r' L : ℕ) (e : player.State) (text : List ℕ) (x : Option Refusal) →
    MatchOption x ((p : layout-plan.Plan) × Has q d r d' r' L p × (e ≡ player.state (Some p) (alone b.rack)) × (text ≡ codes "ok")) (λ y. player.Says (state_of b) (refused_text y) e text) →
    (next : Bench) × (e ≡ state_of next) × MatchOption x ((p : layout-plan.Plan) × Has q d r d' r' L p × (next ≡ bench (Some p) b.rack) × (text ≡ codes "ok")) (λ y. (next ≡ b) × (text ≡ refused_text y))
plan_by b q d r d' r' L e text None h = (bench (Some h.0) b.rack, h.2, (h.0, h.1, refl, h.3))
plan_by b q d r d' r' L e text (Some y) h = (b, h.0, (refl, h.1))

rack_by : (b : Bench) (size : Size) (e : player.State) (text : List ℕ) (f : Bool) →
    MatchOption (unless f) ((e ≡ player.state b.plan (player.bare (blank size))) × (text ≡ codes "ok")) (λ y. player.Says (state_of b) (refused_text y) e text) →
    (next : Bench) × (e ≡ state_of next) × MatchOption (unless f) ((next ≡ bench b.plan (Some (blank size))) × (text ≡ codes "ok")) (λ y. (next ≡ b) × (text ≡ refused_text y))
rack_by b size e text true h = (bench b.plan (Some (blank size)), h.0, (refl, h.1))
rack_by b size e text false h = (b, h.0, (refl, h.1))

call_by : (p : Option layout-plan.Plan) (o : Option Meaning) (c : RackCall) (e : player.State) (text : List ℕ) → (e ≡ player.state p (player.rack_after (alone o) c)) × (text ≡ player.rack_text (alone o) c) →
    (next : Bench) × (e ≡ state_of next) × ((next ≡ bench p (rack_after o c)) × (text ≡ rack_text o c))
call_by p None c e text h = (bench p None, h.0, (refl, h.1))
call_by p (Some w) c e text h = (bench p (Some (player.called w c)), h.0, (refl, h.1))

responded : (b : Bench) (c : Command) (e : player.State) (text : List ℕ) → of_pools c ≡ false → player.Responds (state_of b) c e text → Left b c e text
responded b (Plan q d r d' r' L) e text is h = plan_by b q d r d' r' L e text (plan_refusal q d r d' r' L) h
responded b Map e text is h = (b, h.0, (refl, h.1))
responded b (Label flag) e text is h = (b, h.0, (refl, h.1))
responded b (Rack kind size) e text is h = rack_by b size e text (fair size) h
responded b (OnRack c) e text is h = call_by b.plan b.rack c e text h
responded b (Lay f) e text is h = absurd (let z : ◌≡◌ {A = ℕ} 0 1 = cc in omega arith)
responded b (Open f bytes) e text is h = absurd (let z : ◌≡◌ {A = ℕ} 0 1 = cc in omega arith)
responded b (OnPool c) e text is h = absurd (let z : ◌≡◌ {A = ℕ} 0 1 = cc in omega arith)
responded b Show e text is h = absurd (let z : ◌≡◌ {A = ℕ} 0 1 = cc in omega arith)
responded b PoolLabel e text is h = absurd (let z : ◌≡◌ {A = ℕ} 0 1 = cc in omega arith)

-- a line with its answer
answered : (b : Bench) (line : List ℕ) (e : player.State) (text : List ℕ) → player.Answers WritesWithoutPools (state_of b) line e text → (next : Bench) × (e ≡ state_of next) × Answers b line next text
answered b line e text (inl h) = let x = responded b h.0 e text h.1.1 h.2 in (x.0, x.1, inl (h.0, h.1, x.2))
answered b line e text (inr h) = (b, h.1.0, inr (h.0, refl, h.1.1))

-- a script
abbrev pub Goes : List (List ℕ) → Type 0
Goes ls = (b : Bench) (out : List ℕ) → transcript.Printed WritesWithoutPools (state_of b) ls out → Printed b ls out

line_by : (pass : Bool) (b : Bench) (line : List ℕ) (rest : List (List ℕ)) (out : List ℕ) → Goes rest →
    MatchBool pass (transcript.Printed WritesWithoutPools (state_of b) rest out) (transcript.LinePrinted WritesWithoutPools (state_of b) line (λ after more. transcript.Printed WritesWithoutPools after rest more) out) →
    MatchBool pass (Printed b rest out) (LinePrinted b line (λ after more. Printed after rest more) out)
line_by true b line rest out goes h = goes b out h
line_by false b line rest out goes h =
    let x = answered b line h.0 h.1 h.4 in
    (x.0, h.1, h.2, h.3, x.2, goes x.0 h.2 (subst (λ s. transcript.Printed WritesWithoutPools s rest h.2) x.1 h.5))

printed : (ls : List (List ℕ)) → Goes ls
printed [] b out h = h
printed (line ∷ rest) b out h = line_by (passed_over line) b line rest out (printed rest) h

pub printed_alone : {A E : Type 0} (r : Result A E) (items : A → List ℕ) (ls : List (List ℕ)) → IfOk r (λ v. transcript.Printed WritesWithoutPools (player.state None player.nothing) ls (items v)) → IfOk r (λ v. Printed (bench None None) ls (items v))
printed_alone (Ok v) items ls h = printed ls (bench None None) (items v) h
printed_alone (Err e) items ls h = tt
