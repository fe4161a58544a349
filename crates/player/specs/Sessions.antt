-- A script that is being played, part by part. Assumes nothing.
use Rattle.std.specs.Prelude.{◌≡◌, ℕ, ◌<◌, ◌≤◌, cond, List, [], ◌∷◌, ◌++◌, length, true, IfSome, Some, None, Option, MatchOption}
use Rattle.rack.specs.Laid.{blank, fair}
use Rattle.script.specs.declared.command.Command.{Command}
use Rattle.rack.specs.Meaning.{Meaning}
use Rattle.player.specs.declared.request.RackRequest.{RackRequest}
use Rattle.player.specs.declared.request.Request.{Request}
use Rattle.player.specs.declared.session.Session.{Session}
use Rattle.player.specs.Answers.{Memory, nothing, bare, State, state}
use Rattle.player.specs.Holding.{memory_by, Left}
use Rattle.player.specs.Transcripts.{lines, passed_over, Printed}

-- the lines that are not passed over
abbrev pub kept : List (List ℕ) → List (List ℕ)
kept [] = []
kept (line ∷ rest) = cond (passed_over line) (kept rest) (line ∷ kept rest)

-- the first line of a text that is not passed over, and what stands after it
abbrev pub IsNextLine : List ℕ → List ℕ → List ℕ → Type 0
IsNextLine text line rest = (kept (lines text) ≡ line ∷ kept (lines rest)) × (length rest < length text)

-- by which lines write which commands
module _ (writes : List ℕ → Command → Type 0) where
  -- out is printed so far for a script that began with b and the lines all, and with whatever the lines left print on from now
  -- the whole is right
  abbrev pub Sofar : State → List (List ℕ) → State → List (List ℕ) → List ℕ → Type 0
  Sofar b all now left out = (more : List ℕ) → Printed writes now left more → Printed writes b all (out ++ more)

  -- a part of a script is played, which takes what is printed so far from out to out'
  abbrev pub Goes : State → List (List ℕ) → List ℕ → State → List (List ℕ) → List ℕ → Type 0
  Goes now left out now' left' out' = (b : State) (all : List (List ℕ)) → Sofar b all now left out → Sofar b all now' left' out'

-- the lines that a session is still to answer
abbrev pub lines_left : {L : Type 0} → Session L → List (List ℕ)
lines_left s = kept (lines s.left.now)

-- a part of a session is played, from b to e, which takes the memory from m to m'
abbrev pub Plays : {L : Type 0} → (List ℕ → Command → Type 0) → Session L → Memory → Session L → Memory → Type 0
Plays writes b m e m' = Goes writes (state b.plan m) (lines_left b) b.out.items (state e.plan m') (lines_left e) e.out.items

-- it is played to the end of the script, or up to a line that asks for something
pub record Ends {L A : Type 0} (asked : Option A) (b e : Session L) : Type 0 where
  pub falls : length e.left.now ≤ length b.left.now
  pub how : MatchOption asked (lines_left e ≡ []) (λ _. length e.left.now < length b.left.now)

-- the memory that a session goes on with after its rack: the rack that is asked for
abbrev pub next_memory : Option RackRequest → Memory
next_memory None = nothing
next_memory (Some q) = bare (blank q.size)

-- a rack that is asked for has its numbers in their bounds
abbrev pub Makeable : Option RackRequest → Type 0
Makeable o = IfSome o (λ q. fair q.size ≡ true)

-- a part of a session is played from b to e, where its first line acts on m, and ends with no pool: with what is asked for
abbrev pub PlaysOn : {L : Type 0} → (List ℕ → Command → Type 0) → Session L → Memory → Session L → Option RackRequest → Type 0
PlaysOn writes b m e asked = Makeable asked × Ends asked b e × Plays writes b m e (next_memory asked)

-- the same where it ends with a rack that is given back, and with what is asked for over it
abbrev pub PlaysOver : {L R : Type 0} → (R → Type 0) → (R → Meaning) → (List ℕ → Command → Type 0) → Session L → Memory → Session L → Option Request × R → Type 0
PlaysOver valid meaning writes b m e s = Left valid meaning s.1 s.0 × Ends s.0 b e × Plays writes b m e (memory_by s.0 (bare (meaning s.1)))
