-- What the program prints for a whole script. Assumes nothing.
use Rattle.std.specs.Prelude.{◌≡◌, ℕ, Bool, true, cond, List, [], ◌∷◌, ◌++◌, codes, MatchBool, ◌==◌}
use Rattle.script.specs.declared.command.Command.{Command}
use Rattle.player.specs.Answers.{State, Answers}

-- the lines of a script: each ends at a newline, but for the last where none follows it
abbrev pub on_first : ℕ → List (List ℕ) → List (List ℕ)
on_first c [] = (c ∷ []) ∷ []
on_first c (line ∷ rest) = (c ∷ line) ∷ rest

abbrev pub lines : List ℕ → List (List ℕ)
lines [] = []
lines (c ∷ cs) = cond (c == 10) ([] ∷ lines cs) (on_first c (lines cs))

-- an empty line, or one that begins with a number sign, is passed over
abbrev pub passed_over : List ℕ → Bool
passed_over [] = true
passed_over (c ∷ cs) = c == 35

-- by which lines write which commands
module _ (writes : List ℕ → Command → Type 0) where
  -- a line is printed with its answer, and then what the rest prints with what the line leaves
  abbrev pub LinePrinted : State → List ℕ → (State → List ℕ → Type 0) → List ℕ → Type 0
  LinePrinted b line Rest out =
      (after : State) × (text : List ℕ) × (more : List ℕ) × (out ≡ line ++ (codes ": " ++ (text ++ 10 ∷ more))) × Answers writes b line after text × Rest after more

  -- the lines that are not passed over are printed, each with its answer, in order; b is what they act on
  abbrev pub Printed : State → List (List ℕ) → List ℕ → Type 0
  Printed b [] out = out ≡ []
  Printed b (line ∷ rest) out = MatchBool (passed_over line) (Printed b rest out) (LinePrinted b line (λ after more. Printed after rest more) out)
