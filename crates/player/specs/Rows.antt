-- Calls on a pool that stand in a row of a script. Assumes nothing.
use Rattle.std.specs.Prelude.{◌≡◌, ℕ, List, [], ◌∷◌, ◌++◌, Some, None, codes, Option}
use Rattle.pool.specs.declared.kinds.Call.{Call}
use Rattle.pool.specs.Replies.{Answer}
use Rattle.script.specs.declared.command.Command.{Command}
use Rattle.script.specs.declared.command.Command.TheVariants.{OnPool}
use Rattle.script.specs.Script.{Understood}
use Rattle.player.specs.Shows.{answer_text}
use Rattle.player.specs.Holding.{call_in}
use Rattle.player.specs.declared.rows.ReadLine.{ReadLine}
use Rattle.player.specs.Sessions.{kept}
use Rattle.player.specs.Transcripts.{lines}

-- the lines, each with its answer
abbrev pub row_text : List (List ℕ) → List Answer → List ℕ
row_text [] told = []
row_text (line ∷ rest) [] = []
row_text (line ∷ rest) (a ∷ told) = line ++ (codes ": " ++ (answer_text a ++ 10 ∷ row_text rest told))

-- by which lines write which commands
module _ (writes : List ℕ → Command → Type 0) where
  -- the lines write these calls, one each
  abbrev pub CallsIn : List (List ℕ) → List Call → Type 0
  CallsIn [] [] = Unit {0}
  CallsIn [] (c ∷ cs) = ⊥
  CallsIn (line ∷ rest) [] = ⊥
  CallsIn (line ∷ rest) (c ∷ cs) = writes line (OnPool c) × CallsIn rest cs

  -- what is read of the lines that are left: of the first what it writes, which is no call on a pool; nothing where none is left
  abbrev pub ReadsNext : List (List ℕ) → Option ReadLine → Type 0
  ReadsNext left None = left ≡ []
  ReadsNext left (Some next) = (left ≡ next.line.now ∷ kept (lines next.rest.now)) × Understood writes next.line.now next.command × (call_in next.command ≡ None)

  -- the calls that stand in a row at the front of some lines, and what comes after them
  pub record Gathered (lines : List (List ℕ)) (calls : List Call) (next : Option ReadLine) : Type 0 where
    pub part : List (List ℕ)
    pub rest : List (List ℕ)
    pub are : lines ≡ part ++ rest
    pub written : CallsIn part calls
    pub after : ReadsNext rest next
