-- The texts that the program prints for a pool. Assumes nothing.
use Rattle.std.specs.Prelude.{ℕ, cond, List, [], ◌∷◌, ◌++◌, codes, decimal, Ok, Err}
use Rattle.layout.specs.declared.plan.Plan.{Plan}
use Rattle.layout.specs.Counts.{modules_of, slots_of}
use Rattle.rack.specs.Meaning.{Meaning}
use Rattle.pool.specs.declared.kinds.Phase.{Phase}
use Rattle.pool.specs.declared.kinds.Phase.TheVariants.{Before, UnderWay, Voided, After}
use Rattle.pool.specs.Replies.{Answer}
use Rattle.pool.specs.declared.kinds.Reply.TheVariants.{Symbol, Carried, Done}
use Rattle.pool.specs.Book.{phase_number}
use Rattle.layout.specs.Rules.{refused_text}
use Rattle.player.specs.Texts.{each}

-- what a call of a pool answers: a symbol, the data and parity chunks that were read, that it is done, or a refusal
abbrev pub answer_text : Answer → List ℕ
answer_text (Ok (Symbol v)) = codes "ok " ++ decimal v
answer_text (Ok (Carried chunks parities)) = codes "ok " ++ (decimal chunks ++ (codes " " ++ decimal parities))
answer_text (Ok Done) = codes "ok"
answer_text (Err e) = refused_text e

-- the stripes that are carried, of n that a pool has counted: none outside a changeover
abbrev pub carried_now : Phase → ℕ → ℕ
carried_now Before n = 0
carried_now UnderWay n = n
carried_now Voided n = n
carried_now After n = 0

-- the phase and the stripes that are carried
abbrev pub phase_text : Phase → ℕ → List ℕ
phase_text phase n = codes "phase " ++ (decimal (phase_number phase) ++ (codes ", carried " ++ (decimal (carried_now phase n) ++ codes ", out")))

-- module m, after a space, if it is out
abbrev pub out_text : Meaning → ℕ → List ℕ
out_text w m = cond (w.fitted m) [] (32 ∷ decimal m)

-- a new line with slot s of module m: its first L symbols by rising offset
abbrev pub slot_text : Meaning → ℕ → ℕ → ℕ → List ℕ
slot_text w L m s = (10 ∷ codes "module " ++ (decimal m ++ (codes " slot " ++ (decimal s ++ codes ":")))) ++ each L (λ o. 32 ∷ decimal (w.symbol m s o))

-- the lines of module m: its first S slots, if it is fitted
abbrev pub module_text : Meaning → ℕ → ℕ → ℕ → List ℕ
module_text w L S m = cond (w.fitted m) (each S (slot_text w L m)) []

-- a pool of plan p over a rack that means w
abbrev pub show_text : Plan → Phase → ℕ → Meaning → List ℕ
show_text p phase n w =
    phase_text phase n
    ++ each (modules_of p.r p.d2 p.r2) (out_text w)
    ++ each (modules_of p.r p.d2 p.r2) (module_text w p.len (slots_of p.d p.d2))
