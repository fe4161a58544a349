-- The commands of a script, and the lines that write them. Assumes nothing.
use Rattle.std.specs.Prelude.{◌≡◌, ℕ, Bool, true, false, List, [], ◌∷◌, Some, None, codes, Option}
use Rattle.layout.specs.Labels.{flag}
use Rattle.script.specs.declared.command.Command.{Command}
use Rattle.script.specs.declared.command.Command.TheVariants.{Plan, Map, Label, Rack, OnRack, Lay, Open, OnPool, Show, PoolLabel}
use Rattle.script.specs.declared.command.FieldKind.{FieldKind}
use Rattle.script.specs.declared.command.FieldKind.TheVariants.{Byte, Nibble, Prime}
use Rattle.pool.specs.declared.kinds.Call.TheVariants as Call
use Rattle.script.specs.declared.command.RackKind.{RackKind}
use Rattle.script.specs.declared.command.RackKind.TheVariants.{Flat, Turning}
use Rattle.script.specs.declared.command.RackCall.TheVariants.{Get, Put, Pull, Fit, Ask}
use Rattle.script.specs.declared.command.Name.{Name}
use Rattle.script.specs.Words.{word, rest, Numbers, HexWord}

-- how a name, a kind of rack and a field are spelled
abbrev pub spelled : Name → List ℕ
spelled Name.Plan = codes "plan"
spelled Name.Map = codes "map"
spelled Name.Label = codes "label"
spelled Name.Rack = codes "rack"
spelled Name.Get = codes "get"
spelled Name.Put = codes "put"
spelled Name.PullModule = codes "pull-module"
spelled Name.FitModule = codes "fit-module"
spelled Name.Ask = codes "ask"
spelled Name.Lay = codes "lay"
spelled Name.Open = codes "open"
spelled Name.Read = codes "read"
spelled Name.Write = codes "write"
spelled Name.Pull = codes "pull"
spelled Name.Refit = codes "refit"
spelled Name.Begin = codes "begin"
spelled Name.Carry = codes "carry"
spelled Name.Ready = codes "ready"
spelled Name.Close = codes "close"
spelled Name.Drop = codes "drop"
spelled Name.Show = codes "show"

abbrev pub kind_name : RackKind → List ℕ
kind_name Flat = codes "flat"
kind_name Turning = codes "turning"

abbrev pub field_name : FieldKind → List ℕ
field_name Byte = codes "byte"
field_name Nibble = codes "nibble"
field_name Prime = codes "prime"

-- the name that a command begins with
abbrev pub name_of : Command → Name
name_of (Plan q d r d' r' L) = Name.Plan
name_of Map = Name.Map
name_of (Label after) = Name.Label
name_of (Rack kind size) = Name.Rack
name_of (OnRack (Get m s o)) = Name.Get
name_of (OnRack (Put m s o v)) = Name.Put
name_of (OnRack (Pull m)) = Name.PullModule
name_of (OnRack (Fit m)) = Name.FitModule
name_of (OnRack (Ask m)) = Name.Ask
name_of (Lay f) = Name.Lay
name_of (Open f bytes) = Name.Open
name_of (OnPool (Call.Read c o)) = Name.Read
name_of (OnPool (Call.Write c o v)) = Name.Write
name_of (OnPool (Call.Pull m)) = Name.Pull
name_of (OnPool (Call.Refit m)) = Name.Refit
name_of (OnPool Call.Begin) = Name.Begin
name_of (OnPool Call.Carry) = Name.Carry
name_of (OnPool Call.Ready) = Name.Ready
name_of (OnPool Call.Close) = Name.Close
name_of (OnPool Call.Drop) = Name.Drop
name_of Show = Name.Show
name_of PoolLabel = Name.Label

-- what stands after the name of a command: its numbers, a flag being 0 or 1; for a rack its kind before them; for a pool its field,
-- and a label
abbrev pub Arguments : List ℕ → Command → Type 0
Arguments text (Plan q d r d' r' L) = Numbers text (q ∷ d ∷ r ∷ d' ∷ r' ∷ L ∷ [])
Arguments text Map = Numbers text []
Arguments text (Label after) = Numbers text (flag after ∷ [])
Arguments text (Rack kind size) = (word text ≡ kind_name kind) × Numbers (rest text) (size.order ∷ size.modules ∷ size.slots ∷ size.length ∷ [])
Arguments text (OnRack (Get m s o)) = Numbers text (m ∷ s ∷ o ∷ [])
Arguments text (OnRack (Put m s o v)) = Numbers text (m ∷ s ∷ o ∷ v ∷ [])
Arguments text (OnRack (Pull m)) = Numbers text (m ∷ [])
Arguments text (OnRack (Fit m)) = Numbers text (m ∷ [])
Arguments text (OnRack (Ask m)) = Numbers text (m ∷ [])
Arguments text (Lay f) = (word text ≡ field_name f) × Numbers (rest text) []
Arguments text (Open f bytes) = (word text ≡ field_name f) × HexWord (word (rest text)) bytes × Numbers (rest (rest text)) []
Arguments text (OnPool (Call.Read c o)) = Numbers text (c ∷ o ∷ [])
Arguments text (OnPool (Call.Write c o v)) = Numbers text (c ∷ o ∷ v ∷ [])
Arguments text (OnPool (Call.Pull m)) = Numbers text (m ∷ [])
Arguments text (OnPool (Call.Refit m)) = Numbers text (m ∷ [])
Arguments text (OnPool Call.Begin) = Numbers text []
Arguments text (OnPool Call.Carry) = Numbers text []
Arguments text (OnPool Call.Ready) = Numbers text []
Arguments text (OnPool Call.Close) = Numbers text []
Arguments text (OnPool Call.Drop) = Numbers text []
Arguments text Show = Numbers text []
Arguments text PoolLabel = Numbers text []

-- a line writes a command: the command's name, then its arguments, and nothing else
abbrev pub Writes : List ℕ → Command → Type 0
Writes line c = (word line ≡ spelled (name_of c)) × Arguments (rest line) c

-- a command of pools
abbrev pub of_pools : Command → Bool
of_pools (Plan q d r d' r' L) = false
of_pools Map = false
of_pools (Label after) = false
of_pools (Rack kind size) = false
of_pools (OnRack c) = false
of_pools (Lay f) = true
of_pools (Open f bytes) = true
of_pools (OnPool c) = true
of_pools Show = true
of_pools PoolLabel = true

-- a name of commands of pools alone
abbrev pub pools_alone : Name → Bool
pools_alone Name.Plan = false
pools_alone Name.Map = false
pools_alone Name.Label = false
pools_alone Name.Rack = false
pools_alone Name.Get = false
pools_alone Name.Put = false
pools_alone Name.PullModule = false
pools_alone Name.FitModule = false
pools_alone Name.Ask = false
pools_alone Name.Lay = true
pools_alone Name.Open = true
pools_alone Name.Read = true
pools_alone Name.Write = true
pools_alone Name.Pull = true
pools_alone Name.Refit = true
pools_alone Name.Begin = true
pools_alone Name.Carry = true
pools_alone Name.Ready = true
pools_alone Name.Close = true
pools_alone Name.Drop = true
pools_alone Name.Show = true

-- a line writes a command of plans, labels and racks
abbrev pub WritesWithoutPools : List ℕ → Command → Type 0
WritesWithoutPools line c = Writes line c × (of_pools c ≡ false)

-- what reading a line answers, by which lines write which commands: the command that it writes, if it writes one
abbrev pub Understood : (List ℕ → Command → Type 0) → List ℕ → Option Command → Type 0
Understood writes line (Some c) = writes line c
Understood writes line None = (c : Command) → writes line c → ⊥

-- the same of what stands after a name
abbrev pub Takes : Name → List ℕ → Option Command → Type 0
Takes n text (Some c) = (name_of c ≡ n) × Arguments text c
Takes n text None = (c : Command) → name_of c ≡ n → Arguments text c → ⊥
