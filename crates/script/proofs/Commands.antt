-- What stands after the name of a command. Assumes nothing.
use Rattle.std.proofs.Common.{◌≡◌, ℕ, ◌<◌, Bool, ◌⊎◌, List, [], ◌∷◌, length, Option, None, MatchOption, Some, None, sym, refl, zero-le, subst, inl, inr}
use Rattle.std.specs.List.{AllWithin, HoldsAt, Contains}
use Rattle.script.specs.declared.command.Command.{Command}
use Rattle.script.specs.declared.command.Command.TheVariants.{Plan, Map, Label, Rack, OnRack, Lay, Open, OnPool, Show, PoolLabel}
use Rattle.script.specs.declared.command.FieldKind.{FieldKind}
use Rattle.script.specs.declared.command.RackCall.TheVariants.{Get, Put, Pull, Fit, Ask}
use Rattle.script.specs.declared.command.RackKind.{RackKind}
use Rattle.script.specs.declared.command.Name.{Name}
use Rattle.pool.specs.declared.kinds.Call.TheVariants as Call
use Rattle.layout.specs.Labels.{flag}
use Rattle.script.specs.Script.{kind_name, field_name, name_of, Arguments, Takes}
use Rattle.script.specs.Words.{word, rest, Numbers, HexWord}

-- a text has n numbers
abbrev pub Counted : ℕ → List ℕ → Type 0
Counted n text = (ns : List ℕ) × (length ns ≡ n) × Numbers text ns

-- a text is what some command of a name has after its name
abbrev pub Given : Name → List ℕ → Type 0
Given Name.Plan text = Counted 6 text
Given Name.Map text = Counted 0 text
Given Name.Label text = (word text ≡ []) ⊎ ((after : Bool) × Numbers text (flag after ∷ []))
Given Name.Rack text = (kind : RackKind) × (word text ≡ kind_name kind) × Counted 4 (rest text)
Given Name.Get text = Counted 3 text
Given Name.Put text = Counted 4 text
Given Name.PullModule text = Counted 1 text
Given Name.FitModule text = Counted 1 text
Given Name.Ask text = Counted 1 text
Given Name.Lay text = (f : FieldKind) × (word text ≡ field_name f) × (word (rest text) ≡ [])
Given Name.Open text = (f : FieldKind) × (bytes : Option (List ℕ)) × (word text ≡ field_name f) × HexWord (word (rest text)) bytes × (word (rest (rest text)) ≡ [])
Given Name.Read text = Counted 2 text
Given Name.Write text = Counted 3 text
Given Name.Pull text = Counted 1 text
Given Name.Refit text = Counted 1 text
Given Name.Begin text = Counted 0 text
Given Name.Carry text = Counted 0 text
Given Name.Ready text = Counted 0 text
Given Name.Close text = Counted 0 text
Given Name.Drop text = Counted 0 text
Given Name.Show text = Counted 0 text

given : (text : List ℕ) (c : Command) → Arguments text c → Given (name_of c) text
given text (Plan q d r d' r' L) h = (q ∷ d ∷ r ∷ d' ∷ r' ∷ L ∷ [], refl, h)
given text Map h = ([], refl, h)
given text (Label after) h = inr (after, h)
given text (Rack kind size) h = (kind, h.0, (size.order ∷ size.modules ∷ size.slots ∷ size.length ∷ [], refl, h.1))
given text (OnRack (Get m s o)) h = (m ∷ s ∷ o ∷ [], refl, h)
given text (OnRack (Put m s o v)) h = (m ∷ s ∷ o ∷ v ∷ [], refl, h)
given text (OnRack (Pull m)) h = (m ∷ [], refl, h)
given text (OnRack (Fit m)) h = (m ∷ [], refl, h)
given text (OnRack (Ask m)) h = (m ∷ [], refl, h)
given text (Lay f) h = (f, h.0, h.1)
given text (Open f bytes) h = (f, bytes, h.0, h.1, h.2)
given text (OnPool (Call.Read c o)) h = (c ∷ o ∷ [], refl, h)
given text (OnPool (Call.Write c o v)) h = (c ∷ o ∷ v ∷ [], refl, h)
given text (OnPool (Call.Pull m)) h = (m ∷ [], refl, h)
given text (OnPool (Call.Refit m)) h = (m ∷ [], refl, h)
given text (OnPool Call.Begin) h = ([], refl, h)
given text (OnPool Call.Carry) h = ([], refl, h)
given text (OnPool Call.Ready) h = ([], refl, h)
given text (OnPool Call.Close) h = ([], refl, h)
given text (OnPool Call.Drop) h = ([], refl, h)
given text Show h = ([], refl, h)
given text PoolLabel h = inl h

-- where a text is no such thing, there is no such command
pub no_command : (name : Name) (text : List ℕ) → (Given name text → ⊥) → (c : Command) → name_of c ≡ name → Arguments text c → ⊥
no_command name text none c e h = none (subst (λ n. Given n text) e (given text c h))

-- where a text has no n numbers, there is no command of a name that n numbers stand after
pub no_numbers : (name called : Name) (n : ℕ) (text : List ℕ) (r : Option Command) → (Given name text → Counted n text) → called ≡ name → ((ns : List ℕ) → length ns ≡ n → Numbers text ns → ⊥) → r ≡ None → Takes called text r
no_numbers name called n text r is same none e =
    subst (λ m. Takes m text r) (sym same) (subst (Takes name text) (sym e) (no_command name text (λ g. let k = is g in none k.0 k.1 k.2)))

-- what was looked for in a list of all values that it may be
pub found_among : {A : Type 0} (all : List A) (r : Option A) (P : A → Type 0) → ((x : A) → P x → Contains all x) →
    MatchOption r (AllWithin (λ y. P y → ⊥) all 0 (length all)) (λ x. P x × (i : ℕ) × (i < length all) × HoldsAt (λ y. y ≡ x) all i × AllWithin (λ y. P y → ⊥) all 0 i) → MatchOption r ((x : A) → P x → ⊥) P
found_among all (Some y) P has h = h.0
found_among all None P has h = λ x p. let at = has x p in h at.0 x zero-le at.1 (subst P (sym at.2) p)
