-- What a repair is, and what it answers. Assumes nothing.
use Rattle.std.specs.Prelude.{◌≡◌, ℕ, ◌+◌, ◌<◌, ◌≤◌, Bool, true, false, cond, not, ◌&&◌, List, [], Some, None, Ok, Err, Option, Result, nat_lt, slice_index, slice_index_or}
use Rattle.field.specs.Arithmetic.{Arithmetic}
use Rattle.field.specs.Sums.{total, minus}
use Rattle.field.specs.Systems.{Inverse, at}
use Rattle.layout.specs.declared.plan.Plan.{Plan}
use Rattle.layout.specs.declared.refusal.Refusal.{Refusal}
use Rattle.layout.specs.declared.refusal.Refusal.TheVariants.{BeyondRepair}
use Rattle.rack.specs.Meaning.{Meaning}
use Rattle.coding.specs.declared.group.Kind.{Kind}
use Rattle.coding.specs.declared.group.Group.{Group}
use Rattle.coding.specs.declared.repair.Repair.{Repair}
use Rattle.coding.specs.Schemes.{Scheme, Sound, scheme_of}
use Rattle.coding.specs.Groups.{groups, size, parities, chunk_of, index_of, slot_of, nth}
use Rattle.coding.specs.Words.{missing_chunks, missing_pieces, used, Fixed}
use Rattle.coding.specs.Pieces.{Grouped, Weights, module_at, slot_at, x_at}
use Rattle.coding.specs.Steps.{flags}

-- s is ready to rebuild group i where the modules that out tells are out
pub record Ready (A : Arithmetic) (p : Scheme) (t : Kind) (i : ℕ) (out : ℕ → Bool) (s : Repair) : Type 0 where
  pub sound : Sound A p
  pub inside : i < groups p t
  pub enough : missing_pieces p t i out ≤ parities p t
  pub grouped : Grouped p t i s.group
  -- which chunks are out, how many they are, and where they stand in the group
  pub gone_is : (e : ℕ) → e < size p t → flags s.gone e ≡ out (p.column (chunk_of p t i e))
  pub count_is : s.count ≡ missing_chunks p t i out
  pub missing_are : (j : ℕ) → j < s.count → slice_index s.missing j ≡ nth (λ e. out (p.column (chunk_of p t i e))) (size p t) j
  -- as many parities, the first that are not out, and their modules
  pub parities_are : (j : ℕ) → j < s.count → slice_index s.parities j ≡ nth (λ k. not (out (p.d' + k))) (parities p t) j
  pub sources_are : (j : ℕ) → j < s.count → slice_index s.sources j ≡ p.d' + slice_index s.parities j
  -- the coefficients of all chunks in these parities, and the inverse of those of the chunks that are out
  pub weights : (j : ℕ) → j < s.count → Weights A s.group (slice_index s.parities j) (slice_index_or s.coefficients j [])
  pub columns_are : (j : ℕ) → j < s.count → slice_index s.columns j ≡ x_at s.group (slice_index s.missing j)
  pub inverse_is : Inverse A s.count s.parities s.columns s.inverse

-- whether a group misses more pieces than it has parities, of every group of a plan that g can be
abbrev pub MissesTooMany : Group → List Bool → Bool → Type 0
MissesTooMany g out r =
    (p : Plan) (t : Kind) (i : ℕ) → i < groups (scheme_of p) t → Grouped (scheme_of p) t i g →
    r ≡ nat_lt (parities (scheme_of p) t) (missing_pieces (scheme_of p) t i (flags out))

-- what `prepare` answers: it refuses a group that misses more pieces than it has parities, and one that is not there
abbrev pub Prepared : Plan → Arithmetic → Kind → ℕ → List Bool → Result Repair Refusal → Type 0
Prepared p A t i out (Ok s) =
    (i < groups (scheme_of p) t) × (missing_pieces (scheme_of p) t i (flags out) ≤ parities (scheme_of p) t)
    × (A.order ≡ p.order → Ready A (scheme_of p) t i (flags out) s)
Prepared p A t i out (Err e) =
    (i < groups (scheme_of p) t → parities (scheme_of p) t < missing_pieces (scheme_of p) t i (flags out)) × (e ≡ BeyondRepair i)

-- the symbols of the chunks that are left, as the rack has them, and zeros in the other places
pub record Known (s : Repair) (w : Meaning) (o : ℕ) (a : List ℕ) : Type 0 where
  pub is : (e : ℕ) → e < 14 → e < s.group.size → flags s.gone e ≡ false → slice_index a e ≡ w.symbol (module_at s.group e) (slot_at s.group e) o
  pub none : (e : ℕ) → flags s.gone e ≡ true → slice_index a e ≡ 0
  pub rest : (e : ℕ) → s.group.size ≤ e → slice_index a e ≡ 0

-- the symbols of the parities that are used, as the rack has them
abbrev pub Sources : Repair → Meaning → ℕ → List ℕ → Type 0
Sources s w o ps = (j : ℕ) → j < s.count → slice_index ps j ≡ w.symbol (slice_index s.sources j) s.group.slot o

-- side j of the equations: parity j of those that are used, less what the chunks that are left add to it
abbrev pub Side : Arithmetic → Repair → List ℕ → List ℕ → ℕ → ℕ → Type 0
Side A s a ps j b = b ≡ minus A (slice_index ps j) (total A 14 (λ e. A.mul (at s.coefficients j e) (slice_index a e)))

-- all of them
abbrev pub Sides : Arithmetic → Repair → List ℕ → List ℕ → List ℕ → Type 0
Sides A s a ps b = (j : ℕ) → j < s.count → Side A s a ps j (slice_index b j)

-- what the inverse gives for the sides
abbrev pub Unknowns : Arithmetic → Repair → List ℕ → List ℕ → Type 0
Unknowns A s b u = (j : ℕ) → j < s.count → slice_index u j ≡ total A 4 (λ i. A.mul (at s.inverse j i) (slice_index b i))

-- what a repair answers: a has the symbols of the group's chunks, in their order, at offset o, and zeros after them
pub record Rebuilt (A : Arithmetic) (p : Scheme) (t : Kind) (i : ℕ) (out : ℕ → Bool) (w : Meaning) (o : ℕ) (a : List ℕ) : Type 0 where
  pub fixed : Fixed A p t i out w o (λ j. slice_index a (index_of p t j))
  pub rest : (e : ℕ) → size p t ≤ e → slice_index a e ≡ 0

-- of every group that s is ready for
abbrev pub Answers : Arithmetic → Repair → Meaning → ℕ → List ℕ → Type 0
Answers A s w o a = (p : Scheme) (t : Kind) (i : ℕ) (out : ℕ → Bool) → Ready A p t i out s → Rebuilt A p t i out w o a

-- the symbol of parity k of a group at offset o, if the parity is used to rebuild the group
abbrev pub used_parity : Scheme → Kind → ℕ → (ℕ → Bool) → Meaning → ℕ → ℕ → Option ℕ
used_parity p t i out w o k = cond (nat_lt k (parities p t) && used p t i out k) (Some (w.symbol (p.d' + k) (slot_of p t i) o)) None

-- a has the parities that a repair uses, by their numbers, of every group that s is ready for
abbrev pub Uses : Arithmetic → Repair → Meaning → ℕ → List (Option ℕ) → Type 0
Uses A s w o a =
    (p : Scheme) (t : Kind) (i : ℕ) (out : ℕ → Bool) → Ready A p t i out s → (k : ℕ) → k < 4 → slice_index_or a k None ≡ used_parity p t i out w o k
