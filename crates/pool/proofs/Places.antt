-- Where the pieces of a pool lie, and which of its parities are in force. Assumes nothing.
use Rattle.std.proofs.Common.{◌≡◌, ℕ, ◌+◌, ◌/◌, ◌<◌, true, refl, arith}
use Rattle.std.proofs.lemmas.Nat.{div_below}
use Rattle.std.proofs.lemmas.Bool.{eq-eqb}
use Rattle.field.specs.Arithmetic.{Arithmetic}
use Rattle.coding.specs.declared.group.Kind.{Kind}
use Rattle.coding.specs.declared.group.Kind.TheVariants.{Stripe, Row}
use Rattle.coding.specs.Schemes.{Scheme, Sound}
use Rattle.coding.specs.Groups.{groups, parities, member, slot_of}
use Rattle.pool.specs.declared.kinds.Phase.{Phase}
use Rattle.pool.specs.declared.kinds.Phase.TheVariants.{Before, UnderWay, Voided, After}
use Rattle.pool.specs.Book.{modules, settled, group_of}
use Rattle.pool.specs.Agrees.{in_force, covers}

-- the module of a parity is one of the pool's
pub parity_module : (p : Scheme) (t : Kind) (k : ℕ) → k < parities p t → p.d' + k < modules p
parity_module p Stripe k h = omega arith
parity_module p Row k h = omega arith

-- a parity that is in force is one of its group's
pub in_force_lem : (p : Scheme) (ph : Phase) (t : Kind) (k : ℕ) → k < in_force p ph t → k < parities p t
in_force_lem p Before Stripe k h = h
in_force_lem p UnderWay Stripe k h = h
in_force_lem p Voided Stripe k h = h
in_force_lem p After Stripe k h = omega arith
in_force_lem p Before Row k h = omega arith
in_force_lem p UnderWay Row k h = h
in_force_lem p Voided Row k h = omega arith
in_force_lem p After Row k h = h

-- the settled parities are in force, over all the chunks of their group
pub settled_force : (p : Scheme) (ph : Phase) (k : ℕ) → k < parities p (settled ph) → k < in_force p ph (settled ph)
settled_force p Before k h = h
settled_force p UnderWay k h = h
settled_force p Voided k h = h
settled_force p After k h = h

pub settled_covers : (p : Scheme) (ph : Phase) (n i j : ℕ) → covers p ph n (settled ph) i j ≡ member p (settled ph) i j
settled_covers p Before n i j = refl
settled_covers p UnderWay n i j = refl
settled_covers p Voided n i j = refl
settled_covers p After n i j = refl

-- unless the changeover is under way, only the settled parities are in force
pub force_settled : (p : Scheme) (ph : Phase) (t : Kind) (k : ℕ) → (ph ≡ UnderWay → ⊥) → k < in_force p ph t → t ≡ settled ph
force_settled p Before Stripe k still h = refl
force_settled p UnderWay Stripe k still h = refl
force_settled p Voided Stripe k still h = refl
force_settled p After Stripe k still h = absurd (omega arith)
force_settled p Before Row k still h = absurd (omega arith)
force_settled p UnderWay Row k still h = absurd (still refl)
force_settled p Voided Row k still h = absurd (omega arith)
force_settled p After Row k still h = refl

-- a chunk is of its group
pub member_own : (p : Scheme) (t : Kind) (j : ℕ) → member p t (group_of p t j) j ≡ true
member_own p Stripe j = eq-eqb (j / p.d) (j / p.d) refl
member_own p Row j = eq-eqb (p.row j) (p.row j) refl

-- the slot of a group's parities is one of the pool's
pub slot_below : (p : Scheme) (t : Kind) (i : ℕ) → i < groups p t → slot_of p t i < p.stripes + p.rows
slot_below p Stripe i h = omega arith
slot_below p Row i h = omega arith

module _ (A : Arithmetic) (p : Scheme) (sound : Sound A p) where
  -- the module of a chunk is one of the pool's
  pub chunk_module : (j : ℕ) → j < p.chunks → p.column j < modules p
  chunk_module j lj = omega (arith, sound.in_columns j lj)

  pub stripe_below : (j : ℕ) → j < p.chunks → j / p.d < p.stripes
  stripe_below j lj = div_below j p.d p.stripes sound.some (omega (arith, sound.by_stripe))

  pub group_below : (t : Kind) (j : ℕ) → j < p.chunks → group_of p t j < groups p t
  group_below Stripe j lj = stripe_below j lj
  group_below Row j lj = sound.in_rows j lj

  -- two chunks at one place are one
  pub one_place : (i j : ℕ) → i < p.chunks → j < p.chunks → p.column i ≡ p.column j → p.row i ≡ p.row j → i ≡ j
  one_place i j li lj c r = let a = sound.back i li in let b = sound.back j lj in cc
