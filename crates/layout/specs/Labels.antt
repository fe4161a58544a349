-- The label of a pool: eight numbers of 16 bits, the low byte of each first. Assumes nothing.
use Rattle.std.specs.Prelude.{◌≡◌, ℕ, ◌+◌, ◌*◌, ◌/◌, ◌%◌, Bool, true, false, cond, not, ◌||◌, List, [], ◌∷◌, length, Some, None, Ok, Err, Option, Result, ◌==◌, ◌≢◌, nat_lt, slice_index}
use Rattle.layout.specs.declared.label.Label.{Label}
use Rattle.layout.specs.declared.refusal.Refusal.{Refusal}
use Rattle.layout.specs.declared.refusal.Refusal.TheVariants.{NotALabel}
use Rattle.layout.specs.Refusals.{plan_refusal, Has}

-- the bytes of numbers of 16 bits
abbrev pub packed : List ℕ → List ℕ
packed [] = []
packed (n ∷ ns) = n % 256 ∷ n / 256 ∷ packed ns

-- 1 where the pool is after its changeover, else 0
abbrev pub flag : Bool → ℕ
flag true = 1
flag false = 0

-- the bytes of a label: the numbers 1, q, d, r, d', r', L and the flag
abbrev pub label_of : Label → List ℕ
label_of m = packed (1 ∷ m.plan.order ∷ m.plan.d ∷ m.plan.r ∷ m.plan.d2 ∷ m.plan.r2 ∷ m.plan.len ∷ flag m.after ∷ [])

-- number i of a label, counted from 0
abbrev pub number : List ℕ → ℕ → ℕ
number bytes i = slice_index bytes (2 * i) + 256 * slice_index bytes (2 * i + 1)

-- why bytes are refused as a label: their form first, then the plan
abbrev pub label_refusal : List ℕ → Option Refusal
label_refusal bytes =
    cond (not (length bytes == 16) || (not (number bytes 0 == 1) || nat_lt 1 (number bytes 7))) (Some NotALabel)
    (plan_refusal (number bytes 1) (number bytes 2) (number bytes 3) (number bytes 4) (number bytes 5) (number bytes 6))

-- reading answers the label that the bytes are
abbrev pub Reads : List ℕ → Result Label Refusal → Type 0
Reads bytes (Ok m) = (label_refusal bytes ≡ None) × (bytes ≡ label_of m)
Reads bytes (Err e) = label_refusal bytes ≡ Some e

-- writing fills a buffer of 16 bytes, and leaves any other as it was
abbrev pub Writes : Label → List ℕ → List ℕ → Result Unit Refusal → Type 0
Writes m before after (Ok _) = (length before ≡ 16) × (after ≡ label_of m)
Writes m before after (Err e) = (length before ≢ 16) × (e ≡ NotALabel) × (after ≡ before)

-- a label that is written is not refused when it is read, and no other label has its bytes: reading gives plan and flag back
pub record ReadsBack (m : Label) : Type 0 where
  pub accepted : label_refusal (label_of m) ≡ None
  pub same : (n : Label) → label_of n ≡ label_of m →
      Has m.plan.order m.plan.d m.plan.r m.plan.d2 m.plan.r2 m.plan.len n.plan × (n.after ≡ m.after)
