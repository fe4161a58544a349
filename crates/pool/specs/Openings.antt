-- When a pool can be laid and opened, and how it then stands. Assumes nothing.
use Rattle.std.specs.Prelude.{ℕ, Bool, true, false, not, List, Some, None, Ok, Err, Option, Result, ◌==◌, nat_lt}
use Rattle.layout.specs.declared.label.Label.{Label}
use Rattle.layout.specs.declared.plan.Plan.{Plan}
use Rattle.layout.specs.declared.refusal.Refusal.{Refusal}
use Rattle.layout.specs.Counts.{modules_of, slots_of}
use Rattle.layout.specs.Labels.{number, label_refusal}
use Rattle.rack.specs.Meaning.{Meaning}
use Rattle.pool.specs.declared.kinds.Phase.{Phase}
use Rattle.pool.specs.declared.kinds.Phase.TheVariants.{Before, UnderWay, Voided, After}
use Rattle.pool.specs.declared.pool.Pool.{Pool}
use Rattle.layout.specs.declared.refusal.Refusal.TheVariants.{DoesNotFit, ModuleOut}
use Rattle.pool.specs.Book.{lowest, opened_phase, refuse_if, refuse_at}
use Rattle.pool.specs.Standing.{Standing}
use Rattle.pool.specs.Blocks.{zeroed}

-- why a call is refused, by its result
abbrev pub why_not : {T : Type 0} → Result T Refusal → Option Refusal
why_not (Ok x) = None
why_not (Err e) = Some e

-- the first check that refuses
abbrev pub or_else : Option Refusal → Option Refusal → Option Refusal
or_else None rest = rest
or_else (Some e) rest = Some e

-- a field of order q and a memory against the numbers of a plan: its order, modules, slots and length
abbrev pub misfit : ℕ → ℕ → ℕ → ℕ → ℕ → Meaning → Option Refusal
misfit order modules slots len q w =
    refuse_if (not (q == order)) (DoesNotFit 1)
    (refuse_if (not (w.order == order)) (DoesNotFit 2)
    (refuse_if (nat_lt w.modules modules) (DoesNotFit 3)
    (refuse_if (nat_lt w.slots slots) (DoesNotFit 4)
    (refuse_if (nat_lt w.length len) (DoesNotFit 5) None))))

abbrev pub fit_refusal : Plan → ℕ → Meaning → Option Refusal
fit_refusal p q w = misfit p.order (modules_of p.r p.d2 p.r2) (slots_of p.d p.d2) p.len q w

-- laying wants besides that each of the M modules is fitted
abbrev pub lay_refusal : Plan → ℕ → Meaning → Option Refusal
lay_refusal p q w = or_else (fit_refusal p q w) (refuse_at (lowest (λ m. not (w.fitted m)) (modules_of p.r p.d2 p.r2)) ModuleOut)

-- opening goes by the numbers of a label: its order, d, r, d', r' and L are the numbers 1 to 6
abbrev pub open_refusal : List ℕ → ℕ → Meaning → Option Refusal
open_refusal bytes q w =
    or_else (label_refusal bytes)
    (misfit (number bytes 1) (modules_of (number bytes 3) (number bytes 4) (number bytes 5)) (slots_of (number bytes 2) (number bytes 4)) (number bytes 6) q w)

-- how a pool that is just laid stands: every place of its modules, slots and offsets is 0, and all else is as it was
abbrev pub laid_over : Plan → Meaning → Standing
laid_over p w = record {
  phase = Before;
  carried = 0;
  held = zeroed 0 (modules_of p.r p.d2 p.r2) 0 (slots_of p.d p.d2) p.len w;
}

-- a pool that is just opened
abbrev pub opened : {F R : Type 0} → Label → F → R → Pool F R
opened m f x = record { plan = m.plan; field = f; rack = x; phase = opened_phase m.after; carried = 0 }

abbrev pub is_after : Phase → Bool
is_after Before = false
is_after UnderWay = false
is_after Voided = false
is_after After = true

-- the label of a pool
abbrev pub label_in : {F R : Type 0} → Pool F R → Label
label_in x = record { plan = x.plan; after = is_after x.phase }
