-- Why a call of a pool is refused, for its inner functions. No contract of a public call rests on it. Assumes nothing.
use Rattle.std.specs.Prelude.{Option}
use Rattle.layout.specs.declared.refusal.Refusal.{Refusal}
use Rattle.field.specs.Arithmetic.{Arithmetic}
use Rattle.rack.specs.Meaning.{Meaning}
use Rattle.coding.specs.Schemes.{scheme_of}
use Rattle.pool.specs.declared.kinds.Call.{Call}
use Rattle.pool.specs.declared.pool.Pool.{Pool}
use Rattle.pool.specs.Book.{refusal}
use Rattle.pool.specs.Standing.{out_of}
use Rattle.pool.specs.Pools.{standing}

-- the refusal of a call by a pool as it stands
abbrev pub refusal_of : {F R : Type 0} → (F → Arithmetic) → (R → Type 0) → (R → Meaning) → Pool F R → Call → Option Refusal
refusal_of arithmetic valid meaning x c =
    refusal (scheme_of x.plan) (arithmetic x.field).order x.phase x.carried (out_of (standing arithmetic valid meaning x)) c
