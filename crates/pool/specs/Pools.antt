-- What is known of a pool, and what each of its calls promises. Assumes nothing.
use Rattle.std.specs.Prelude.{◌≡◌}
use Rattle.field.specs.Arithmetic.{Arithmetic}
use Rattle.rack.specs.Meaning.{Meaning}
use Rattle.coding.specs.Schemes.{scheme_of}
use Rattle.pool.specs.declared.kinds.Call.{Call}
use Rattle.pool.specs.Replies.{Answer}
use Rattle.pool.specs.declared.pool.Pool.{Pool}
use Rattle.pool.specs.Standing.{Standing, Kept}
use Rattle.pool.specs.Effects.{Does}

module _ {F R : Type 0} (arithmetic : F → Arithmetic) (valid : R → Type 0) (meaning : R → Meaning) where
  -- how a pool stands
  abbrev pub standing : Pool F R → Standing
  standing x = record { phase = x.phase; carried = x.carried; held = meaning x.rack }

  -- what holds of every pool from its laying or opening on
  pub record Held (x : Pool F R) : Type 0 where
    pub rack_is_valid : valid x.rack
    pub order_is : (arithmetic x.field).order ≡ x.plan.order
    pub kept : Kept (arithmetic x.field) (scheme_of x.plan) (standing x)

  -- a call took a pool from x to y and answered a
  pub record Called (x y : Pool F R) (c : Call) (a : Answer) : Type 0 where
    pub held : Held y
    pub same_plan : y.plan ≡ x.plan
    pub same_field : y.field ≡ x.field
    pub does : Does (arithmetic x.field) (scheme_of x.plan) (standing x) c a (standing y)

  -- what every call promises: whatever holds of every pool still holds, and memory and answer are as they should be
  abbrev pub Obeys : Pool F R → Pool F R → Call → Answer → Type 0
  Obeys x y c a = Held x → Called x y c a
