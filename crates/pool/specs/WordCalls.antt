-- What the step of a write that stores the word does to a pool. No contract of a public call rests on it. Assumes nothing.
use Rattle.std.specs.Prelude.{◌≡◌, ℕ}
use Rattle.field.specs.Arithmetic.{Arithmetic}
use Rattle.rack.specs.Meaning.{Meaning}
use Rattle.coding.specs.Schemes.{scheme_of}
use Rattle.pool.specs.declared.pool.Pool.{Pool}
use Rattle.pool.specs.Effects.{changed, holding, written_symbol}
use Rattle.pool.specs.Pools.{standing}

module _ {F R : Type 0} (arithmetic : F → Arithmetic) (valid : R → Type 0) (meaning : R → Meaning) where
  -- a write of v over old at offset o of chunk c took a pool from x to y
  pub record Wrote (x y : Pool F R) (c o v old : ℕ) : Type 0 where
    pub rack_is_valid : valid y.rack
    pub same_plan : y.plan ≡ x.plan
    pub same_field : y.field ≡ x.field
    pub written : standing arithmetic valid meaning y
        ≡ holding (standing arithmetic valid meaning x)
        (changed (meaning x.rack) (written_symbol (arithmetic x.field) (scheme_of x.plan) (standing arithmetic valid meaning x) c o v old))
