use Rattle.std.proofs.Common.{refl}
use Rattle.layout.specs.Placing.{every_definition}
use Rattle.figures.proofs.Worked as worked
use Rattle.figures.proofs.worked_pools.Goals as goal

pub returns-clause-table : goal.returns-clause-table
unfolding every_definition
returns-clause-table c = record { worked_plans = (refl, refl); byte_pool = worked.byte_pool; prime_pool = worked.prime_pool }
