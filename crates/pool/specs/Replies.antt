-- What a call of a pool answers. Assumes nothing.
use Rattle.std.specs.Prelude.{Result}
use Rattle.layout.specs.declared.refusal.Refusal.{Refusal}
use Rattle.pool.specs.declared.kinds.Reply.{Reply}

-- what an accepted call tells, or the refusal of one that is refused
abbrev pub Answer : Type 0
Answer = Result Reply Refusal
