-- What each call's result says, as an answer. Assumes nothing.
use Rattle.std.specs.Prelude.{ℕ, Ok, Err, Result}
use Rattle.layout.specs.declared.refusal.Refusal.{Refusal}
use Rattle.pool.specs.Replies.{Answer}
use Rattle.pool.specs.declared.kinds.Reply.TheVariants.{Symbol, Carried, Done}

-- a symbol, or a refusal
abbrev pub of_symbol : Result ℕ Refusal → Answer
of_symbol (Ok v) = Ok (Symbol v)
of_symbol (Err e) = Err e

-- nothing but that it is done
abbrev pub of_done : {T : Type 0} → Result T Refusal → Answer
of_done (Ok x) = Ok Done
of_done (Err e) = Err e

-- the same where an order is handed back with the refusal
abbrev pub of_order : {T O : Type 0} → Result T (O × Refusal) → Answer
of_order (Ok x) = Ok Done
of_order (Err e) = Err e.1

-- the two counts
abbrev pub of_counts : Result (ℕ × ℕ) Refusal → Answer
of_counts (Ok c) = Ok (Carried c.0 c.1)
of_counts (Err e) = Err e
