-- A write that is made keeps what it promises. Assumes nothing.
use Rattle.std.proofs.Common.{◌≡◌, ℕ, ◌<◌, leb, Some, None, Ok, refl, ap, ◌∙◌}
use Rattle.std.proofs.lemmas.Bool.{lt-leb, cond-false}
use Rattle.field.specs.Arithmetic.{Arithmetic, Lawful}
use Rattle.rack.specs.Meaning.{Meaning}
use Rattle.coding.specs.Schemes.{Scheme, scheme_of}
use Rattle.pool.specs.declared.kinds.Call.TheVariants.{Write}
use Rattle.pool.specs.declared.kinds.Reply.TheVariants.{Done}
use Rattle.pool.specs.declared.pool.Pool.{Pool}
use Rattle.pool.specs.declared.words.Found.{Found}
use Rattle.layout.specs.declared.refusal.Refusal.TheVariants.{NoWord, NoSymbol}
use Rattle.pool.specs.Book.{refusal}
use Rattle.pool.specs.Standing.{Standing, out_of}
use Rattle.pool.specs.Effects.{changed, holding, written_symbol}
use Rattle.pool.specs.Pools.{standing, Held, Called}
use Rattle.pool.specs.WordSteps.{Looked}
use Rattle.pool.specs.WordCalls.{Wrote}
use Rattle.pool.proofs.Calls.{called_granted}

-- a write that no check refuses
write_granted : (A : Arithmetic) (p : Scheme) (s : Standing) (c o v : ℕ) (old : Found) → c < p.chunks → o < p.len → v < A.order → Looked A p s c o (Ok old) →
    refusal p A.order s.phase s.carried (out_of s) (Write c o v) ≡ None
write_granted A p s c o v old lc lo lv looked =
    cond-false (leb p.chunks c) (Some (NoWord 1)) _ (lt-leb p.chunks c lc)
    ∙ cond-false (leb p.len o) (Some (NoWord 2)) _ (lt-leb p.len o lo)
    ∙ cond-false (leb A.order v) (Some (NoSymbol v)) _ (lt-leb A.order v lv)
    ∙ looked.0

-- a rack that a write left so
pub wrote : {F R : Type 0} (arithmetic : F → Arithmetic) (valid : R → Type 0) (meaning : R → Meaning) (x : Pool F R) (rack : R) (c o v old : ℕ) → valid rack →
    meaning rack ≡ changed (meaning x.rack) (written_symbol (arithmetic x.field) (scheme_of x.plan) (standing arithmetic valid meaning x) c o v old) →
    Wrote arithmetic valid meaning x (record { plan = x.plan; field = x.field; rack = rack; phase = x.phase; carried = x.carried }) c o v old
wrote arithmetic valid meaning x rack c o v old fine is =
    record { rack_is_valid = fine; same_plan = refl; same_field = refl; written = ap (holding (standing arithmetic valid meaning x)) is }

module _ {F R : Type 0} (arithmetic : F → Arithmetic) (valid : R → Type 0) (meaning : R → Meaning) (x y : Pool F R) (lawful : (f : F) → Lawful (arithmetic f)) (held : Held arithmetic valid meaning x) where
  pub write_called : (c o v : ℕ) (old : Found) → c < (scheme_of x.plan).chunks → o < x.plan.len → v < (arithmetic x.field).order →
      Looked (arithmetic x.field) (scheme_of x.plan) (standing arithmetic valid meaning x) c o (Ok old) → Wrote arithmetic valid meaning x y c o v old.symbol →
      Called arithmetic valid meaning x y (Write c o v) (Ok Done)
  write_called c o v old lc lo lv looked wrote =
      called_granted arithmetic lawful valid meaning x y held wrote.rack_is_valid wrote.same_plan wrote.same_field (Write c o v) (Ok Done)
      (write_granted (arithmetic x.field) (scheme_of x.plan) (standing arithmetic valid meaning x) c o v old lc lo lv looked)
      (old.symbol, looked.1, refl, wrote.written)
