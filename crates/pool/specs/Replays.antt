-- The law over every list of calls, of a pool as the program has it. Assumes nothing.
use Rattle.std.specs.Prelude.{◌≡◌, List}
use Rattle.field.specs.Arithmetic.{Arithmetic}
use Rattle.rack.specs.Meaning.{Meaning}
use Rattle.layout.specs.declared.plan.Plan.{Plan}
use Rattle.layout.specs.Counts.{data_read, parities_read}
use Rattle.coding.specs.Schemes.{scheme_of}
use Rattle.pool.specs.declared.kinds.Call.{Call}
use Rattle.pool.specs.Replies.{Answer}
use Rattle.pool.specs.declared.pool.Pool.{Pool}
use Rattle.pool.specs.Book.{Book, blank}
use Rattle.pool.specs.Standing.{Standing}
use Rattle.pool.specs.Agrees.{Agrees}
use Rattle.pool.specs.Law.{Runs, Plays, book_after, book_answers, history, AddsUp}
use Rattle.pool.specs.Pools.{standing, Held}
use Rattle.pool.specs.Openings.{laid_over}

-- Calls cs take a pool that agrees with book b from s to e, and answer xs.
pub record Law (A : Arithmetic) (p : Plan) (s : Standing) (b : Book) (cs : List Call) (xs : List Answer) (e : Standing) : Type 0 where
  -- after every call, accepted or refused: the answer is the book's, each symbol in force on a fitted module is that of a fresh
  -- encoding of the book's image, a call of a changeover has kept each data chunk on a fitted module, and the whole memory is as
  -- the call's rule leaves it
  pub each_call : Runs A (scheme_of p) s b cs xs e
  -- so the answers are the book's, and at the end the pool agrees with the book
  pub answers_are : xs ≡ book_answers (scheme_of p) A.order b cs
  pub agrees : Agrees A (scheme_of p) e (book_after (scheme_of p) A.order b cs)
  -- the carries of each closed changeover add up to the formulas
  pub adds_up : AddsUp (data_read p.d p.r p.d2 p.r2) (parities_read p.d p.r p.d2 p.r2) (history cs xs)

module _ {F R : Type 0} (arithmetic : F → Arithmetic) (valid : R → Type 0) (meaning : R → Meaning) where
  -- calls take a pool from x to y: each does what its rule says, and from any state that agrees with a book the law holds
  pub record Replayed (x y : Pool F R) (cs : List Call) (xs : List Answer) : Type 0 where
    pub held : Held arithmetic valid meaning y
    pub same_plan : y.plan ≡ x.plan
    pub same_field : y.field ≡ x.field
    pub plays : Plays (arithmetic x.field) (scheme_of x.plan) (standing arithmetic valid meaning x) cs xs (standing arithmetic valid meaning y)
    pub law : (b : Book) → Agrees (arithmetic x.field) (scheme_of x.plan) (standing arithmetic valid meaning x) b →
        Law (arithmetic x.field) x.plan (standing arithmetic valid meaning x) b cs xs (standing arithmetic valid meaning y)

  abbrev pub Replays : Pool F R → Pool F R → List Call → List Answer → Type 0
  Replays x y cs xs = Held arithmetic valid meaning x → Replayed x y cs xs

  -- a pool is laid over a rack and then made calls, from the blank book on
  pub record LaidAndReplayed (p : Plan) (f : F) (x : R) (y : Pool F R) (cs : List Call) (xs : List Answer) : Type 0 where
    pub held : Held arithmetic valid meaning y
    pub same_plan : y.plan ≡ p
    pub same_field : y.field ≡ f
    pub starts : Agrees (arithmetic f) (scheme_of p) (laid_over p (meaning x)) blank
    pub law : Law (arithmetic f) p (laid_over p (meaning x)) blank cs xs (standing arithmetic valid meaning y)
