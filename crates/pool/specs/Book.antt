-- The book of a pool, which is fed the calls and their arguments alone: what it refuses, what it answers, and what it notes.
-- Assumes nothing.
use Rattle.std.specs.Prelude.{ℕ, zero, suc, ◌+◌, ◌*◌, ◌/◌, max, Bool, true, false, cond, not, ◌&&◌, ◌||◌, Some, None, Option, ◌==◌, nat_le, nat_lt, Ok, Err}
use Rattle.layout.specs.declared.refusal.Refusal.{Refusal}
use Rattle.coding.specs.declared.group.Kind.{Kind}
use Rattle.coding.specs.declared.group.Kind.TheVariants.{Stripe, Row}
use Rattle.coding.specs.Schemes.{Scheme}
use Rattle.coding.specs.Groups.{groups, parities, member, count}
use Rattle.coding.specs.Words.{missing_pieces}
use Rattle.pool.specs.declared.kinds.Phase.{Phase}
use Rattle.pool.specs.declared.kinds.Phase.TheVariants.{Before, UnderWay, Voided, After}
use Rattle.pool.specs.declared.kinds.Call.{Call}
use Rattle.pool.specs.declared.kinds.Call.TheVariants.{Read, Write, Pull, Refit, Begin, Carry, Ready, Close, Drop}
use Rattle.pool.specs.Replies.{Answer}
use Rattle.pool.specs.declared.kinds.Reply.TheVariants.{Symbol, Carried, Done}
use Rattle.layout.specs.declared.refusal.Refusal.TheVariants.{NoModule, NoWord, NoSymbol, WrongPhase, AlreadySo, ModuleOut, ChangeoverVoided, WrongCount, BeyondRepair}

-- the symbol of each chunk and offset, the modules out, the phase, and how many stripes are carried: the changeover has added
-- these, from stripe 0 on, to the parities of the rows
pub record Book : Type 0 where
  pub image : ℕ → ℕ → ℕ
  pub out : ℕ → Bool
  pub phase : Phase
  pub carried : ℕ

-- after laying: all symbols 0, no module out
abbrev pub blank : Book
blank = record { image = λ j o. 0; out = λ m. false; phase = Before; carried = 0 }

-- 0 before the changeover, 1 under way, 2 voided by a pull, 3 after it
abbrev pub phase_number : Phase → ℕ
phase_number Before = 0
phase_number UnderWay = 1
phase_number Voided = 2
phase_number After = 3

-- the phase of a pool that is opened by a label: the flag says whether it is after its changeover
abbrev pub opened_phase : Bool → Phase
opened_phase true = After
opened_phase false = Before

-- the groups whose parities are settled, so that pieces are rebuilt from them: the rows after the changeover, else the stripes
abbrev pub settled : Phase → Kind
settled Before = Stripe
settled UnderWay = Stripe
settled Voided = Stripe
settled After = Row

-- the group of a chunk
abbrev pub group_of : Scheme → Kind → ℕ → ℕ
group_of p Stripe j = j / p.d
group_of p Row j = p.row j

-- M, the modules of a pool
abbrev pub modules : Scheme → ℕ
modules p = p.d' + max p.r p.r'

-- a number that is found, or else n if it passes
abbrev pub or_last : Option ℕ → Bool → ℕ → Option ℕ
or_last (Some m) b n = Some m
or_last None b n = cond b (Some n) None

-- the lowest number below n that passes a test
abbrev pub lowest : (ℕ → Bool) → ℕ → Option ℕ
lowest f zero = None
lowest f (suc n) = or_last (lowest f n) (f n) n

-- a group misses more pieces than it has parities
abbrev pub beyond : Scheme → Kind → (ℕ → Bool) → ℕ → Bool
beyond p t out i = nat_lt (parities p t) (missing_pieces p t i out)

-- module m has a piece of group i: a chunk or a parity
abbrev pub holds_piece : Scheme → Kind → ℕ → ℕ → Bool
holds_piece p t m i = nat_lt 0 (count (λ j. member p t i j && p.column j == m) p.chunks) || (nat_le p.d' m && nat_lt m (p.d' + parities p t))

-- a check: its refusal where the test holds, else the checks after it
abbrev pub refuse_if : Bool → Refusal → Option Refusal → Option Refusal
refuse_if b e rest = cond b (Some e) rest

-- a check that names the lowest number that fails it
abbrev pub refuse_at : Option ℕ → (ℕ → Refusal) → Option Refusal
refuse_at None e = None
refuse_at (Some n) e = Some (e n)

-- chunk c and offset o of a word, and then the checks after these
abbrev pub word_refusal : Scheme → ℕ → ℕ → Option Refusal → Option Refusal
word_refusal p c o rest = refuse_if (nat_le p.chunks c) (NoWord 1) (refuse_if (nat_le p.len o) (NoWord 2) rest)

-- the repair of a chunk whose module is out
abbrev pub repair_refusal : Scheme → Phase → (ℕ → Bool) → ℕ → Option Refusal
repair_refusal p ph out c =
    refuse_if (out (p.column c) && beyond p (settled ph) out (group_of p (settled ph) c)) (BeyondRepair (group_of p (settled ph) c)) None

-- carry, ready and close want a changeover under way
abbrev pub under_way_refusal : Phase → Option Refusal → Option Refusal
under_way_refusal Before rest = Some (WrongPhase 0)
under_way_refusal UnderWay rest = rest
under_way_refusal Voided rest = Some ChangeoverVoided
under_way_refusal After rest = Some (WrongPhase 3)

abbrev pub is_before : Phase → Bool
is_before Before = true
is_before UnderWay = false
is_before Voided = false
is_before After = false

-- The refusal of a call, if there is one, for a pool over a field of order q that has these modules out, is in phase ph
-- and has carried n stripes. The checks stand in their order.
abbrev pub refusal : Scheme → ℕ → Phase → ℕ → (ℕ → Bool) → Call → Option Refusal
refusal p q ph n out (Read c o) = word_refusal p c o (repair_refusal p ph out c)
refusal p q ph n out (Write c o v) = word_refusal p c o (refuse_if (nat_le q v) (NoSymbol v) (repair_refusal p ph out c))
refusal p q ph n out (Pull m) = refuse_if (nat_le (modules p) m) (NoModule m) (refuse_if (out m) (AlreadySo m) None)
refusal p q ph n out (Refit m) =
    refuse_if (nat_le (modules p) m) (NoModule m)
    (refuse_if (not (out m)) (AlreadySo m)
    (refuse_at (lowest (λ i. holds_piece p (settled ph) m i && beyond p (settled ph) out i) (groups p (settled ph))) BeyondRepair))
refusal p q ph n out Begin = refuse_if (not (is_before ph)) (WrongPhase (phase_number ph)) (refuse_at (lowest out (modules p)) ModuleOut)
refusal p q ph n out Carry = under_way_refusal ph (refuse_if (nat_le p.stripes n) (WrongCount n) None)
refusal p q ph n out Ready = under_way_refusal ph (refuse_if (nat_lt n p.stripes) (WrongCount n) None)
refusal p q ph n out Close = under_way_refusal ph (refuse_if (nat_lt n p.stripes) (WrongCount n) None)
refusal p q ph n out Drop = None

-- what carrying stripe i reads: the chunks outside its home row and r' parities, or all its chunks where r' > r
abbrev pub carried_data : Scheme → ℕ → ℕ
carried_data p i = cond (nat_le p.r' p.r) (count (λ e. not (p.row (i * p.d + e) == p.home i)) p.d) p.d

abbrev pub carried_parities : Scheme → ℕ
carried_parities p = cond (nat_le p.r' p.r) p.r' 0

-- what an accepted call answers
abbrev pub granted : Scheme → Book → Call → Answer
granted p b (Read c o) = Ok (Symbol (b.image c o))
granted p b (Write c o v) = Ok Done
granted p b (Pull m) = Ok Done
granted p b (Refit m) = Ok Done
granted p b Begin = Ok Done
granted p b Carry = Ok (Carried (carried_data p b.carried) (carried_parities p))
granted p b Ready = Ok Done
granted p b Close = Ok Done
granted p b Drop = Ok Done

-- a pull turns phase 1 into 2, a drop phases 1 and 2 into 0
abbrev pub pulled_phase : Phase → Phase
pulled_phase Before = Before
pulled_phase UnderWay = Voided
pulled_phase Voided = Voided
pulled_phase After = After

abbrev pub dropped_phase : Phase → Phase
dropped_phase Before = Before
dropped_phase UnderWay = Before
dropped_phase Voided = Before
dropped_phase After = After

-- the book after an accepted call
abbrev pub noted : Book → Call → Book
noted b (Read c o) = b
noted b (Write c o v) = record { image = λ j u. cond (j == c && u == o) v (b.image j u); out = b.out; phase = b.phase; carried = b.carried }
noted b (Pull m) = record { image = b.image; out = λ k. cond (k == m) true (b.out k); phase = pulled_phase b.phase; carried = b.carried }
noted b (Refit m) = record { image = b.image; out = λ k. cond (k == m) false (b.out k); phase = b.phase; carried = b.carried }
noted b Begin = record { image = b.image; out = b.out; phase = UnderWay; carried = 0 }
noted b Carry = record { image = b.image; out = b.out; phase = b.phase; carried = suc b.carried }
noted b Ready = b
noted b Close = record { image = b.image; out = b.out; phase = After; carried = b.carried }
noted b Drop = record { image = b.image; out = b.out; phase = dropped_phase b.phase; carried = b.carried }

-- a refused call leaves the book as it is
abbrev pub answer_by : Option Refusal → Answer → Answer
answer_by None a = a
answer_by (Some e) a = Err e

abbrev pub note_by : Option Refusal → Book → Book → Book
note_by None new old = new
note_by (Some e) new old = old

-- by the book: the refusal of a call, its answer, and the book after it
abbrev pub book_refusal : Scheme → ℕ → Book → Call → Option Refusal
book_refusal p q b c = refusal p q b.phase b.carried b.out c

abbrev pub answer : Scheme → ℕ → Book → Call → Answer
answer p q b c = answer_by (book_refusal p q b c) (granted p b c)

abbrev pub after : Scheme → ℕ → Book → Call → Book
after p q b c = note_by (book_refusal p q b c) (noted b c) b
