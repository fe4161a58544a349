-- What a pool keeps: the rack holds a fresh encoding of the book's image. Assumes nothing.
use Rattle.std.specs.Prelude.{◌≡◌, ℕ, ◌+◌, ◌/◌, ◌<◌, Bool, true, not, ◌&&◌, nat_lt}
use Rattle.field.specs.Arithmetic.{Arithmetic}
use Rattle.rack.specs.Meaning.{Meaning}
use Rattle.coding.specs.declared.group.Kind.{Kind}
use Rattle.coding.specs.declared.group.Kind.TheVariants.{Stripe, Row}
use Rattle.coding.specs.Schemes.{Scheme}
use Rattle.coding.specs.Groups.{groups, member, slot_of, parity}
use Rattle.pool.specs.declared.kinds.Phase.{Phase}
use Rattle.pool.specs.declared.kinds.Phase.TheVariants.{Before, UnderWay, Voided, After}
use Rattle.pool.specs.Book.{Book, modules}
use Rattle.pool.specs.Standing.{Standing}

-- how many parities of each group of a kind are in force, so that they have to be those of the image: the settled ones, and while the
-- changeover is under way those of the rows, which are staged: not yet settled, and filled stripe by stripe
abbrev pub in_force : Scheme → Phase → Kind → ℕ
in_force p Before Stripe = p.r
in_force p UnderWay Stripe = p.r
in_force p Voided Stripe = p.r
in_force p After Stripe = 0
in_force p Before Row = 0
in_force p UnderWay Row = p.r'
in_force p Voided Row = 0
in_force p After Row = p.r'

-- the chunks that a group's parities are sums over: while the changeover is under way, a row's chunks of stripes that are
-- not yet carried count as zero
abbrev pub covers : Scheme → Phase → ℕ → Kind → ℕ → ℕ → Bool
covers p ph n Stripe i j = member p Stripe i j
covers p Before n Row i j = member p Row i j
covers p UnderWay n Row i j = member p Row i j && nat_lt (j / p.d) n
covers p Voided n Row i j = member p Row i j
covers p After n Row i j = member p Row i j

-- every parity in force on a fitted module is that of the image
abbrev pub Encoded : Arithmetic → Scheme → Phase → ℕ → Meaning → (ℕ → ℕ → ℕ) → Type 0
Encoded A p ph n w image =
    (t : Kind) (i k o : ℕ) → i < groups p t → k < in_force p ph t → o < p.len → w.fitted (p.d' + k) ≡ true →
    w.symbol (p.d' + k) (slot_of p t i) o ≡ parity A p (covers p ph n t i) k (λ j. image j o)

-- a pool agrees with a book
pub record Agrees (A : Arithmetic) (p : Scheme) (s : Standing) (b : Book) : Type 0 where
  pub phase_is : s.phase ≡ b.phase
  pub carried_is : s.carried ≡ b.carried
  pub out_is : (m : ℕ) → m < modules p → s.held.fitted m ≡ not (b.out m)
  pub codes : (j o : ℕ) → j < p.chunks → o < p.len → b.image j o < A.order
  -- each data chunk on a fitted module, and each parity in force there
  pub data_is : (j o : ℕ) → j < p.chunks → o < p.len → s.held.fitted (p.column j) ≡ true → s.held.symbol (p.column j) (p.row j) o ≡ b.image j o
  pub parities_are : Encoded A p s.phase s.carried s.held b.image
