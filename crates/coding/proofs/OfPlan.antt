-- A plan gives a sound scheme over a field of its order. Assumes nothing.
use Rattle.std.proofs.Common.{◌≡◌, ℕ, ◌<◌, ◌≤◌, Bool, true, is_some, Some, None, Option, refl, arith}
use Rattle.field.specs.Arithmetic.{Arithmetic}
use Rattle.layout.specs.declared.plan.Plan.{Plan}
use Rattle.layout.proofs.OfPlan as plan
use Rattle.layout.specs.Placing.{chunks_of}
use Rattle.layout.specs.Places.{CellOf}
use Rattle.layout.specs.declared.plan.Cell.{Cell}
use Rattle.coding.specs.declared.group.Kind.{Kind}
use Rattle.coding.specs.declared.group.Kind.TheVariants.{Stripe, Row}
use Rattle.coding.specs.Schemes.{Sound, scheme_of}
use Rattle.coding.specs.Groups.{groups, size, parities, chunk_of, count}
use Rattle.coding.specs.Words.{missing_chunks}
use Rattle.coding.proofs.Grouping as grouping

pub sound : (p : Plan) (A : Arithmetic) → A.order ≡ p.order → Sound A (scheme_of p)
sound p A e =
    let promises = plan.promises p in
    record {
      some = let h = p.data_range.0 in omega arith;
      some' = let h = p.data2_range.0 in omega arith;
      by_stripe = promises.by_stripe;
      by_row = promises.by_row;
      few = p.parity_range.1;
      few' = p.parity2_range.1;
      in_rows = promises.in_rows;
      in_columns = promises.in_columns;
      back = promises.back;
      filled = promises.filled;
      filled_row = promises.filled_row;
      filled_column = promises.filled_column;
      home_in = promises.home_in;
      points = λ j lj. let h = plan.code_lt p j lj in omega arith;
      stripe_apart = promises.stripe_apart;
      row_apart = promises.row_apart;
    }

-- the chunks of a group, and what bounds them
module _ (p : Plan) where
  pub group_size_le : (t : Kind) → size (scheme_of p) t ≤ 14
  group_size_le Stripe = p.data_range.1
  group_size_le Row = p.data2_range.1

  pub group_count_le : (t : Kind) → groups (scheme_of p) t ≤ 14
  group_count_le Stripe = plan.stripes_le p
  group_count_le Row = plan.rows_le p

  pub group_parities_le : (t : Kind) → parities (scheme_of p) t ≤ 4
  group_parities_le Stripe = p.parity_range.1
  group_parities_le Row = p.parity2_range.1

  pub group_chunk_lt : (t : Kind) (i e : ℕ) → i < groups (scheme_of p) t → e < size (scheme_of p) t → chunk_of (scheme_of p) t i e < chunks_of p.d p.d2
  group_chunk_lt Stripe i e hi he = plan.chunk_lt p i e hi he
  group_chunk_lt Row i e hi he = (plan.promises p).filled i e hi he

-- a chunk that is there has a cell
pub cell_some : (d d' j : ℕ) (o : Option Cell) → CellOf d d' j o → j < chunks_of d d' → is_some o ≡ true
cell_some d d' j None h l = absurd (omega (arith, h, l))
cell_some d d' j (Some c) h l = refl

-- an arithmetic of an order, of which nothing else is asked
abbrev blank : ℕ → Arithmetic
blank q = record { order = q; add = λ a b. a; neg = λ a. a; mul = λ a b. a; inv = λ a. a }

-- the chunks of a group of a plan that are out, by their places in it
pub missing_is : (p : Plan) (t : Kind) (i : ℕ) (out : ℕ → Bool) → i < groups (scheme_of p) t →
    missing_chunks (scheme_of p) t i out ≡ count (λ e. out ((scheme_of p).column (chunk_of (scheme_of p) t i e))) (size (scheme_of p) t)
missing_is p t i out li = grouping.missing_is (blank p.order) (scheme_of p) (sound p (blank p.order) refl) t i out li
