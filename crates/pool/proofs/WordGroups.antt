-- The group of a chunk, and its place there. Assumes nothing.
use Rattle.std.proofs.Common.{◌≡◌, ℕ, ◌/◌, ◌<◌, Some, sym, refl, ap, subst, arith}
use Rattle.layout.specs.declared.plan.Plan.{Plan}
use Rattle.layout.specs.declared.plan.Cell.{Cell}
use Rattle.layout.specs.Places.{CellOf}
use Rattle.layout.proofs.OfPlan as plan
use Rattle.coding.specs.declared.group.Kind.{Kind}
use Rattle.coding.specs.declared.group.Kind.TheVariants.{Stripe, Row}
use Rattle.coding.specs.Schemes.{scheme_of}
use Rattle.coding.specs.Groups.{groups, index_of}
use Rattle.pool.specs.Book.{group_of}

-- i is the group of chunk j, and n its place there
pub record GroupIs (p : Plan) (t : Kind) (j i : ℕ) : Type 0 where
  pub is : i ≡ group_of (scheme_of p) t j
  pub inside : i < groups (scheme_of p) t

pub record IndexIs (p : Plan) (t : Kind) (j n : ℕ) : Type 0 where
  pub is : n ≡ index_of (scheme_of p) t j
  pub inside : n < 14

module _ (p : Plan) (j : ℕ) (cell : Cell) (at : CellOf p.d p.d2 j (Some cell)) where
  pub row_is : cell.row ≡ (scheme_of p).row j
  row_is = ap (λ (q : Cell). q.row) at.1

  pub column_is : cell.column ≡ (scheme_of p).column j
  column_is = ap (λ (q : Cell). q.column) at.1

  pub x_is : cell.x ≡ (scheme_of p).x j
  x_is = ap (λ (q : Cell). q.x) at.1

  pub of_stripe : (t : Kind) → t ≡ Stripe → GroupIs p t j (j / p.d)
  of_stripe t e = subst (λ (t : Kind). GroupIs p t j (j / p.d)) (sym e) (record { is = refl; inside = (plan.inside p j at.0).stripe })

  pub of_row : (t : Kind) → t ≡ Row → GroupIs p t j cell.row
  of_row t e = subst (λ (t : Kind). GroupIs p t j cell.row) (sym e) (record { is = row_is; inside = omega (arith, row_is, (plan.promises p).in_rows j at.0) })

  pub in_row : (t : Kind) → t ≡ Row → IndexIs p t j cell.column
  in_row t e =
      subst (λ (t : Kind). IndexIs p t j cell.column) (sym e)
      (record { is = column_is; inside = omega (arith, column_is, (plan.promises p).in_columns j at.0, p.data2_range.1) })
