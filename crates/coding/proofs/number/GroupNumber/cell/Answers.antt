use Rattle.std.proofs.Common.{ℕ, ◌<◌, Some, Option, sym, ap, ◌∙◌, subst, arith}
use Rattle.layout.specs.declared.plan.Cell.{Cell}
use Rattle.layout.specs.Placing.{chunks_of}
use Rattle.layout.specs.Places.{CellOf}
use Rattle.layout.proofs.OfPlan as layout
use Rattle.coding.specs.Schemes.{scheme_of}
use Rattle.coding.proofs.OfPlan as plan
use Rattle.coding.proofs.number.GroupNumber.cell.Goals as goal

pub unwrap-requires : goal.unwrap-requires
unwrap-requires c =
    let s = c.args.self.now in
    let p = s.plan.now in
    let l : c.chunk.result < chunks_of p.d p.d2 =
    subst (λ (j : ℕ). j < chunks_of p.d p.d2) (sym c.chunk.ensures) (plan.group_chunk_lt p s.kind s.index c.args.e s.inside c.requires) in
    plan.cell_some p.d p.d2 c.chunk.result c.cell.result c.cell.ensures l

pub returns : goal.returns
returns c =
    let p = c.args.self.now.plan.now in
    let at : CellOf p.d p.d2 c.chunk.result (Some c.unwrap.result) = subst (λ (o : Option Cell). CellOf p.d p.d2 c.chunk.result o) c.unwrap.ensures c.cell.ensures in
    let is = c.chunk.ensures in
    record {
      is =
          record {
            row_is = ap (λ (q : Cell). q.row) at.1 ∙ ap (λ (j : ℕ). (scheme_of p).row j) is;
            column_is = ap (λ (q : Cell). q.column) at.1 ∙ ap (λ (j : ℕ). (scheme_of p).column j) is;
            x_is = ap (λ (q : Cell). q.x) at.1 ∙ ap (λ (j : ℕ). (scheme_of p).x j) is;
          };
      small = omega (arith, ap (λ (q : Cell). q.x) at.1, layout.x_lt p c.chunk.result at.0);
    }
