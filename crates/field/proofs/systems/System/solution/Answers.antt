use Rattle.std.proofs.Common.{◌≡◌, ℕ, length, subst, arith}
use Rattle.field.proofs.Steps.{Progress, begin, pivot, advance, finish}
use Rattle.field.proofs.systems.System.solution.Goals as goal

pub loop-column-init : goal.loop-column-init
loop-column-init g c =
    let s = c.args.self.now in
    λ sides codes first size.
    begin (g.F.Field.arithmetic s.field.now) (g.met.F.Field.lawful s.field.now) s.n s.ks s.xs s.posed sides c.coefficients-a.result c.first-b.result
    c.coefficients-a.ensures codes first size

pub eliminate-requires : goal.eliminate-requires
eliminate-requires g c =
    let s = c.args.self.now in
    let few = s.posed.few in
    let size : length c.first-b.result ≡ 4 = omega arith in
    let p = c.loop-column.invariant c.args.sides c.requires c.first-b.ensures size in
    record {
      within = omega arith;
      grid = p.grid;
      codes = p.codes;
      pivot =
          pivot (g.F.Field.arithmetic s.field.now) (g.met.F.Field.lawful s.field.now) s.n s.ks s.xs s.posed c.args.sides c.loop-column.column c.loop-column.a c.loop-column.b
          c.loop-column-test.true p;
    }

pub loop-column-preserved : goal.loop-column-preserved
loop-column-preserved g c =
    let s = c.args.self.now in
    let size : length c.eliminate.result.1 ≡ 4 = omega arith in
    λ sides codes first start.
    advance (g.F.Field.arithmetic s.field.now) (g.met.F.Field.lawful s.field.now) s.n s.ks s.xs s.posed sides c.loop-column.column
    c.loop-column.a c.loop-column.b c.eliminate.result.0 c.eliminate.result.1 c.loop-column-test.true
    (c.loop-column.invariant sides codes first start) c.eliminate.ensures.step size

pub returns : goal.returns
returns g c =
    let s = c.args.self.now in
    let A = g.F.Field.arithmetic s.field.now in
    let L = g.met.F.Field.lawful s.field.now in
    let size : length c.first-b.result ≡ 4 = omega arith in
    let p = c.loop-column.invariant c.args.sides c.requires c.first-b.ensures size in
    let end : c.loop-column.column ≡ s.n = omega arith in
    finish A L s.n s.ks s.xs s.posed c.args.sides c.loop-column.a c.loop-column.b
    (subst (λ (k : ℕ). Progress A L s.n s.ks s.xs c.args.sides k c.loop-column.a c.loop-column.b) end p)
