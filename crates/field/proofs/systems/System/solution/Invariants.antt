use Rattle.std.proofs.Common.{◌≡◌, ℕ, List, length}
use Rattle.field.specs.Systems.{Codes}
use Rattle.field.specs.Elimination.{First}
use Rattle.field.proofs.Steps.{Progress}
use Rattle.field.proofs.systems.System.solution.Given as goal

-- the loop does not use `sides`, so it does not have them: the invariant is said of any that its start was made from
abbrev pub invariant-loop-column : goal.invariant-loop-column
invariant-loop-column g l =
    let s = l.self in
    (sides : List ℕ) → Codes (g.F.Field.arithmetic s.field.now) s.n sides → First s.n sides l.initial.b → length l.initial.b ≡ 4 →
    Progress (g.F.Field.arithmetic s.field.now) (g.met.F.Field.lawful s.field.now) s.n s.ks s.xs sides l.column l.a l.b
