use Rattle.std.proofs.Common.{◌≤◌, arith}
use Rattle.std.proofs.lemmas.Nat.{mul-le}
use Rattle.coding.proofs.OfPlan as plan
use Rattle.coding.proofs.number.GroupNumber.chunk.Goals as goal

pub overflow_mul-result : goal.overflow_mul-result
overflow_mul-result c =
    let s = c.args.self.now in
    let i : s.index ≤ 14 = omega (arith, s.inside, plan.group_count_le s.plan.now s.kind) in
    omega (arith, mul-le s.index s.plan.now.d 14 14 i s.plan.now.data_range.1)

pub overflow_add-result : goal.overflow_add-result
overflow_add-result c =
    let s = c.args.self.now in
    let i : s.index ≤ 14 = omega (arith, s.inside, plan.group_count_le s.plan.now s.kind) in
    omega (arith, mul-le s.index s.plan.now.d 14 14 i s.plan.now.data_range.1, c.requires, plan.group_size_le s.plan.now s.kind)
