use Rattle.std.proofs.Common.{◌≡◌, length, ◌∙◌, arith}
use Rattle.coding.proofs.Preparing as preparing
use Rattle.coding.proofs.group.Group.misses_too_many.Goals as goal

pub returns : goal.returns
returns c =
    let xl : length c.gone.result ≡ 14 = omega arith in
    let yl : length c.left.result ≡ 4 = omega arith in
    λ p t i l is. c.too_few.ensures ∙ preparing.beyond p t i l c.args.self.now is c.args.out c.gone.result xl c.gone.ensures c.left.result yl c.left.ensures
