use Rattle.pool.proofs.WordGroups.{in_row}
use Rattle.pool.proofs.word.Word.index.Goals as goal

pub returns-in-Row : goal.returns-in-Row
returns-in-Row c =
    let made = in_row c.args.self.now.plan c.args.self.now.chunk c.args.self.now.cell c.args.self.now.placed c.args.kind c.in-Row.is in
    record { is = made.is; inside = made.inside }
