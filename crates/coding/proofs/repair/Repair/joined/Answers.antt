use Rattle.coding.proofs.repair.Repair.joined.Goals as goal

pub returns : goal.returns
returns c = c.scatter.ensures 0
