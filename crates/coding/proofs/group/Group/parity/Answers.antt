use Rattle.coding.proofs.group.Group.parity.Goals as goal

-- src/parity.rt:33:5
pub returns-clause-is : goal.returns-clause-is
returns-clause-is g c = c.parity_of.ensures.is c.args.self.now c.args.k c.weights.ensures
