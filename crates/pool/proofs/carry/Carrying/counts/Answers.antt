use Rattle.pool.proofs.Loading.{reads_outside}
use Rattle.pool.proofs.carry.Carrying.counts.Goals as goal

pub returns-then-self : goal.returns-then-self
returns-then-self g c =
    let s = c.args.self.now in
    reads_outside s.load s.loaded.grouped s.loaded.home_is c.outside_home.result c.if-self.true c.outside_home.ensures
