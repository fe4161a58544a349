use Rattle.std.proofs.Common.{Some, ap, ◌∙◌}
use Rattle.std.specs.Option.{option_map}
use Rattle.player.specs.Answers.{rack_in}
use Rattle.player.specs.Holding.{alone, memory_by, started, started_on}
use Rattle.player.specs.Sessions.{Makeable, next_memory}
use Rattle.player.proofs.Parts.{plays_same, then_ok}
use Rattle.player.proofs.session.Session.play.Goals as goal

pub returns-in-Some-rack : goal.returns-in-Some-rack
returns-in-Some-rack g c =
    let W = g.L.Language.writes in
    let h = c.in_ok-asked.ensures in
    let b = c.args.self.now in
    let s = c.play_alone.new.self in
    let m0 = alone (option_map g.R.Rack.meaning c.args.rack) in
    let m = alone (option_map g.R.Rack.meaning c.play_alone.new.rack) in
    let start = started c.in-Pool.start (g.R.Rack.meaning c.in-Some-rack.rack) in
    then_ok W c.play_pools.result (λ x. x) next_memory Makeable b s c.play_pools.new.self m0 start h.2.falls
    (plays_same W b m0 s (memory_by c.in_ok-asked.field-0 m) start
    (ap (λ q. memory_by q m) (c.in-Some.is ∙ ap Some c.in-Pool.is) ∙ ap (λ o. started_on c.in-Pool.start (rack_in (alone (option_map g.R.Rack.meaning o)))) c.in-Some-rack.is) h.3)
    c.play_pools.ensures
