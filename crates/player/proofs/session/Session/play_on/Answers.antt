use Rattle.std.proofs.Common.{◌≡◌, ℕ, ◌+◌, ◌*◌, length, get_or, ap, ◌∙◌, arith}
use lib.ListN.{length-replicate}
use Rattle.rack.specs.Laid.{blank}
use Rattle.rack.proofs.Blanks.{flat_blank, turned_blank, ordered_unrefused}
use Rattle.player.proofs.Parts.{on_blank}
use Rattle.player.proofs.session.Session.play_on.Goals as goal

pub new-rack-requires-in-Turning : goal.new-rack-requires-in-Turning
new-rack-requires-in-Turning g c =
    let size = c.args.request.size in
    let room = (c.from.result * c.from-2.result + 1) * c.from-length.result in
    let same : room ≡ (size.modules * size.slots + 1) * size.length = cc in
    ordered_unrefused size c.deref_mut-in-Turning-2.result.now c.deref_mut-in-Turning.result.now c.requires
    (omega (arith, ap length (c.deref_mut-in-Turning.ensures.value ∙ c.in_ok-cells-in-Turning.ensures.items_if_clones_equal (λ y h. h)), length-replicate {A = ℕ} room 0, same))
    (ap length c.deref_mut-in-Turning-2.ensures.value ∙ c.in_ok-map-in-Turning.ensures.0)
    (λ k h. ap (λ l. get_or l k 0) c.deref_mut-in-Turning-2.ensures.value ∙ c.in_ok-map-in-Turning.ensures.1 k h)

pub returns-in_ok-cells-in-Flat : goal.returns-in_ok-cells-in-Flat
returns-in_ok-cells-in-Flat g c =
    let size = c.args.request.size in
    on_blank g.L.Language.writes c.play.result c.args.self.now c.play.new.self _ (blank size)
    (c.new-rack.ensures.means ∙ flat_blank size _ c.deref_mut.result.now (c.deref_mut.ensures.value ∙ c.in_ok-cells-in-Flat.ensures.items_if_clones_equal (λ y h. h)))
    c.play.ensures

pub returns-in_ok-map-in-Turning : goal.returns-in_ok-map-in-Turning
returns-in_ok-map-in-Turning g c =
    let size = c.args.request.size in
    on_blank g.L.Language.writes c.play-in-Turning.result c.args.self.now c.play-in-Turning.new.self _ (blank size)
    (c.new-rack-in-Turning.ensures.means ∙ turned_blank size _ c.deref_mut-in-Turning-2.result.now c.deref_mut-in-Turning.result.now (c.deref_mut-in-Turning.ensures.value ∙ c.in_ok-cells-in-Turning.ensures.items_if_clones_equal (λ y h. h)))
    c.play-in-Turning.ensures
