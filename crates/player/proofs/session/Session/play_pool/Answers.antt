use Rattle.player.proofs.session.Session.play_pool.Goals as goal

-- src/play.rt:105:5
pub returns-in-Byte : goal.returns-in-Byte
returns-in-Byte g c = rw (c.in-Byte.is) c.play_started.ensures

-- src/play.rt:105:5
pub returns-in-Nibble : goal.returns-in-Nibble
returns-in-Nibble g c = rw (c.in-Nibble.is) c.play_started-in-Nibble.ensures
