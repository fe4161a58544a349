use Rattle.std.proofs.Common.{replicate, Some, refl, subst}
use Rattle.std.specs.Fmt.{DisplaysOnOk}
use Rattle.player.specs.Texts.{hex_text}
use Rattle.player.proofs.Labels.{filled}
use Rattle.player.proofs.text.LabelBytesDisplay.fmt.Goals as goal

pub returns-clause-writes : goal.returns-clause-writes
returns-clause-writes g c =
    subst (λ bytes. DisplaysOnOk g.W.Write.write_str_gives c.args.f.now c.write_bytes.result (Some (hex_text bytes)) c.write_bytes.new.f)
    (filled c.args.self.now.0 (replicate 16 0) c.write.new.bytes c.write.result refl c.write.ensures.writes) c.write_bytes.ensures
