use Rattle.std.proofs.Common.{vec_items}
use Rattle.player.specs.Transcripts.{lines}
use Rattle.retain.proofs.Benches.{printed_alone}
use Rattle.retain.proofs.transcript.Goals as goal

pub returns : goal.returns
returns c = printed_alone c.transcript.result (λ v. vec_items v) (lines c.args.script.now) c.transcript.ensures
