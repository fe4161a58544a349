use Rattle.std.proofs.Common.{◌∙◌}
use Rattle.pool.proofs.Restoring.{piece_chunk, piece_parity}
use Rattle.pool.proofs.refit.Refitting.has_piece.Goals as goal

pub returns-then-has_chunk : goal.returns-then-has_chunk
returns-then-has_chunk g c =
    λ l. c.if-has_chunk.true ∙ piece_chunk c.args.self.now.plan c.args.self.now.kind c.args.index l c.in-Some.group c.in-Some.ensures.1 c.args.self.now.module c.if-has_chunk.ensures

pub returns-else-has_chunk : goal.returns-else-has_chunk
returns-else-has_chunk g c =
    λ l.
    piece_parity c.args.self.now.plan c.args.self.now.kind c.args.index l c.in-Some.group c.in-Some.ensures.1 c.args.self.now.module c.parity_on.result c.is_some.result c.if-has_chunk.ensures
    c.parity_on.ensures c.is_some.ensures
