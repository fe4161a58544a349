use Rattle.std.proofs.Common.{sym, ◌∙◌, arith}
use Rattle.std.proofs.lemmas.Bool.{both_ways, and_from, lt-ltb}
use Rattle.coding.specs.Groups.{parities}
use Rattle.coding.specs.Words.{missing_pieces}
use Rattle.coding.specs.Schemes.{scheme_of}
use Rattle.coding.specs.Steps.{flags}
use Rattle.pool.specs.Book.{holds_piece, beyond}
use Rattle.pool.proofs.Going.{going_next, going_skip}
use Rattle.pool.proofs.refit.Refitting.restore_group.Goals as goal

pub returns-in-Ok : goal.returns-in-Ok
returns-in-Ok g c =
    λ h.
    let A = g.F.Field.arithmetic c.args.self.now.field.now in
    let p = scheme_of c.args.self.now.plan in
    let t = c.args.self.now.kind in
    let i = c.args.index in
    let m = c.args.self.now.module in
    let out = flags c.args.self.now.out in
    let made = c.in-Ok.ensures.prepared in
    let group = c.restore.ensures h in (
      group.0,
      λ order was room li fine going.
          going_next A p t out m was i _
          (group.1 p t i out was (made.2 order) room (omega arith) (sym (c.has_piece.ensures li) ∙ c.if-not-has_piece.false) going),
    )

pub returns-in_default : goal.returns-in_default
returns-in_default g c =
    λ h.
    let p = scheme_of c.args.self.now.plan in
    let t = c.args.self.now.kind in
    let i = c.args.index in
    let m = c.args.self.now.module in
    let out = flags c.args.self.now.out in (
      h,
      λ order was room li fine going.
          absurd
          (both_ways _ fine
          (and_from (holds_piece p t m i) (beyond p t out i) (sym (c.has_piece.ensures li) ∙ c.if-not-has_piece.false)
          (lt-ltb (parities p t) (missing_pieces p t i out) (c.in_default.ensures.prepared.0 li)))),
    )

pub returns-then-not-has_piece : goal.returns-then-not-has_piece
returns-then-not-has_piece g c =
    λ h. (
      h,
      λ order was room li fine going.
          going_skip (g.F.Field.arithmetic c.args.self.now.field.now) (scheme_of c.args.self.now.plan) c.args.self.now.kind (flags c.args.self.now.out) c.args.self.now.module was c.args.index _
          (sym (c.has_piece.ensures li) ∙ c.if-not-has_piece.true) going,
    )
