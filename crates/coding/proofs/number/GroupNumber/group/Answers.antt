use Rattle.std.proofs.Common.{◌≡◌, ℕ, ◌<◌, ◌≤◌, length, get_or, refl, ap, ⊎_elim, arith, rules}
use Rattle.std.proofs.lemmas.Bool.{cases_lt}
use Rattle.std.proofs.lemmas.List.{get_or_past}
use Rattle.coding.specs.declared.group.Piece.{Piece}
use Rattle.coding.specs.Schemes.{Scheme, scheme_of}
use Rattle.coding.specs.Groups.{size}
use Rattle.coding.specs.Pieces.{PieceAt, no_piece}
use Rattle.coding.proofs.OfPlan as plan
use Rattle.coding.proofs.Made.{made}
use Rattle.coding.proofs.number.GroupNumber.group.Goals as goal

pub returns : goal.returns
returns c =
    let s = c.args.self.now in
    let p : Scheme = scheme_of s.plan.now in
    let short = plan.group_size_le s.plan.now s.kind in
    let long : length c.from_fn.result ≡ 14 = omega arith in
    let at : (e : ℕ) → e < 14 → PieceAt p s.kind s.index e (get_or c.from_fn.result e no_piece) =
    λ e l. made _ (PieceAt p s.kind s.index) _ _ 14 (λ i y q h k. search rules) c.from_fn.ensures.items e no_piece l in
    let none : (e : ℕ) → size p s.kind ≤ e → get_or c.from_fn.result e no_piece ≡ no_piece =
    λ e h. ⊎_elim (λ (l : e < 14). (at e l).rest h) (λ (l : 14 ≤ e). get_or_past c.from_fn.result e no_piece (omega arith)) (cases_lt e 14) in
    record {
      kind_is = refl;
      index_is = refl;
      short = short;
      size_is = c.size.ensures;
      parities_is = c.parities.ensures;
      slot_is = c.parity_slot.ensures s.inside;
      first_is = refl;
      long = long;
      modules_are = λ e h. (at e (omega arith)).module_is h;
      slots_are = λ e h. (at e (omega arith)).slot_is h;
      xs_are = λ e h. (at e (omega arith)).x_is h;
      modules_rest = λ e h. ap (λ (c : Piece). c.module) (none e h);
      slots_rest = λ e h. ap (λ (c : Piece). c.slot) (none e h);
      xs_rest = λ e h. ap (λ (c : Piece). c.x) (none e h);
    }
