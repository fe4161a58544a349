use Rattle.std.proofs.Common.{◌≡◌, ℕ, ◌+◌, ◌≤◌, List, ◌++◌, length, drop, vec_items}
use Rattle.player.specs.Rows.{row_text}
use Rattle.player.specs.Sessions.{lines_left}
use Rattle.player.proofs.session.Session.print_row.Given as goal

abbrev pub invariant-loop-answer : goal.invariant-loop-answer
invariant-loop-answer g l =
    record {
      falls : length l.self.left.now ≤ length l.initial.self.left.now;
      plan : l.self.plan ≡ l.initial.self.plan;
      printed : (part rest : List (List ℕ)) → length part ≡ length l.told → lines_left l.initial.self ≡ part ++ rest →
          (todo : List (List ℕ)) × (length todo + l.answer-index ≡ length l.told) × (lines_left l.self ≡ todo ++ rest)
          × (vec_items l.self.out ++ row_text todo (drop l.answer-index l.told) ≡ vec_items l.initial.self.out ++ row_text part l.told);
    }
