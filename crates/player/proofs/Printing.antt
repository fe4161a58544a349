-- A script, line by line. Assumes nothing.
use Rattle.std.specs.Option.{unwrap_or}
use Rattle.std.proofs.Common.{◌≡◌, ℕ, suc, ◌+◌, ◌-◌, ◌<◌, Some, None, Option, length-drop, take_all, drop_of_length-le, Bool, true, false, eqb, cond, List, [], ◌∷◌, ◌++◌, length, take, drop, codes, MatchBool, sym, refl, ap, ◌∙◌, subst, append_assoc, add-one, arith, eq-eqb, ne_eqb}
use Rattle.std.proofs.lemmas.Bool.{cond-true, cond-false}
use Rattle.script.specs.declared.command.Command.{Command}
use Rattle.player.specs.Answers.{State, Answers}
use Rattle.player.specs.Transcripts.{on_first, lines, passed_over, LinePrinted, Printed}
use Rattle.player.specs.Sessions.{kept, Sofar}

-- how many bytes stand before the first newline of a text
abbrev pub bare : List ℕ → ℕ
bare [] = 0
bare (c ∷ cs) = cond (eqb c 10) 0 (bare cs + 1)

pub bare_newline : (c : ℕ) (cs : List ℕ) → c ≡ 10 → bare (c ∷ cs) ≡ 0
bare_newline c cs e = cond-true (eqb c 10) _ _ (eq-eqb c 10 e)

pub bare_other : (c : ℕ) (cs : List ℕ) → (c ≡ 10 → ⊥) → bare (c ∷ cs) ≡ bare cs + 1
bare_other c cs n = cond-false (eqb c 10) _ _ (ne_eqb c 10 n)

-- the first line ends at the first newline
split_by : (b : Bool) (c d : ℕ) (ds : List ℕ) → lines (d ∷ ds) ≡ take (bare (d ∷ ds)) (d ∷ ds) ∷ lines (drop (bare (d ∷ ds) + 1) (d ∷ ds)) →
    cond b ([] ∷ lines (d ∷ ds)) (on_first c (lines (d ∷ ds))) ≡ take (cond b 0 (bare (d ∷ ds) + 1)) (c ∷ d ∷ ds) ∷ lines (drop (cond b 0 (bare (d ∷ ds) + 1) + 1) (c ∷ d ∷ ds))
split_by true c d ds e = refl
split_by false c d ds e = ap (on_first c) e ∙ rw (add-one (bare (d ∷ ds)), add-one (suc (bare (d ∷ ds)))) refl

last_by : (b : Bool) (c : ℕ) → cond b ([] ∷ []) ((c ∷ []) ∷ []) ≡ take (cond b 0 (0 + 1)) (c ∷ []) ∷ lines (drop (cond b 0 (0 + 1) + 1) (c ∷ []))
last_by true c = refl
last_by false c = refl

pub split_first : (s : List ℕ) → 0 < length s → lines s ≡ take (bare s) s ∷ lines (drop (bare s + 1) s)
split_first [] some = absurd (omega (arith, some))
split_first (c ∷ []) some = last_by (eqb c 10) c
split_first (c ∷ d ∷ ds) some = split_by (eqb c 10) c d ds (split_first (d ∷ ds) (omega arith))

pub split_at : (s : List ℕ) (o : Option ℕ) (end : ℕ) → 0 < length s → bare s ≡ unwrap_or o (length s) → o ≡ Some end → lines s ≡ take end s ∷ lines (take (length s - (end + 1)) (drop (end + 1) s))
split_at s o end some is at =
    let e : bare s ≡ end = is ∙ ap (λ x. unwrap_or x (length s)) at in
    split_first s some
    ∙ ap (λ n. take n s ∷ lines (drop (n + 1) s)) e
    ∙ ap (λ l. take end s ∷ lines l) (sym (take_all (length s - (end + 1)) (drop (end + 1) s) (omega (arith, length-drop (end + 1) s))))

pub split_none : (s : List ℕ) (o : Option ℕ) → 0 < length s → bare s ≡ unwrap_or o (length s) → o ≡ None → lines s ≡ s ∷ []
split_none s o some is at =
    let e : bare s ≡ length s = is ∙ ap (λ x. unwrap_or x (length s)) at in
    split_first s some
    ∙ ap (λ n. take n s ∷ lines (drop (n + 1) s)) e
    ∙ ap (λ l. l ∷ lines (drop (length s + 1) s)) (take_all (length s) s (omega arith))
    ∙ ap (λ l. s ∷ lines l) (drop_of_length-le s {i = length s + 1} (omega arith))

-- choices between two facts
pub when_true : (b : Bool) (P Q : Type 0) → b ≡ true → P → MatchBool b P Q
when_true true P Q e h = h
when_true false P Q e h = absurd (let z : ◌≡◌ {A = ℕ} 0 1 = cc in omega arith)

pub when_false : (b : Bool) (P Q : Type 0) → b ≡ false → Q → MatchBool b P Q
when_false true P Q e h = absurd (let z : ◌≡◌ {A = ℕ} 0 1 = cc in omega arith)
when_false false P Q e h = h

from_false : (b : Bool) (P Q : Type 0) → b ≡ false → MatchBool b P Q → Q
from_false true P Q e h = absurd (let z : ◌≡◌ {A = ℕ} 0 1 = cc in omega arith)
from_false false P Q e h = h

-- lines that are not passed over
abbrev pub AllKept : List (List ℕ) → Type 0
AllKept [] = Unit {0}
AllKept (line ∷ rest) = (passed_over line ≡ false) × AllKept rest

kept_by : (b : Bool) (line : List ℕ) (rest : List (List ℕ)) → passed_over line ≡ b → AllKept (kept rest) → AllKept (cond b (kept rest) (line ∷ kept rest))
kept_by true line rest e h = h
kept_by false line rest e h = (e, h)

pub all_kept : (ls : List (List ℕ)) → AllKept (kept ls)
all_kept [] = tt
all_kept (line ∷ rest) = kept_by (passed_over line) line rest refl (all_kept rest)

pub kept_head : (ls : List (List ℕ)) (line : List ℕ) (rest : List (List ℕ)) → kept ls ≡ line ∷ rest → passed_over line ≡ false
kept_head ls line rest e = (subst AllKept e (all_kept ls)).0

-- a line with its answer, and what is printed after it
pub line_joined : (out line text more : List ℕ) → (out ++ (line ++ (codes ": " ++ (text ++ 10 ∷ [])))) ++ more ≡ out ++ (line ++ (codes ": " ++ (text ++ 10 ∷ more)))
line_joined out line text more =
    append_assoc out (line ++ (codes ": " ++ (text ++ 10 ∷ []))) more
    ∙ ap (λ l. out ++ l) (append_assoc line (codes ": " ++ (text ++ 10 ∷ [])) more ∙ ap (λ l. line ++ (codes ": " ++ l)) (append_assoc text (10 ∷ []) more))

module _ (writes : List ℕ → Command → Type 0) where
  pub answered : (b now next : State) (all left rest : List (List ℕ)) (line text out after : List ℕ) → Sofar writes b all now left out → left ≡ line ∷ rest → passed_over line ≡ false →
      Answers writes now line next text → after ≡ out ++ (line ++ (codes ": " ++ (text ++ 10 ∷ []))) → Sofar writes b all next rest after
  answered b now next all left rest line text out after sofar e pass answers is more h =
      let joined : after ++ more ≡ out ++ (line ++ (codes ": " ++ (text ++ 10 ∷ more))) = ap (λ l. l ++ more) is ∙ line_joined out line text more in
      subst (Printed writes b all) (sym joined)
      (sofar (line ++ (codes ": " ++ (text ++ 10 ∷ more)))
      (subst (λ l. Printed writes now l (line ++ (codes ": " ++ (text ++ 10 ∷ more)))) (sym e)
      (when_false (passed_over line) (Printed writes now rest _) (LinePrinted writes now line (λ after m. Printed writes after rest m) _) pass (next, text, more, refl, answers, h))))

  -- what is printed for the lines that are not passed over is printed for all
  printed_by : (b : Bool) (line : List ℕ) (rest : List (List ℕ)) (now : State) (out : List ℕ) → passed_over line ≡ b → ((next : State) (more : List ℕ) → Printed writes next (kept rest) more → Printed writes next rest more) →
      Printed writes now (cond b (kept rest) (line ∷ kept rest)) out → Printed writes now (line ∷ rest) out
  printed_by true line rest now out e f h =
      when_true (passed_over line) (Printed writes now rest out) (LinePrinted writes now line (λ after m. Printed writes after rest m) out) e (f now out h)
  printed_by false line rest now out e f h =
      let x = from_false (passed_over line) (Printed writes now (kept rest) out) (LinePrinted writes now line (λ after m. Printed writes after (kept rest) m) out) e h in
      when_false (passed_over line) (Printed writes now rest out) (LinePrinted writes now line (λ after m. Printed writes after rest m) out) e
      (x.0, x.1, x.2, x.3, x.4, f x.0 x.2 x.5)

  pub printed_kept : (ls : List (List ℕ)) (now : State) (out : List ℕ) → Printed writes now (kept ls) out → Printed writes now ls out
  printed_kept [] now out h = h
  printed_kept (line ∷ rest) now out h = printed_by (passed_over line) line rest now out refl (printed_kept rest) h
