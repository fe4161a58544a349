-- A script, part by part. Assumes nothing.
use Rattle.std.proofs.Common.{◌≡◌, ℕ, ◌+◌, ◌*◌, ◌<◌, ◌≤◌, true, false, List, [], ◌∷◌, ◌++◌, length, is_some, IfNone, IfOk, MatchOption, Some, None, Ok, Err, codes, Option, Result, sym, refl, ap, ◌∙◌, subst, inl, inr, append-nil, arith}
use Rattle.std.specs.declared.alloc.AllocError.{AllocError}
use Rattle.field.specs.Arithmetic.{Arithmetic}
use Rattle.layout.specs.declared.plan.Plan.{Plan}
use Rattle.rack.specs.Meaning.{Meaning}
use Rattle.pool.specs.Standing.{Standing}
use Rattle.script.specs.declared.command.Command.{Command}
use Rattle.script.specs.Script.{Understood}
use Rattle.player.specs.declared.request.RackRequest.{RackRequest}
use Rattle.player.specs.declared.request.Request.{Request}
use Rattle.player.specs.declared.request.Request.TheVariants as request
use Rattle.player.specs.Answers.{Memory, nothing, bare, pooled, rack_in, State, state, Replies, Answers}
use Rattle.player.specs.Holding.{memory_by, started_on}
use Rattle.player.specs.Transcripts.{passed_over, Printed}
use Rattle.player.specs.Transcripts.{lines}
use Rattle.player.specs.Sessions.{kept, Sofar, Goes, lines_left, Plays, Ends, next_memory, Makeable}
use Rattle.player.specs.Rows.{row_text, CallsIn}
use Rattle.player.specs.declared.session.Session.{Session}
use Rattle.coding.specs.Schemes.{scheme_of}
use Rattle.pool.specs.declared.kinds.Call.{Call}
use Rattle.pool.specs.Replies.{Answer}
use Rattle.pool.specs.Law as law
use Rattle.player.proofs.Printing.{answered, kept_head, printed_kept}
use Rattle.player.proofs.Calling.{calls_many, told_many, row_goes}

module _ (writes : List ℕ → Command → Type 0) where
  -- what is read of a line is what it writes
  pub replied : (line : List ℕ) (command : Option Command) (b e : State) (text : List ℕ) → Understood writes line command → Replies b command e text → Answers writes b line e text
  replied line (Some c) b e text read h = inl (c, read, h)
  replied line None b e text read h = inr (read, h)

  module _ (x : State) (left0 : List (List ℕ)) (out0 : List ℕ) where
    -- a line with its answer
    pub goes_answer : (y z : State) (left rest : List (List ℕ)) (line text out after : List ℕ) → Goes writes x left0 out0 y left out → left ≡ line ∷ rest → passed_over line ≡ false →
        Answers writes y line z text → after ≡ out ++ (line ++ (codes ": " ++ (text ++ 10 ∷ []))) → Goes writes x left0 out0 z rest after
    goes_answer y z left rest line text out after goes e pass answers is b all sofar = answered writes b y z all left rest line text out after (goes b all sofar) e pass answers is

    pub goes_then : (y z : State) (left left2 : List (List ℕ)) (out out2 : List ℕ) → Goes writes x left0 out0 y left out → Goes writes y left out z left2 out2 → Goes writes x left0 out0 z left2 out2
    goes_then y z left left2 out out2 f g b all sofar = g b all (f b all sofar)

-- a line that asks for nothing keeps what is there
pub same_memory : (r : Option Request) (m : Memory) → is_some r ≡ false → memory_by r m ≡ m
same_memory (Some q) m e = absurd (let z : ◌≡◌ {A = ℕ} 0 1 = cc in omega arith)
same_memory None m e = refl

-- the memory after a request is known by the rack alone
pub by_rack : (r : Option Request) (m m' : Memory) → is_some r ≡ true → rack_in m ≡ rack_in m' → memory_by r m ≡ memory_by r m'
by_rack (Some (request.Rack q)) m m' e h = refl
by_rack (Some (request.Pool s)) m m' e h = ap (started_on s) h
by_rack None m m' e h = absurd (let z : ◌≡◌ {A = ℕ} 0 1 = cc in omega arith)

pub same_pool : (A B : Arithmetic) (p q : Plan) (s : Standing) → A ≡ B → p ≡ q → pooled A p s ≡ pooled B q s
same_pool A B p q s e f = ap (λ X. pooled X p s) e ∙ ap (λ y. pooled B y s) f

-- where a part asks for something
pub ends_some : {L A : Type 0} (r : Option A) (b e : Session L) → is_some r ≡ true → length e.left.now < length b.left.now → Ends r b e
ends_some (Some q) b e is less = record { falls = omega (arith, less); how = less }
ends_some None b e is less = absurd (let z : ◌≡◌ {A = ℕ} 0 1 = cc in omega arith)

-- where the part ends that another part comes before
pub ends_then : {L A : Type 0} (r : Option A) (b s e : Session L) → length s.left.now ≤ length b.left.now → Ends r s e → Ends r b e
ends_then (Some q) b s e less h = record { falls = omega (arith, less, h.falls); how = omega (arith, less, h.how) }
ends_then None b s e less h = record { falls = omega (arith, less, h.falls); how = h.how }

module _ {L : Type 0} (writes : List ℕ → Command → Type 0) (b : Session L) (m0 : Memory) where
  pub plays_then : (s e : Session L) (m m' : Memory) → Plays writes b m0 s m → Plays writes s m e m' → Plays writes b m0 e m'
  plays_then s e m m' f g = goes_then writes (state b.plan m0) (lines_left b) b.out.items (state s.plan m) (state e.plan m') (lines_left s) (lines_left e) s.out.items e.out.items f g

  pub plays_same : (e : Session L) (m m' : Memory) → m ≡ m' → Plays writes b m0 e m → Plays writes b m0 e m'
  plays_same e m m' same f = subst (λ x. Plays writes b m0 e x) same f

  -- one line more
  pub line_played : (s e : Session L) (m m' : Memory) (line rest text : List ℕ) (command : Option Command) (after : Option Plan) → Plays writes b m0 s m → lines_left s ≡ line ∷ kept (lines rest) → Understood writes line command →
      Replies (state s.plan m) command (state after m') text → e.plan ≡ after → e.left.now ≡ rest → e.out.items ≡ s.out.items ++ (line ++ (codes ": " ++ (text ++ 10 ∷ []))) → Plays writes b m0 e m'
  line_played s e m m' line rest text command after f next read says plan left out =
      subst (λ l. Goes writes (state b.plan m0) (lines_left b) b.out.items (state e.plan m') (kept (lines l)) e.out.items) (sym left)
      (goes_answer writes (state b.plan m0) (lines_left b) b.out.items (state s.plan m) (state e.plan m') (lines_left s) (kept (lines rest)) line text s.out.items e.out.items f next
      (kept_head (lines s.left.now) line (kept (lines rest)) next)
      (replied writes line command (state s.plan m) (state e.plan m') text read (subst (λ p. Replies (state s.plan m) command (state p m') text) (sym plan) says)) out)

-- the calls of a row are played, and the lines after it are left
pub row_played : {L : Type 0} (writes : List ℕ → Command → Type 0) (A : Arithmetic) (p : Plan) (b e : Session L) (part rest : List (List ℕ)) (calls : List Call) (told : List Answer) (s t : Standing) →
    lines_left b ≡ part ++ rest → CallsIn writes part calls → law.Plays A (scheme_of p) s calls told t →
    ((part rest : List (List ℕ)) → length part ≡ length told → lines_left b ≡ part ++ rest → (lines_left e ≡ rest) × (e.out.items ≡ b.out.items ++ row_text part told)) → e.plan ≡ b.plan →
    Plays writes b (pooled A p s) e (pooled A p t) × (lines_left e ≡ rest)
row_played writes A p b e part rest calls told s t are written plays print plan =
    let y = print part rest (calls_many writes part calls written ∙ sym (told_many A (scheme_of p) s t calls told plays)) are in (
      subst (λ q. Goes writes (state b.plan (pooled A p s)) (lines_left b) b.out.items (state q (pooled A p t)) (lines_left e) e.out.items) (sym plan)
          (row_goes writes A p b.plan (lines b.left.now) (lines_left e) part rest calls told s t b.out.items e.out.items are written plays y),
      y.0,
    )

-- a part that comes after another, by what it gives: what is asked for, and the memory that it leaves
pub then_ok : {L A B E : Type 0} (writes : List ℕ → Command → Type 0) (r : Result A E) (asked : A → Option B) (memory : A → Memory) (P : A → Type 0) (b s e : Session L) (m0 m : Memory) → length s.left.now ≤ length b.left.now →
    Plays writes b m0 s m → IfOk r (λ x. P x × Ends (asked x) s e × Plays writes s m e (memory x)) → IfOk r (λ x. P x × Ends (asked x) b e × Plays writes b m0 e (memory x))
then_ok writes (Ok x) asked memory P b s e m0 m less f h = (h.0, ends_then (asked x) b s e less h.1, plays_then writes b m0 s e m (memory x) f h.2)
then_ok writes (Err x) asked memory P b s e m0 m less f h = tt

pub if_none : {A : Type 0} (r : Option A) (P Q : Type 0) → MatchOption r P (λ _. Q) → IfNone r P
if_none None P Q h = h
if_none (Some x) P Q h = tt

-- what is played on a rack is played on the rack of the same meaning
pub on_blank : {L : Type 0} (writes : List ℕ → Command → Type 0) (r : Result (Option RackRequest) AllocError) (b e : Session L) (w blank : Meaning) → w ≡ blank →
    IfOk r (λ asked. Makeable asked × Ends asked b e × Plays writes b (bare w) e (next_memory asked)) → IfOk r (λ asked. Makeable asked × Ends asked b e × Plays writes b (bare blank) e (next_memory asked))
on_blank writes r b e w blank same h = subst (λ v. IfOk r (λ asked. Makeable asked × Ends asked b e × Plays writes b (bare v) e (next_memory asked))) same h

-- a session from its beginning
pub begun : {L : Type 0} (writes : List ℕ → Command → Type 0) (b e : Session L) (script : List ℕ) (m m' : Memory) → b.out.items ≡ [] → b.plan ≡ None → b.left.now ≡ script → m ≡ nothing → Plays writes b m e m' →
    Sofar writes (state None nothing) (kept (lines script)) (state e.plan m') (lines_left e) e.out.items
begun writes b e script m m' out plan left none f =
    f (state None nothing) (kept (lines script))
    (subst (λ o. Sofar writes (state None nothing) (kept (lines script)) (state b.plan m) (lines_left b) o) (sym out)
    (subst (λ p. Sofar writes (state None nothing) (kept (lines script)) (state p m) (lines_left b) []) (sym plan)
    (subst (λ l. Sofar writes (state None nothing) (kept (lines script)) (state None m) (kept (lines l)) []) (sym left)
    (subst (λ x. Sofar writes (state None nothing) (kept (lines script)) (state None x) (kept (lines script)) []) (sym none) (λ more h. h)))))

-- a session to its end
pub ended : {L : Type 0} (writes : List ℕ → Command → Type 0) (e : Session L) (script : List ℕ) (now : State) → lines_left e ≡ [] → Sofar writes (state None nothing) (kept (lines script)) now (lines_left e) e.out.items →
    Printed writes (state None nothing) (lines script) e.out.items
ended writes e script now none sofar =
    printed_kept writes (lines script) (state None nothing) e.out.items
    (subst (Printed writes (state None nothing) (kept (lines script))) (append-nil e.out.items) (sofar [] (subst (λ l. Printed writes now l []) (sym none) refl)))

-- each part but the last asks for something, and takes a line
abbrev pub asks : {A : Type 0} → Option A → ℕ
asks None = 0
asks (Some q) = 1

falls_by : {L B : Type 0} (new : Option B) (b e : Session L) → Ends new b e → 2 * length e.left.now + asks new < 2 * length b.left.now + 1
falls_by (Some x) b e h = omega (arith, h.how)
falls_by None b e h = omega (arith, h.falls)

pub falls : {L A B : Type 0} (old : Option A) (new : Option B) (b e : Session L) {q : A} → old ≡ Some q → Ends new b e → 2 * length e.left.now + asks new < 2 * length b.left.now + asks old
falls old new b e {q = q} is h = subst (λ o. 2 * length e.left.now + asks new < 2 * length b.left.now + asks o) (sym is) (falls_by new b e h)
