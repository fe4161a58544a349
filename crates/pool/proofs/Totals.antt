-- What the carries of a changeover answer adds up to what a changeover reads. Assumes nothing.
use Rattle.std.proofs.Common.{◌≡◌, ℕ, zero, suc, ◌+◌, ◌*◌, ◌/◌, ◌≤◌, Bool, true, false, cond, not, eqb, leb, List, [], ◌∷◌, ◌++◌, Some, None, Option, sym, refl, ap, ◌∙◌, subst, add-suc, suc-mul, arith, Ok, Err}
use Rattle.std.proofs.lemmas.Nat.{div-mul-add}
use Rattle.std.specs.List.{AllByRecursion}
use Rattle.layout.specs.declared.plan.Plan.{Plan}
use Rattle.layout.specs.declared.refusal.Refusal.{Refusal}
use Rattle.layout.specs.Counts.{outside_of, data_read, parities_read}
use Rattle.layout.specs.Promises.{counted, outside_home}
use Rattle.layout.proofs.Facts.{outside_is}
use Rattle.layout.proofs.OfPlan as plan
use Rattle.field.specs.Arithmetic.{Arithmetic}
use Rattle.coding.specs.Schemes.{Scheme, scheme_of}
use Rattle.coding.specs.Groups.{count}
use Rattle.coding.proofs.Counting.{count_same}
use Rattle.coding.proofs.Sums as sums
use Rattle.coding.proofs.Sums.{numbers}
use Rattle.pool.specs.declared.kinds.Phase.{Phase}
use Rattle.pool.specs.declared.kinds.Phase.TheVariants.{Before, UnderWay, Voided, After}
use Rattle.pool.specs.declared.kinds.Call.{Call}
use Rattle.pool.specs.declared.kinds.Call.TheVariants.{Read, Write, Pull, Refit, Begin, Carry, Ready, Close, Drop}
use Rattle.pool.specs.Replies.{Answer}
use Rattle.pool.specs.declared.kinds.Reply.TheVariants.{Symbol, Carried, Done}
use Rattle.pool.specs.Book.{Book, pulled_phase, carried_data, carried_parities, granted, noted, answer_by, note_by, book_refusal, answer, after}
use Rattle.pool.specs.Standing.{Standing}
use Rattle.pool.specs.Law.{Runs, Entry, entry, history, data_told, parities_told, summed, StaysOpen, AddsUp}
use Rattle.pool.proofs.Steps.{begin_fits, carry_fits, close_fits}

-- f 0 + f 1 + .. + f (n - 1)
abbrev sum_to : (ℕ → ℕ) → ℕ → ℕ
sum_to f n = sums.sum numbers n f

-- a count in two parts, and stripe by stripe
count_plus : (f : ℕ → Bool) (n m : ℕ) → count f (n + m) ≡ count f n + count (λ e. f (n + e)) m
count_plus f n zero = let e : n + 0 ≡ n = omega arith in ap (count f) e ∙ omega arith
count_plus f n (suc m) =
    let e : n + suc m ≡ suc (n + m) = add-suc n m in
    ap (count f) e ∙ omega (arith, count_plus f n m)

count_stripes : (f : ℕ → Bool) (d s : ℕ) → count f (s * d) ≡ sum_to (λ i. count (λ e. f (i * d + e)) d) s
count_stripes f d zero = let e : 0 * d ≡ 0 = omega arith in ap (count f) e
count_stripes f d (suc s) =
    let e : suc s * d ≡ s * d + d = omega (arith, suc-mul s d) in
    ap (count f) e ∙ count_plus f (s * d) d ∙ ap (λ n. n + count (λ e. f (s * d + e)) d) (count_stripes f d s)

-- two ways to count
counted_is : (f : ℕ → Bool) (n : ℕ) → counted f n ≡ count f n
unfolding counted
counted_is f zero = refl
counted_is f (suc n) = omega (arith, counted_is f n)

-- a sum of equal terms
sum_constant : (x n : ℕ) → sum_to (λ i. x) n ≡ x * n
sum_constant x zero = omega arith
sum_constant x (suc n) = omega (arith, sum_constant x n)

-- how an answer is counted: a carry of stripe i as f i, any other as nothing
record Counts (p : Scheme) (told : Answer → ℕ) (f : ℕ → ℕ) : Type 0 where
  at_symbol : (v : ℕ) → told (Ok (Symbol v)) ≡ 0
  at_done : told (Ok Done) ≡ 0
  at_refused : (e : Refusal) → told (Err e) ≡ 0
  at_carried : (i : ℕ) → told (Ok (Carried (carried_data p i) (carried_parities p))) ≡ f i

-- a changeover is under way in the book, or voided
abbrev Way : Scheme → Phase → ℕ → Type 0
Way p Before n = ⊥
Way p UnderWay n = n ≤ p.stripes
Way p Voided n = Unit {0}
Way p After n = ⊥

-- a pull voids it
way_pulled : (p : Scheme) (ph : Phase) (n : ℕ) → Way p ph n → Way p (pulled_phase ph) n
way_pulled p Before n h = h
way_pulled p UnderWay n h = tt
way_pulled p Voided n h = h
way_pulled p After n h = h

module _ (p : Scheme) (q : ℕ) where
  -- the entries are what the book answers
  abbrev Logged : Book → List Entry → Type 0
  Logged b [] = Unit {0}
  Logged b (e ∷ es) = (e.told ≡ answer p q b e.call) × Logged (after p q b e.call) es

  -- the book after some entries
  abbrev past : Book → List Entry → Book
  past b [] = b
  past b (e ∷ es) = past (after p q b e.call) es

  -- what is logged in two parts
  later : (b : Book) (es fs : List Entry) → Logged b (es ++ fs) → Logged (past b es) fs
  later b [] fs l = l
  later b (e ∷ es) fs l = later (after p q b e.call) es fs l.1

  sooner : (b : Book) (es fs : List Entry) → Logged b (es ++ fs) → Logged b es
  sooner b [] fs l = tt
  sooner b (e ∷ es) fs l = (l.0, sooner (after p q b e.call) es fs l.1)

  module _ (told : Answer → ℕ) (f : ℕ → ℕ) (counts : Counts p told f) where
    -- one entry of a changeover keeps it under way or voids it, and adds what the book counts
    abbrev Adds : Book → Answer → Book → Type 0
    Adds b a d = Way p d.phase d.carried × (sum_to f d.carried ≡ sum_to f b.carried + told a)

    -- an entry that was accepted
    accepted : (b : Book) (c : Call) → book_refusal p q b c ≡ None → Way p b.phase b.carried → StaysOpen (entry c (granted p b c)) → Adds b (granted p b c) (noted b c)
    accepted b (Read c o) e way on = (way, omega (arith, counts.at_symbol (b.image c o)))
    accepted b (Write c o v) e way on = (way, omega (arith, counts.at_done))
    accepted b (Pull m) e way on = (way_pulled p b.phase b.carried way, omega (arith, counts.at_done))
    accepted b (Refit m) e way on = (way, omega (arith, counts.at_done))
    accepted b Begin e way on =
        absurd (subst (λ (ph : Phase). Way p ph b.carried) (begin_fits p q b.phase b.carried b.out e).0 way)
    accepted b Carry e way on =
        let fits = carry_fits p q b.phase b.carried b.out e in
        (subst (λ (ph : Phase). Way p ph (suc b.carried)) (sym fits.0) (omega (arith, fits.1)), omega (arith, counts.at_carried b.carried))
    accepted b Ready e way on = (way, omega (arith, counts.at_done))
    accepted b Close e way on = absurd (on.0 refl)
    accepted b Drop e way on = absurd (on.1 refl)

    -- an entry
    one : (b : Book) (c : Call) (r : Option Refusal) → book_refusal p q b c ≡ r → Way p b.phase b.carried → StaysOpen (entry c (answer_by r (granted p b c))) →
        Adds b (answer_by r (granted p b c)) (note_by r (noted b c) b)
    one b c None e way on = accepted b c e way on
    one b c (Some x) e way on = (way, omega (arith, counts.at_refused x))

    -- a list of entries
    several : (b : Book) (es : List Entry) → Way p b.phase b.carried → Logged b es → AllByRecursion StaysOpen es →
        Way p (past b es).phase (past b es).carried × (sum_to f (past b es).carried ≡ sum_to f b.carried + summed told es)
    several b [] way log on = (way, omega arith)
    several b (e ∷ es) way log on =
        let c = e.call in
        let on1 = subst (λ (a : Answer). StaysOpen (entry c a)) log.0 on.0 in
        let first = one b c (book_refusal p q b c) refl way on1 in
        let more = several (after p q b c) es first.0 log.1 on.1 in
        (more.0, omega (arith, more.1, first.1, ap told log.0))

    -- a begin that was accepted starts from nothing
    begins : (b : Book) (r : Option Refusal) → (Ok Done) ≡ answer_by r (granted p b Begin) → note_by r (noted b Begin) b ≡ noted b Begin
    begins b None h = refl
    begins b (Some e) h = absurd (let z : ◌≡◌ {A = ℕ} 0 1 = cc in omega arith)

    -- and a close that was accepted ends with every stripe
    closes : (b : Book) (r : Option Refusal) → book_refusal p q b Close ≡ r → (Ok Done) ≡ answer_by r (granted p b Close) → Way p b.phase b.carried → b.carried ≡ p.stripes
    closes b None e h way =
        let fits = close_fits p q b.phase b.carried b.out e in
        let most : b.carried ≤ p.stripes = subst (λ (ph : Phase). Way p ph b.carried) fits.0 way in
        omega (arith, fits.1)
    closes b (Some x) e h way = absurd (let z : ◌≡◌ {A = ℕ} 0 1 = cc in omega arith)

    -- between the two, what was told is what all the stripes count
    whole : (b : Book) (h front within rest : List Entry) → Logged b h → h ≡ front ++ entry Begin (Ok Done) ∷ (within ++ entry Close (Ok Done) ∷ rest) → AllByRecursion StaysOpen within →
        summed told within ≡ sum_to f p.stripes
    whole b h front within rest logged is on =
        let log = later b front (entry Begin (Ok Done) ∷ (within ++ entry Close (Ok Done) ∷ rest)) (subst (Logged b) is logged) in
        let b1 : Book = past b front in
        let start : after p q b1 Begin ≡ noted b1 Begin = begins b1 (book_refusal p q b1 Begin) log.0 in
        let b2 : Book = noted b1 Begin in
        let tail = subst (λ (k : Book). Logged k (within ++ entry Close (Ok Done) ∷ rest)) start log.1 in
        let all = several b2 within (omega arith) (sooner b2 within (entry Close (Ok Done) ∷ rest) tail) on in
        let b3 : Book = past b2 within in
        let end : b3.carried ≡ p.stripes = closes b3 (book_refusal p q b3 Close) refl (later b2 within (entry Close (Ok Done) ∷ rest) tail).0 all.0 in
        let sum = all.1 in
        sym (ap (sum_to f) (sym end) ∙ sum ∙ omega arith)

module _ (A : Arithmetic) (p : Scheme) where
  -- a run is logged by its history
  logged : (s : Standing) (b : Book) (cs : List Call) (xs : List Answer) (e : Standing) → Runs A p s b cs xs e → Logged p A.order b (history cs xs)
  logged s b [] [] e r = tt
  logged s b [] (x ∷ xs) e r = absurd r
  logged s b (c ∷ cs) [] e r = absurd r
  logged s b (c ∷ cs) (x ∷ xs) e r = (r.1.says, logged r.0 (after p A.order b c) cs xs e r.2)

  -- over every run, closed changeovers read what their stripes say
  pub adds_up : (s : Standing) (b : Book) (cs : List Call) (xs : List Answer) (e : Standing) → Runs A p s b cs xs e →
      AddsUp (sums.sum numbers p.stripes (carried_data p)) (sums.sum numbers p.stripes (λ i. carried_parities p)) (history cs xs)
  adds_up s b cs xs e r front within rest is on = (
    whole p A.order data_told (carried_data p) (record { at_symbol = λ v. refl; at_done = refl; at_refused = λ e. refl; at_carried = λ i. refl })
        b (history cs xs) front within rest (logged s b cs xs e r) is on,
    whole p A.order parities_told (λ i. carried_parities p) (record { at_symbol = λ v. refl; at_done = refl; at_refused = λ e. refl; at_carried = λ i. refl })
        b (history cs xs) front within rest (logged s b cs xs e r) is on,
  )

module _ (a : Plan) where
  -- the chunks outside the home rows, stripe by stripe
  outside_sum : sums.sum numbers (scheme_of a).stripes (λ i. count (λ e. not (eqb ((scheme_of a).row (i * a.d + e)) ((scheme_of a).home i))) a.d) ≡ outside_of a.d a.d2
  unfolding outside_of outside_home
  outside_sum =
      let p : Scheme = scheme_of a in
      let f : ℕ → Bool = λ j. not (eqb (p.row j) (p.home (j / a.d))) in
      sums.sum_same numbers p.stripes (λ i. count (λ e. not (eqb (p.row (i * a.d + e)) (p.home i))) a.d) (λ i. count (λ e. f (i * a.d + e)) a.d)
      (λ i li.
      count_same (λ e. not (eqb (p.row (i * a.d + e)) (p.home i))) (λ e. f (i * a.d + e)) a.d
      (λ e le. ap (λ s. not (eqb (p.row (i * a.d + e)) (p.home s))) (sym (div-mul-add i a.d e le))))
      ∙ sym (count_stripes f a.d p.stripes) ∙ ap (count f) (plan.promises a).by_stripe ∙ sym (counted_is f p.chunks)
      ∙ outside_is a.d a.d2 (plan.sized a)

  -- the data chunks that all carries read
  data_sum : sums.sum numbers (scheme_of a).stripes (carried_data (scheme_of a)) ≡ data_read a.d a.r a.d2 a.r2
  data_sum = by (leb a.r2 a.r)
    where
      by : (t : Bool) →
          sums.sum numbers (scheme_of a).stripes (λ i. cond t (count (λ e. not (eqb ((scheme_of a).row (i * a.d + e)) ((scheme_of a).home i))) a.d) a.d)
          ≡ cond t (outside_of a.d a.d2) (scheme_of a).chunks
      by true = outside_sum
      by false = sum_constant a.d (scheme_of a).stripes ∙ omega (arith, (plan.promises a).by_stripe)

  -- and the parity chunks
  parity_sum : sums.sum numbers (scheme_of a).stripes (λ i. carried_parities (scheme_of a)) ≡ parities_read a.d a.r a.d2 a.r2
  parity_sum = by (leb a.r2 a.r)
    where
      by : (t : Bool) → sums.sum numbers (scheme_of a).stripes (λ i. cond t a.r2 0) ≡ cond t (a.r2 * (scheme_of a).stripes) 0
      by true = sum_constant a.r2 (scheme_of a).stripes
      by false = sum_constant 0 (scheme_of a).stripes ∙ omega arith

  -- over every run of a plan's pool, a closed changeover reads what the plan's formulas say
  pub plan_adds_up : (A : Arithmetic) (s : Standing) (b : Book) (cs : List Call) (xs : List Answer) (e : Standing) → Runs A (scheme_of a) s b cs xs e →
      AddsUp (data_read a.d a.r a.d2 a.r2) (parities_read a.d a.r a.d2 a.r2) (history cs xs)
  plan_adds_up A s b cs xs e r front within rest is on =
      let both = adds_up A (scheme_of a) s b cs xs e r front within rest is on in
      (both.0 ∙ data_sum, both.1 ∙ parity_sum)
