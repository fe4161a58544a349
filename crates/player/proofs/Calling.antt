-- Calls that stand in a row, and what is printed for them. Assumes nothing.
use Rattle.std.proofs.Common.{◌≡◌, ℕ, suc, List, [], ◌∷◌, ◌++◌, length, take, codes, Option, sym, refl, ap, ◌∙◌, subst, inl, append-nil, arith, take_all}
use lib.Seq.{take-append-le}
use Rattle.field.specs.Arithmetic.{Arithmetic}
use Rattle.layout.specs.declared.plan.Plan.{Plan}
use Rattle.coding.specs.Schemes.{Scheme, scheme_of}
use Rattle.pool.specs.declared.kinds.Call.{Call}
use Rattle.pool.specs.Replies.{Answer}
use Rattle.pool.specs.Book.{Book, after}
use Rattle.pool.specs.Standing.{Standing}
use Rattle.pool.specs.Law.{Runs, Plays}
use Rattle.script.specs.declared.command.Command.{Command}
use Rattle.script.specs.declared.command.Command.TheVariants.{OnPool}
use Rattle.player.specs.Shows.{answer_text}
use Rattle.player.specs.Answers.{State, state, pooled, Answers}
use Rattle.player.specs.Sessions.{kept, Sofar, Goes}
use Rattle.player.specs.Rows.{CallsIn, row_text}
use Rattle.player.proofs.Printing.{AllKept, all_kept, answered, line_joined}

-- what follows the book does what its rule says
pub runs_play : (A : Arithmetic) (p : Scheme) (s : Standing) (b : Book) (cs : List Call) (xs : List Answer) (e : Standing) → Runs A p s b cs xs e → Plays A p s cs xs e
runs_play A p s b [] [] e h = h
runs_play A p s b [] (x ∷ xs) e h = absurd h
runs_play A p s b (c ∷ cs) [] e h = absurd h
runs_play A p s b (c ∷ cs) (x ∷ xs) e h = (h.0, h.1.does, runs_play A p h.0 (after p A.order b c) cs xs e h.2)

-- a list as far as it goes
pub whole : {A : Type 0} (n : ℕ) (xs : List A) → length xs ≡ n → take n xs ≡ xs
whole n xs e = take_all n xs (omega (arith, e))

pub front_is : {A : Type 0} (n : ℕ) (xs ys : List A) → length xs ≡ n → take n (xs ++ ys) ≡ xs
front_is n xs ys e = take-append-le n xs ys (omega (arith, e)) ∙ whole n xs e

pub plays_whole : (A : Arithmetic) (p : Scheme) (s e : Standing) (n m : ℕ) (cs : List Call) (told : List Answer) → length cs ≡ n → length told ≡ m → Plays A p s (take n cs) (take m told) e → Plays A p s cs told e
plays_whole A p s e n m cs told a b h = subst (λ xs. Plays A p s cs xs e) (whole m told b) (subst (λ xs. Plays A p s xs (take m told) e) (whole n cs a) h)

-- by which lines write which commands
module _ (writes : List ℕ → Command → Type 0) where
  -- one line more at the end
  pub calls_more : (line : List ℕ) (c : Call) (part : List (List ℕ)) (cs : List Call) → writes line (OnPool c) → CallsIn writes part cs → CallsIn writes (part ++ line ∷ []) (cs ++ c ∷ [])
  calls_more line c [] [] w h = (w, tt)
  calls_more line c [] (x ∷ cs) w h = absurd h
  calls_more line c (l ∷ part) [] w h = absurd h
  calls_more line c (l ∷ part) (x ∷ cs) w h = (h.0, calls_more line c part cs w h.1)

  -- as many lines as calls, and as answers
  pub calls_many : (part : List (List ℕ)) (cs : List Call) → CallsIn writes part cs → length part ≡ length cs
  calls_many [] [] h = refl
  calls_many [] (c ∷ cs) h = absurd h
  calls_many (l ∷ part) [] h = absurd h
  calls_many (l ∷ part) (c ∷ cs) h = ap suc (calls_many part cs h.1)

  -- the lines of a row are printed with the answers of their calls
  module _ (A : Arithmetic) (p : Plan) (plan : Option Plan) (b : State) (all rest : List (List ℕ)) where
    pub row_printed : (part : List (List ℕ)) (cs : List Call) (told : List Answer) (s e : Standing) (out : List ℕ) → AllKept (part ++ rest) → CallsIn writes part cs → Plays A (scheme_of p) s cs told e →
        Sofar writes b all (state plan (pooled A p s)) (part ++ rest) out → Sofar writes b all (state plan (pooled A p e)) rest (out ++ row_text part told)
    row_printed [] [] [] s e out keeps calls plays sofar =
        subst (λ o. Sofar writes b all (state plan (pooled A p e)) rest o) (sym (append-nil out)) (subst (λ x. Sofar writes b all (state plan (pooled A p x)) rest out) plays sofar)
    row_printed [] [] (x ∷ xs) s e out keeps calls plays sofar = absurd plays
    row_printed [] (c ∷ cs) told s e out keeps calls plays sofar = absurd calls
    row_printed (line ∷ part) [] told s e out keeps calls plays sofar = absurd calls
    row_printed (line ∷ part) (c ∷ cs) [] s e out keeps calls plays sofar = absurd plays
    row_printed (line ∷ part) (c ∷ cs) (a ∷ told) s e out keeps calls plays sofar =
        let t = plays.0 in
        let next = line ++ (codes ": " ++ (answer_text a ++ 10 ∷ [])) in
        let answers : Answers writes (state plan (pooled A p s)) line (state plan (pooled A p t)) (answer_text a) = inl (OnPool c, calls.0, (a, t, plays.1, refl, refl)) in
        let stepped = answered writes b (state plan (pooled A p s)) (state plan (pooled A p t)) all (line ∷ part ++ rest) (part ++ rest) line (answer_text a) out (out ++ next) sofar refl keeps.0 answers refl in
        subst (λ o. Sofar writes b all (state plan (pooled A p e)) rest o) (line_joined out line (answer_text a) (row_text part told))
        (row_printed part cs told t e (out ++ next) keeps.1 calls.1 plays.2 stepped)

  -- the calls of a row are played
  pub row_goes : (A : Arithmetic) (p : Plan) (plan : Option Plan) (ls left part rest : List (List ℕ)) (calls : List Call) (told : List Answer) (s e : Standing) (out after : List ℕ) →
      kept ls ≡ part ++ rest → CallsIn writes part calls → Plays A (scheme_of p) s calls told e → (left ≡ rest) × (after ≡ out ++ row_text part told) →
      Goes writes (state plan (pooled A p s)) (kept ls) out (state plan (pooled A p e)) left after
  row_goes A p plan ls left part rest calls told s e out after are written plays print b all sofar =
      subst (λ o. Sofar writes b all (state plan (pooled A p e)) left o) (sym print.1)
      (subst (λ l. Sofar writes b all (state plan (pooled A p e)) l (out ++ row_text part told)) (sym print.0)
      (row_printed A p plan b all rest part calls told s e out (subst AllKept are (all_kept ls)) written plays (subst (λ l. Sofar writes b all (state plan (pooled A p s)) l out) are sofar)))

-- as many answers as calls
pub told_many : (A : Arithmetic) (p : Scheme) (s e : Standing) (cs : List Call) (xs : List Answer) → Plays A p s cs xs e → length xs ≡ length cs
told_many A p s e [] [] h = refl
told_many A p s e [] (x ∷ xs) h = absurd h
told_many A p s e (c ∷ cs) [] h = absurd h
told_many A p s e (c ∷ cs) (x ∷ xs) h = ap suc (told_many A p h.0 e cs xs h.2)

-- one line less to print
pub record Next (line : List ℕ) (more todo rest : List (List ℕ)) (n : ℕ) : Type 0 where
  pub tail : List (List ℕ)
  pub is : todo ≡ line ∷ tail
  pub fewer : length tail ≡ n
  pub lines_are : more ≡ tail ++ rest

pub line_less : (line : List ℕ) (more todo rest : List (List ℕ)) (n : ℕ) → length todo ≡ suc n → line ∷ more ≡ todo ++ rest → Next line more todo rest n
line_less line more [] rest n e h = absurd (omega (arith, e))
line_less line more (l ∷ todo) rest n e h = record {
  tail = todo;
  is = let q : line ≡ l = cc in ap (λ x. x ∷ todo) (sym q);
  fewer = omega (arith, e);
  lines_are = cc;
}

pub none_left : (todo rest : List (List ℕ)) → todo ++ rest ≡ [] → length todo ≡ 0
none_left [] rest e = refl
none_left (l ∷ todo) rest e = absurd (let z : ◌≡◌ {A = ℕ} 0 1 = cc in omega arith)

pub empty : {A : Type 0} (xs : List A) → length xs ≡ 0 → xs ≡ []
empty [] e = refl
empty (x ∷ xs) e = absurd (omega (arith, e))
