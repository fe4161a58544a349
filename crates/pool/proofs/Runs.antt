-- What one call more makes of a run, and what a run answers. Assumes nothing.
use Rattle.std.proofs.Common.{◌≡◌, List, [], ◌∷◌, ◌++◌, sym, refl, ap, ◌∙◌, subst}
use Rattle.field.specs.Arithmetic.{Arithmetic, Lawful}
use Rattle.coding.specs.Schemes.{Scheme, Sound}
use Rattle.pool.specs.declared.kinds.Call.{Call}
use Rattle.pool.specs.Replies.{Answer}
use Rattle.pool.specs.Book.{Book, answer, after}
use Rattle.pool.specs.Standing.{Standing, Kept}
use Rattle.pool.specs.Agrees.{Agrees}
use Rattle.pool.specs.Effects.{Does}
use Rattle.pool.specs.Law.{Follows, Runs, Plays, book_after, book_answers}
use Rattle.pool.proofs.Steps.{step}

module _ (A : Arithmetic) (p : Scheme) where
  -- no calls
  pub runs_none : (s : Standing) (b : Book) → Runs A p s b [] [] s
  runs_none s b = refl

  -- a call that follows the book as it stands after a run
  pub runs_push : (s : Standing) (b : Book) (cs : List Call) (xs : List Answer) (t : Standing) (c : Call) (a : Answer) (u : Standing) →
      Runs A p s b cs xs t → Follows A p t (book_after p A.order b cs) c a u → Runs A p s b (cs ++ c ∷ []) (xs ++ a ∷ []) u
  runs_push s b [] [] t c a u r f = (u, subst (λ (x : Standing). Follows A p x b c a u) (sym r) f, refl)
  runs_push s b [] (x ∷ xs) t c a u r f = absurd r
  runs_push s b (x ∷ cs) [] t c a u r f = absurd r
  runs_push s b (x ∷ cs) (y ∷ xs) t c a u r f = (r.0, r.1, runs_push r.0 (after p A.order b x) cs xs t c a u r.2 f)

  -- the same of any pool
  pub plays_push : (s : Standing) (cs : List Call) (xs : List Answer) (t : Standing) (c : Call) (a : Answer) (u : Standing) →
      Plays A p s cs xs t → Does A p t c a u → Plays A p s (cs ++ c ∷ []) (xs ++ a ∷ []) u
  plays_push s [] [] t c a u r f = (u, subst (λ (x : Standing). Does A p x c a u) (sym r) f, refl)
  plays_push s [] (x ∷ xs) t c a u r f = absurd r
  plays_push s (x ∷ cs) [] t c a u r f = absurd r
  plays_push s (x ∷ cs) (y ∷ xs) t c a u r f = (r.0, r.1, plays_push r.0 cs xs t c a u r.2 f)

  -- the answers of a run are the book's
  pub runs_answers : (s : Standing) (b : Book) (cs : List Call) (xs : List Answer) (e : Standing) → Runs A p s b cs xs e → xs ≡ book_answers p A.order b cs
  runs_answers s b [] [] e r = refl
  runs_answers s b [] (x ∷ xs) e r = absurd r
  runs_answers s b (c ∷ cs) [] e r = absurd r
  runs_answers s b (c ∷ cs) (x ∷ xs) e r =
      ap (λ (y : Answer). y ∷ xs) r.1.says ∙ ap (λ l. answer p A.order b c ∷ l) (runs_answers r.0 (after p A.order b c) cs xs e r.2)

  -- and at its end the pool agrees with the book
  pub runs_agree : (s : Standing) (b : Book) (cs : List Call) (xs : List Answer) (e : Standing) → Agrees A p s b → Runs A p s b cs xs e → Agrees A p e (book_after p A.order b cs)
  runs_agree s b [] [] e h r = subst (λ (x : Standing). Agrees A p x b) r h
  runs_agree s b [] (x ∷ xs) e h r = absurd r
  runs_agree s b (c ∷ cs) [] e h r = absurd r
  runs_agree s b (c ∷ cs) (x ∷ xs) e h r = runs_agree r.0 (after p A.order b c) cs xs e r.1.agrees r.2

-- a call more of a pool that agreed with the book at the start
pub runs_step : (A : Arithmetic) → Lawful A → (p : Scheme) → Sound A p → (s : Standing) (b : Book) (cs : List Call) (xs : List Answer) (t : Standing) (c : Call) (a : Answer) (u : Standing) →
    Agrees A p s b → Runs A p s b cs xs t → Kept A p t → Does A p t c a u → Runs A p s b (cs ++ c ∷ []) (xs ++ a ∷ []) u
runs_step A L p sound s b cs xs t c a u agrees r kept does =
    runs_push A p s b cs xs t c a u r
    (step A L p sound t (book_after p A.order b cs) c a u kept (runs_agree A p s b cs xs t agrees r) does)
