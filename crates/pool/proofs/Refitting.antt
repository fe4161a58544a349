-- A refit that passed its checks, and what it left. Assumes nothing.
use Rattle.std.proofs.Common.{◌≡◌, ℕ, ◌<◌, ◌≤◌, Bool, true, false, not, ◌&&◌, leb, List, Some, None, Option, sym, refl, ap, ◌∙◌, subst, arith, Ok}
use Rattle.std.proofs.lemmas.Bool.{le-leb, lt-leb, lt-ltb, cond-true, cond-false, and_from, not_from_true, not_from_false}
use Rattle.layout.specs.declared.refusal.Refusal.{Refusal}
use Rattle.field.specs.Arithmetic.{Arithmetic}
use Rattle.rack.specs.Meaning.{Meaning, fits, flagged, after_fit}
use Rattle.coding.specs.declared.group.Kind.{Kind}
use Rattle.coding.specs.Schemes.{Scheme, Sound}
use Rattle.coding.specs.Groups.{groups}
use Rattle.coding.specs.Steps.{flags}
use Rattle.pool.specs.declared.kinds.Call.TheVariants.{Refit}
use Rattle.pool.specs.declared.kinds.Reply.TheVariants.{Done}
use Rattle.layout.specs.declared.refusal.Refusal.TheVariants.{NoModule, AlreadySo, BeyondRepair}
use Rattle.pool.specs.Book.{modules, settled, holds_piece, beyond, lowest, refuse_if, refuse_at, refusal}
use Rattle.pool.specs.Standing.{Standing, out_of, Kept}
use Rattle.pool.specs.Effects.{Refitted, Does, holding}
use Rattle.pool.specs.Outs.{Outs}
use Rattle.pool.specs.Restored.{Going, Room, GoesThrough}
use Rattle.pool.proofs.Refusing.{refusal_same, lowest_none}
use Rattle.pool.proofs.Steps.{does_granted}
use Rattle.pool.proofs.Going.{going_start, refitted}

-- the groups that are beyond repair and have a piece on module m
abbrev pub lacks : Scheme → ℕ → (ℕ → Bool) → Kind → Option ℕ
lacks p m out t = lowest (λ i. holds_piece p t m i && beyond p t out i) (groups p t)

module _ (A : Arithmetic) (p : Scheme) (sound : Sound A p) (s : Standing) (m : ℕ) where
  -- there is no such module
  pub no_such : modules p ≤ m → refusal p A.order s.phase s.carried (out_of s) (Refit m) ≡ Some (NoModule m)
  no_such h = cond-true (leb (modules p) m) (Some (NoModule m)) _ (le-leb (modules p) m h)

  -- the module is fitted
  pub fitted_still : m < modules p → s.held.fitted m ≡ true → refusal p A.order s.phase s.carried (out_of s) (Refit m) ≡ Some (AlreadySo m)
  fitted_still lm f =
      let rest : Option Refusal = refuse_at (lacks p m (out_of s) (settled s.phase)) BeyondRepair in
      cond-false (leb (modules p) m) _ (refuse_if (not (out_of s m)) (AlreadySo m) rest) (lt-leb (modules p) m lm)
      ∙ cond-true (not (out_of s m)) (Some (AlreadySo m)) rest (ap (λ b. not (not b)) f)

  module _ (lm : m < modules p) (pulled : s.held.fitted m ≡ false) (kind : Kind) (kind_is : kind ≡ settled s.phase) (out : List Bool) (outs : Outs p s.held out) where
    is_out : flags out m ≡ true
    is_out = outs.are m lm ∙ not_from_false (s.held.fitted m) pulled

    -- a refit of a module that is out is refused where one of its groups is beyond repair
    pub refusal_is : refusal p A.order s.phase s.carried (out_of s) (Refit m) ≡ refuse_at (lacks p m (flags out) kind) BeyondRepair
    refusal_is =
        let rest : Option Refusal = refuse_at (lacks p m (flags out) (settled s.phase)) BeyondRepair in
        sym (refusal_same A p sound (flags out) (out_of s) outs.are A.order s.phase s.carried (Refit m))
        ∙ cond-false (leb (modules p) m) _ (refuse_if (not (flags out m)) (AlreadySo m) rest) (lt-leb (modules p) m lm)
        ∙ cond-false (not (flags out m)) _ rest (not_from_true (flags out m) is_out)
        ∙ ap (λ (t : Kind). refuse_at (lacks p m (flags out) t) BeyondRepair) (sym kind_is)

    module _ (kept : Kept A p s) (none : lacks p m (flags out) kind ≡ None) (w w' : Meaning) (fit : w ≡ after_fit s.held m)
        (through : GoesThrough A p kind (flags out) m (groups p kind) w w') where
      room : Room A p (flags out) m s.held
      room =
          record {
            is_out = is_out;
            inside = omega (arith, kept.modules_fit);
            slots_fit = kept.slots_fit;
            length_fits = kept.length_fits;
            order_is = kept.order_is;
          }

      fit_is : w ≡ flagged s.held m true
      fit_is =
          fit
          ∙ cond-true (fits s.held m) (flagged s.held m true) s.held
          (and_from _ _ (lt-ltb m s.held.modules (omega (arith, kept.modules_fit))) (not_from_false (s.held.fitted m) pulled))

      refitted_is : Refitted A p s m w'
      refitted_is =
          refitted A p sound s (flags out) outs.are m w'
          (subst (λ (t : Kind). Going A p t (flags out) m s.held (groups p t) 0 w') kind_is
          (through s.held room (lowest_none _ (groups p kind) none) (going_start A p kind (flags out) m s.held w fit_is)))

      -- the others are granted
      pub refit_does : Does A p s (Refit m) (Ok Done) (holding s w')
      refit_does =
          does_granted A p s (Refit m) (Ok Done) (holding s w') (refusal_is ∙ ap (λ (o : Option ℕ). refuse_at o BeyondRepair) none) (w', refitted_is, refl, refl)
