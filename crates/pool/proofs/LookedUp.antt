-- The symbol of a word, in the rack or rebuilt. Assumes nothing.
use Rattle.std.proofs.Common.{◌≡◌, ℕ, ◌<◌, ◌≤◌, Bool, false, not, ◌&&◌, List, get_or, Some, None, Ok, Err, MatchBool, sym, refl, ap, ◌∙◌, subst, arith}
use Rattle.std.proofs.lemmas.Bool.{and_right, and_from, le-ltb, lt-ltb, cond-true, cond-false}
use Rattle.layout.specs.declared.refusal.Refusal.{Refusal}
use Rattle.field.specs.Arithmetic.{Arithmetic}
use Rattle.coding.specs.declared.group.Kind.{Kind}
use Rattle.coding.specs.Schemes.{Scheme, Sound}
use Rattle.coding.specs.Groups.{parities, index_of}
use Rattle.coding.specs.Words.{missing_pieces, Fixed}
use Rattle.coding.specs.Steps.{flags}
use Rattle.coding.specs.Repairs.{Rebuilt, used_parity}
use Rattle.layout.specs.declared.refusal.Refusal.TheVariants.{BeyondRepair}
use Rattle.pool.specs.declared.words.Found.{Found}
use Rattle.pool.specs.Book.{settled, group_of, modules, beyond}
use Rattle.pool.specs.Standing.{Standing, out_of}
use Rattle.pool.specs.Outs.{Outs}
use Rattle.pool.specs.WordSteps.{Looked}
use Rattle.pool.proofs.OutAlike.{fixed_same, parity_same}
use Rattle.pool.proofs.Refusing.{misses_same}

-- flags that tell the modules out
pub flags_same : (p : Scheme) (s : Standing) (r : List Bool) → Outs p s.held r → (m : ℕ) → m < modules p → flags r m ≡ out_of s m
flags_same p s r outs m l = outs.are m l

module _ (A : Arithmetic) (p : Scheme) (sound : Sound A p) (s : Standing) (c o : ℕ) where
  module _ (r : List Bool) (outs : Outs p s.held r) (f : s.held.fitted (p.column c) ≡ false) where
    rebuilt_here : (a : List ℕ) (w : Found) → missing_pieces p (settled s.phase) (group_of p (settled s.phase) c) (flags r) ≤ parities p (settled s.phase) →
        Rebuilt A p (settled s.phase) (group_of p (settled s.phase) c) (flags r) s.held o a → w.symbol ≡ get_or a (index_of p (settled s.phase) c) 0 →
        ((k : ℕ) → k < 4 → get_or w.parities k None ≡ used_parity p (settled s.phase) (group_of p (settled s.phase) c) (flags r) s.held o k) → Looked A p s c o (Ok w)
    rebuilt_here a w few made symbol-is parities_are =
        let t : Kind = settled s.phase in
        let i : ℕ = group_of p t c in
        let Out : Type 0 = (u : ℕ → ℕ) × Fixed A p t i (out_of s) s.held o u × (w.symbol ≡ u c) in
        let fixed : Fixed A p t i (out_of s) s.held o (λ j. get_or a (index_of p t j) 0) =
        fixed_same A p sound (flags r) (out_of s) (flags_same p s r outs) t i s.held s.held o _ (λ _ _ _ _. refl) made.fixed in
        let word : Out = ((λ j. get_or a (index_of p t j) 0), fixed, symbol-is) in (
          cond-false (out_of s (p.column c) && beyond p t (out_of s) i) (Some (BeyondRepair i)) None
              (and_right (out_of s (p.column c)) (beyond p t (out_of s) i)
              (le-ltb (parities p t) (missing_pieces p t i (out_of s)) (omega (arith, few, misses_same A p sound (flags r) (out_of s) (flags_same p s r outs) t i)))),
          subst (λ (b : Bool). MatchBool b (w.symbol ≡ s.held.symbol (p.column c) (p.row c) o) Out) (sym f) word,
          λ k l.
              parities_are k l ∙ parity_same A p sound (flags r) (out_of s) (flags_same p s r outs) t i s.held o k
              ∙ sym (cond-true (out_of s (p.column c)) (used_parity p t i (out_of s) s.held o k) None (ap not f)),
        )

    -- a chunk that is rebuilt from the pieces that are left of its settled group
    pub rebuilt : (t : Kind) (i : ℕ) (a : List ℕ) (w : Found) → t ≡ settled s.phase → i ≡ group_of p t c → missing_pieces p t i (flags r) ≤ parities p t →
        Rebuilt A p t i (flags r) s.held o a → w.symbol ≡ get_or a (index_of p t c) 0 → ((k : ℕ) → k < 4 → get_or w.parities k None ≡ used_parity p t i (flags r) s.held o k) →
        Looked A p s c o (Ok w)
    rebuilt t i a w te =
        let P : Kind → Type 0 = λ t.
        i ≡ group_of p t c → missing_pieces p t i (flags r) ≤ parities p t → Rebuilt A p t i (flags r) s.held o a → w.symbol ≡ get_or a (index_of p t c) 0 →
        ((k : ℕ) → k < 4 → get_or w.parities k None ≡ used_parity p t i (flags r) s.held o k) → Looked A p s c o (Ok w) in
        subst P (sym te)
        (λ ie few made symbol-is parities_are.
        let Q : ℕ → Type 0 = λ i. missing_pieces p (settled s.phase) i (flags r) ≤ parities p (settled s.phase) in
        let M : ℕ → Type 0 = λ i. Rebuilt A p (settled s.phase) i (flags r) s.held o a in
        let U : ℕ → Type 0 = λ i. (k : ℕ) → k < 4 → get_or w.parities k None ≡ used_parity p (settled s.phase) i (flags r) s.held o k in
        rebuilt_here a w (subst Q ie few) (subst M ie made) symbol-is (subst U ie parities_are))

    beyond_here : (e : Refusal) → parities p (settled s.phase) < missing_pieces p (settled s.phase) (group_of p (settled s.phase) c) (flags r) →
        e ≡ BeyondRepair (group_of p (settled s.phase) c) → Looked A p s c o (Err e)
    beyond_here e many is =
        let t : Kind = settled s.phase in
        let i : ℕ = group_of p t c in
        cond-true (out_of s (p.column c) && beyond p t (out_of s) i) (Some (BeyondRepair i)) None
        (and_from (out_of s (p.column c)) (beyond p t (out_of s) i) (ap not f)
        (lt-ltb (parities p t) (missing_pieces p t i (out_of s)) (omega (arith, many, misses_same A p sound (flags r) (out_of s) (flags_same p s r outs) t i))))
        ∙ ap (λ (q : Refusal). Some q) (sym is)

    -- one whose group misses too much
    pub too_much : (t : Kind) (i : ℕ) (e told : Refusal) → t ≡ settled s.phase → i ≡ group_of p t c → parities p t < missing_pieces p t i (flags r) → told ≡ BeyondRepair i → e ≡ told → Looked A p s c o (Err e)
    too_much t i e told te =
        let P : Kind → Type 0 = λ t. i ≡ group_of p t c → parities p t < missing_pieces p t i (flags r) → told ≡ BeyondRepair i → e ≡ told → Looked A p s c o (Err e) in
        subst P (sym te)
        (λ ie many is same.
        let Q : ℕ → Type 0 = λ i. parities p (settled s.phase) < missing_pieces p (settled s.phase) i (flags r) in
        beyond_here e (subst Q ie many) (same ∙ is ∙ ap BeyondRepair ie))
