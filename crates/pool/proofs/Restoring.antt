-- The groups that have a piece on a module. Assumes nothing.
use Rattle.std.proofs.Common.{◌≡◌, ℕ, ◌+◌, ◌-◌, ◌<◌, Bool, true, false, ◌&&◌, ◌||◌, eqb, ltb, leb, ◌≢◌, is_some, Some, None, Option, sym, refl, ap, ◌∙◌, ⊎_elim, arith}
use Rattle.std.proofs.lemmas.Bool.{lt-ltb, le-ltb, le-leb, ltb-true, leb-true, and_left, and_right, or_left, and_from, and_parts, eq-eqb, ne_eqb, cases_Bool}
use Rattle.field.specs.Arithmetic.{Arithmetic}
use Rattle.layout.specs.declared.plan.Plan.{Plan}
use Rattle.coding.specs.declared.group.Kind.{Kind}
use Rattle.coding.specs.declared.group.Group.{Group}
use Rattle.coding.specs.Schemes.{Sound, scheme_of}
use Rattle.coding.specs.Groups.{groups, size, parities, member, chunk_of, index_of, count}
use Rattle.coding.specs.Pieces.{Grouped}
use Rattle.coding.proofs.OfPlan as of-plan
use Rattle.coding.proofs.Counting.{counted, count_none}
use Rattle.coding.proofs.Grouping.{members}
use Rattle.pool.specs.Book.{holds_piece}
use Rattle.pool.specs.Restored.{HasChunk, ParityOn}

-- an arithmetic for what does not depend on it
bare : ℕ → Arithmetic
bare q = record { order = q; add = λ a b. 0; neg = λ a. 0; mul = λ a b. 0; inv = λ a. 0 }

bare_sound : (p : Plan) → Sound (bare p.order) (scheme_of p)
unfolding bare
bare_sound p = of-plan.sound p (bare p.order) refl

-- whether a module has a piece of a group, from whether it has one of the group's chunks
module _ (plan : Plan) (t : Kind) (i : ℕ) (li : i < groups (scheme_of plan) t) (g : Group) (grouped : Grouped (scheme_of plan) t i g) (m : ℕ) where
  on_module : ℕ → Bool
  on_module j = member (scheme_of plan) t i j && eqb ((scheme_of plan).column j) m

  pub piece_chunk : HasChunk g m true → true ≡ holds_piece (scheme_of plan) t m i
  unfolding on_module
  piece_chunk has =
      let p = scheme_of plan in
      let at = has.yes refl in
      let le : at.0 < size p t = omega (arith, grouped.size_is) in
      let list = members (bare plan.order) p (bare_sound plan) t i li in
      let j : ℕ = chunk_of p t i at.0 in
      let col : p.column j ≡ m = sym (grouped.modules_are at.0 le) ∙ at.3 in
      let pass : on_module j ≡ true = and_from (member p t i j) (eqb (p.column j) m) (list.pass at.0 le) (eq-eqb (p.column j) m col) in
      sym
      (or_left (ltb 0 (count on_module p.chunks)) (leb p.d' m && ltb m (p.d' + parities p t))
      (lt-ltb 0 (count on_module p.chunks) (omega (arith, (counted on_module p.chunks).placed j (list.below at.0 le) pass))))

  -- whether one of the group's parities is there
  parity_there : (o : Option ℕ) → ParityOn g m o → is_some o ≡ (leb (scheme_of plan).d' m && ltb m ((scheme_of plan).d' + parities (scheme_of plan) t))
  parity_there None off =
      let p = scheme_of plan in
      ⊎_elim
      (λ (q : (leb p.d' m && ltb m (p.d' + parities p t)) ≡ true).
      let both = and_parts (leb p.d' m) (ltb m (p.d' + parities p t)) q in
      let low = leb-true p.d' m both.0 in
      let high = ltb-true m (p.d' + parities p t) both.1 in
      absurd (off (m - p.d') (omega (arith, of-plan.group_parities_le plan t)) (omega (arith, grouped.parities_is)) (omega (arith, grouped.first_is))))
      (λ (q : (leb p.d' m && ltb m (p.d' + parities p t)) ≡ false). sym q)
      (cases_Bool (leb p.d' m && ltb m (p.d' + parities p t)))
  parity_there (Some k) on =
      let p = scheme_of plan in
      sym
      (and_from (leb p.d' m) (ltb m (p.d' + parities p t)) (le-leb p.d' m (omega (arith, on.2, grouped.first_is)))
      (lt-ltb m (p.d' + parities p t) (omega (arith, on.1, on.2, grouped.first_is, grouped.parities_is))))

  pub piece_parity : (o : Option ℕ) (b : Bool) → HasChunk g m false → ParityOn g m o → b ≡ is_some o → b ≡ holds_piece (scheme_of plan) t m i
  unfolding on_module
  piece_parity o b has there is =
      let p = scheme_of plan in
      let list = members (bare plan.order) p (bare_sound plan) t i li in
      let off : (j : ℕ) → j < p.chunks → on_module j ≡ false =
      λ j lj.
      ⊎_elim
      (λ (mem : member p t i j ≡ true).
      let le = list.placed j lj mem in
      let ne : p.column j ≢ m = λ e.
      has.no refl (index_of p t j) (omega (arith, grouped.short)) (omega (arith, grouped.size_is))
      (grouped.modules_are (index_of p t j) le ∙ ap (λ (n : ℕ). p.column n) (list.back j lj mem) ∙ e) in
      and_right (member p t i j) (eqb (p.column j) m) (ne_eqb (p.column j) m ne))
      (λ (no : member p t i j ≡ false). and_left (member p t i j) (eqb (p.column j) m) no)
      (cases_Bool (member p t i j)) in
      let none : ltb 0 (count on_module p.chunks) ≡ false = le-ltb 0 (count on_module p.chunks) (omega (arith, count_none on_module p.chunks off)) in
      is ∙ parity_there o there ∙ ap (λ x. x || (leb p.d' m && ltb m (p.d' + parities p t))) (sym none)
