-- What is read from a pool that agrees with a book is what the book says. Assumes nothing.
use Rattle.std.proofs.Common.{◌≡◌, ℕ, ◌+◌, ◌<◌, ◌≤◌, Bool, true, false, not, ◌&&◌, ltb, sym, refl, ◌∙◌, arith}
use Rattle.std.proofs.lemmas.Bool.{and_parts, not-true, not-false, not_from_false, ltb-false}
use Rattle.std.proofs.lemmas.Bool.Decides.{when_true, when_false}
use Rattle.field.specs.Arithmetic.{Arithmetic, Lawful}
use Rattle.coding.specs.declared.group.Kind.{Kind}
use Rattle.coding.specs.Schemes.{Scheme, Sound}
use Rattle.coding.specs.Groups.{groups, parities, member, count}
use Rattle.coding.specs.Words.{missing_chunks, missing_pieces, Fixed}
use Rattle.coding.proofs.Parities.{same_group}
use Rattle.coding.proofs.Rebuilding.{one_word}
use Rattle.pool.specs.Book.{Book, settled, group_of, beyond}
use Rattle.pool.specs.Standing.{Standing, out_of}
use Rattle.pool.specs.Agrees.{covers, Agrees}
use Rattle.pool.specs.Effects.{Holds}
use Rattle.pool.proofs.Places.{settled_force, settled_covers, member_own, group_below}

-- a group that is not beyond repair misses no more than it has parities
pub repairable : (p : Scheme) (t : Kind) (out : ℕ → Bool) (i : ℕ) → beyond p t out i ≡ false → missing_pieces p t i out ≤ parities p t
repairable p t out i e = ltb-false (parities p t) (missing_pieces p t i out) e

-- of two tests that do not both hold, the first holds
pub second : (x y : Bool) → (x && y) ≡ false → x ≡ true → y ≡ false
second true y h e = h
second false y h e = absurd (let z : ◌≡◌ {A = ℕ} 0 1 = cc in omega arith)

module _ (A : Arithmetic) (L : Lawful A) (p : Scheme) (sound : Sound A p) (s : Standing) (b : Book) (agrees : Agrees A p s b) where
  -- the image is a word of each settled group's code, and the rack has its first pieces
  pub image_fixed : (i o : ℕ) → i < groups p (settled s.phase) → o < p.len → Fixed A p (settled s.phase) i (out_of s) s.held o (λ j. b.image j o)
  image_fixed i o li lo =
      let t : Kind = settled s.phase in
      record {
        codes = λ j lj. agrees.codes j o lj lo;
        on_chunks = λ j lj tj f. sym (agrees.data_is j o lj lo (not-false (s.held.fitted (p.column j)) f));
        on_parities = λ k lk u.
            let f : not (out_of s (p.d' + k)) ≡ true = (and_parts (not (out_of s (p.d' + k))) (ltb (count (λ q. not (out_of s (p.d' + q))) k) (missing_chunks p t i (out_of s))) u).0 in
            same_group A L p k (λ j. b.image j o) (member p t i) (covers p s.phase s.carried t i) (λ j lj. sym (settled_covers p s.phase s.carried i j))
            ∙ sym (agrees.parities_are t i k o li (settled_force p s.phase k lk) lo (not-false (s.held.fitted (p.d' + k)) (not-true (out_of s (p.d' + k)) f)));
      }

  -- so what the first pieces fix is the image
  pub word_is : (i o : ℕ) (u : ℕ → ℕ) → i < groups p (settled s.phase) → o < p.len → missing_pieces p (settled s.phase) i (out_of s) ≤ parities p (settled s.phase) →
      Fixed A p (settled s.phase) i (out_of s) s.held o u → (j : ℕ) → j < p.chunks → member p (settled s.phase) i j ≡ true → u j ≡ b.image j o
  word_is i o u li lo few fixed j lj tj =
      one_word A L p sound (settled s.phase) i (out_of s) s.held o u (λ j. b.image j o) li few fixed (image_fixed i o li lo) j lj tj

  -- the symbol of a chunk, read or rebuilt, is the book's
  pub holds_image : (c o v : ℕ) → c < p.chunks → o < p.len → (out_of s (p.column c) && beyond p (settled s.phase) (out_of s) (group_of p (settled s.phase) c)) ≡ false →
      Holds A p s c o v → v ≡ b.image c o
  holds_image c o v lc lo fine holds =
      let t : Kind = settled s.phase in
      let i : ℕ = group_of p t c in
      let In : Type 0 = v ≡ s.held.symbol (p.column c) (p.row c) o in
      let Out : Type 0 = (u : ℕ → ℕ) × Fixed A p t i (out_of s) s.held o u × (v ≡ u c) in
      let by : (f : Bool) → s.held.fitted (p.column c) ≡ f → v ≡ b.image c o =
      elim [
        | true ↦ λ q. when_true In Out q holds ∙ agrees.data_is c o lc lo q
        | false ↦ λ q.
            let word : Out = when_false In Out q holds in
            let few : missing_pieces p t i (out_of s) ≤ parities p t =
            repairable p t (out_of s) i (second (out_of s (p.column c)) (beyond p t (out_of s) i) fine (not_from_false (s.held.fitted (p.column c)) q)) in
            word.2 ∙ word_is i o word.0 (group_below A p sound t c lc) lo few word.1 c lc (member_own p t c)
      ] in
      by (s.held.fitted (p.column c)) refl
