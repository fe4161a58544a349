use Rattle.std.proofs.Common.{◌≡◌, ℕ, List, ◌∷◌, ◌++◌, codes, decimal, refl, subst, arith}
use Rattle.std.specs.Fmt.{HasWritten}
use Rattle.std.proofs.lemmas.Grind.{put_two}
use Rattle.layout.specs.Placing.{rows_of, stripes_of, home_of}
use Rattle.player.specs.Texts.{each, sizes_text, row_text, counts_text}
use Rattle.player.proofs.text.MapDisplay.fmt.Goals as goal

pub returns-clause-writes : goal.returns-clause-writes
returns-clause-writes g c plain ok =
    let p = c.args.self.now.0.now in
    let T = g.W.Write.write_str_gives in
    let front = sizes_text p ++ each (rows_of p.d p.d2) (row_text p) in
    let homes : ℕ → List ℕ = λ n. 10 ∷ codes "home:" ++ each n (λ s. 32 ∷ decimal (home_of p.d p.d2 s)) in
    let same : c.loop-stripe.stripe ≡ stripes_of p.d p.d2 = omega (arith, c.loop-stripe-test.false, c.stripes-stripes.ensures) in
    let before = subst (λ n. HasWritten T c.args.f.now (front ++ homes n) c.loop-stripe.f) same (c.loop-stripe.invariant plain) in
    put_two T c.args.f.now c.loop-stripe.f _ (front ++ homes (stripes_of p.d p.d2)) (counts_text p) _ before (c.write_counts.ensures before.plain ok) refl
