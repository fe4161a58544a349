-- A chunk of a plan has a stripe and an index, and its coefficient column is small. Assumes nothing.
use Rattle.std.proofs.Common.{ℕ, ◌/◌, ◌%◌, ◌<◌, arith}
use Rattle.std.proofs.lemmas.Nat.{div_below, mod_below}
use Rattle.layout.specs.Placing.{chunks_of, stripes_of}
use Rattle.layout.specs.Sizes.{Sized, Inside}
use Rattle.layout.proofs.Bounds.{by_stripe}

pub inside : (d n j : ℕ) → Sized d n → j < chunks_of d n → Inside d n (j / d) (j % d)
inside d n j z h =
    record {
      stripe = div_below j d (stripes_of d n) (omega (arith, z.low)) (omega (arith, h, by_stripe z));
      index = mod_below j d (omega (arith, z.low));
    }
