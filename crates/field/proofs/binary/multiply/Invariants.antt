use Rattle.std.proofs.Common.{◌≡◌, ◌-◌, ◌^◌, ◌<◌}
use lib.Bits.{bit_xor}
use Rattle.field.specs.Binary.{product}
use Rattle.field.proofs.binary.multiply.Given as goal

abbrev pub invariant-loop-i : goal.invariant-loop-i
invariant-loop-i g l =
    let w = g.M.Modulus.DEGREE in
    let p = g.M.Modulus.POLYNOMIAL in
    (l.x < 2 ^ w) × (bit_xor l.sum (product w p (w - l._i) l.x l.y) ≡ product w p w l.a l.b)
