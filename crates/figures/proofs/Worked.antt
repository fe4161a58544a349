-- The worked pool: its plan has the scheme of its numbers, and the figures are computed of that. Assumes nothing.
use Rattle.std.proofs.Common.{◌≡◌, ℕ, sym, refl, subst}
use Rattle.field.specs.Arithmetic.{powers}
use Rattle.field.specs.Binary.{product}
use Rattle.layout.specs.declared.plan.Plan.{Plan}
use Rattle.layout.specs.Placing.{every_definition, chunks_of, stripes_of, rows_of, row_at, column_at, coeff_at, home_of, chunk_at}
use Rattle.layout.specs.Refusals.{Has}
use Rattle.coding.specs.Schemes.{Scheme, scheme_of}
use Rattle.figures.specs.Figures.{BytePool, PrimePool}

-- the scheme of these numbers
abbrev scheme : ℕ → ℕ → ℕ → ℕ → ℕ → Scheme
scheme d r d' r' L = record {
  d = d;
  r = r;
  d' = d';
  r' = r';
  len = L;
  chunks = chunks_of d d';
  stripes = stripes_of d d';
  rows = rows_of d d';
  row = row_at d d';
  column = column_at d d';
  x = coeff_at d d';
  home = home_of d d';
  chunk = chunk_at d d';
}

scheme_is : {q d r d' r' L : ℕ} (p : Plan) → Has q d r d' r' L p → scheme d r d' r' L ≡ scheme_of p
scheme_is p h = simp (sym h.d_is, sym h.r_is, sym h.d2_is, sym h.r2_is, sym h.len_is)

byte_scheme : BytePool (scheme 2 2 3 2 1)
unfolding powers product every_definition
byte_scheme =
    record {
      stripe_0 = (refl, refl);
      stripe_1 = (refl, refl);
      stripe_2 = (refl, refl);
      row_0 = (refl, refl);
      row_1 = (refl, refl);
      chunk_2 = refl;
      chunk_3 = refl;
      chunk_0 = refl;
    }

prime_scheme : PrimePool (scheme 2 2 3 2 1)
unfolding powers every_definition
prime_scheme =
    record {
      stripe_0 = refl;
      stripe_2 = refl;
      row_0 = refl;
      homes = (refl, refl, refl);
      subtracted = refl;
      added = refl;
    }

pub byte_pool : (p : Plan) → Has 256 2 2 3 2 1 p → BytePool (scheme_of p)
byte_pool p h = subst BytePool (scheme_is p h) byte_scheme

pub prime_pool : (p : Plan) → Has 257 2 2 3 2 1 p → PrimePool (scheme_of p)
prime_pool p h = subst PrimePool (scheme_is p h) prime_scheme
