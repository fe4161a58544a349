use Rattle.std.proofs.Common.{refl}
use Rattle.field.specs.Arithmetic.{powers}
use Rattle.field.specs.Binary.{product}
use Rattle.layout.specs.Counts.{outside_of}
use Rattle.layout.specs.Placing.{every_definition}
use Rattle.figures.proofs.figures.Goals as goal

pub returns : goal.returns
unfolding powers product outside_of every_definition
returns c =
    record {
      wide_chunks = refl;
      wide_11 = (refl, refl);
      wide_17 = (refl, refl);
      narrow_5 = (refl, refl);
      narrow_9 = (refl, refl);
      counts_wide = (refl, refl);
      counts_narrow = (refl, refl);
      counts_doubled = (refl, refl);
      counts_more_parities = (refl, refl);
      byte_coefficients = (refl, refl);
      nibble_coefficients = (refl, refl);
      prime_coefficients = (refl, refl);
      refused_by_3 = refl;
      not_refused_by_3 = refl;
      not_refused_by_4 = refl;
      refused_by_4 = refl;
    }
