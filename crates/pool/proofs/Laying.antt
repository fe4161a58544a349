-- A pool that is just laid agrees with the blank book. Assumes nothing.
use Rattle.std.proofs.Common.{◌≡◌, ℕ, ◌+◌, ◌<◌, true, sym, refl, ◌∙◌, arith}
use Rattle.field.specs.Arithmetic.{Arithmetic, Lawful}
use Rattle.coding.specs.Schemes.{Scheme, Sound}
use Rattle.coding.specs.Groups.{slot_of}
use Rattle.coding.proofs.Parities.{no_chunks}
use Rattle.pool.specs.declared.kinds.Phase.TheVariants.{Before}
use Rattle.pool.specs.Book.{modules, blank}
use Rattle.pool.specs.Standing.{Standing}
use Rattle.pool.specs.Agrees.{covers, Agrees}
use Rattle.pool.proofs.Places.{in_force_lem, parity_module, chunk_module, slot_below}

-- all modules are fitted and every place of the pool is 0
pub laid : (A : Arithmetic) → Lawful A → (p : Scheme) → Sound A p → (s : Standing) → s.phase ≡ Before → s.carried ≡ 0 →
    ((m : ℕ) → m < modules p → s.held.fitted m ≡ true) →
    ((m slot u : ℕ) → m < modules p → slot < p.stripes + p.rows → u < p.len → s.held.symbol m slot u ≡ 0) → Agrees A p s blank
laid A L p sound s phase carried fitted clear =
    record {
      phase_is = phase;
      carried_is = carried;
      out_is = fitted;
      codes = λ j u lj lu. omega (arith, L.two);
      data_is = λ j u lj lu f. clear (p.column j) (p.row j) u (chunk_module A p sound j lj) (omega (arith, sound.in_rows j lj)) lu;
      parities_are = λ t i k u li lk lu f.
          clear (p.d' + k) (slot_of p t i) u (parity_module p t k (in_force_lem p s.phase t k lk)) (slot_below p t i li) lu
          ∙ sym (no_chunks A L p k (covers p s.phase s.carried t i) (λ j. 0) (λ j lj. refl));
    }
