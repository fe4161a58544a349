use Rattle.std.proofs.Common.{◌≡◌, false, ◌&&◌, ltb, rules}
use Rattle.coding.specs.Pieces.{module_at}
use Rattle.coding.specs.Steps.{flags}
use Rattle.coding.proofs.Made.{made}
use Rattle.coding.proofs.group.Group.gone.Goals as goal

pub returns : goal.returns
returns c =
    let g = c.args.self.now in
    record {
      is = λ e l. made _ (λ e b. b ≡ (ltb e g.size && flags c.args.out (module_at g e))) _ _ 14 (λ i y q h k. search rules) c.from_fn.ensures.items e false l;
    }
