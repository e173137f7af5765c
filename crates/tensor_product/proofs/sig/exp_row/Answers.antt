use Rattle.std.proofs.Common.{◌∷◌, [], subst}
use Rattle.definitions.specs.Words.{Extent}
use Rattle.definitions.specs.Moves.{plain}
use Rattle.tensor_product.specs.Sigs.{StandsFor}
use Rattle.tensor_product.proofs.sig.exp_row.Goals as goal

pub returns-clause-stands : goal.returns-clause-stands
returns-clause-stands g c =
    subst (λ (e : Extent). StandsFor c.extend_by.new.s (plain e.depth c.args.x.now ∷ [])) c.in_ok-sig.ensures.extent (c.extend_by.ensures.stands [] c.in_ok-sig.ensures.stands)
