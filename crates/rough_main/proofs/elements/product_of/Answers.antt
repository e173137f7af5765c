use Rattle.std.proofs.Common.{◌≡◌, IfOk, subst}
use Rattle.definitions.specs.Words.{Extent}
use Rattle.answers.specs.declared.cbh.CbhResult.{CbhResult}
use Rattle.answers.specs.CbhText.{HasNumbers}
use Rattle.rough_main.specs.Elements.{product_due}
use Rattle.rough_main.proofs.ProductLaws.{pair-due, level-due}
use Rattle.rough_main.proofs.elements.product_of.Goals as goal

pub returns-in-Ok-clause-due : goal.returns-in-Ok-clause-due
returns-in-Ok-clause-due c =
    subst (λ (extent : Extent). IfOk c.logarithm_of.result (λ (reply : CbhResult). reply ≡ product_due extent c.args.moves.now)) c.in-Ok.ensures.value c.logarithm_of.ensures.due

pub returns-in-Ok-clause-numbers : goal.returns-in-Ok-clause-numbers
returns-in-Ok-clause-numbers c = subst (λ (extent : Extent). IfOk c.logarithm_of.result (HasNumbers extent)) c.in-Ok.ensures.value c.logarithm_of.ensures.numbers
