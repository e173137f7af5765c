use Rattle.std.proofs.Common.{sym, subst, arith, ℕ}
use Rattle.std.proofs.lemmas.Result.{IfOk-weaker}
use Rattle.hall_set.proofs.Sizes.{hall_list-short}
use Rattle.lie_bracket.specs.declared.sign.Sign.TheVariants.{Plus}
use Rattle.lie_bracket.specs.Entries.{AreSmall}
use Rattle.lie_bracket.proofs.TableSteps.{table-element}
use Rattle.lie_bracket.proofs.table.BracketTable.majorant.Goals as goal

pub checked_product-requires-clause-few : goal.checked_product-requires-clause-few
checked_product-requires-clause-few c = omega (arith, c.self.invariant.1, hall_list-short c.self.inside.shape c.self.invariant.0)

pub checked_product-requires-clause-small : goal.checked_product-requires-clause-small
checked_product-requires-clause-small c = subst (λ (n : ℕ). AreSmall n c.self.inside.majorants) (sym c.self.invariant.1) c.self.invariant.2.majorants_all.small

pub returns-clause-value : goal.returns-clause-value
returns-clause-value c = IfOk-weaker c.checked_product.result _ _ (λ z is. (table-element Plus c.self.inside.shape c.args.self.now c.self.view_is c.self.invariant.0 c.self.inside.len c.self.invariant.1 c.self.inside.majorants c.self.invariant.2.majorants_all c.args.a.now c.args.b.now c.requires.left
    c.requires.right z is).0) c.checked_product.ensures.value

pub returns-clause-members : goal.returns-clause-members
returns-clause-members c = IfOk-weaker c.checked_product.result _ _ (λ z is. (table-element Plus c.self.inside.shape c.args.self.now c.self.view_is c.self.invariant.0 c.self.inside.len c.self.invariant.1 c.self.inside.majorants c.self.invariant.2.majorants_all c.args.a.now c.args.b.now c.requires.left
    c.requires.right z is).1) c.checked_product.ensures.value
