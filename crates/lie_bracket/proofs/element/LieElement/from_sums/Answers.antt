use Rattle.std.proofs.Common.{◌-◌, sym, subst, arith, pos, length}
use Rattle.std.specs.Prelude.{slice_index_or}
use Rattle.lie_bracket.specs.Elements.{IsElement}
use Rattle.lie_bracket.proofs.NonzeroLaws.{nonzero-IsElement}
use Rattle.lie_bracket.proofs.element.LieElement.from_sums.Goals as goal

pub invariant_of-result : goal.invariant_of-result
invariant_of-result c =
    subst IsElement (sym c.in_ok-nonzero_terms.ensures)
    (nonzero-IsElement (length c.args.sums.now) (λ h. slice_index_or c.args.sums.now (h - 1) (pos 0)) (λ h least most. c.requires.range (h - 1) (omega arith)))
