use Rattle.std.proofs.Common.{subst, List, ℕ, length}
use Rattle.std.specs.Prelude.{EachIndex}
use Rattle.definitions.specs.Hall.{hall_list}
use Rattle.lie_bracket.specs.declared.term.Term.{Term}
use Rattle.lie_bracket.specs.Elements.{IsGoodAt, IsElement}
use Rattle.lie_bracket.proofs.ElementLaws.{good-IsElement, good-members}
use Rattle.lie_bracket.proofs.element.LieElement.of.Goals as goal

pub invariant_of-result : goal.invariant_of-result
invariant_of-result c = subst IsElement c.deref.ensures.value (good-IsElement c.len.result c.deref.result.now c.in-None.ensures)

pub returns-in-None-clause-members : goal.returns-in-None-clause-members
returns-in-None-clause-members c =
    good-members (hall_list c.args.hall.now.width c.args.hall.now.depth) c.args.terms.items
    (subst (λ (ts : List Term). EachIndex ts (IsGoodAt (length (hall_list c.args.hall.now.width c.args.hall.now.depth)) ts)) c.deref.ensures.value
    (subst (λ (n : ℕ). EachIndex c.deref.result.now (IsGoodAt n c.deref.result.now)) c.len.ensures.value c.in-None.ensures))
