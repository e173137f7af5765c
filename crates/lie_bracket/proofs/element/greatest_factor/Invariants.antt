use Rattle.std.proofs.Common.{◌≡◌, take}
use Rattle.lie_bracket.specs.Elements.{top}
use Rattle.lie_bracket.proofs.element.greatest_factor.Given as goal

abbrev pub invariant-loop-t : goal.invariant-loop-t
invariant-loop-t l = l.greatest ≡ top (take l.t-index l.terms)
