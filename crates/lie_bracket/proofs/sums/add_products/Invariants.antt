use Rattle.std.proofs.Common.{pos}
use Rattle.lie_bracket.specs.Brackets.{over_terms}
use Rattle.lie_bracket.specs.Entries.{looked_up}
use Rattle.lie_bracket.proofs.SumSteps.{OverSoFar}
use Rattle.lie_bracket.proofs.sums.add_products.Given as goal

abbrev pub invariant-loop-t : goal.invariant-loop-t
invariant-loop-t l = OverSoFar l.initial.sum l.sum (pos 1) (λ b. over_terms l.left (λ a. looked_up l.sign l.entries a b)) l.right l.t-index
