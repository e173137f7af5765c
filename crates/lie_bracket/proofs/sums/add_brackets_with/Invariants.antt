use Rattle.std.proofs.Common.{pos}
use Rattle.lie_bracket.specs.Entries.{looked_up}
use Rattle.lie_bracket.proofs.SumSteps.{OverSoFar}
use Rattle.lie_bracket.proofs.sums.add_brackets_with.Given as goal

abbrev pub invariant-loop-t : goal.invariant-loop-t
invariant-loop-t l = OverSoFar l.initial.sum l.sum (pos 1) (looked_up l.sign l.entries l.a) l.terms l.t-index
