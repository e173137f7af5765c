use Rattle.std.proofs.Common.{take}
use Rattle.functionals.specs.Functionals.{shuffled_by}
use Rattle.functionals.specs.Tables.{IsAdded}
use Rattle.functionals.proofs.shuffling.add_term.Given as goal

abbrev pub invariant-loop-r : goal.invariant-loop-r
invariant-loop-r l = IsAdded l.shape l.initial.sums l.sums (shuffled_by l.t (take l.r-index l.g))
