use Rattle.std.proofs.Common.{take}
use Rattle.functionals.specs.Functionals.{shuffled}
use Rattle.functionals.specs.Tables.{IsAdded}
use Rattle.functionals.proofs.shuffling.add_terms.Given as goal

abbrev pub invariant-loop-t : goal.invariant-loop-t
invariant-loop-t l = IsAdded l.shape l.initial.sums l.sums (shuffled (take l.t-index l.f) l.g)
