use Rattle.std.proofs.Common.{◌≡◌, List}
use Rattle.functionals.specs.declared.term.WordTerm.{WordTerm}
use Rattle.definitions.specs.AllWords.{words_below}
use Rattle.functionals.specs.Functionals.{gathered}
use Rattle.functionals.specs.Tables.{IsTableOf}
use Rattle.functionals.proofs.collecting.collect.Given as goal

abbrev pub invariant-loop-k : goal.invariant-loop-k
invariant-loop-k l = (terms : List WordTerm) → IsTableOf l.shape l.sums terms → l.list.items ≡ gathered (words_below l.shape.width l.k) terms
