use Rattle.std.proofs.Common.{◌≡◌, ◌++◌, List, take}
use Rattle.definitions.specs.Words.{words_of}
use Rattle.functionals.specs.declared.term.WordTerm.{WordTerm}
use Rattle.functionals.specs.Functionals.{gathered}
use Rattle.functionals.specs.Tables.{IsTableOf}
use Rattle.functionals.proofs.collecting.collect_level.Given as goal

abbrev pub invariant-loop-i : goal.invariant-loop-i
invariant-loop-i l = (terms : List WordTerm) → IsTableOf l.shape l.sums terms → l.list.items ≡ l.initial.list.items ++ gathered (take l.i (words_of l.shape.width l.k)) terms
