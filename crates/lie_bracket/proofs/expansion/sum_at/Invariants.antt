use Rattle.std.proofs.Common.{◌≡◌, take}
use Rattle.definitions.specs.Hall.{expansion}
use Rattle.lie_bracket.specs.Brackets.{expanded}
use Rattle.lie_bracket.proofs.expansion.sum_at.Given as goal

abbrev pub invariant-loop-t : goal.invariant-loop-t
invariant-loop-t l = l.sum ≡ expanded (expansion l.members) (take l.t-index l.terms) l.word
