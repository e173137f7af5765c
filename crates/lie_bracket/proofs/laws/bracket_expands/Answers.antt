use Rattle.std.proofs.Common.{List}
use Rattle.definitions.specs.Hall.{hall_list, expansion}
use Rattle.definitions.specs.declared.member.Member.{Member}
use Rattle.hall_set.proofs.GrownLists.{IsHall, hall_list-IsHall}
use Rattle.lie_bracket.proofs.Expansions.{expansion-Expansions}
use Rattle.lie_bracket.proofs.BracketExpansion.{bracket-expands}
use Rattle.lie_bracket.proofs.laws.bracket_expands.Goals as goal

pub returns : goal.returns
returns c = λ extent a b shape ha hb deep word.
    let hall : List Member = hall_list extent.width extent.depth in
    let ok : IsHall extent.depth hall = hall_list-IsHall extent.width extent.depth shape.some_depth in
    bracket-expands extent.depth hall (expansion hall) ok (expansion-Expansions extent.depth hall ok) a b ha hb deep word
