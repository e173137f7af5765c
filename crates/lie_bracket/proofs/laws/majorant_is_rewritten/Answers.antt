use Rattle.definitions.specs.Hall.{hall_list}
use Rattle.hall_set.proofs.GrownLists.{hall_list-IsHall}
use Rattle.lie_bracket.proofs.BracketEnds.{majorant-IsBracket}
use Rattle.lie_bracket.proofs.laws.majorant_is_rewritten.Goals as goal

pub returns : goal.returns
returns c = λ extent shape. majorant-IsBracket extent.depth (hall_list extent.width extent.depth) (hall_list-IsHall extent.width extent.depth shape.some_depth)
