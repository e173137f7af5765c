use Rattle.definitions.specs.Hall.{hall_list}
use Rattle.lie_bracket.proofs.TableLoop.{IsBuilt}
use Rattle.lie_bracket.proofs.table.build_entries.Given as goal

abbrev pub invariant-loop-k : goal.invariant-loop-k
invariant-loop-k l = IsBuilt l.hall.depth (hall_list l.hall.width l.hall.depth) l.majorants l.brackets l.k
