use Rattle.std.proofs.Common.{◌≡◌, ◌≤◌, ◌++◌, length}
use Rattle.definitions.specs.Hall.{hall_list}
use Rattle.lie_bracket.specs.MoveTerms.{part_terms}
use Rattle.lie_bracket.proofs.MoveTerms.{first_of_degree}
use Rattle.solve.proofs.lie_rows.push_part.Given as goal

abbrev pub invariant-loop-at : goal.invariant-loop-at
invariant-loop-at l = record {
  place : l.place ≡ length (first_of_degree (hall_list l.hall.width l.hall.depth) l.j l.at);
  few : l.place ≤ l.at;
  terms : l.terms.items ≡ l.initial.terms.items ++ part_terms (first_of_degree (hall_list l.hall.width l.hall.depth) l.j l.at) l.entries;
}
