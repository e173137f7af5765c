use Rattle.std.proofs.Common.{◌≡◌, ◌++◌, take, flat_map, string_bytes}
use Rattle.definitions.specs.Hall.{hall_list}
use Rattle.answers.specs.Text.{coordinate_text}
use Rattle.answers.proofs.coordinates.push_coordinates.Given as goal

abbrev pub invariant-loop-term : goal.invariant-loop-term
invariant-loop-term l = string_bytes l.text ≡ string_bytes l.initial.text ++ flat_map (coordinate_text (hall_list l.hall.width l.hall.depth) l.k) (take l.term-index l.terms)
