use Rattle.std.proofs.Common.{◌≡◌, take, flat_map}
use Rattle.std.specs.Prelude.{map}
use Rattle.definitions.specs.Hall.{hall_list}
use Rattle.serde_json.specs.View.{view}
use Rattle.answers.specs.Json.{coordinate_json}
use Rattle.answers.proofs.json_levels.coordinate_terms.Given as goal

abbrev pub invariant-loop-term : goal.invariant-loop-term
invariant-loop-term l = map view l.coordinates.items ≡ flat_map (coordinate_json (hall_list l.hall.width l.hall.depth) l.k) (take l.term-index l.terms)
