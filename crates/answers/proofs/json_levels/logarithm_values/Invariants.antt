use Rattle.std.proofs.Common.{◌≡◌}
use Rattle.std.specs.Prelude.{map}
use Rattle.definitions.specs.Words.{up_to}
use Rattle.serde_json.specs.View.{view}
use Rattle.answers.specs.Json.{logarithm_level}
use Rattle.answers.proofs.json_levels.logarithm_values.Given as goal

abbrev pub invariant-loop-before : goal.invariant-loop-before
invariant-loop-before l = map view l.levels.items ≡ map (logarithm_level l.hall l.terms) (up_to l.before)
