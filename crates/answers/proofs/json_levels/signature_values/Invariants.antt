use Rattle.std.proofs.Common.{◌≡◌}
use Rattle.std.specs.Prelude.{map}
use Rattle.definitions.specs.Words.{up_to}
use Rattle.scaled_tensor.specs.Tensors.{coefficient}
use Rattle.serde_json.specs.View.{view}
use Rattle.answers.specs.Json.{signature_level}
use Rattle.answers.proofs.json_levels.signature_values.Given as goal

abbrev pub invariant-loop-before : goal.invariant-loop-before
invariant-loop-before l = map view l.levels.items ≡ map (signature_level l.tensor.extent (coefficient l.tensor)) (up_to l.before)
