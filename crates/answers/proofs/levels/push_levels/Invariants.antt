use Rattle.std.proofs.Common.{◌≡◌, ◌++◌, flat_map, string_bytes}
use Rattle.definitions.specs.Words.{up_to}
use Rattle.scaled_tensor.specs.Tensors.{coefficient}
use Rattle.answers.specs.Text.{level_text}
use Rattle.answers.proofs.levels.push_levels.Given as goal

abbrev pub invariant-loop-before : goal.invariant-loop-before
invariant-loop-before l = string_bytes l.text ≡ string_bytes l.initial.text ++ flat_map (level_text l.tensor.extent (coefficient l.tensor)) (up_to l.before)
