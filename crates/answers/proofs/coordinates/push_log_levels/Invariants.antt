use Rattle.std.proofs.Common.{◌≡◌, ◌++◌, flat_map, string_bytes}
use Rattle.definitions.specs.Words.{up_to}
use Rattle.answers.specs.Text.{log_level_text}
use Rattle.answers.proofs.coordinates.push_log_levels.Given as goal

abbrev pub invariant-loop-before : goal.invariant-loop-before
invariant-loop-before l = string_bytes l.text ≡ string_bytes l.initial.text ++ flat_map (log_level_text l.hall l.terms) (up_to l.before)
