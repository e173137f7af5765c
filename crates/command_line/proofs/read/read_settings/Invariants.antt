-- The options that were given, with those of the rest, wish what all words wish.
use Rattle.std.proofs.Common.{◌≡◌, map, length}
use Rattle.std.specs.Prelude.{string_bytes}
use Rattle.command_line.specs.Settings.{settings_in}
use Rattle.command_line.specs.Wishes.{wish_in}
use Rattle.command_line.specs.Gathered.{wish_after}
use Rattle.command_line.proofs.read.read_settings.Given as goal

abbrev pub invariant-loop-rest : goal.invariant-loop-rest
invariant-loop-rest l = wish_after l.gathered (settings_in (map string_bytes l.rest)) ≡ wish_in (settings_in (map string_bytes l.words))

abbrev pub decreases-loop-rest : goal.decreases-loop-rest
decreases-loop-rest l = length l.rest
