use Rattle.std.proofs.Common.{◌≡◌, map}
use Rattle.definitions.specs.Words.{up_to}
use Rattle.script_reader.specs.Coordinates.{members_to}
use Rattle.script_reader.proofs.coordinates.counts_of.Given as goal

abbrev pub invariant-loop-before : goal.invariant-loop-before
invariant-loop-before l = l.counts.items ≡ map (members_to l.fn.shape) (up_to l.before)
