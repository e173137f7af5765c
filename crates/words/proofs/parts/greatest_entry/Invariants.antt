use Rattle.std.proofs.Common.{◌≡◌, ◌≤◌, ◌^◌, take}
use Rattle.definitions.specs.Moves.{greatest}
use Rattle.words.proofs.parts.greatest_entry.Given as goal

abbrev pub invariant-loop-entry : goal.invariant-loop-entry
invariant-loop-entry l = record { value : l.weight ≡ greatest (take l.entry-index l.entries); bound : l.weight ≤ 2 ^ 63 }
