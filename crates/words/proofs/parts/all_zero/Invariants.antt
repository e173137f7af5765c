use Rattle.std.proofs.Common.{◌≡◌, take}
use Rattle.definitions.specs.Moves.{total}
use Rattle.words.proofs.parts.all_zero.Given as goal

abbrev pub invariant-loop-entry : goal.invariant-loop-entry
invariant-loop-entry l = total (take l.entry-index l.entries) ≡ 0
