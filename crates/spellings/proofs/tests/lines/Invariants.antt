use Rattle.std.proofs.Common.{◌≤◌, length}
use Rattle.spellings.proofs.tests.lines.Given as goal

abbrev pub invariant-loop-line : goal.invariant-loop-line
invariant-loop-line g l = l.from ≤ length l.text
