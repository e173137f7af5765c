-- The words so far, and those from the place on, are the words of the line.
use Rattle.std.proofs.Common.{◌≡◌, ◌-◌, ◌≤◌, ◌++◌, length, map, drop}
use Rattle.spellings.specs.Lines.{words_in}
use Rattle.spellings.proofs.lines.words_in.Given as goal

abbrev pub invariant-loop-start : goal.invariant-loop-start
invariant-loop-start l = record {
  words : map (λ w. w.now) l.words.items ++ words_in (drop l.from l.line) ≡ words_in l.line;
  within : l.from ≤ length l.line;
}

abbrev pub decreases-loop-start : goal.decreases-loop-start
decreases-loop-start l = length l.line - l.from
