use Rattle.std.proofs.Common.{◌≡◌, ◌++◌, take, string_bytes}
use Rattle.answers.specs.Watched.{watches_text}
use Rattle.answers.proofs.watched.push_lines.Given as goal

abbrev pub invariant-loop-before : goal.invariant-loop-before
invariant-loop-before l = string_bytes l.text ≡ string_bytes l.initial.text ++ watches_text l.watches.log.edits 1 (take l.before l.watches.intervals)
