use Rattle.std.proofs.Common.{◌≡◌, ℕ, ◌+◌, take}
use Rattle.std.specs.Prelude.{fold}
use Rattle.answers.specs.Totals.{HasRoom, with_kept}
use Rattle.answers.proofs.summary.with_answers.Given as goal

abbrev pub invariant-loop-answer : goal.invariant-loop-answer
invariant-loop-answer l = record {
  value : l.totals ≡ fold with_kept l.initial.totals (take l.answer-index l.answers);
  room : (n : ℕ) → HasRoom (n + l.answer-index) l.initial.totals → HasRoom n l.totals;
}
