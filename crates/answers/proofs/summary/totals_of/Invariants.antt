use Rattle.std.proofs.Common.{◌≡◌, ℕ, ◌+◌, length, take, flat_map}
use Rattle.std.specs.Prelude.{fold, sum_by}
use Rattle.answers.specs.Totals.{HasRoom, with_kept}
use Rattle.answers.proofs.TotalLaws.{no_totals}
use Rattle.answers.proofs.summary.totals_of.Given as goal

abbrev pub invariant-loop-transcript : goal.invariant-loop-transcript
invariant-loop-transcript l = record {
  value : l.totals ≡ fold with_kept no_totals (flat_map (λ answers. answers) (take l.transcript-index l.transcripts));
  room : (n : ℕ) → HasRoom (n + sum_by length (take l.transcript-index l.transcripts)) no_totals → HasRoom n l.totals;
}
