use Rattle.std.proofs.Common.{◌≡◌, ◌+◌, length, take, ap, arith}
use Rattle.std.specs.Prelude.{sum_by}
use Rattle.answers.proofs.TotalLaws.{no_totals}
use Rattle.answers.proofs.TotalSteps.{session-more, room-less, room-at-first, some-of-all}
use Rattle.answers.proofs.summary.totals_of.Goals as goal

pub with_answers-totals-requires : goal.with_answers-totals-requires
with_answers-totals-requires c =
    let within = some-of-all c.args.transcripts.now c.loop-transcript.transcript-index c.transcript-item.result c.loop-transcript-test.true c.transcript-item.is in
    let same : length c.list.result.now ≡ length c.transcript-item.result = ap length c.list.ensures in
    c.loop-transcript.invariant.room (length c.list.result.now)
    (room-at-first (length c.list.result.now + sum_by length (take c.loop-transcript.transcript-index c.args.transcripts.now)) (omega (arith, within.1)))

pub loop-transcript-preserved : goal.loop-transcript-preserved
loop-transcript-preserved c =
    let within = some-of-all c.args.transcripts.now c.loop-transcript.transcript-index c.transcript-item.result c.loop-transcript-test.true c.transcript-item.is in
    let same : length c.list.result.now ≡ length c.transcript-item.result = ap length c.list.ensures in
    record {
      value = session-more no_totals c.loop-transcript.totals c.with_answers-totals.result c.args.transcripts.now c.loop-transcript.transcript-index c.transcript-item.result
          c.loop-transcript-test.true c.transcript-item.is c.loop-transcript.invariant.value (rw c.list.ensures at c.with_answers-totals.ensures.value);
      room = λ n h.
          c.with_answers-totals.ensures.room n
          (c.loop-transcript.invariant.room (n + length c.list.result.now)
          (room-less (n + length c.list.result.now + sum_by length (take c.loop-transcript.transcript-index c.args.transcripts.now)) (n + sum_by length (take (c.loop-transcript.transcript-index + 1) c.args.transcripts.now)) no_totals (omega (arith, within.0)) h));
    }
