use Rattle.std.proofs.Common.{◌∙◌, ◌+◌, length, ap, arith, List}
use Rattle.std.specs.Prelude.{fold}
use Rattle.std.proofs.lemmas.List.{take_all}
use Rattle.session.specs.declared.answer.Answer.{Answer}
use Rattle.answers.specs.Totals.{with_kept}
use Rattle.answers.proofs.TotalSteps.{answer-more, room-less}
use Rattle.answers.proofs.summary.with_answers.Goals as goal

pub with_answer-totals-requires : goal.with_answer-totals-requires
with_answer-totals-requires c =
    c.loop-answer.invariant.room 1 (room-less (1 + c.loop-answer.answer-index) (length c.args.answers.now) c.args.totals (omega arith) c.requires)

pub loop-answer-preserved : goal.loop-answer-preserved
loop-answer-preserved c = record {
  value = answer-more c.args.totals c.loop-answer.totals c.with_answer-totals.result c.args.answers.now c.loop-answer.answer-index c.answer-item.result
      c.loop-answer-test.true c.answer-item.is c.loop-answer.invariant.value c.with_answer-totals.ensures.value;
  room = λ n h.
      c.with_answer-totals.ensures.room n
      (c.loop-answer.invariant.room (n + 1) (room-less (n + 1 + c.loop-answer.answer-index) (n + (c.loop-answer.answer-index + 1)) c.args.totals (omega arith) h));
}

pub returns : goal.returns
returns c = record {
  value = c.loop-answer.invariant.value ∙ ap (λ (answers : List Answer). fold with_kept c.args.totals answers) (take_all c.loop-answer.answer-index c.args.answers.now (omega arith));
  room = λ n h. c.loop-answer.invariant.room n (room-less (n + c.loop-answer.answer-index) (n + length c.args.answers.now) c.args.totals (omega arith) h);
}
