use Rattle.std.proofs.Common.{string_bytes}
use Rattle.session.specs.Answers.{Shows}
use Rattle.answers.specs.Text.{answer_text}
use Rattle.answers.proofs.NumberedTexts.{numbered-more}
use Rattle.answers.proofs.text.push_answers.Goals as goal

pub loop-before-preserved : goal.loop-before-preserved
loop-before-preserved c =
    numbered-more (Shows c.args.hall.now) (answer_text c.args.hall.now) c.args.answers.now c.loop-before.before c.index-answers-before.result
    (string_bytes c.args.text.now) (string_bytes c.loop-before.text) (string_bytes c.push_answer.new.text)
    c.loop-before-test.true c.index-answers-before.is c.loop-before.invariant c.in_ok-push_answer.ensures
