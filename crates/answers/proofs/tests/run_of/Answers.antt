use Rattle.std.proofs.Common.{arith}
use Rattle.session.specs.Play.{round_order}
use Rattle.answers.proofs.AnswerCounts.{answers-few}
use Rattle.answers.proofs.tests.run_of.Goals as goal

pub summary_of-requires : goal.summary_of-requires
summary_of-requires c =
    omega (arith, answers-few c.usual.result c.in_ok-script.script (round_order c.usual.result c.in_ok-script.script) c.in_ok-outcome.outcome c.shape.ensures.script c.in_ok-outcome.ensures.outcome)
