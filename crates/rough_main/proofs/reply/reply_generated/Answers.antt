use Rattle.std.proofs.Common.{◌∙◌, refl, sym, ap, subst, arith}
use Rattle.definitions.specs.Words.{Extent}
use Rattle.script_reader.specs.Script.{ScriptValue}
use Rattle.session.specs.Play.{due_outcome, round_order}
use Rattle.session.specs.Answers.{IsOutcome}
use Rattle.answers.specs.Generator.{summary_text}
use Rattle.answers.proofs.AnswerCounts.{answers-few}
use Rattle.rough_main.proofs.reply.reply_generated.Goals as goal

pub summary_of-requires : goal.summary_of-requires
summary_of-requires c =
    let script : ScriptValue = c.in_ok-script.script in
    omega (arith, answers-few c.args.capacity script (round_order c.args.capacity script) c.in_ok-outcome.outcome c.shape.ensures.script c.in_ok-outcome.ensures.outcome)

pub returns : goal.returns
returns c =
    let script : ScriptValue = c.in_ok-script.script in
    let due = due_outcome c.args.capacity script (round_order c.args.capacity script) in
    let text = c.in_ok-summary_of.ensures due (subst (λ (extent : Extent). IsOutcome extent c.in_ok-outcome.outcome due) (sym c.shape.ensures.value) c.in_ok-outcome.ensures.outcome) in (
      refl,
      text ∙ ap (λ (extent : Extent). summary_text c.args.n extent due) c.shape.ensures.value
          ∙ ap (λ (s : ScriptValue). summary_text c.args.n s.extent (due_outcome c.args.capacity s (round_order c.args.capacity s))) c.in_ok-script.ensures,
    )
