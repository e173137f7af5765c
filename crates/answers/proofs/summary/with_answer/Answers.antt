use Rattle.std.proofs.Common.{◌∙◌, sym, ap, ℕ}
use Rattle.session.specs.declared.answer.Answer.{Answer}
use Rattle.answers.specs.Totals.{with_reply, with_kept}
use Rattle.answers.proofs.summary.with_answer.Goals as goal

pub returns-in-Sig-clause-value : goal.returns-in-Sig-clause-value
returns-in-Sig-clause-value c =
    c.with_counts.ensures.value
    ∙ ap (λ (sum : ℕ). with_reply c.args.totals c.in-Sig.reply sum) c.with_levels.ensures
    ∙ ap (λ (answer : Answer). with_kept c.args.totals answer) (sym c.in-Sig.is)
