use Rattle.std.proofs.Common.{◌≡◌, ◌∙◌, ℕ, refl, sym, ap, ap₂, subst, List, Vec, Global}
use Rattle.definitions.specs.Words.{Extent}
use Rattle.watches.specs.declared.interval.Interval.{Interval}
use Rattle.command_line.specs.declared.wish.Form.{Form}
use Rattle.script_reader.specs.Script.{ScriptValue}
use Rattle.session.specs.Answers.{IsOutcome}
use Rattle.answers.specs.Text.{outcome_text}
use Rattle.answers.specs.Json.{json_text}
use Rattle.rough_main.specs.Due.{written}
use Rattle.rough_main.proofs.reply.reply_with.Goals.{in-Text+in_ok-text-in-Text, in-Json+in_ok-text-in-Json}
use Rattle.rough_main.proofs.reply.reply_with.Goals as goal

pub returns : goal.returns
returns c = λ due shown.
    let script : ScriptValue = c.args.script.now in
    let same : c.in_ok-hall.hall ≡ script.extent = c.in_ok-hall.ensures ∙ c.shape.ensures.value in
    let shown_here : IsOutcome c.in_ok-hall.hall c.args.outcome.now due = subst (λ (e : Extent). IsOutcome e c.args.outcome.now due) (sym same) shown in (
      refl,
      elim c.match-form.branch [
        | in-Text+in_ok-text-in-Text w ↦
            subst (λ (text : Vec ℕ Global). text.items ≡ written c.args.form script due) (sym w.text-is)
            (w.in_ok-text-in-Text.ensures due shown_here
            ∙ ap₂ (λ (e : Extent) (watches : List Interval). outcome_text e watches due) same c.watches-watches.ensures.value
            ∙ ap (λ (form : Form). written form script due) (sym w.in-Text.is))
        | in-Json+in_ok-text-in-Json w ↦
            subst (λ (text : Vec ℕ Global). text.items ≡ written c.args.form script due) (sym w.text-is)
            (w.in_ok-text-in-Json.ensures due shown_here
            ∙ ap₂ (λ (e : Extent) (watches : List Interval). json_text e watches due) same c.watches-watches.ensures.value
            ∙ ap (λ (form : Form). written form script due) (sym w.in-Json.is))
      ],
    )
