use Rattle.std.proofs.Common.{◌≡◌, ◌∙◌, ◌++◌, ℕ, List, ap, codes}
use Rattle.serde_json.specs.View.{view}
use Rattle.serde_json.specs.Written.{has_float, compact_text}
use Rattle.answers.specs.Json.{outcome_json}
use Rattle.answers.proofs.NoFloats.{outcome-none}
use Rattle.answers.proofs.json_text.json_of.Goals as goal

pub returns : goal.returns
returns c = λ due outcome.
    let is : view c.in_ok-value.value ≡ outcome_json c.args.hall.now c.args.watches.now due = c.in_ok-value.ensures due outcome in
    c.in_ok-push.ensures.items
    ∙ ap (λ (t : List ℕ). t ++ codes "\n") (c.in_ok-text.ensures.text (ap has_float is ∙ outcome-none c.args.hall.now c.args.watches.now due) ∙ ap compact_text is)
