use Rattle.std.proofs.Common.{◌+◌, [], ◌∷◌}
use Rattle.std.specs.Prelude.{map}
use Rattle.serde_json.specs.View.{view}
use Rattle.session.specs.Answers.{Shows}
use Rattle.answers.specs.Json.{answer_json}
use Rattle.answers.proofs.JsonLevels.{value-more}
use Rattle.answers.proofs.NumberedTexts.{numbered-more}
use Rattle.answers.proofs.json_text.answer_values.Goals as goal

pub loop-before-preserved : goal.loop-before-preserved
loop-before-preserved c =
    numbered-more (Shows c.args.hall.now) (λ n due. answer_json c.args.hall.now n due ∷ []) c.args.answers.now c.loop-before.before c.index-answers-before.result
    [] (map view c.loop-before.values.items) (map view c.push.new.self.items)
    c.loop-before-test.true c.index-answers-before.is c.loop-before.invariant
    (λ due shows. value-more c.loop-before.values.items c.push.new.self.items c.in_ok-value.value (answer_json c.args.hall.now (c.loop-before.before + 1) due) c.in_ok-push.ensures.items (c.in_ok-value.ensures due shows))
