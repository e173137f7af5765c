use Rattle.std.proofs.Common.{◌∙◌, List, ap}
use Rattle.std.specs.Prelude.{map}
use Rattle.serde_json.specs.Data.{Data}
use Rattle.serde_json.specs.View.{view}
use Rattle.serde_json.specs.declared.value.Value.{Array}
use Rattle.serde_json.proofs.Views.{view-Array}
use Rattle.session.specs.Answers.{ShowsEach}
use Rattle.answers.specs.Json.{list, answers_json}
use Rattle.answers.proofs.JsonLevels.{value-more}
use Rattle.answers.proofs.NumberedTexts.{each-more}
use Rattle.answers.proofs.json_text.session_values.Goals as goal

pub loop-transcript-preserved : goal.loop-transcript-preserved
loop-transcript-preserved c =
    each-more (ShowsEach c.args.hall.now) (λ dues. list (answers_json c.args.hall.now 1 dues)) c.args.transcripts.now c.loop-transcript.transcript-index c.transcript-item.result
    (map view c.loop-transcript.values.items) (map view c.push.new.self.items)
    c.loop-transcript-test.true c.transcript-item.is c.loop-transcript.invariant
    (λ dues each. value-more c.loop-transcript.values.items c.push.new.self.items (Array c.in_ok-answers.answers) (list (answers_json c.args.hall.now 1 dues)) c.in_ok-push.ensures.items
    (view-Array c.in_ok-answers.answers ∙ ap (λ (ds : List Data). list ds) (c.in_ok-answers.ensures dues (rw c.list.ensures each))))
