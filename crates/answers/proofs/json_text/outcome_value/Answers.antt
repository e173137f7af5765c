use Rattle.std.proofs.Common.{◌≡◌, ◌∙◌, ap, length, rules}
use Rattle.std.specs.Prelude.{map}
use Rattle.std.proofs.lemmas.Result.{IfOk-weaker}
use Rattle.serde_json.specs.View.{view}
use Rattle.answers.specs.Json.{natural, list, answers_json, watch_json}
use Rattle.answers.proofs.json_text.outcome_value.Goals as goal

pub returns : goal.returns
returns c =
    IfOk-weaker c.parts_value.result _ _ (λ value is due outcome.
    let order : map view c.in_ok-order.order.items ≡ map natural due.order = c.in_ok-order.ensures ∙ (rw (c.deref.ensures.value, outcome.order)) in
    let sessions : map view c.in_ok-sessions.sessions.items ≡ map (λ dues. list (answers_json c.args.hall.now 1 dues)) due.transcripts =
    c.in_ok-sessions.ensures due.transcripts (rw c.deref-2.ensures.value outcome.transcripts) in
    let watches : map view c.in_ok-touched.touched.items ≡ map (watch_json due.edits) c.args.watches.now =
    c.in_ok-touched.ensures ∙ (rw (c.deref-3.ensures.value, outcome.edits)) in
    let made : c.len-versions.result ≡ length c.args.outcome.now.edits.items = search rules in
    let versions : c.len-versions.result ≡ length due.edits = made ∙ ap length outcome.edits in
    is ∙ rw (order, sessions, watches, c.shape-shape.ensures.value, versions)) c.parts_value.ensures
