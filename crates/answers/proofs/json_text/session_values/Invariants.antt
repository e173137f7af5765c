use Rattle.std.proofs.Common.{◌≡◌, List, take}
use Rattle.std.specs.Prelude.{map}
use Rattle.serde_json.specs.View.{view}
use Rattle.session.specs.Play.{Due}
use Rattle.session.specs.Answers.{ShowsAll}
use Rattle.answers.specs.Json.{list, answers_json}
use Rattle.answers.proofs.json_text.session_values.Given as goal

abbrev pub invariant-loop-transcript : goal.invariant-loop-transcript
invariant-loop-transcript l =
    (sessions : List (List Due)) → ShowsAll l.hall (take l.transcript-index l.transcripts) sessions → map view l.values.items ≡ map (λ dues. list (answers_json l.hall 1 dues)) sessions
