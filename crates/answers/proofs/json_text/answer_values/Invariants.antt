use Rattle.std.proofs.Common.{◌≡◌, List, take}
use Rattle.std.specs.Prelude.{map}
use Rattle.serde_json.specs.View.{view}
use Rattle.session.specs.Play.{Due}
use Rattle.session.specs.Answers.{ShowsEach}
use Rattle.answers.specs.Json.{answers_json}
use Rattle.answers.proofs.json_text.answer_values.Given as goal

abbrev pub invariant-loop-before : goal.invariant-loop-before
invariant-loop-before l = (dues : List Due) → ShowsEach l.hall (take l.before l.answers) dues → map view l.values.items ≡ answers_json l.hall 1 dues
