use Rattle.std.proofs.Common.{◌≡◌, take}
use Rattle.std.specs.Prelude.{map}
use Rattle.serde_json.specs.View.{view}
use Rattle.answers.specs.Json.{natural}
use Rattle.answers.proofs.json_text.order_values.Given as goal

abbrev pub invariant-loop-session : goal.invariant-loop-session
invariant-loop-session l = map view l.values.items ≡ map natural (take l.session-index l.order)
