use Rattle.std.proofs.Common.{◌≡◌, take}
use Rattle.std.specs.Prelude.{map}
use Rattle.serde_json.specs.View.{view}
use Rattle.answers.specs.Json.{watch_json}
use Rattle.answers.proofs.json_watches.values_of.Given as goal

abbrev pub invariant-loop-before : goal.invariant-loop-before
invariant-loop-before l = map view l.values.items ≡ map (watch_json l.watches.log.edits) (take l.before l.watches.intervals)
