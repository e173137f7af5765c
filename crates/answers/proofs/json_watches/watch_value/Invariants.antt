use Rattle.std.proofs.Common.{◌≡◌, take}
use Rattle.std.specs.Prelude.{map}
use Rattle.serde_json.specs.View.{view}
use Rattle.answers.specs.Json.{natural}
use Rattle.answers.proofs.json_watches.watch_value.Given as goal

abbrev pub invariant-loop-version : goal.invariant-loop-version
invariant-loop-version l = map view l.values.items ≡ map natural (take l.version-index l.versions)
