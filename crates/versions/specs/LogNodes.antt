-- The rows of a version of a log in a node.
use Rattle.std.specs.Prelude.{◌≡◌, ℕ, ◌≤◌, length}
use Rattle.dyadic.specs.Nodes.{NodeValue}
use Rattle.timeline.specs.Places.{NodeViewValue}
use Rattle.versions.specs.Versions.{LogValue, IsLog}
use Rattle.versions.specs.Pasts.{past_of_log}

-- a version of a log, and a node
pub record LogNodeValue : Type 0 where
  pub log : LogValue
  pub version : ℕ
  pub node : NodeValue

abbrev pub log_node : LogValue → NodeViewValue → LogNodeValue
log_node log view = record { log = log; version = view.version; node = view.node }

-- the view is one of the rows of the log
pub record IsViewOf (log : LogValue) (view : NodeViewValue) : Type 0 where
  pub log_is : IsLog log
  pub past : view.past ≡ past_of_log log.edits
  pub within : view.version ≤ length log.edits
