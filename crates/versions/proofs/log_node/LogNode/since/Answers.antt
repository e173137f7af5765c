use Rattle.std.proofs.Common.{◌≡◌, ◌∙◌, ap}
use Rattle.dyadic.specs.Nodes.{low_of, high_of}
use Rattle.timeline.specs.Moments.{since as timeline_since}
use Rattle.timeline.specs.Pasts.{PastValue}
use Rattle.versions.specs.Versions.{since as since_version}
use Rattle.versions.specs.Pasts.{past_of_log}
use Rattle.versions.specs.LogNodes.{LogNodeValue}
use Rattle.versions.proofs.Pasts.{since-same}
use Rattle.versions.proofs.log_node.LogNode.since.Goals as goal

pub returns : goal.returns
returns c =
    let edits = c.self.inside.log.now.edits in let view = c.self.inside.view in
    let past : view.past ≡ past_of_log edits = c.self.invariant.past in
    let a = low_of view.node in let b = high_of view.node in let v = view.version in
    c.since.ensures ∙ ap (λ (p : PastValue). timeline_since a b p.ticks v) past ∙ since-same a b edits v c.self.invariant.within
    ∙ ap (λ (n : LogNodeValue). since_version (low_of n.node) (high_of n.node) n.log.edits n.version) c.self.view_is
