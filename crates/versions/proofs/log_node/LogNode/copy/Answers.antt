use Rattle.std.proofs.Common.{◌≡◌, ◌∙◌, List, ap}
use Rattle.std.proofs.lemmas.Result.{IfOk-weaker}
use Rattle.definitions.specs.Rows.{RowValue, rows_in}
use Rattle.dyadic.specs.Nodes.{low_of, high_of}
use Rattle.timeline.specs.Pasts.{PastValue, rows_at as timeline_rows}
use Rattle.versions.specs.Versions.{rows_at}
use Rattle.versions.specs.Pasts.{past_of_log}
use Rattle.versions.specs.LogNodes.{LogNodeValue}
use Rattle.versions.proofs.Pasts.{rows-same}
use Rattle.versions.proofs.log_node.LogNode.copy.Goals as goal

pub returns : goal.returns
returns c =
    let edits = c.self.inside.log.now.edits in let view = c.self.inside.view in
    let past : view.past ≡ past_of_log edits = c.self.invariant.past in
    let a = low_of view.node in let b = high_of view.node in let v = view.version in
    let rows : rows_in a b (timeline_rows view.past v) ≡ rows_in (low_of c.args.self.now.node) (high_of c.args.self.now.node) (rows_at c.args.self.now.log.edits c.args.self.now.version) =
    ap (λ (p : PastValue). rows_in a b (timeline_rows p v)) past ∙ ap (rows_in a b) (rows-same edits v c.self.invariant.within)
    ∙ ap (λ (n : LogNodeValue). rows_in (low_of n.node) (high_of n.node) (rows_at n.log.edits n.version)) c.self.view_is in
    IfOk-weaker c.copy.result (λ (list : List RowValue). list ≡ rows_in a b (timeline_rows view.past v))
    (λ (list : List RowValue). list ≡ rows_in (low_of c.args.self.now.node) (high_of c.args.self.now.node) (rows_at c.args.self.now.log.edits c.args.self.now.version)) (λ list e. e ∙ rows) c.copy.ensures
