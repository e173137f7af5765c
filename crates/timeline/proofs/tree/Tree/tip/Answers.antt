use Rattle.std.proofs.Common.{[], sym, subst}
use Rattle.std.specs.Prelude.{Option, IfOk}
use Rattle.std.proofs.lemmas.Result.{IfOk-weaker}
use Rattle.definitions.specs.Rows.{RowValue}
use Rattle.timeline.specs.Stores.{Store, store_of}
use Rattle.timeline.specs.Puts.{IsAppended, IsTip, listed}
use Rattle.timeline.proofs.Tips.{bare-tip}
use Rattle.timeline.proofs.tree.Tree.tip.Goals as goal

pub returns-in-None-clause-ok : goal.returns-in-None-clause-ok
returns-in-None-clause-ok c =
    let old : Store = store_of c.args.self.now in
    let new : Store = store_of c.push_span.new.self in
    subst (λ (row : Option RowValue). IfOk c.push_span.result (IsTip new c.args.edit (listed row))) (sym c.in-None.is)
    (IfOk-weaker c.push_span.result (IsAppended old new c.new.result) (IsTip new c.args.edit []) (λ j a. bare-tip old new j c.args.edit c.new.result a c.new.ensures c.requires.edit) c.push_span.ensures.ok)
