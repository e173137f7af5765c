use Rattle.std.proofs.Common.{◌≡◌, ◌∙◌, [], ◌∷◌, length, ap, refl, arith}
use Rattle.std.proofs.lemmas.Result.{IfOk-weaker}
use Rattle.definitions.specs.Moves.{move_weight}
use Rattle.definitions.specs.Rows.{RowValue}
use Rattle.timeline.specs.Stores.{Store, store_of}
use Rattle.timeline.specs.Puts.{IsAppended, IsTip}
use Rattle.timeline.proofs.Tips.{one-tip, one-gains, gained-either}
use Rattle.timeline.proofs.tree.Tree.tip_with.Goals as goal

pub returns-clause-ok : goal.returns-clause-ok
returns-clause-ok c =
    let tree = c.args.self.now in let row : RowValue = c.args.row in
    let old : Store = store_of tree in
    let mid : Store = record { spans = tree.spans.items; rows = c.push.new.self.items; keys = tree.keys.items } in
    let new : Store = store_of c.push_span.new.self in
    let place = c.in_ok-place.place in
    let place-is : place ≡ length old.rows = omega (arith, c.in_ok-place.ensures, c.len.ensures, tree.rows.ok.0) in
    let weighed : c.weight-weight.result ≡ move_weight row.x = c.weight-weight.ensures.value ∙ ap move_weight c.x.ensures in
    IfOk-weaker c.push_span.result (IsAppended mid new c.new.result) (IsTip new c.args.edit (row ∷ []))
    (λ j a. one-tip old mid new c.args.edit place row place-is refl c.in_ok-push.ensures.items refl j c.weight-weight.result c.new.result a c.new.ensures c.requires.edit c.requires.key weighed)
    c.push_span.ensures.ok

pub returns-clause-grown : goal.returns-clause-grown
returns-clause-grown c =
    let tree = c.args.self.now in let row : RowValue = c.args.row in
    let old : Store = store_of tree in
    let mid : Store = record { spans = tree.spans.items; rows = c.push.new.self.items; keys = tree.keys.items } in
    let new : Store = store_of c.push_span.new.self in
    let place = c.in_ok-place.place in
    let place-is : place ≡ length old.rows = omega (arith, c.in_ok-place.ensures, c.len.ensures, tree.rows.ok.0) in
    let weighed : c.weight-weight.result ≡ move_weight row.x = c.weight-weight.ensures.value ∙ ap move_weight c.x.ensures in
    one-gains old mid new c.args.edit place row place-is refl c.in_ok-push.ensures.items refl (gained-either mid new c.new.result c.push_span.result c.push_span.ensures.ok c.push_span.ensures.err)
    c.requires.fit (record { young = c.requires.birth; light = omega (arith, weighed, c.weight-weight.ensures.bound) })
