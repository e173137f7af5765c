use Rattle.std.proofs.Common.{◌≡◌, ◌∙◌, ◌-◌, ◌<◌, ◌++◌, ◌∷◌, [], suc, arith, ap, sym, length, List, append_assoc}
use Rattle.std.proofs.lemmas.Result.{on_ok_weaker}
use Rattle.definitions.specs.Rows.{RowValue}
use Rattle.timeline.specs.declared.span.Span.{Span}
use Rattle.timeline.specs.Tries.{rows_of}
use Rattle.timeline.specs.Stores.{Store, store_of, span_at, row_at, trie}
use Rattle.timeline.proofs.Drawings.{has-halves}
use Rattle.timeline.proofs.Readings.{span-place, span-read, row-place, row-read}
use Rattle.timeline.proofs.Views.{left-here, right-here, left-lower, right-lower, rows-are, nothing-more, no-rows-at, one-row, one-within}
use Rattle.timeline.proofs.view.+copy_all.Goals as goal

pub index-span-requires : goal.index-span-requires
index-span-requires t c =
    span-place c.args.tree.now c.args.at c.requires.stands

pub returns-then-span-eq0 : goal.returns-then-span-eq0
returns-then-span-eq0 t c =
    let tree = c.args.tree.now in
    let store : Store = store_of tree in
    let i = c.args.at in
    let s = c.index-span.result.now in
    let read = span-read tree i s c.requires.stands c.index-span.ensures in
    nothing-more c.args.rows.now.items (rows_of (trie store i)) (no-rows-at store i c.requires.stands (sym (ap (λ (w : Span). w.count) read) ∙ c.if-span-eq0.true))

pub overflow_cast-span : goal.overflow_cast-span
overflow_cast-span t c =
    let tree = c.args.tree.now in
    let store : Store = store_of tree in
    let i = c.args.at in
    let s = c.index-span.result.now in
    let read = span-read tree i s c.requires.stands c.index-span.ensures in
    let right : s.right < length store.rows = one-within store i s c.requires.stands read c.if-span-eq0-2.true c.if-span-eq0.false in
    omega (arith, right, tree.rows.ok.0)

pub index-requires : goal.index-requires
index-requires t c =
    let tree = c.args.tree.now in
    let store : Store = store_of tree in
    let i = c.args.at in
    let s = c.index-span.result.now in
    let read = span-read tree i s c.requires.stands c.index-span.ensures in
    let right : s.right < length store.rows = one-within store i s c.requires.stands read c.if-span-eq0-2.true c.if-span-eq0.false in
    row-place tree s.right right

pub returns-then-span-eq0-2 : goal.returns-then-span-eq0-2
returns-then-span-eq0-2 t c =
    let tree = c.args.tree.now in
    let store : Store = store_of tree in
    let i = c.args.at in
    let s = c.index-span.result.now in
    let read = span-read tree i s c.requires.stands c.index-span.ensures in
    let right : s.right < length store.rows = one-within store i s c.requires.stands read c.if-span-eq0-2.true c.if-span-eq0.false in
    let copy = c.in_ok-copy.field-0 in
    let row : copy ≡ row_at store s.right = c.in_ok-copy.ensures ∙ row-read tree s.right c.index.result.now right c.index.ensures in
    c.in_ok-push.ensures.items ∙ ap (λ (r : RowValue). c.args.rows.now.items ++ r ∷ []) row
    ∙ sym (ap (λ (rs : List RowValue). c.args.rows.now.items ++ rs) (one-row store i s c.requires.stands read c.if-span-eq0-2.true c.if-span-eq0.false))

pub copy_all-requires : goal.copy_all-requires
copy_all-requires t c =
    let tree = c.args.tree.now in
    let store : Store = store_of tree in
    let i = c.args.at in
    let s = c.index-span.result.now in
    let read = span-read tree i s c.requires.stands c.index-span.ensures in
    let some : (span_at store i).height ≡ 0 → ⊥ = λ e. c.if-span-eq0-2.false (ap (λ (w : Span). w.height) read ∙ e) in
    let has = has-halves store i c.requires.stands some in
    let high : s.height ≡ suc has.half = ap (λ (w : Span). w.height) read ∙ has.higher in
    let smaller : s.height - 1 < t = omega (arith, high, ap (λ (w : Span). w.height) read, c.requires.low, c.decreases) in
    (smaller, (left-here store i 0 0 s has read, left-lower store i 0 0 s has read))

pub copy_all-requires-2 : goal.copy_all-requires-2
copy_all-requires-2 t c =
    let tree = c.args.tree.now in
    let store : Store = store_of tree in
    let i = c.args.at in
    let s = c.index-span.result.now in
    let read = span-read tree i s c.requires.stands c.index-span.ensures in
    let some : (span_at store i).height ≡ 0 → ⊥ = λ e. c.if-span-eq0-2.false (ap (λ (w : Span). w.height) read ∙ e) in
    let has = has-halves store i c.requires.stands some in
    let high : s.height ≡ suc has.half = ap (λ (w : Span). w.height) read ∙ has.higher in
    let smaller : s.height - 1 < t = omega (arith, high, ap (λ (w : Span). w.height) read, c.requires.low, c.decreases) in
    (smaller, (right-here store i 0 0 s has read, right-lower store i 0 0 s has read))

pub returns : goal.returns
returns t c =
    let tree = c.args.tree.now in
    let store : Store = store_of tree in
    let i = c.args.at in
    let s = c.index-span.result.now in
    let read = span-read tree i s c.requires.stands c.index-span.ensures in
    let some : (span_at store i).height ≡ 0 → ⊥ = λ e. c.if-span-eq0-2.false (ap (λ (w : Span). w.height) read ∙ e) in
    let has = has-halves store i c.requires.stands some in
    let high : s.height ≡ suc has.half = ap (λ (w : Span). w.height) read ∙ has.higher in
    let rows = c.args.rows.now.items in let lefts = rows_of (trie store s.left) in let rights = rows_of (trie store s.right) in
    on_ok_weaker c.copy_all-2.result
    (λ e. e ∙ ap (λ (rs : List RowValue). rs ++ rights) c.in_ok-copy_all.ensures ∙ append_assoc rows lefts rights ∙ sym (ap (λ (rs : List RowValue). rows ++ rs) (rows-are store i 0 0 s has read)))
    c.copy_all-2.ensures
