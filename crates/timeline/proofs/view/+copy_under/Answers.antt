use Rattle.std.proofs.Common.{◌≡◌, ◌∙◌, ◌-◌, ◌<◌, ◌++◌, ℕ, suc, arith, ap, sym, subst, List, append_assoc}
use Rattle.std.proofs.lemmas.Result.{on_ok_weaker}
use Rattle.definitions.specs.Rows.{RowValue}
use Rattle.timeline.specs.declared.span.Span.{Span}
use Rattle.timeline.specs.Keys.{keyed_in}
use Rattle.timeline.specs.Tries.{rows_of}
use Rattle.timeline.specs.Stores.{Store, store_of, span_at, edit_key, trie}
use Rattle.timeline.specs.Views.{IsOverlap}
use Rattle.timeline.proofs.Drawings.{has-halves}
use Rattle.timeline.proofs.Readings.{span-place, span-read, key-place, key-read, made-read, key-low, edit-read}
use Rattle.timeline.proofs.Views.{none-outside, all-inside, left-here, right-here, left-lower, right-lower, keyed-are, nothing-more}
use Rattle.timeline.proofs.view.+copy_under.Goals as goal

pub index-span-requires : goal.index-span-requires
index-span-requires t c =
    span-place c.args.tree.now c.args.at c.requires.stands

pub overflow_cast-span : goal.overflow_cast-span
overflow_cast-span t c =
    let tree = c.args.tree.now in
    let store : Store = store_of tree in
    let i = c.args.at in let a = c.args.from in let b = c.args.to in
    let s = c.index-span.result.now in
    let read = span-read tree i s c.requires.stands c.index-span.ensures in
    let made = made-read tree i s c.requires.stands read in
    let h = edit-read tree i s c.requires.stands read in omega (arith, h)

pub index-requires : goal.index-requires
index-requires t c =
    let tree = c.args.tree.now in
    let store : Store = store_of tree in
    let i = c.args.at in let a = c.args.from in let b = c.args.to in
    let s = c.index-span.result.now in
    let read = span-read tree i s c.requires.stands c.index-span.ensures in
    let made = made-read tree i s c.requires.stands read in
    key-place tree s.edit made

pub overlap_with-requires-clause-height : goal.overlap_with-requires-clause-height
overlap_with-requires-clause-height t c =
    let tree = c.args.tree.now in
    let store : Store = store_of tree in
    let i = c.args.at in let a = c.args.from in let b = c.args.to in
    let s = c.index-span.result.now in
    let read = span-read tree i s c.requires.stands c.index-span.ensures in
    let made = made-read tree i s c.requires.stands read in
    omega (arith, ap (λ (w : Span). w.height) read, c.requires.stands.low)

pub overlap_with-requires-clause-key : goal.overlap_with-requires-clause-key
overlap_with-requires-clause-key t c =
    let tree = c.args.tree.now in
    let store : Store = store_of tree in
    let i = c.args.at in let a = c.args.from in let b = c.args.to in
    let s = c.index-span.result.now in
    let read = span-read tree i s c.requires.stands c.index-span.ensures in
    let made = made-read tree i s c.requires.stands read in
    let key : c.index.result.now ≡ edit_key store (span_at store i).edit = key-read tree s.edit c.index.result.now made c.index.ensures ∙ ap (λ (w : Span). edit_key store w.edit) read in
    key-low tree i c.index.result.now c.requires.fit c.requires.stands key

pub returns-in-Outside : goal.returns-in-Outside
returns-in-Outside t c =
    let tree = c.args.tree.now in
    let store : Store = store_of tree in
    let i = c.args.at in let a = c.args.from in let b = c.args.to in
    let s = c.index-span.result.now in
    let read = span-read tree i s c.requires.stands c.index-span.ensures in
    let made = made-read tree i s c.requires.stands read in
    let key : c.index.result.now ≡ edit_key store (span_at store i).edit = key-read tree s.edit c.index.result.now made c.index.ensures ∙ ap (λ (w : Span). edit_key store w.edit) read in
    let overlap : IsOverlap (edit_key store (span_at store i).edit) (span_at store i).height a b c.overlap_with.result =
    subst (λ (n : ℕ). IsOverlap n (span_at store i).height a b c.overlap_with.result) key (subst (λ (w : Span). IsOverlap c.index.result.now w.height a b c.overlap_with.result) read c.overlap_with.ensures) in
    nothing-more c.args.rows.now.items (keyed_in a b (rows_of (trie store i)))
    (none-outside store i a b c.requires.stands (subst (IsOverlap (edit_key store (span_at store i).edit) (span_at store i).height a b) c.in-Outside.is overlap))

pub returns-in-Inside : goal.returns-in-Inside
returns-in-Inside t c =
    let tree = c.args.tree.now in
    let store : Store = store_of tree in
    let i = c.args.at in let a = c.args.from in let b = c.args.to in
    let s = c.index-span.result.now in
    let read = span-read tree i s c.requires.stands c.index-span.ensures in
    let made = made-read tree i s c.requires.stands read in
    let key : c.index.result.now ≡ edit_key store (span_at store i).edit = key-read tree s.edit c.index.result.now made c.index.ensures ∙ ap (λ (w : Span). edit_key store w.edit) read in
    let overlap : IsOverlap (edit_key store (span_at store i).edit) (span_at store i).height a b c.overlap_with.result =
    subst (λ (n : ℕ). IsOverlap n (span_at store i).height a b c.overlap_with.result) key (subst (λ (w : Span). IsOverlap c.index.result.now w.height a b c.overlap_with.result) read c.overlap_with.ensures) in
    let inside = subst (IsOverlap (edit_key store (span_at store i).edit) (span_at store i).height a b) c.in-Inside.is overlap in
    on_ok_weaker c.copy_all.result
    (λ e. e ∙ sym (ap (λ (rs : List RowValue). c.args.rows.now.items ++ rs) (all-inside store i a b c.requires.stands inside.0 inside.1))) c.copy_all.ensures

pub copy_under-requires : goal.copy_under-requires
copy_under-requires t c =
    let tree = c.args.tree.now in
    let store : Store = store_of tree in
    let i = c.args.at in let a = c.args.from in let b = c.args.to in
    let s = c.index-span.result.now in
    let read = span-read tree i s c.requires.stands c.index-span.ensures in
    let made = made-read tree i s c.requires.stands read in
    let key : c.index.result.now ≡ edit_key store (span_at store i).edit = key-read tree s.edit c.index.result.now made c.index.ensures ∙ ap (λ (w : Span). edit_key store w.edit) read in
    let overlap : IsOverlap (edit_key store (span_at store i).edit) (span_at store i).height a b c.overlap_with.result =
    subst (λ (n : ℕ). IsOverlap n (span_at store i).height a b c.overlap_with.result) key (subst (λ (w : Span). IsOverlap c.index.result.now w.height a b c.overlap_with.result) read c.overlap_with.ensures) in
    let some : (span_at store i).height ≡ 0 → ⊥ = subst (IsOverlap (edit_key store (span_at store i).edit) (span_at store i).height a b) c.in-Across.is overlap in
    let has = has-halves store i c.requires.stands some in
    let high : s.height ≡ suc has.half = ap (λ (w : Span). w.height) read ∙ has.higher in
    let smaller : s.height - 1 < t = omega (arith, high, ap (λ (w : Span). w.height) read, c.requires.low, c.decreases) in
    (smaller, (left-here store i a b s has read, (left-lower store i a b s has read, c.requires.fit)))

pub copy_under-requires-in-Across : goal.copy_under-requires-in-Across
copy_under-requires-in-Across t c =
    let tree = c.args.tree.now in
    let store : Store = store_of tree in
    let i = c.args.at in let a = c.args.from in let b = c.args.to in
    let s = c.index-span.result.now in
    let read = span-read tree i s c.requires.stands c.index-span.ensures in
    let made = made-read tree i s c.requires.stands read in
    let key : c.index.result.now ≡ edit_key store (span_at store i).edit = key-read tree s.edit c.index.result.now made c.index.ensures ∙ ap (λ (w : Span). edit_key store w.edit) read in
    let overlap : IsOverlap (edit_key store (span_at store i).edit) (span_at store i).height a b c.overlap_with.result =
    subst (λ (n : ℕ). IsOverlap n (span_at store i).height a b c.overlap_with.result) key (subst (λ (w : Span). IsOverlap c.index.result.now w.height a b c.overlap_with.result) read c.overlap_with.ensures) in
    let some : (span_at store i).height ≡ 0 → ⊥ = subst (IsOverlap (edit_key store (span_at store i).edit) (span_at store i).height a b) c.in-Across.is overlap in
    let has = has-halves store i c.requires.stands some in
    let high : s.height ≡ suc has.half = ap (λ (w : Span). w.height) read ∙ has.higher in
    let smaller : s.height - 1 < t = omega (arith, high, ap (λ (w : Span). w.height) read, c.requires.low, c.decreases) in
    (smaller, (right-here store i a b s has read, (right-lower store i a b s has read, c.requires.fit)))

pub returns-in_ok-copy_under-in-Across : goal.returns-in_ok-copy_under-in-Across
returns-in_ok-copy_under-in-Across t c =
    let tree = c.args.tree.now in
    let store : Store = store_of tree in
    let i = c.args.at in let a = c.args.from in let b = c.args.to in
    let s = c.index-span.result.now in
    let read = span-read tree i s c.requires.stands c.index-span.ensures in
    let made = made-read tree i s c.requires.stands read in
    let key : c.index.result.now ≡ edit_key store (span_at store i).edit = key-read tree s.edit c.index.result.now made c.index.ensures ∙ ap (λ (w : Span). edit_key store w.edit) read in
    let overlap : IsOverlap (edit_key store (span_at store i).edit) (span_at store i).height a b c.overlap_with.result =
    subst (λ (n : ℕ). IsOverlap n (span_at store i).height a b c.overlap_with.result) key (subst (λ (w : Span). IsOverlap c.index.result.now w.height a b c.overlap_with.result) read c.overlap_with.ensures) in
    let some : (span_at store i).height ≡ 0 → ⊥ = subst (IsOverlap (edit_key store (span_at store i).edit) (span_at store i).height a b) c.in-Across.is overlap in
    let has = has-halves store i c.requires.stands some in
    let high : s.height ≡ suc has.half = ap (λ (w : Span). w.height) read ∙ has.higher in
    let rows = c.args.rows.now.items in let lefts = keyed_in a b (rows_of (trie store s.left)) in let rights = keyed_in a b (rows_of (trie store s.right)) in
    on_ok_weaker c.copy_under-in-Across.result
    (λ e. e ∙ ap (λ (rs : List RowValue). rs ++ rights) c.in_ok-copy_under-in-Across.ensures ∙ append_assoc rows lefts rights ∙ sym (ap (λ (rs : List RowValue). rows ++ rs) (keyed-are store i a b s has read)))
    c.copy_under-in-Across.ensures
