use Rattle.std.proofs.Common.{◌≡◌, ◌∙◌, ◌-◌, ◌<◌, ℕ, suc, arith, ap, sym, subst, add-one}
use Rattle.timeline.specs.declared.span.Span.{Span}
use Rattle.timeline.specs.declared.view.Totals.{Totals}
use Rattle.timeline.specs.Stores.{Store, store_of, span_at, edit_key, trie, weight_in}
use Rattle.timeline.specs.Views.{AreTotals, IsOverlap}
use Rattle.timeline.proofs.Drawings.{has-halves}
use Rattle.timeline.proofs.Readings.{span-place, span-read, key-place, key-read, made-read, key-low, size-read, edit-read}
use Rattle.timeline.proofs.Views.{outside-totals, inside-totals, left-here, right-here, left-lower, right-lower, left-few, right-few, sum-count, sum-weight, sum-totals}
use Rattle.timeline.proofs.view.+totals_under.Goals as goal

pub index-requires : goal.index-requires
index-requires t c =
    span-place c.args.tree.now c.args.at c.requires.stands

pub overflow_cast-span : goal.overflow_cast-span
overflow_cast-span t c =
    let tree = c.args.tree.now in
    let store : Store = store_of tree in
    let i = c.args.at in let a = c.args.from in let b = c.args.to in
    let s = c.index.result.now in
    let read = span-read tree i s c.requires.stands c.index.ensures in
    let made = made-read tree i s c.requires.stands read in
    let h = edit-read tree i s c.requires.stands read in omega (arith, h)

pub index-requires-2 : goal.index-requires-2
index-requires-2 t c =
    let tree = c.args.tree.now in
    let store : Store = store_of tree in
    let i = c.args.at in let a = c.args.from in let b = c.args.to in
    let s = c.index.result.now in
    let read = span-read tree i s c.requires.stands c.index.ensures in
    let made = made-read tree i s c.requires.stands read in
    key-place tree s.edit made

pub overlap_with-requires-clause-height : goal.overlap_with-requires-clause-height
overlap_with-requires-clause-height t c =
    let tree = c.args.tree.now in
    let store : Store = store_of tree in
    let i = c.args.at in let a = c.args.from in let b = c.args.to in
    let s = c.index.result.now in
    let read = span-read tree i s c.requires.stands c.index.ensures in
    let made = made-read tree i s c.requires.stands read in
    omega (arith, ap (λ (w : Span). w.height) read, c.requires.stands.low)

pub overlap_with-requires-clause-key : goal.overlap_with-requires-clause-key
overlap_with-requires-clause-key t c =
    let tree = c.args.tree.now in
    let store : Store = store_of tree in
    let i = c.args.at in let a = c.args.from in let b = c.args.to in
    let s = c.index.result.now in
    let read = span-read tree i s c.requires.stands c.index.ensures in
    let made = made-read tree i s c.requires.stands read in
    let key : c.index-2.result.now ≡ edit_key store (span_at store i).edit = key-read tree s.edit c.index-2.result.now made c.index-2.ensures ∙ ap (λ (w : Span). edit_key store w.edit) read in
    key-low tree i c.index-2.result.now c.requires.fit c.requires.stands key

pub overflow_cast-result : goal.overflow_cast-result
overflow_cast-result t c =
    let tree = c.args.tree.now in
    let store : Store = store_of tree in
    let i = c.args.at in let a = c.args.from in let b = c.args.to in
    let s = c.index.result.now in
    let read = span-read tree i s c.requires.stands c.index.ensures in
    let made = made-read tree i s c.requires.stands read in
    let h = size-read tree i s c.requires.stands read c.requires.room in omega (arith, h)

pub overflow_cast-result-in-Inside : goal.overflow_cast-result-in-Inside
overflow_cast-result-in-Inside t c =
    let tree = c.args.tree.now in
    let store : Store = store_of tree in
    let i = c.args.at in let a = c.args.from in let b = c.args.to in
    let s = c.index.result.now in
    let read = span-read tree i s c.requires.stands c.index.ensures in
    let made = made-read tree i s c.requires.stands read in
    let h = edit-read tree i s c.requires.stands read in omega (arith, h)

pub overflow_add-result : goal.overflow_add-result
overflow_add-result t c =
    let tree = c.args.tree.now in
    let store : Store = store_of tree in
    let i = c.args.at in let a = c.args.from in let b = c.args.to in
    let s = c.index.result.now in
    let read = span-read tree i s c.requires.stands c.index.ensures in
    let made = made-read tree i s c.requires.stands read in
    let e = edit-read tree i s c.requires.stands read in omega (arith, made-read tree i s c.requires.stands read, tree.keys.ok.0)

pub totals_under-left-requires : goal.totals_under-left-requires
totals_under-left-requires t c =
    let tree = c.args.tree.now in
    let store : Store = store_of tree in
    let i = c.args.at in let a = c.args.from in let b = c.args.to in
    let s = c.index.result.now in
    let read = span-read tree i s c.requires.stands c.index.ensures in
    let made = made-read tree i s c.requires.stands read in
    let key : c.index-2.result.now ≡ edit_key store (span_at store i).edit = key-read tree s.edit c.index-2.result.now made c.index-2.ensures ∙ ap (λ (w : Span). edit_key store w.edit) read in
    let overlap : IsOverlap (edit_key store (span_at store i).edit) (span_at store i).height a b c.overlap_with.result =
    subst (λ (n : ℕ). IsOverlap n (span_at store i).height a b c.overlap_with.result) key (subst (λ (w : Span). IsOverlap c.index-2.result.now w.height a b c.overlap_with.result) read c.overlap_with.ensures) in
    let some : (span_at store i).height ≡ 0 → ⊥ = subst (IsOverlap (edit_key store (span_at store i).edit) (span_at store i).height a b) c.in-Across.is overlap in
    let has = has-halves store i c.requires.stands some in
    let high : s.height ≡ suc has.half = ap (λ (w : Span). w.height) read ∙ has.higher in
    let smaller : s.height - 1 < t = omega (arith, high, ap (λ (w : Span). w.height) read, c.requires.low, c.decreases) in
    (smaller, (left-here store i a b s has read, (left-lower store i a b s has read, (left-few store i a b s has read c.requires.room, c.requires.fit))))

pub totals_under-right-requires : goal.totals_under-right-requires
totals_under-right-requires t c =
    let tree = c.args.tree.now in
    let store : Store = store_of tree in
    let i = c.args.at in let a = c.args.from in let b = c.args.to in
    let s = c.index.result.now in
    let read = span-read tree i s c.requires.stands c.index.ensures in
    let made = made-read tree i s c.requires.stands read in
    let key : c.index-2.result.now ≡ edit_key store (span_at store i).edit = key-read tree s.edit c.index-2.result.now made c.index-2.ensures ∙ ap (λ (w : Span). edit_key store w.edit) read in
    let overlap : IsOverlap (edit_key store (span_at store i).edit) (span_at store i).height a b c.overlap_with.result =
    subst (λ (n : ℕ). IsOverlap n (span_at store i).height a b c.overlap_with.result) key (subst (λ (w : Span). IsOverlap c.index-2.result.now w.height a b c.overlap_with.result) read c.overlap_with.ensures) in
    let some : (span_at store i).height ≡ 0 → ⊥ = subst (IsOverlap (edit_key store (span_at store i).edit) (span_at store i).height a b) c.in-Across.is overlap in
    let has = has-halves store i c.requires.stands some in
    let high : s.height ≡ suc has.half = ap (λ (w : Span). w.height) read ∙ has.higher in
    let smaller : s.height - 1 < t = omega (arith, high, ap (λ (w : Span). w.height) read, c.requires.low, c.decreases) in
    (smaller, (right-here store i a b s has read, (right-lower store i a b s has read, (right-few store i a b s has read c.requires.room, c.requires.fit))))

pub sum_of-requires-clause-count : goal.sum_of-requires-clause-count
sum_of-requires-clause-count t c =
    let tree = c.args.tree.now in
    let store : Store = store_of tree in
    let i = c.args.at in let a = c.args.from in let b = c.args.to in
    let s = c.index.result.now in
    let read = span-read tree i s c.requires.stands c.index.ensures in
    let made = made-read tree i s c.requires.stands read in
    let key : c.index-2.result.now ≡ edit_key store (span_at store i).edit = key-read tree s.edit c.index-2.result.now made c.index-2.ensures ∙ ap (λ (w : Span). edit_key store w.edit) read in
    let overlap : IsOverlap (edit_key store (span_at store i).edit) (span_at store i).height a b c.overlap_with.result =
    subst (λ (n : ℕ). IsOverlap n (span_at store i).height a b c.overlap_with.result) key (subst (λ (w : Span). IsOverlap c.index-2.result.now w.height a b c.overlap_with.result) read c.overlap_with.ensures) in
    let some : (span_at store i).height ≡ 0 → ⊥ = subst (IsOverlap (edit_key store (span_at store i).edit) (span_at store i).height a b) c.in-Across.is overlap in
    let has = has-halves store i c.requires.stands some in
    let high : s.height ≡ suc has.half = ap (λ (w : Span). w.height) read ∙ has.higher in
    sum-count store i a b s has read c.requires.room c.requires.fit c.totals_under-left.result c.totals_under-right.result c.totals_under-left.ensures c.totals_under-right.ensures

pub sum_of-requires-clause-weight : goal.sum_of-requires-clause-weight
sum_of-requires-clause-weight t c =
    let tree = c.args.tree.now in
    let store : Store = store_of tree in
    let i = c.args.at in let a = c.args.from in let b = c.args.to in
    let s = c.index.result.now in
    let read = span-read tree i s c.requires.stands c.index.ensures in
    let made = made-read tree i s c.requires.stands read in
    let key : c.index-2.result.now ≡ edit_key store (span_at store i).edit = key-read tree s.edit c.index-2.result.now made c.index-2.ensures ∙ ap (λ (w : Span). edit_key store w.edit) read in
    let overlap : IsOverlap (edit_key store (span_at store i).edit) (span_at store i).height a b c.overlap_with.result =
    subst (λ (n : ℕ). IsOverlap n (span_at store i).height a b c.overlap_with.result) key (subst (λ (w : Span). IsOverlap c.index-2.result.now w.height a b c.overlap_with.result) read c.overlap_with.ensures) in
    let some : (span_at store i).height ≡ 0 → ⊥ = subst (IsOverlap (edit_key store (span_at store i).edit) (span_at store i).height a b) c.in-Across.is overlap in
    let has = has-halves store i c.requires.stands some in
    let high : s.height ≡ suc has.half = ap (λ (w : Span). w.height) read ∙ has.higher in
    sum-weight store i a b s has read c.requires.room c.requires.fit c.totals_under-left.result c.totals_under-right.result c.totals_under-left.ensures c.totals_under-right.ensures

pub returns-in-Outside : goal.returns-in-Outside
returns-in-Outside t c =
    let tree = c.args.tree.now in
    let store : Store = store_of tree in
    let i = c.args.at in let a = c.args.from in let b = c.args.to in
    let s = c.index.result.now in
    let read = span-read tree i s c.requires.stands c.index.ensures in
    let made = made-read tree i s c.requires.stands read in
    let key : c.index-2.result.now ≡ edit_key store (span_at store i).edit = key-read tree s.edit c.index-2.result.now made c.index-2.ensures ∙ ap (λ (w : Span). edit_key store w.edit) read in
    let overlap : IsOverlap (edit_key store (span_at store i).edit) (span_at store i).height a b c.overlap_with.result =
    subst (λ (n : ℕ). IsOverlap n (span_at store i).height a b c.overlap_with.result) key (subst (λ (w : Span). IsOverlap c.index-2.result.now w.height a b c.overlap_with.result) read c.overlap_with.ensures) in
    subst (λ (w : Totals). AreTotals a b (trie store i) w) (sym c.nothing.ensures)
    (outside-totals store i a b c.requires.stands (subst (IsOverlap (edit_key store (span_at store i).edit) (span_at store i).height a b) c.in-Outside.is overlap))

pub returns-in-Inside : goal.returns-in-Inside
returns-in-Inside t c =
    let tree = c.args.tree.now in
    let store : Store = store_of tree in
    let i = c.args.at in let a = c.args.from in let b = c.args.to in
    let s = c.index.result.now in
    let read = span-read tree i s c.requires.stands c.index.ensures in
    let made = made-read tree i s c.requires.stands read in
    let key : c.index-2.result.now ≡ edit_key store (span_at store i).edit = key-read tree s.edit c.index-2.result.now made c.index-2.ensures ∙ ap (λ (w : Span). edit_key store w.edit) read in
    let overlap : IsOverlap (edit_key store (span_at store i).edit) (span_at store i).height a b c.overlap_with.result =
    subst (λ (n : ℕ). IsOverlap n (span_at store i).height a b c.overlap_with.result) key (subst (λ (w : Span). IsOverlap c.index-2.result.now w.height a b c.overlap_with.result) read c.overlap_with.ensures) in
    let inside = subst (IsOverlap (edit_key store (span_at store i).edit) (span_at store i).height a b) c.in-Inside.is overlap in
    let totals = inside-totals store i a b c.requires.stands inside.0 inside.1 in
    record {
      count = ap (λ (w : Span). w.count) read ∙ totals.count;
      weighed = c.weight.ensures.value ∙ ap weight_in read ∙ totals.weighed;
      touched = add-one s.edit ∙ ap (λ (w : Span). suc w.edit) read ∙ totals.touched;
    }

pub returns-in-Across : goal.returns-in-Across
returns-in-Across t c =
    let tree = c.args.tree.now in
    let store : Store = store_of tree in
    let i = c.args.at in let a = c.args.from in let b = c.args.to in
    let s = c.index.result.now in
    let read = span-read tree i s c.requires.stands c.index.ensures in
    let made = made-read tree i s c.requires.stands read in
    let key : c.index-2.result.now ≡ edit_key store (span_at store i).edit = key-read tree s.edit c.index-2.result.now made c.index-2.ensures ∙ ap (λ (w : Span). edit_key store w.edit) read in
    let overlap : IsOverlap (edit_key store (span_at store i).edit) (span_at store i).height a b c.overlap_with.result =
    subst (λ (n : ℕ). IsOverlap n (span_at store i).height a b c.overlap_with.result) key (subst (λ (w : Span). IsOverlap c.index-2.result.now w.height a b c.overlap_with.result) read c.overlap_with.ensures) in
    let some : (span_at store i).height ≡ 0 → ⊥ = subst (IsOverlap (edit_key store (span_at store i).edit) (span_at store i).height a b) c.in-Across.is overlap in
    let has = has-halves store i c.requires.stands some in
    let high : s.height ≡ suc has.half = ap (λ (w : Span). w.height) read ∙ has.higher in
    subst (λ (w : Totals). AreTotals a b (trie store i) w) (sym c.sum_of.ensures) (sum-totals store i a b s has read c.requires.room c.requires.fit c.totals_under-left.result c.totals_under-right.result c.totals_under-left.ensures c.totals_under-right.ensures)
