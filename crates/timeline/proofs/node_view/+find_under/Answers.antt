use Rattle.std.proofs.Common.{◌≡◌, ◌∙◌, ◌-◌, ◌/◌, ◌<◌, ◌≤◌, ◌^◌, ℕ, suc, arith, ap, sym}
use Rattle.std.proofs.lemmas.Bool.{OnTrue_at, OnFalse_at}
use Rattle.timeline.specs.declared.span.Span.{Span}
use Rattle.timeline.specs.Stores.{Store, store_of, span_at, edit_key}
use Rattle.timeline.proofs.Drawings.{has-halves}
use Rattle.timeline.proofs.Readings.{span-place, span-read, key-place, key-read, made-read}
use Rattle.timeline.proofs.Views.{left-here, right-here, left-lower, right-lower}
use Rattle.timeline.proofs.Places.{placed-here, placed-nowhere, placed-left, placed-right}
use Rattle.timeline.proofs.node_view.+find_under.Goals as goal

pub index-span-requires : goal.index-span-requires
index-span-requires t c =
    span-place c.args.tree.now c.args.at c.requires.stands

pub index-requires : goal.index-requires
index-requires t c =
    let tree = c.args.tree.now in
    let store : Store = store_of tree in
    let i = c.args.at in let d = c.args.digits in let k = c.args.key in
    let s = c.index-span.result.now in
    let read = span-read tree i s c.requires.stands c.index-span.ensures in
    key-place tree s.edit (made-read tree i s c.requires.stands read)

pub returns-then-prefix : goal.returns-then-prefix
returns-then-prefix t c =
    let tree = c.args.tree.now in
    let store : Store = store_of tree in
    let i = c.args.at in let d = c.args.digits in let k = c.args.key in
    let s = c.index-span.result.now in
    let read = span-read tree i s c.requires.stands c.index-span.ensures in
    let low : (span_at store i).height ≤ d = omega (arith, ap (λ (w : Span). w.height) read, c.if-span-digits.true) in
    let key : c.index.result.now ≡ edit_key store (span_at store i).edit = key-read tree s.edit c.index.result.now (made-read tree i s c.requires.stands read) c.index.ensures ∙ ap (λ (w : Span). edit_key store w.edit) read in
    let found : c.prefix.result ≡ edit_key store (span_at store i).edit / 2 ^ d = c.prefix.ensures ∙ ap (λ (n : ℕ). n / 2 ^ d) key in
    placed-here store i k d c.requires.stands low (sym found ∙ c.if-prefix.true ∙ c.prefix-then-span-digits.ensures)

pub returns-then-span-digits : goal.returns-then-span-digits
returns-then-span-digits t c =
    let tree = c.args.tree.now in
    let store : Store = store_of tree in
    let i = c.args.at in let d = c.args.digits in let k = c.args.key in
    let s = c.index-span.result.now in
    let read = span-read tree i s c.requires.stands c.index-span.ensures in
    let low : (span_at store i).height ≤ d = omega (arith, ap (λ (w : Span). w.height) read, c.if-span-digits.true) in
    let key : c.index.result.now ≡ edit_key store (span_at store i).edit = key-read tree s.edit c.index.result.now (made-read tree i s c.requires.stands read) c.index.ensures ∙ ap (λ (w : Span). edit_key store w.edit) read in
    let found : c.prefix.result ≡ edit_key store (span_at store i).edit / 2 ^ d = c.prefix.ensures ∙ ap (λ (n : ℕ). n / 2 ^ d) key in
    placed-nowhere store i k d c.requires.stands low (λ e. c.if-prefix.false (found ∙ e ∙ sym c.prefix-then-span-digits.ensures))

pub is_lower-requires : goal.is_lower-requires
is_lower-requires t c =
    let tree = c.args.tree.now in
    let store : Store = store_of tree in
    let i = c.args.at in let d = c.args.digits in let k = c.args.key in
    let s = c.index-span.result.now in
    let read = span-read tree i s c.requires.stands c.index-span.ensures in
    omega (arith, ap (λ (w : Span). w.height) read, c.requires.stands.low)

pub find_under-requires : goal.find_under-requires
find_under-requires t c =
    let tree = c.args.tree.now in
    let store : Store = store_of tree in
    let i = c.args.at in let d = c.args.digits in let k = c.args.key in
    let s = c.index-span.result.now in
    let read = span-read tree i s c.requires.stands c.index-span.ensures in
    let some : (span_at store i).height ≡ 0 → ⊥ = λ e. absurd (omega (arith, e, ap (λ (w : Span). w.height) read, c.if-span-digits.false)) in
    let has = has-halves store i c.requires.stands some in
    let high : s.height ≡ suc (s.height - 1) = omega (arith, ap (λ (w : Span). w.height) read, has.higher) in
    let smaller : s.height - 1 < t = omega (arith, high, ap (λ (w : Span). w.height) read, c.requires.low, c.decreases) in
    (smaller, (left-here store i 0 0 s has read, (left-lower store i 0 0 s has read, c.requires.digits)))

pub find_under-requires-else-is_lower : goal.find_under-requires-else-is_lower
find_under-requires-else-is_lower t c =
    let tree = c.args.tree.now in
    let store : Store = store_of tree in
    let i = c.args.at in let d = c.args.digits in let k = c.args.key in
    let s = c.index-span.result.now in
    let read = span-read tree i s c.requires.stands c.index-span.ensures in
    let some : (span_at store i).height ≡ 0 → ⊥ = λ e. absurd (omega (arith, e, ap (λ (w : Span). w.height) read, c.if-span-digits.false)) in
    let has = has-halves store i c.requires.stands some in
    let high : s.height ≡ suc (s.height - 1) = omega (arith, ap (λ (w : Span). w.height) read, has.higher) in
    let smaller : s.height - 1 < t = omega (arith, high, ap (λ (w : Span). w.height) read, c.requires.low, c.decreases) in
    (smaller, (right-here store i 0 0 s has read, (right-lower store i 0 0 s has read, c.requires.digits)))

pub returns-then-is_lower : goal.returns-then-is_lower
returns-then-is_lower t c =
    let tree = c.args.tree.now in
    let store : Store = store_of tree in
    let i = c.args.at in let d = c.args.digits in let k = c.args.key in
    let s = c.index-span.result.now in
    let read = span-read tree i s c.requires.stands c.index-span.ensures in
    let some : (span_at store i).height ≡ 0 → ⊥ = λ e. absurd (omega (arith, e, ap (λ (w : Span). w.height) read, c.if-span-digits.false)) in
    let has = has-halves store i c.requires.stands some in
    let high : s.height ≡ suc (s.height - 1) = omega (arith, ap (λ (w : Span). w.height) read, has.higher) in
    let order : d ≤ s.height - 1 = omega (arith, c.if-span-digits.false) in
    placed-left store i k d (s.height - 1) s c.requires.stands has read high order c.find_under.result (OnTrue_at c.if-is_lower.true c.is_lower.ensures.lower) c.find_under.ensures

pub returns-else-is_lower : goal.returns-else-is_lower
returns-else-is_lower t c =
    let tree = c.args.tree.now in
    let store : Store = store_of tree in
    let i = c.args.at in let d = c.args.digits in let k = c.args.key in
    let s = c.index-span.result.now in
    let read = span-read tree i s c.requires.stands c.index-span.ensures in
    let some : (span_at store i).height ≡ 0 → ⊥ = λ e. absurd (omega (arith, e, ap (λ (w : Span). w.height) read, c.if-span-digits.false)) in
    let has = has-halves store i c.requires.stands some in
    let high : s.height ≡ suc (s.height - 1) = omega (arith, ap (λ (w : Span). w.height) read, has.higher) in
    let order : d ≤ s.height - 1 = omega (arith, c.if-span-digits.false) in
    placed-right store i k d (s.height - 1) s c.requires.stands has read high order c.find_under-else-is_lower.result (OnFalse_at c.if-is_lower.false c.is_lower.ensures.higher) c.find_under-else-is_lower.ensures
