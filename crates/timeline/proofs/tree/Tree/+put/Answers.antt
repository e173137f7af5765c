use Rattle.std.proofs.Common.{◌≡◌, ◌∙◌, ◌+◌, ◌-◌, ◌*◌, ◌/◌, ◌<◌, ◌^◌, ℕ, suc, arith, ap, sym, subst, rules}
use Rattle.std.proofs.lemmas.Result.{IfOk-weaker, on_err_weaker}
use Rattle.std.proofs.lemmas.Bool.{OnTrue_at, OnFalse_at}
use Rattle.timeline.specs.declared.span.Span.{Span}
use Rattle.timeline.specs.Stores.{Store, store_of, span_at, edit_key}
use Rattle.timeline.specs.Puts.{IsJoined, IsPut}
use Rattle.timeline.proofs.Growth.{Gains-more}
use Rattle.timeline.proofs.Drawings.{stands-within, has-halves}
use Rattle.timeline.proofs.Puts.{half-low, left-stands, left-low, left-older, left-together, left-room, right-stands, right-low, right-older, right-together, right-room, lower-other, lower-count, lower-weight, lower-put, higher-other, higher-count, higher-weight, higher-put}
use Rattle.timeline.proofs.Grafts.{tip-put}
use Rattle.timeline.proofs.Readings.{span-place, span-read, key-place, key-read, made-read}
use Rattle.timeline.proofs.tree.Tree.+put.Goals as goal

pub index-old-requires : goal.index-old-requires
index-old-requires t c =
    span-place c.args.self.now c.args.at c.requires.stands

pub index-requires : goal.index-requires
index-requires t c =
    let tree = c.args.self.now in
    let old : Store = store_of tree in
    let i = c.args.at in let edit = c.args.edit in let tip = c.args.tip in let limit = c.args.limit in
    let s = c.index-old.result.now in
    let read = span-read tree i s c.requires.stands c.index-old.ensures in
    let made = made-read tree i s c.requires.stands read in
    key-place tree s.edit made

pub prefix-requires : goal.prefix-requires
prefix-requires t c =
    let tree = c.args.self.now in
    let old : Store = store_of tree in
    let i = c.args.at in let edit = c.args.edit in let tip = c.args.tip in let limit = c.args.limit in
    let s = c.index-old.result.now in
    let read = span-read tree i s c.requires.stands c.index-old.ensures in
    let made = made-read tree i s c.requires.stands read in
    omega (arith, ap (λ (w : Span). w.height) read, c.requires.low, c.requires.limit)

pub prefix-requires-2 : goal.prefix-requires-2
prefix-requires-2 t c =
    let tree = c.args.self.now in
    let old : Store = store_of tree in
    let i = c.args.at in let edit = c.args.edit in let tip = c.args.tip in let limit = c.args.limit in
    let s = c.index-old.result.now in
    let read = span-read tree i s c.requires.stands c.index-old.ensures in
    let made = made-read tree i s c.requires.stands read in
    omega (arith, ap (λ (w : Span). w.height) read, c.requires.low, c.requires.limit)

pub graft-requires-clause-apart : goal.graft-requires-clause-apart
graft-requires-clause-apart t c =
    let tree = c.args.self.now in
    let old : Store = store_of tree in
    let i = c.args.at in let edit = c.args.edit in let tip = c.args.tip in let limit = c.args.limit in
    let s = c.index-old.result.now in
    let read = span-read tree i s c.requires.stands c.index-old.ensures in
    let made = made-read tree i s c.requires.stands read in
    let key : c.index-key.result.now ≡ edit_key old edit = key-read tree edit c.index-key.result.now c.requires.edit c.index-key.ensures in
    let other : c.index.result.now ≡ edit_key old (span_at old i).edit = key-read tree s.edit c.index.result.now made c.index.ensures ∙ ap (λ (w : Span). edit_key old w.edit) read in
    λ e. c.if-prefix.true
    (c.prefix.ensures ∙ ap (λ (n : ℕ). n / 2 ^ s.height) other ∙ ap (λ (w : Span). edit_key old (span_at old i).edit / 2 ^ w.height) read ∙ e
    ∙ sym (ap (λ (w : Span). edit_key old edit / 2 ^ w.height) read) ∙ sym (ap (λ (n : ℕ). n / 2 ^ s.height) key) ∙ sym c.prefix-2.ensures)

pub returns-then-old-eq0-clause-ok : goal.returns-then-old-eq0-clause-ok
returns-then-old-eq0-clause-ok t c =
    let tree = c.args.self.now in
    let old : Store = store_of tree in
    let i = c.args.at in let edit = c.args.edit in let tip = c.args.tip in let limit = c.args.limit in
    let s = c.index-old.result.now in
    let read = span-read tree i s c.requires.stands c.index-old.ensures in
    let made = made-read tree i s c.requires.stands read in
    let key : c.index-key.result.now ≡ edit_key old edit = key-read tree edit c.index-key.result.now c.requires.edit c.index-key.ensures in
    let other : c.index.result.now ≡ edit_key old (span_at old i).edit = key-read tree s.edit c.index.result.now made c.index.ensures ∙ ap (λ (w : Span). edit_key old w.edit) read in
    let alike : c.index.result.now / 2 ^ s.height ≡ c.index-key.result.now / 2 ^ s.height = sym c.prefix.ensures ∙ c.if-prefix.false ∙ c.prefix-2.ensures in
    let same : edit_key old (span_at old i).edit / 2 ^ (span_at old i).height ≡ edit_key old edit / 2 ^ (span_at old i).height =
    sym (ap (λ (n : ℕ). n / 2 ^ (span_at old i).height) other) ∙ sym (ap (λ (w : Span). c.index.result.now / 2 ^ w.height) read) ∙ alike
    ∙ ap (λ (w : Span). c.index-key.result.now / 2 ^ w.height) read ∙ ap (λ (n : ℕ). n / 2 ^ (span_at old i).height) key in
    tip-put old limit i tip edit c.requires.stands (sym (ap (λ (w : Span). w.height) read) ∙ c.if-old-eq0.true) same c.requires.tip

pub is_lower-requires : goal.is_lower-requires
is_lower-requires t c =
    let tree = c.args.self.now in
    let old : Store = store_of tree in
    let i = c.args.at in let edit = c.args.edit in let tip = c.args.tip in let limit = c.args.limit in
    let s = c.index-old.result.now in
    let read = span-read tree i s c.requires.stands c.index-old.ensures in
    let made = made-read tree i s c.requires.stands read in
    let key : c.index-key.result.now ≡ edit_key old edit = key-read tree edit c.index-key.result.now c.requires.edit c.index-key.ensures in
    let other : c.index.result.now ≡ edit_key old (span_at old i).edit = key-read tree s.edit c.index.result.now made c.index.ensures ∙ ap (λ (w : Span). edit_key old w.edit) read in
    let alike : c.index.result.now / 2 ^ s.height ≡ c.index-key.result.now / 2 ^ s.height = sym c.prefix.ensures ∙ c.if-prefix.false ∙ c.prefix-2.ensures in
    let same : edit_key old (span_at old i).edit / 2 ^ (span_at old i).height ≡ edit_key old edit / 2 ^ (span_at old i).height =
    sym (ap (λ (n : ℕ). n / 2 ^ (span_at old i).height) other) ∙ sym (ap (λ (w : Span). c.index.result.now / 2 ^ w.height) read) ∙ alike
    ∙ ap (λ (w : Span). c.index-key.result.now / 2 ^ w.height) read ∙ ap (λ (n : ℕ). n / 2 ^ (span_at old i).height) key in
    let half = s.height - 1 in
    let half-is : s.height ≡ suc half = omega (arith, c.if-old-eq0.false) in
    let some : (span_at old i).height ≡ 0 → ⊥ = λ e. c.if-old-eq0.false (ap (λ (w : Span). w.height) read ∙ e) in
    let has = has-halves old i c.requires.stands some in
    half-low old old old limit i tip edit half s c.requires.stands has read half-is c.requires.edit c.requires.older c.requires.low c.requires.limit same

pub put-requires : goal.put-requires
put-requires t c =
    let tree = c.args.self.now in
    let old : Store = store_of tree in
    let i = c.args.at in let edit = c.args.edit in let tip = c.args.tip in let limit = c.args.limit in
    let s = c.index-old.result.now in
    let read = span-read tree i s c.requires.stands c.index-old.ensures in
    let made = made-read tree i s c.requires.stands read in
    let key : c.index-key.result.now ≡ edit_key old edit = key-read tree edit c.index-key.result.now c.requires.edit c.index-key.ensures in
    let other : c.index.result.now ≡ edit_key old (span_at old i).edit = key-read tree s.edit c.index.result.now made c.index.ensures ∙ ap (λ (w : Span). edit_key old w.edit) read in
    let alike : c.index.result.now / 2 ^ s.height ≡ c.index-key.result.now / 2 ^ s.height = sym c.prefix.ensures ∙ c.if-prefix.false ∙ c.prefix-2.ensures in
    let same : edit_key old (span_at old i).edit / 2 ^ (span_at old i).height ≡ edit_key old edit / 2 ^ (span_at old i).height =
    sym (ap (λ (n : ℕ). n / 2 ^ (span_at old i).height) other) ∙ sym (ap (λ (w : Span). c.index.result.now / 2 ^ w.height) read) ∙ alike
    ∙ ap (λ (w : Span). c.index-key.result.now / 2 ^ w.height) read ∙ ap (λ (n : ℕ). n / 2 ^ (span_at old i).height) key in
    let half = s.height - 1 in
    let half-is : s.height ≡ suc half = omega (arith, c.if-old-eq0.false) in
    let some : (span_at old i).height ≡ 0 → ⊥ = λ e. c.if-old-eq0.false (ap (λ (w : Span). w.height) read ∙ e) in
    let has = has-halves old i c.requires.stands some in
    let first : edit_key old edit / 2 ^ half ≡ 2 * (edit_key old edit / 2 ^ (half + 1)) =
    subst (λ (n : ℕ). n / 2 ^ half ≡ 2 * (n / 2 ^ (half + 1))) key (OnTrue_at c.if-is_lower.true c.is_lower.ensures.lower) in
    let smaller : half < t = search rules in
    (smaller, (omega (arith, half-low old old old limit i tip edit half s c.requires.stands has read half-is c.requires.edit c.requires.older c.requires.low c.requires.limit same), (c.requires.edit, (left-stands old old old limit i tip edit half s c.requires.stands has read half-is c.requires.edit c.requires.older c.requires.low c.requires.limit same, (left-low old old old limit i tip edit half s c.requires.stands has read half-is c.requires.edit c.requires.older c.requires.low c.requires.limit same, (left-older old old old limit i tip edit half s c.requires.stands has read half-is c.requires.edit c.requires.older c.requires.low c.requires.limit same, (left-together old old old limit i tip edit half s c.requires.stands has read half-is c.requires.edit c.requires.older c.requires.low c.requires.limit same first, (c.requires.tip, (left-room old old old limit i tip edit half s c.requires.stands has read half-is c.requires.edit c.requires.older c.requires.low c.requires.limit same c.requires.room, c.requires.fit)))))))))

pub put-requires-else-is_lower : goal.put-requires-else-is_lower
put-requires-else-is_lower t c =
    let tree = c.args.self.now in
    let old : Store = store_of tree in
    let i = c.args.at in let edit = c.args.edit in let tip = c.args.tip in let limit = c.args.limit in
    let s = c.index-old.result.now in
    let read = span-read tree i s c.requires.stands c.index-old.ensures in
    let made = made-read tree i s c.requires.stands read in
    let key : c.index-key.result.now ≡ edit_key old edit = key-read tree edit c.index-key.result.now c.requires.edit c.index-key.ensures in
    let other : c.index.result.now ≡ edit_key old (span_at old i).edit = key-read tree s.edit c.index.result.now made c.index.ensures ∙ ap (λ (w : Span). edit_key old w.edit) read in
    let alike : c.index.result.now / 2 ^ s.height ≡ c.index-key.result.now / 2 ^ s.height = sym c.prefix.ensures ∙ c.if-prefix.false ∙ c.prefix-2.ensures in
    let same : edit_key old (span_at old i).edit / 2 ^ (span_at old i).height ≡ edit_key old edit / 2 ^ (span_at old i).height =
    sym (ap (λ (n : ℕ). n / 2 ^ (span_at old i).height) other) ∙ sym (ap (λ (w : Span). c.index.result.now / 2 ^ w.height) read) ∙ alike
    ∙ ap (λ (w : Span). c.index-key.result.now / 2 ^ w.height) read ∙ ap (λ (n : ℕ). n / 2 ^ (span_at old i).height) key in
    let half = s.height - 1 in
    let half-is : s.height ≡ suc half = omega (arith, c.if-old-eq0.false) in
    let some : (span_at old i).height ≡ 0 → ⊥ = λ e. c.if-old-eq0.false (ap (λ (w : Span). w.height) read ∙ e) in
    let has = has-halves old i c.requires.stands some in
    let second : edit_key old edit / 2 ^ half ≡ 2 * (edit_key old edit / 2 ^ (half + 1)) + 1 =
    subst (λ (n : ℕ). n / 2 ^ half ≡ 2 * (n / 2 ^ (half + 1)) + 1) key (OnFalse_at c.if-is_lower.false c.is_lower.ensures.higher) in
    let smaller : half < t = search rules in
    (smaller, (omega (arith, half-low old old old limit i tip edit half s c.requires.stands has read half-is c.requires.edit c.requires.older c.requires.low c.requires.limit same), (c.requires.edit, (right-stands old old old limit i tip edit half s c.requires.stands has read half-is c.requires.edit c.requires.older c.requires.low c.requires.limit same, (right-low old old old limit i tip edit half s c.requires.stands has read half-is c.requires.edit c.requires.older c.requires.low c.requires.limit same, (right-older old old old limit i tip edit half s c.requires.stands has read half-is c.requires.edit c.requires.older c.requires.low c.requires.limit same, (right-together old old old limit i tip edit half s c.requires.stands has read half-is c.requires.edit c.requires.older c.requires.low c.requires.limit same second, (c.requires.tip, (right-room old old old limit i tip edit half s c.requires.stands has read half-is c.requires.edit c.requires.older c.requires.low c.requires.limit same c.requires.room, c.requires.fit)))))))))

pub join-requires-clause-half : goal.join-requires-clause-half
join-requires-clause-half t c =
    let tree = c.args.self.now in
    let old : Store = store_of tree in
    let i = c.args.at in let edit = c.args.edit in let tip = c.args.tip in let limit = c.args.limit in
    let s = c.index-old.result.now in
    let read = span-read tree i s c.requires.stands c.index-old.ensures in
    let made = made-read tree i s c.requires.stands read in
    let key : c.index-key.result.now ≡ edit_key old edit = key-read tree edit c.index-key.result.now c.requires.edit c.index-key.ensures in
    let other : c.index.result.now ≡ edit_key old (span_at old i).edit = key-read tree s.edit c.index.result.now made c.index.ensures ∙ ap (λ (w : Span). edit_key old w.edit) read in
    let alike : c.index.result.now / 2 ^ s.height ≡ c.index-key.result.now / 2 ^ s.height = sym c.prefix.ensures ∙ c.if-prefix.false ∙ c.prefix-2.ensures in
    let same : edit_key old (span_at old i).edit / 2 ^ (span_at old i).height ≡ edit_key old edit / 2 ^ (span_at old i).height =
    sym (ap (λ (n : ℕ). n / 2 ^ (span_at old i).height) other) ∙ sym (ap (λ (w : Span). c.index.result.now / 2 ^ w.height) read) ∙ alike
    ∙ ap (λ (w : Span). c.index-key.result.now / 2 ^ w.height) read ∙ ap (λ (n : ℕ). n / 2 ^ (span_at old i).height) key in
    let half = s.height - 1 in
    let half-is : s.height ≡ suc half = omega (arith, c.if-old-eq0.false) in
    let some : (span_at old i).height ≡ 0 → ⊥ = λ e. c.if-old-eq0.false (ap (λ (w : Span). w.height) read ∙ e) in
    let has = has-halves old i c.requires.stands some in
    let first : edit_key old edit / 2 ^ half ≡ 2 * (edit_key old edit / 2 ^ (half + 1)) =
    subst (λ (n : ℕ). n / 2 ^ half ≡ 2 * (n / 2 ^ (half + 1))) key (OnTrue_at c.if-is_lower.true c.is_lower.ensures.lower) in
    half-low old old old limit i tip edit half s c.requires.stands has read half-is c.requires.edit c.requires.older c.requires.low c.requires.limit same

pub join-requires-clause-left : goal.join-requires-clause-left
join-requires-clause-left t c =
    let tree = c.args.self.now in
    let old : Store = store_of tree in
    let i = c.args.at in let edit = c.args.edit in let tip = c.args.tip in let limit = c.args.limit in
    let s = c.index-old.result.now in
    let read = span-read tree i s c.requires.stands c.index-old.ensures in
    let made = made-read tree i s c.requires.stands read in
    let key : c.index-key.result.now ≡ edit_key old edit = key-read tree edit c.index-key.result.now c.requires.edit c.index-key.ensures in
    let other : c.index.result.now ≡ edit_key old (span_at old i).edit = key-read tree s.edit c.index.result.now made c.index.ensures ∙ ap (λ (w : Span). edit_key old w.edit) read in
    let alike : c.index.result.now / 2 ^ s.height ≡ c.index-key.result.now / 2 ^ s.height = sym c.prefix.ensures ∙ c.if-prefix.false ∙ c.prefix-2.ensures in
    let same : edit_key old (span_at old i).edit / 2 ^ (span_at old i).height ≡ edit_key old edit / 2 ^ (span_at old i).height =
    sym (ap (λ (n : ℕ). n / 2 ^ (span_at old i).height) other) ∙ sym (ap (λ (w : Span). c.index.result.now / 2 ^ w.height) read) ∙ alike
    ∙ ap (λ (w : Span). c.index-key.result.now / 2 ^ w.height) read ∙ ap (λ (n : ℕ). n / 2 ^ (span_at old i).height) key in
    let half = s.height - 1 in
    let half-is : s.height ≡ suc half = omega (arith, c.if-old-eq0.false) in
    let some : (span_at old i).height ≡ 0 → ⊥ = λ e. c.if-old-eq0.false (ap (λ (w : Span). w.height) read ∙ e) in
    let has = has-halves old i c.requires.stands some in
    let first : edit_key old edit / 2 ^ half ≡ 2 * (edit_key old edit / 2 ^ (half + 1)) =
    subst (λ (n : ℕ). n / 2 ^ half ≡ 2 * (n / 2 ^ (half + 1))) key (OnTrue_at c.if-is_lower.true c.is_lower.ensures.lower) in
    let mid : Store = store_of c.put.new.self in let u = c.in_ok-left.left in let put : IsPut old mid half s.left tip edit u = c.in_ok-left.ensures.ok in
    stands-within mid u put.stands

pub join-requires-clause-right : goal.join-requires-clause-right
join-requires-clause-right t c =
    let tree = c.args.self.now in
    let old : Store = store_of tree in
    let i = c.args.at in let edit = c.args.edit in let tip = c.args.tip in let limit = c.args.limit in
    let s = c.index-old.result.now in
    let read = span-read tree i s c.requires.stands c.index-old.ensures in
    let made = made-read tree i s c.requires.stands read in
    let key : c.index-key.result.now ≡ edit_key old edit = key-read tree edit c.index-key.result.now c.requires.edit c.index-key.ensures in
    let other : c.index.result.now ≡ edit_key old (span_at old i).edit = key-read tree s.edit c.index.result.now made c.index.ensures ∙ ap (λ (w : Span). edit_key old w.edit) read in
    let alike : c.index.result.now / 2 ^ s.height ≡ c.index-key.result.now / 2 ^ s.height = sym c.prefix.ensures ∙ c.if-prefix.false ∙ c.prefix-2.ensures in
    let same : edit_key old (span_at old i).edit / 2 ^ (span_at old i).height ≡ edit_key old edit / 2 ^ (span_at old i).height =
    sym (ap (λ (n : ℕ). n / 2 ^ (span_at old i).height) other) ∙ sym (ap (λ (w : Span). c.index.result.now / 2 ^ w.height) read) ∙ alike
    ∙ ap (λ (w : Span). c.index-key.result.now / 2 ^ w.height) read ∙ ap (λ (n : ℕ). n / 2 ^ (span_at old i).height) key in
    let half = s.height - 1 in
    let half-is : s.height ≡ suc half = omega (arith, c.if-old-eq0.false) in
    let some : (span_at old i).height ≡ 0 → ⊥ = λ e. c.if-old-eq0.false (ap (λ (w : Span). w.height) read ∙ e) in
    let has = has-halves old i c.requires.stands some in
    let first : edit_key old edit / 2 ^ half ≡ 2 * (edit_key old edit / 2 ^ (half + 1)) =
    subst (λ (n : ℕ). n / 2 ^ half ≡ 2 * (n / 2 ^ (half + 1))) key (OnTrue_at c.if-is_lower.true c.is_lower.ensures.lower) in
    let mid : Store = store_of c.put.new.self in let u = c.in_ok-left.left in let put : IsPut old mid half s.left tip edit u = c.in_ok-left.ensures.ok in
    stands-within mid s.right (lower-other old mid mid limit i tip edit half s c.requires.stands has read half-is c.requires.edit c.requires.older c.requires.low c.requires.limit same u put)

pub join-requires-clause-count : goal.join-requires-clause-count
join-requires-clause-count t c =
    let tree = c.args.self.now in
    let old : Store = store_of tree in
    let i = c.args.at in let edit = c.args.edit in let tip = c.args.tip in let limit = c.args.limit in
    let s = c.index-old.result.now in
    let read = span-read tree i s c.requires.stands c.index-old.ensures in
    let made = made-read tree i s c.requires.stands read in
    let key : c.index-key.result.now ≡ edit_key old edit = key-read tree edit c.index-key.result.now c.requires.edit c.index-key.ensures in
    let other : c.index.result.now ≡ edit_key old (span_at old i).edit = key-read tree s.edit c.index.result.now made c.index.ensures ∙ ap (λ (w : Span). edit_key old w.edit) read in
    let alike : c.index.result.now / 2 ^ s.height ≡ c.index-key.result.now / 2 ^ s.height = sym c.prefix.ensures ∙ c.if-prefix.false ∙ c.prefix-2.ensures in
    let same : edit_key old (span_at old i).edit / 2 ^ (span_at old i).height ≡ edit_key old edit / 2 ^ (span_at old i).height =
    sym (ap (λ (n : ℕ). n / 2 ^ (span_at old i).height) other) ∙ sym (ap (λ (w : Span). c.index.result.now / 2 ^ w.height) read) ∙ alike
    ∙ ap (λ (w : Span). c.index-key.result.now / 2 ^ w.height) read ∙ ap (λ (n : ℕ). n / 2 ^ (span_at old i).height) key in
    let half = s.height - 1 in
    let half-is : s.height ≡ suc half = omega (arith, c.if-old-eq0.false) in
    let some : (span_at old i).height ≡ 0 → ⊥ = λ e. c.if-old-eq0.false (ap (λ (w : Span). w.height) read ∙ e) in
    let has = has-halves old i c.requires.stands some in
    let first : edit_key old edit / 2 ^ half ≡ 2 * (edit_key old edit / 2 ^ (half + 1)) =
    subst (λ (n : ℕ). n / 2 ^ half ≡ 2 * (n / 2 ^ (half + 1))) key (OnTrue_at c.if-is_lower.true c.is_lower.ensures.lower) in
    let mid : Store = store_of c.put.new.self in let u = c.in_ok-left.left in let put : IsPut old mid half s.left tip edit u = c.in_ok-left.ensures.ok in
    lower-count old mid mid limit i tip edit half s c.requires.stands has read half-is c.requires.edit c.requires.older c.requires.low c.requires.limit same u put c.requires.tip c.requires.room c.requires.fit

pub join-requires-clause-weight : goal.join-requires-clause-weight
join-requires-clause-weight t c =
    let tree = c.args.self.now in
    let old : Store = store_of tree in
    let i = c.args.at in let edit = c.args.edit in let tip = c.args.tip in let limit = c.args.limit in
    let s = c.index-old.result.now in
    let read = span-read tree i s c.requires.stands c.index-old.ensures in
    let made = made-read tree i s c.requires.stands read in
    let key : c.index-key.result.now ≡ edit_key old edit = key-read tree edit c.index-key.result.now c.requires.edit c.index-key.ensures in
    let other : c.index.result.now ≡ edit_key old (span_at old i).edit = key-read tree s.edit c.index.result.now made c.index.ensures ∙ ap (λ (w : Span). edit_key old w.edit) read in
    let alike : c.index.result.now / 2 ^ s.height ≡ c.index-key.result.now / 2 ^ s.height = sym c.prefix.ensures ∙ c.if-prefix.false ∙ c.prefix-2.ensures in
    let same : edit_key old (span_at old i).edit / 2 ^ (span_at old i).height ≡ edit_key old edit / 2 ^ (span_at old i).height =
    sym (ap (λ (n : ℕ). n / 2 ^ (span_at old i).height) other) ∙ sym (ap (λ (w : Span). c.index.result.now / 2 ^ w.height) read) ∙ alike
    ∙ ap (λ (w : Span). c.index-key.result.now / 2 ^ w.height) read ∙ ap (λ (n : ℕ). n / 2 ^ (span_at old i).height) key in
    let half = s.height - 1 in
    let half-is : s.height ≡ suc half = omega (arith, c.if-old-eq0.false) in
    let some : (span_at old i).height ≡ 0 → ⊥ = λ e. c.if-old-eq0.false (ap (λ (w : Span). w.height) read ∙ e) in
    let has = has-halves old i c.requires.stands some in
    let first : edit_key old edit / 2 ^ half ≡ 2 * (edit_key old edit / 2 ^ (half + 1)) =
    subst (λ (n : ℕ). n / 2 ^ half ≡ 2 * (n / 2 ^ (half + 1))) key (OnTrue_at c.if-is_lower.true c.is_lower.ensures.lower) in
    let mid : Store = store_of c.put.new.self in let u = c.in_ok-left.left in let put : IsPut old mid half s.left tip edit u = c.in_ok-left.ensures.ok in
    lower-weight old mid mid limit i tip edit half s c.requires.stands has read half-is c.requires.edit c.requires.older c.requires.low c.requires.limit same u put c.requires.tip c.requires.room c.requires.fit

pub returns-in_ok-left-clause-ok : goal.returns-in_ok-left-clause-ok
returns-in_ok-left-clause-ok t c =
    let tree = c.args.self.now in
    let old : Store = store_of tree in
    let i = c.args.at in let edit = c.args.edit in let tip = c.args.tip in let limit = c.args.limit in
    let s = c.index-old.result.now in
    let read = span-read tree i s c.requires.stands c.index-old.ensures in
    let made = made-read tree i s c.requires.stands read in
    let key : c.index-key.result.now ≡ edit_key old edit = key-read tree edit c.index-key.result.now c.requires.edit c.index-key.ensures in
    let other : c.index.result.now ≡ edit_key old (span_at old i).edit = key-read tree s.edit c.index.result.now made c.index.ensures ∙ ap (λ (w : Span). edit_key old w.edit) read in
    let alike : c.index.result.now / 2 ^ s.height ≡ c.index-key.result.now / 2 ^ s.height = sym c.prefix.ensures ∙ c.if-prefix.false ∙ c.prefix-2.ensures in
    let same : edit_key old (span_at old i).edit / 2 ^ (span_at old i).height ≡ edit_key old edit / 2 ^ (span_at old i).height =
    sym (ap (λ (n : ℕ). n / 2 ^ (span_at old i).height) other) ∙ sym (ap (λ (w : Span). c.index.result.now / 2 ^ w.height) read) ∙ alike
    ∙ ap (λ (w : Span). c.index-key.result.now / 2 ^ w.height) read ∙ ap (λ (n : ℕ). n / 2 ^ (span_at old i).height) key in
    let half = s.height - 1 in
    let half-is : s.height ≡ suc half = omega (arith, c.if-old-eq0.false) in
    let some : (span_at old i).height ≡ 0 → ⊥ = λ e. c.if-old-eq0.false (ap (λ (w : Span). w.height) read ∙ e) in
    let has = has-halves old i c.requires.stands some in
    let first : edit_key old edit / 2 ^ half ≡ 2 * (edit_key old edit / 2 ^ (half + 1)) =
    subst (λ (n : ℕ). n / 2 ^ half ≡ 2 * (n / 2 ^ (half + 1))) key (OnTrue_at c.if-is_lower.true c.is_lower.ensures.lower) in
    let mid : Store = store_of c.put.new.self in let u = c.in_ok-left.left in let put : IsPut old mid half s.left tip edit u = c.in_ok-left.ensures.ok in
    let new : Store = store_of c.join.new.self in
    IfOk-weaker c.join.result (IsJoined mid new half u s.right edit) (IsPut old new limit i tip edit) (λ j joined. lower-put old mid new limit i tip edit half s c.requires.stands has read half-is c.requires.edit c.requires.older c.requires.low c.requires.limit same u put j joined first) c.join.ensures.ok

pub returns-in_ok-left-clause-err : goal.returns-in_ok-left-clause-err
returns-in_ok-left-clause-err t c =
    let tree = c.args.self.now in
    let old : Store = store_of tree in
    let i = c.args.at in let edit = c.args.edit in let tip = c.args.tip in let limit = c.args.limit in
    let s = c.index-old.result.now in
    let read = span-read tree i s c.requires.stands c.index-old.ensures in
    let made = made-read tree i s c.requires.stands read in
    let key : c.index-key.result.now ≡ edit_key old edit = key-read tree edit c.index-key.result.now c.requires.edit c.index-key.ensures in
    let other : c.index.result.now ≡ edit_key old (span_at old i).edit = key-read tree s.edit c.index.result.now made c.index.ensures ∙ ap (λ (w : Span). edit_key old w.edit) read in
    let alike : c.index.result.now / 2 ^ s.height ≡ c.index-key.result.now / 2 ^ s.height = sym c.prefix.ensures ∙ c.if-prefix.false ∙ c.prefix-2.ensures in
    let same : edit_key old (span_at old i).edit / 2 ^ (span_at old i).height ≡ edit_key old edit / 2 ^ (span_at old i).height =
    sym (ap (λ (n : ℕ). n / 2 ^ (span_at old i).height) other) ∙ sym (ap (λ (w : Span). c.index.result.now / 2 ^ w.height) read) ∙ alike
    ∙ ap (λ (w : Span). c.index-key.result.now / 2 ^ w.height) read ∙ ap (λ (n : ℕ). n / 2 ^ (span_at old i).height) key in
    let half = s.height - 1 in
    let half-is : s.height ≡ suc half = omega (arith, c.if-old-eq0.false) in
    let some : (span_at old i).height ≡ 0 → ⊥ = λ e. c.if-old-eq0.false (ap (λ (w : Span). w.height) read ∙ e) in
    let has = has-halves old i c.requires.stands some in
    let first : edit_key old edit / 2 ^ half ≡ 2 * (edit_key old edit / 2 ^ (half + 1)) =
    subst (λ (n : ℕ). n / 2 ^ half ≡ 2 * (n / 2 ^ (half + 1))) key (OnTrue_at c.if-is_lower.true c.is_lower.ensures.lower) in
    let mid : Store = store_of c.put.new.self in let u = c.in_ok-left.left in let put : IsPut old mid half s.left tip edit u = c.in_ok-left.ensures.ok in
    let new : Store = store_of c.join.new.self in
    on_err_weaker c.join.result (λ e. Gains-more old mid new put.gains e) c.join.ensures.err

pub join-requires-else-is_lower-clause-half : goal.join-requires-else-is_lower-clause-half
join-requires-else-is_lower-clause-half t c =
    let tree = c.args.self.now in
    let old : Store = store_of tree in
    let i = c.args.at in let edit = c.args.edit in let tip = c.args.tip in let limit = c.args.limit in
    let s = c.index-old.result.now in
    let read = span-read tree i s c.requires.stands c.index-old.ensures in
    let made = made-read tree i s c.requires.stands read in
    let key : c.index-key.result.now ≡ edit_key old edit = key-read tree edit c.index-key.result.now c.requires.edit c.index-key.ensures in
    let other : c.index.result.now ≡ edit_key old (span_at old i).edit = key-read tree s.edit c.index.result.now made c.index.ensures ∙ ap (λ (w : Span). edit_key old w.edit) read in
    let alike : c.index.result.now / 2 ^ s.height ≡ c.index-key.result.now / 2 ^ s.height = sym c.prefix.ensures ∙ c.if-prefix.false ∙ c.prefix-2.ensures in
    let same : edit_key old (span_at old i).edit / 2 ^ (span_at old i).height ≡ edit_key old edit / 2 ^ (span_at old i).height =
    sym (ap (λ (n : ℕ). n / 2 ^ (span_at old i).height) other) ∙ sym (ap (λ (w : Span). c.index.result.now / 2 ^ w.height) read) ∙ alike
    ∙ ap (λ (w : Span). c.index-key.result.now / 2 ^ w.height) read ∙ ap (λ (n : ℕ). n / 2 ^ (span_at old i).height) key in
    let half = s.height - 1 in
    let half-is : s.height ≡ suc half = omega (arith, c.if-old-eq0.false) in
    let some : (span_at old i).height ≡ 0 → ⊥ = λ e. c.if-old-eq0.false (ap (λ (w : Span). w.height) read ∙ e) in
    let has = has-halves old i c.requires.stands some in
    let second : edit_key old edit / 2 ^ half ≡ 2 * (edit_key old edit / 2 ^ (half + 1)) + 1 =
    subst (λ (n : ℕ). n / 2 ^ half ≡ 2 * (n / 2 ^ (half + 1)) + 1) key (OnFalse_at c.if-is_lower.false c.is_lower.ensures.higher) in
    half-low old old old limit i tip edit half s c.requires.stands has read half-is c.requires.edit c.requires.older c.requires.low c.requires.limit same

pub join-requires-else-is_lower-clause-left : goal.join-requires-else-is_lower-clause-left
join-requires-else-is_lower-clause-left t c =
    let tree = c.args.self.now in
    let old : Store = store_of tree in
    let i = c.args.at in let edit = c.args.edit in let tip = c.args.tip in let limit = c.args.limit in
    let s = c.index-old.result.now in
    let read = span-read tree i s c.requires.stands c.index-old.ensures in
    let made = made-read tree i s c.requires.stands read in
    let key : c.index-key.result.now ≡ edit_key old edit = key-read tree edit c.index-key.result.now c.requires.edit c.index-key.ensures in
    let other : c.index.result.now ≡ edit_key old (span_at old i).edit = key-read tree s.edit c.index.result.now made c.index.ensures ∙ ap (λ (w : Span). edit_key old w.edit) read in
    let alike : c.index.result.now / 2 ^ s.height ≡ c.index-key.result.now / 2 ^ s.height = sym c.prefix.ensures ∙ c.if-prefix.false ∙ c.prefix-2.ensures in
    let same : edit_key old (span_at old i).edit / 2 ^ (span_at old i).height ≡ edit_key old edit / 2 ^ (span_at old i).height =
    sym (ap (λ (n : ℕ). n / 2 ^ (span_at old i).height) other) ∙ sym (ap (λ (w : Span). c.index.result.now / 2 ^ w.height) read) ∙ alike
    ∙ ap (λ (w : Span). c.index-key.result.now / 2 ^ w.height) read ∙ ap (λ (n : ℕ). n / 2 ^ (span_at old i).height) key in
    let half = s.height - 1 in
    let half-is : s.height ≡ suc half = omega (arith, c.if-old-eq0.false) in
    let some : (span_at old i).height ≡ 0 → ⊥ = λ e. c.if-old-eq0.false (ap (λ (w : Span). w.height) read ∙ e) in
    let has = has-halves old i c.requires.stands some in
    let second : edit_key old edit / 2 ^ half ≡ 2 * (edit_key old edit / 2 ^ (half + 1)) + 1 =
    subst (λ (n : ℕ). n / 2 ^ half ≡ 2 * (n / 2 ^ (half + 1)) + 1) key (OnFalse_at c.if-is_lower.false c.is_lower.ensures.higher) in
    let mid : Store = store_of c.put-else-is_lower.new.self in let u = c.in_ok-right.right in let put : IsPut old mid half s.right tip edit u = c.in_ok-right.ensures.ok in
    stands-within mid s.left (higher-other old mid mid limit i tip edit half s c.requires.stands has read half-is c.requires.edit c.requires.older c.requires.low c.requires.limit same u put)

pub join-requires-else-is_lower-clause-right : goal.join-requires-else-is_lower-clause-right
join-requires-else-is_lower-clause-right t c =
    let tree = c.args.self.now in
    let old : Store = store_of tree in
    let i = c.args.at in let edit = c.args.edit in let tip = c.args.tip in let limit = c.args.limit in
    let s = c.index-old.result.now in
    let read = span-read tree i s c.requires.stands c.index-old.ensures in
    let made = made-read tree i s c.requires.stands read in
    let key : c.index-key.result.now ≡ edit_key old edit = key-read tree edit c.index-key.result.now c.requires.edit c.index-key.ensures in
    let other : c.index.result.now ≡ edit_key old (span_at old i).edit = key-read tree s.edit c.index.result.now made c.index.ensures ∙ ap (λ (w : Span). edit_key old w.edit) read in
    let alike : c.index.result.now / 2 ^ s.height ≡ c.index-key.result.now / 2 ^ s.height = sym c.prefix.ensures ∙ c.if-prefix.false ∙ c.prefix-2.ensures in
    let same : edit_key old (span_at old i).edit / 2 ^ (span_at old i).height ≡ edit_key old edit / 2 ^ (span_at old i).height =
    sym (ap (λ (n : ℕ). n / 2 ^ (span_at old i).height) other) ∙ sym (ap (λ (w : Span). c.index.result.now / 2 ^ w.height) read) ∙ alike
    ∙ ap (λ (w : Span). c.index-key.result.now / 2 ^ w.height) read ∙ ap (λ (n : ℕ). n / 2 ^ (span_at old i).height) key in
    let half = s.height - 1 in
    let half-is : s.height ≡ suc half = omega (arith, c.if-old-eq0.false) in
    let some : (span_at old i).height ≡ 0 → ⊥ = λ e. c.if-old-eq0.false (ap (λ (w : Span). w.height) read ∙ e) in
    let has = has-halves old i c.requires.stands some in
    let second : edit_key old edit / 2 ^ half ≡ 2 * (edit_key old edit / 2 ^ (half + 1)) + 1 =
    subst (λ (n : ℕ). n / 2 ^ half ≡ 2 * (n / 2 ^ (half + 1)) + 1) key (OnFalse_at c.if-is_lower.false c.is_lower.ensures.higher) in
    let mid : Store = store_of c.put-else-is_lower.new.self in let u = c.in_ok-right.right in let put : IsPut old mid half s.right tip edit u = c.in_ok-right.ensures.ok in
    stands-within mid u put.stands

pub join-requires-else-is_lower-clause-count : goal.join-requires-else-is_lower-clause-count
join-requires-else-is_lower-clause-count t c =
    let tree = c.args.self.now in
    let old : Store = store_of tree in
    let i = c.args.at in let edit = c.args.edit in let tip = c.args.tip in let limit = c.args.limit in
    let s = c.index-old.result.now in
    let read = span-read tree i s c.requires.stands c.index-old.ensures in
    let made = made-read tree i s c.requires.stands read in
    let key : c.index-key.result.now ≡ edit_key old edit = key-read tree edit c.index-key.result.now c.requires.edit c.index-key.ensures in
    let other : c.index.result.now ≡ edit_key old (span_at old i).edit = key-read tree s.edit c.index.result.now made c.index.ensures ∙ ap (λ (w : Span). edit_key old w.edit) read in
    let alike : c.index.result.now / 2 ^ s.height ≡ c.index-key.result.now / 2 ^ s.height = sym c.prefix.ensures ∙ c.if-prefix.false ∙ c.prefix-2.ensures in
    let same : edit_key old (span_at old i).edit / 2 ^ (span_at old i).height ≡ edit_key old edit / 2 ^ (span_at old i).height =
    sym (ap (λ (n : ℕ). n / 2 ^ (span_at old i).height) other) ∙ sym (ap (λ (w : Span). c.index.result.now / 2 ^ w.height) read) ∙ alike
    ∙ ap (λ (w : Span). c.index-key.result.now / 2 ^ w.height) read ∙ ap (λ (n : ℕ). n / 2 ^ (span_at old i).height) key in
    let half = s.height - 1 in
    let half-is : s.height ≡ suc half = omega (arith, c.if-old-eq0.false) in
    let some : (span_at old i).height ≡ 0 → ⊥ = λ e. c.if-old-eq0.false (ap (λ (w : Span). w.height) read ∙ e) in
    let has = has-halves old i c.requires.stands some in
    let second : edit_key old edit / 2 ^ half ≡ 2 * (edit_key old edit / 2 ^ (half + 1)) + 1 =
    subst (λ (n : ℕ). n / 2 ^ half ≡ 2 * (n / 2 ^ (half + 1)) + 1) key (OnFalse_at c.if-is_lower.false c.is_lower.ensures.higher) in
    let mid : Store = store_of c.put-else-is_lower.new.self in let u = c.in_ok-right.right in let put : IsPut old mid half s.right tip edit u = c.in_ok-right.ensures.ok in
    higher-count old mid mid limit i tip edit half s c.requires.stands has read half-is c.requires.edit c.requires.older c.requires.low c.requires.limit same u put c.requires.tip c.requires.room c.requires.fit

pub join-requires-else-is_lower-clause-weight : goal.join-requires-else-is_lower-clause-weight
join-requires-else-is_lower-clause-weight t c =
    let tree = c.args.self.now in
    let old : Store = store_of tree in
    let i = c.args.at in let edit = c.args.edit in let tip = c.args.tip in let limit = c.args.limit in
    let s = c.index-old.result.now in
    let read = span-read tree i s c.requires.stands c.index-old.ensures in
    let made = made-read tree i s c.requires.stands read in
    let key : c.index-key.result.now ≡ edit_key old edit = key-read tree edit c.index-key.result.now c.requires.edit c.index-key.ensures in
    let other : c.index.result.now ≡ edit_key old (span_at old i).edit = key-read tree s.edit c.index.result.now made c.index.ensures ∙ ap (λ (w : Span). edit_key old w.edit) read in
    let alike : c.index.result.now / 2 ^ s.height ≡ c.index-key.result.now / 2 ^ s.height = sym c.prefix.ensures ∙ c.if-prefix.false ∙ c.prefix-2.ensures in
    let same : edit_key old (span_at old i).edit / 2 ^ (span_at old i).height ≡ edit_key old edit / 2 ^ (span_at old i).height =
    sym (ap (λ (n : ℕ). n / 2 ^ (span_at old i).height) other) ∙ sym (ap (λ (w : Span). c.index.result.now / 2 ^ w.height) read) ∙ alike
    ∙ ap (λ (w : Span). c.index-key.result.now / 2 ^ w.height) read ∙ ap (λ (n : ℕ). n / 2 ^ (span_at old i).height) key in
    let half = s.height - 1 in
    let half-is : s.height ≡ suc half = omega (arith, c.if-old-eq0.false) in
    let some : (span_at old i).height ≡ 0 → ⊥ = λ e. c.if-old-eq0.false (ap (λ (w : Span). w.height) read ∙ e) in
    let has = has-halves old i c.requires.stands some in
    let second : edit_key old edit / 2 ^ half ≡ 2 * (edit_key old edit / 2 ^ (half + 1)) + 1 =
    subst (λ (n : ℕ). n / 2 ^ half ≡ 2 * (n / 2 ^ (half + 1)) + 1) key (OnFalse_at c.if-is_lower.false c.is_lower.ensures.higher) in
    let mid : Store = store_of c.put-else-is_lower.new.self in let u = c.in_ok-right.right in let put : IsPut old mid half s.right tip edit u = c.in_ok-right.ensures.ok in
    higher-weight old mid mid limit i tip edit half s c.requires.stands has read half-is c.requires.edit c.requires.older c.requires.low c.requires.limit same u put c.requires.tip c.requires.room c.requires.fit

pub returns-in_ok-right-clause-ok : goal.returns-in_ok-right-clause-ok
returns-in_ok-right-clause-ok t c =
    let tree = c.args.self.now in
    let old : Store = store_of tree in
    let i = c.args.at in let edit = c.args.edit in let tip = c.args.tip in let limit = c.args.limit in
    let s = c.index-old.result.now in
    let read = span-read tree i s c.requires.stands c.index-old.ensures in
    let made = made-read tree i s c.requires.stands read in
    let key : c.index-key.result.now ≡ edit_key old edit = key-read tree edit c.index-key.result.now c.requires.edit c.index-key.ensures in
    let other : c.index.result.now ≡ edit_key old (span_at old i).edit = key-read tree s.edit c.index.result.now made c.index.ensures ∙ ap (λ (w : Span). edit_key old w.edit) read in
    let alike : c.index.result.now / 2 ^ s.height ≡ c.index-key.result.now / 2 ^ s.height = sym c.prefix.ensures ∙ c.if-prefix.false ∙ c.prefix-2.ensures in
    let same : edit_key old (span_at old i).edit / 2 ^ (span_at old i).height ≡ edit_key old edit / 2 ^ (span_at old i).height =
    sym (ap (λ (n : ℕ). n / 2 ^ (span_at old i).height) other) ∙ sym (ap (λ (w : Span). c.index.result.now / 2 ^ w.height) read) ∙ alike
    ∙ ap (λ (w : Span). c.index-key.result.now / 2 ^ w.height) read ∙ ap (λ (n : ℕ). n / 2 ^ (span_at old i).height) key in
    let half = s.height - 1 in
    let half-is : s.height ≡ suc half = omega (arith, c.if-old-eq0.false) in
    let some : (span_at old i).height ≡ 0 → ⊥ = λ e. c.if-old-eq0.false (ap (λ (w : Span). w.height) read ∙ e) in
    let has = has-halves old i c.requires.stands some in
    let second : edit_key old edit / 2 ^ half ≡ 2 * (edit_key old edit / 2 ^ (half + 1)) + 1 =
    subst (λ (n : ℕ). n / 2 ^ half ≡ 2 * (n / 2 ^ (half + 1)) + 1) key (OnFalse_at c.if-is_lower.false c.is_lower.ensures.higher) in
    let mid : Store = store_of c.put-else-is_lower.new.self in let u = c.in_ok-right.right in let put : IsPut old mid half s.right tip edit u = c.in_ok-right.ensures.ok in
    let new : Store = store_of c.join-else-is_lower.new.self in
    IfOk-weaker c.join-else-is_lower.result (IsJoined mid new half s.left u edit) (IsPut old new limit i tip edit) (λ j joined. higher-put old mid new limit i tip edit half s c.requires.stands has read half-is c.requires.edit c.requires.older c.requires.low c.requires.limit same u put j joined second) c.join-else-is_lower.ensures.ok

pub returns-in_ok-right-clause-err : goal.returns-in_ok-right-clause-err
returns-in_ok-right-clause-err t c =
    let tree = c.args.self.now in
    let old : Store = store_of tree in
    let i = c.args.at in let edit = c.args.edit in let tip = c.args.tip in let limit = c.args.limit in
    let s = c.index-old.result.now in
    let read = span-read tree i s c.requires.stands c.index-old.ensures in
    let made = made-read tree i s c.requires.stands read in
    let key : c.index-key.result.now ≡ edit_key old edit = key-read tree edit c.index-key.result.now c.requires.edit c.index-key.ensures in
    let other : c.index.result.now ≡ edit_key old (span_at old i).edit = key-read tree s.edit c.index.result.now made c.index.ensures ∙ ap (λ (w : Span). edit_key old w.edit) read in
    let alike : c.index.result.now / 2 ^ s.height ≡ c.index-key.result.now / 2 ^ s.height = sym c.prefix.ensures ∙ c.if-prefix.false ∙ c.prefix-2.ensures in
    let same : edit_key old (span_at old i).edit / 2 ^ (span_at old i).height ≡ edit_key old edit / 2 ^ (span_at old i).height =
    sym (ap (λ (n : ℕ). n / 2 ^ (span_at old i).height) other) ∙ sym (ap (λ (w : Span). c.index.result.now / 2 ^ w.height) read) ∙ alike
    ∙ ap (λ (w : Span). c.index-key.result.now / 2 ^ w.height) read ∙ ap (λ (n : ℕ). n / 2 ^ (span_at old i).height) key in
    let half = s.height - 1 in
    let half-is : s.height ≡ suc half = omega (arith, c.if-old-eq0.false) in
    let some : (span_at old i).height ≡ 0 → ⊥ = λ e. c.if-old-eq0.false (ap (λ (w : Span). w.height) read ∙ e) in
    let has = has-halves old i c.requires.stands some in
    let second : edit_key old edit / 2 ^ half ≡ 2 * (edit_key old edit / 2 ^ (half + 1)) + 1 =
    subst (λ (n : ℕ). n / 2 ^ half ≡ 2 * (n / 2 ^ (half + 1)) + 1) key (OnFalse_at c.if-is_lower.false c.is_lower.ensures.higher) in
    let mid : Store = store_of c.put-else-is_lower.new.self in let u = c.in_ok-right.right in let put : IsPut old mid half s.right tip edit u = c.in_ok-right.ensures.ok in
    let new : Store = store_of c.join-else-is_lower.new.self in
    on_err_weaker c.join-else-is_lower.result (λ e. Gains-more old mid new put.gains e) c.join-else-is_lower.ensures.err
