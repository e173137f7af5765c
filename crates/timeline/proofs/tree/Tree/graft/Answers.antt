use Rattle.std.proofs.Common.{◌≡◌, ◌∙◌, ◌+◌, ◌*◌, ◌/◌, ◌≤◌, ◌^◌, ℕ, arith, ap, sym, subst}
use Rattle.std.proofs.lemmas.Result.{IfOk-weaker}
use Rattle.std.proofs.lemmas.Bool.{OnTrue_at, OnFalse_at}
use Rattle.timeline.specs.declared.span.Span.{Span}
use Rattle.timeline.specs.Stores.{Store, store_of, span_at, edit_key}
use Rattle.timeline.specs.Puts.{IsJoined, IsPut}
use Rattle.timeline.proofs.Drawings.{stands-within}
use Rattle.timeline.proofs.Grafts.{lower-graft, higher-graft, graft-count, graft-weight}
use Rattle.timeline.proofs.Readings.{span-place, span-read, key-place, key-read, made-read}
use Rattle.timeline.proofs.tree.Tree.graft.Goals as goal

pub index-old-requires : goal.index-old-requires
index-old-requires c = span-place c.args.self.now c.args.at c.requires.stands

pub index-requires : goal.index-requires
index-requires c =
    let tree = c.args.self.now in
    let old : Store = store_of tree in
    let i = c.args.at in let edit = c.args.edit in let tip = c.args.tip in let limit = c.args.limit in
    let s = c.index-old.result.now in
    let read = span-read tree i s c.requires.stands c.index-old.ensures in
    let made = made-read tree i s c.requires.stands read in
    key-place tree s.edit made

pub parting-half-requires-clause-height : goal.parting-half-requires-clause-height
parting-half-requires-clause-height c =
    let tree = c.args.self.now in
    let old : Store = store_of tree in
    let i = c.args.at in let edit = c.args.edit in let tip = c.args.tip in let limit = c.args.limit in
    let s = c.index-old.result.now in
    let read = span-read tree i s c.requires.stands c.index-old.ensures in
    let made = made-read tree i s c.requires.stands read in
    omega (arith, ap (λ (w : Span). w.height) read, c.requires.low)

pub parting-half-requires-clause-apart : goal.parting-half-requires-clause-apart
parting-half-requires-clause-apart c =
    let tree = c.args.self.now in
    let old : Store = store_of tree in
    let i = c.args.at in let edit = c.args.edit in let tip = c.args.tip in let limit = c.args.limit in
    let s = c.index-old.result.now in
    let read = span-read tree i s c.requires.stands c.index-old.ensures in
    let made = made-read tree i s c.requires.stands read in
    let key : c.index-key.result.now ≡ edit_key old edit = key-read tree edit c.index-key.result.now c.requires.edit c.index-key.ensures in
    let other : c.index.result.now ≡ edit_key old (span_at old i).edit = key-read tree s.edit c.index.result.now made c.index.ensures ∙ ap (λ (w : Span). edit_key old w.edit) read in
    λ e. c.requires.apart
    (sym (ap (λ (n : ℕ). n / 2 ^ (span_at old i).height) other) ∙ sym (ap (λ (w : Span). c.index.result.now / 2 ^ w.height) read) ∙ e
    ∙ ap (λ (w : Span). c.index-key.result.now / 2 ^ w.height) read ∙ ap (λ (n : ℕ). n / 2 ^ (span_at old i).height) key)

pub parting-half-requires-clause-together : goal.parting-half-requires-clause-together
parting-half-requires-clause-together c =
    let tree = c.args.self.now in
    let old : Store = store_of tree in
    let i = c.args.at in let edit = c.args.edit in let tip = c.args.tip in let limit = c.args.limit in
    let s = c.index-old.result.now in
    let read = span-read tree i s c.requires.stands c.index-old.ensures in
    let made = made-read tree i s c.requires.stands read in
    let key : c.index-key.result.now ≡ edit_key old edit = key-read tree edit c.index-key.result.now c.requires.edit c.index-key.ensures in
    let other : c.index.result.now ≡ edit_key old (span_at old i).edit = key-read tree s.edit c.index.result.now made c.index.ensures ∙ ap (λ (w : Span). edit_key old w.edit) read in
    ap (λ (n : ℕ). n / 2 ^ limit) other ∙ c.requires.together ∙ sym (ap (λ (n : ℕ). n / 2 ^ limit) key)

pub join-requires-clause-right : goal.join-requires-clause-right
join-requires-clause-right c = stands-within (store_of c.args.self.now) c.args.at c.requires.stands

pub join-requires-else-is_lower-clause-left : goal.join-requires-else-is_lower-clause-left
join-requires-else-is_lower-clause-left c = stands-within (store_of c.args.self.now) c.args.at c.requires.stands

pub join-requires-clause-count : goal.join-requires-clause-count
join-requires-clause-count c =
    let tree = c.args.self.now in
    let old : Store = store_of tree in
    let i = c.args.at in let edit = c.args.edit in let tip = c.args.tip in let limit = c.args.limit in
    let s = c.index-old.result.now in
    let read = span-read tree i s c.requires.stands c.index-old.ensures in
    let made = made-read tree i s c.requires.stands read in
    let key : c.index-key.result.now ≡ edit_key old edit = key-read tree edit c.index-key.result.now c.requires.edit c.index-key.ensures in
    let other : c.index.result.now ≡ edit_key old (span_at old i).edit = key-read tree s.edit c.index.result.now made c.index.ensures ∙ ap (λ (w : Span). edit_key old w.edit) read in
    let half = c.parting-half.result in
    let above : (span_at old i).height ≤ half = omega (arith, ap (λ (w : Span). w.height) read, c.parting-half.ensures.height) in
    let apart : edit_key old (span_at old i).edit / 2 ^ half ≡ edit_key old edit / 2 ^ half → ⊥ =
    λ e. c.parting-half.ensures.apart (ap (λ (n : ℕ). n / 2 ^ half) other ∙ e ∙ sym (ap (λ (n : ℕ). n / 2 ^ half) key)) in
    let together : edit_key old (span_at old i).edit / 2 ^ (half + 1) ≡ edit_key old edit / 2 ^ (half + 1) =
    sym (ap (λ (n : ℕ). n / 2 ^ (half + 1)) other) ∙ c.parting-half.ensures.together ∙ ap (λ (n : ℕ). n / 2 ^ (half + 1)) key in
    graft-count old old limit i tip edit half c.requires.stands c.requires.edit c.requires.older c.requires.limit c.requires.tip above c.parting-half.ensures.limit apart together c.requires.room c.requires.fit

pub join-requires-clause-weight : goal.join-requires-clause-weight
join-requires-clause-weight c =
    let tree = c.args.self.now in
    let old : Store = store_of tree in
    let i = c.args.at in let edit = c.args.edit in let tip = c.args.tip in let limit = c.args.limit in
    let s = c.index-old.result.now in
    let read = span-read tree i s c.requires.stands c.index-old.ensures in
    let made = made-read tree i s c.requires.stands read in
    let key : c.index-key.result.now ≡ edit_key old edit = key-read tree edit c.index-key.result.now c.requires.edit c.index-key.ensures in
    let other : c.index.result.now ≡ edit_key old (span_at old i).edit = key-read tree s.edit c.index.result.now made c.index.ensures ∙ ap (λ (w : Span). edit_key old w.edit) read in
    let half = c.parting-half.result in
    let above : (span_at old i).height ≤ half = omega (arith, ap (λ (w : Span). w.height) read, c.parting-half.ensures.height) in
    let apart : edit_key old (span_at old i).edit / 2 ^ half ≡ edit_key old edit / 2 ^ half → ⊥ =
    λ e. c.parting-half.ensures.apart (ap (λ (n : ℕ). n / 2 ^ half) other ∙ e ∙ sym (ap (λ (n : ℕ). n / 2 ^ half) key)) in
    let together : edit_key old (span_at old i).edit / 2 ^ (half + 1) ≡ edit_key old edit / 2 ^ (half + 1) =
    sym (ap (λ (n : ℕ). n / 2 ^ (half + 1)) other) ∙ c.parting-half.ensures.together ∙ ap (λ (n : ℕ). n / 2 ^ (half + 1)) key in
    graft-weight old old limit i tip edit half c.requires.stands c.requires.edit c.requires.older c.requires.limit c.requires.tip above c.parting-half.ensures.limit apart together c.requires.room c.requires.fit

pub join-requires-else-is_lower-clause-count : goal.join-requires-else-is_lower-clause-count
join-requires-else-is_lower-clause-count c =
    let tree = c.args.self.now in
    let old : Store = store_of tree in
    let i = c.args.at in let edit = c.args.edit in let tip = c.args.tip in let limit = c.args.limit in
    let s = c.index-old.result.now in
    let read = span-read tree i s c.requires.stands c.index-old.ensures in
    let made = made-read tree i s c.requires.stands read in
    let key : c.index-key.result.now ≡ edit_key old edit = key-read tree edit c.index-key.result.now c.requires.edit c.index-key.ensures in
    let other : c.index.result.now ≡ edit_key old (span_at old i).edit = key-read tree s.edit c.index.result.now made c.index.ensures ∙ ap (λ (w : Span). edit_key old w.edit) read in
    let half = c.parting-half.result in
    let above : (span_at old i).height ≤ half = omega (arith, ap (λ (w : Span). w.height) read, c.parting-half.ensures.height) in
    let apart : edit_key old (span_at old i).edit / 2 ^ half ≡ edit_key old edit / 2 ^ half → ⊥ =
    λ e. c.parting-half.ensures.apart (ap (λ (n : ℕ). n / 2 ^ half) other ∙ e ∙ sym (ap (λ (n : ℕ). n / 2 ^ half) key)) in
    let together : edit_key old (span_at old i).edit / 2 ^ (half + 1) ≡ edit_key old edit / 2 ^ (half + 1) =
    sym (ap (λ (n : ℕ). n / 2 ^ (half + 1)) other) ∙ c.parting-half.ensures.together ∙ ap (λ (n : ℕ). n / 2 ^ (half + 1)) key in
    let sum = graft-count old old limit i tip edit half c.requires.stands c.requires.edit c.requires.older c.requires.limit c.requires.tip above c.parting-half.ensures.limit apart together c.requires.room c.requires.fit in
    omega (arith, sum)

pub join-requires-else-is_lower-clause-weight : goal.join-requires-else-is_lower-clause-weight
join-requires-else-is_lower-clause-weight c =
    let tree = c.args.self.now in
    let old : Store = store_of tree in
    let i = c.args.at in let edit = c.args.edit in let tip = c.args.tip in let limit = c.args.limit in
    let s = c.index-old.result.now in
    let read = span-read tree i s c.requires.stands c.index-old.ensures in
    let made = made-read tree i s c.requires.stands read in
    let key : c.index-key.result.now ≡ edit_key old edit = key-read tree edit c.index-key.result.now c.requires.edit c.index-key.ensures in
    let other : c.index.result.now ≡ edit_key old (span_at old i).edit = key-read tree s.edit c.index.result.now made c.index.ensures ∙ ap (λ (w : Span). edit_key old w.edit) read in
    let half = c.parting-half.result in
    let above : (span_at old i).height ≤ half = omega (arith, ap (λ (w : Span). w.height) read, c.parting-half.ensures.height) in
    let apart : edit_key old (span_at old i).edit / 2 ^ half ≡ edit_key old edit / 2 ^ half → ⊥ =
    λ e. c.parting-half.ensures.apart (ap (λ (n : ℕ). n / 2 ^ half) other ∙ e ∙ sym (ap (λ (n : ℕ). n / 2 ^ half) key)) in
    let together : edit_key old (span_at old i).edit / 2 ^ (half + 1) ≡ edit_key old edit / 2 ^ (half + 1) =
    sym (ap (λ (n : ℕ). n / 2 ^ (half + 1)) other) ∙ c.parting-half.ensures.together ∙ ap (λ (n : ℕ). n / 2 ^ (half + 1)) key in
    let sum = graft-weight old old limit i tip edit half c.requires.stands c.requires.edit c.requires.older c.requires.limit c.requires.tip above c.parting-half.ensures.limit apart together c.requires.room c.requires.fit in
    omega (arith, sum)

pub returns-then-is_lower-clause-ok : goal.returns-then-is_lower-clause-ok
returns-then-is_lower-clause-ok c =
    let tree = c.args.self.now in
    let old : Store = store_of tree in
    let i = c.args.at in let edit = c.args.edit in let tip = c.args.tip in let limit = c.args.limit in
    let s = c.index-old.result.now in
    let read = span-read tree i s c.requires.stands c.index-old.ensures in
    let made = made-read tree i s c.requires.stands read in
    let key : c.index-key.result.now ≡ edit_key old edit = key-read tree edit c.index-key.result.now c.requires.edit c.index-key.ensures in
    let other : c.index.result.now ≡ edit_key old (span_at old i).edit = key-read tree s.edit c.index.result.now made c.index.ensures ∙ ap (λ (w : Span). edit_key old w.edit) read in
    let half = c.parting-half.result in
    let above : (span_at old i).height ≤ half = omega (arith, ap (λ (w : Span). w.height) read, c.parting-half.ensures.height) in
    let apart : edit_key old (span_at old i).edit / 2 ^ half ≡ edit_key old edit / 2 ^ half → ⊥ =
    λ e. c.parting-half.ensures.apart (ap (λ (n : ℕ). n / 2 ^ half) other ∙ e ∙ sym (ap (λ (n : ℕ). n / 2 ^ half) key)) in
    let together : edit_key old (span_at old i).edit / 2 ^ (half + 1) ≡ edit_key old edit / 2 ^ (half + 1) =
    sym (ap (λ (n : ℕ). n / 2 ^ (half + 1)) other) ∙ c.parting-half.ensures.together ∙ ap (λ (n : ℕ). n / 2 ^ (half + 1)) key in
    let new : Store = store_of c.join.new.self in
    let first : edit_key old edit / 2 ^ half ≡ 2 * (edit_key old edit / 2 ^ (half + 1)) =
    subst (λ (n : ℕ). n / 2 ^ half ≡ 2 * (n / 2 ^ (half + 1))) key (OnTrue_at c.if-is_lower.true c.is_lower.ensures.lower) in
    IfOk-weaker c.join.result (IsJoined old new half tip i edit) (IsPut old new limit i tip edit) (λ j joined. lower-graft old new limit i tip edit half c.requires.stands c.requires.edit c.requires.older c.requires.limit c.requires.tip above c.parting-half.ensures.limit apart together j joined first) c.join.ensures.ok

pub returns-else-is_lower-clause-ok : goal.returns-else-is_lower-clause-ok
returns-else-is_lower-clause-ok c =
    let tree = c.args.self.now in
    let old : Store = store_of tree in
    let i = c.args.at in let edit = c.args.edit in let tip = c.args.tip in let limit = c.args.limit in
    let s = c.index-old.result.now in
    let read = span-read tree i s c.requires.stands c.index-old.ensures in
    let made = made-read tree i s c.requires.stands read in
    let key : c.index-key.result.now ≡ edit_key old edit = key-read tree edit c.index-key.result.now c.requires.edit c.index-key.ensures in
    let other : c.index.result.now ≡ edit_key old (span_at old i).edit = key-read tree s.edit c.index.result.now made c.index.ensures ∙ ap (λ (w : Span). edit_key old w.edit) read in
    let half = c.parting-half.result in
    let above : (span_at old i).height ≤ half = omega (arith, ap (λ (w : Span). w.height) read, c.parting-half.ensures.height) in
    let apart : edit_key old (span_at old i).edit / 2 ^ half ≡ edit_key old edit / 2 ^ half → ⊥ =
    λ e. c.parting-half.ensures.apart (ap (λ (n : ℕ). n / 2 ^ half) other ∙ e ∙ sym (ap (λ (n : ℕ). n / 2 ^ half) key)) in
    let together : edit_key old (span_at old i).edit / 2 ^ (half + 1) ≡ edit_key old edit / 2 ^ (half + 1) =
    sym (ap (λ (n : ℕ). n / 2 ^ (half + 1)) other) ∙ c.parting-half.ensures.together ∙ ap (λ (n : ℕ). n / 2 ^ (half + 1)) key in
    let new : Store = store_of c.join-else-is_lower.new.self in
    let second : edit_key old edit / 2 ^ half ≡ 2 * (edit_key old edit / 2 ^ (half + 1)) + 1 =
    subst (λ (n : ℕ). n / 2 ^ half ≡ 2 * (n / 2 ^ (half + 1)) + 1) key (OnFalse_at c.if-is_lower.false c.is_lower.ensures.higher) in
    IfOk-weaker c.join-else-is_lower.result (IsJoined old new half i tip edit) (IsPut old new limit i tip edit) (λ j joined. higher-graft old new limit i tip edit half c.requires.stands c.requires.edit c.requires.older c.requires.limit c.requires.tip above c.parting-half.ensures.limit apart together j joined second) c.join-else-is_lower.ensures.ok
