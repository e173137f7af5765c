use Rattle.std.proofs.Common.{◌≡◌, ◌∙◌, ◌-◌, ◌<◌, ◌^◌, ℕ, suc, length, get_or, arith, sym, refl}
use Rattle.std.proofs.lemmas.List.Elements.{All-get_or}
use Rattle.std.proofs.lemmas.Result.{IfOk-weaker}
use Rattle.timeline.specs.Stores.{Store, store_of, span_at, edit_key}
use Rattle.timeline.specs.Puts.{IsPut, AreFit}
use Rattle.timeline.specs.Timelines.{IsRoot, IsNext}
use Rattle.timeline.proofs.Timelines.{first-next, last-root, later-next, no-prefix}
use Rattle.timeline.proofs.timeline.next_root.Goals as goal

low-key : (store : Store) (edit : ℕ) → AreFit store → edit < length store.keys → edit_key store edit < 2 ^ 63
low-key store edit fit h = All-get_or (λ (k : ℕ). k < 2 ^ 63) store.keys edit 0 h fit.keys

pub returns-then-edit-eq0-clause-ok : goal.returns-then-edit-eq0-clause-ok
returns-then-edit-eq0-clause-ok c =
    first-next (store_of c.args.tree.now) c.args.roots.now c.args.tip c.args.edit c.if-edit-eq0.true c.requires.edit c.requires.tip

pub put-requires-clause-stands : goal.put-requires-clause-stands
put-requires-clause-stands c =
    let old : Store = store_of c.args.tree.now in let roots = c.args.roots.now in let edit = c.args.edit in let last = edit - 1 in let root = get_or roots last 0 in
    let last-is : edit ≡ suc last = omega (arith, c.if-edit-eq0.false) in
    let is : IsRoot old last root = last-root old old roots c.args.tip edit last root root c.requires.edit last-is refl c.requires.roots in
    is.stands

pub put-requires-clause-low : goal.put-requires-clause-low
put-requires-clause-low c =
    let old : Store = store_of c.args.tree.now in let roots = c.args.roots.now in let edit = c.args.edit in let last = edit - 1 in let root = get_or roots last 0 in
    let last-is : edit ≡ suc last = omega (arith, c.if-edit-eq0.false) in
    let is : IsRoot old last root = last-root old old roots c.args.tip edit last root root c.requires.edit last-is refl c.requires.roots in
    is.stands.low

pub put-requires-clause-older : goal.put-requires-clause-older
put-requires-clause-older c =
    let old : Store = store_of c.args.tree.now in let roots = c.args.roots.now in let edit = c.args.edit in let last = edit - 1 in let root = get_or roots last 0 in
    let last-is : edit ≡ suc last = omega (arith, c.if-edit-eq0.false) in
    let is : IsRoot old last root = last-root old old roots c.args.tip edit last root root c.requires.edit last-is refl c.requires.roots in
    omega (arith, is.edit, last-is)

pub put-requires-clause-together : goal.put-requires-clause-together
put-requires-clause-together c =
    let old : Store = store_of c.args.tree.now in let roots = c.args.roots.now in let edit = c.args.edit in let last = edit - 1 in let root = get_or roots last 0 in
    let last-is : edit ≡ suc last = omega (arith, c.if-edit-eq0.false) in
    let is : IsRoot old last root = last-root old old roots c.args.tip edit last root root c.requires.edit last-is refl c.requires.roots in
    no-prefix (edit_key old (span_at old root).edit) (low-key old (span_at old root).edit c.requires.fit (omega (arith, is.edit, last-is, c.requires.made)))
    ∙ sym (no-prefix (edit_key old edit) (low-key old edit c.requires.fit c.requires.made))

pub put-requires-clause-room : goal.put-requires-clause-room
put-requires-clause-room c =
    let old : Store = store_of c.args.tree.now in let roots = c.args.roots.now in let edit = c.args.edit in let last = edit - 1 in let root = get_or roots last 0 in
    let last-is : edit ≡ suc last = omega (arith, c.if-edit-eq0.false) in
    let is : IsRoot old last root = last-root old old roots c.args.tip edit last root root c.requires.edit last-is refl c.requires.roots in
    omega (arith, is.few, last-is, c.requires.bound)

pub returns-clause-ok : goal.returns-clause-ok
returns-clause-ok c =
    let old : Store = store_of c.args.tree.now in let roots = c.args.roots.now in let edit = c.args.edit in let last = edit - 1 in let root = get_or roots last 0 in
    let last-is : edit ≡ suc last = omega (arith, c.if-edit-eq0.false) in
    let new : Store = store_of c.put.new.self in
    IfOk-weaker c.put.result (IsPut old new 63 root c.args.tip edit) (IsNext old new roots c.args.tip edit)
    (λ j put. later-next old new roots c.args.tip edit last root j c.requires.edit last-is refl c.requires.roots c.requires.tip put) c.put.ensures.ok
