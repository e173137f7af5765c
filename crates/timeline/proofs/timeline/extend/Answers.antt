use Rattle.std.proofs.Common.{◌≡◌, ◌∙◌, length, ℕ, List, arith, ap, sym, subst, refl}
use Rattle.timeline.specs.Stores.{Store, store_of}
use Rattle.timeline.specs.Puts.{listed}
use Rattle.timeline.specs.Timelines.{AreRoots, IsTimeline, IsNext, past_in}
use Rattle.timeline.proofs.Timelines.{two-roots, extended, extended-past}
use Rattle.timeline.proofs.timeline.extend.Goals as goal

pub next_root-requires-clause-roots : goal.next_root-requires-clause-roots
next_root-requires-clause-roots c =
    let tree = c.args.tree.now in
    let old : Store = store_of tree in
    let one : Store = record { spans = tree.spans.items; rows = tree.rows.items; keys = c.push.new.self.items } in
    let two : Store = store_of c.tip.new.self in
    let roots = c.args.roots.now.items in let key = c.args.key in let edit = c.len-edit.result in let tip = c.in_ok-tip.tip in
    let edit-is : edit ≡ length old.keys = omega (arith, c.len-edit.ensures, tree.keys.ok.0) in
    subst (λ (rs : List ℕ). AreRoots two rs) (sym c.deref.ensures.value)
    (two-roots old one two two roots key edit tip tip (listed c.args.row) c.requires.timeline edit-is refl refl c.in_ok-push.ensures.items c.in_ok-tip.ensures.grown)

pub returns-clause-timeline : goal.returns-clause-timeline
returns-clause-timeline c =
    let tree = c.args.tree.now in
    let old : Store = store_of tree in
    let one : Store = record { spans = tree.spans.items; rows = tree.rows.items; keys = c.push.new.self.items } in
    let two : Store = store_of c.tip.new.self in
    let roots = c.args.roots.now.items in let key = c.args.key in let edit = c.len-edit.result in let tip = c.in_ok-tip.tip in
    let edit-is : edit ≡ length old.keys = omega (arith, c.len-edit.ensures, tree.keys.ok.0) in
    let three : Store = store_of c.next_root.new.tree in let root = c.in_ok-root.root in
    let next : IsNext two three roots tip edit root = subst (λ (rs : List ℕ). IsNext two three rs tip edit root) c.deref.ensures.value c.in_ok-root.ensures.ok in
    subst (λ (rs : List ℕ). IsTimeline three rs) (sym c.in_ok-push-2.ensures.items)
    (extended old one two three roots key edit tip root (listed c.args.row) c.requires.timeline edit-is refl refl c.in_ok-push.ensures.items c.in_ok-tip.ensures.grown c.in_ok-tip.ensures.ok next c.requires.room)

pub returns-clause-ok : goal.returns-clause-ok
returns-clause-ok c =
    let tree = c.args.tree.now in
    let old : Store = store_of tree in
    let one : Store = record { spans = tree.spans.items; rows = tree.rows.items; keys = c.push.new.self.items } in
    let two : Store = store_of c.tip.new.self in
    let roots = c.args.roots.now.items in let key = c.args.key in let edit = c.len-edit.result in let tip = c.in_ok-tip.tip in
    let edit-is : edit ≡ length old.keys = omega (arith, c.len-edit.ensures, tree.keys.ok.0) in
    let three : Store = store_of c.next_root.new.tree in let root = c.in_ok-root.root in
    let next : IsNext two three roots tip edit root = subst (λ (rs : List ℕ). IsNext two three rs tip edit root) c.deref.ensures.value c.in_ok-root.ensures.ok in
    ap (λ (rs : List ℕ). past_in three rs) c.in_ok-push-2.ensures.items ∙ extended-past old one two three roots key edit tip root (listed c.args.row) c.requires.timeline edit-is refl refl c.in_ok-push.ensures.items c.in_ok-tip.ensures.grown c.in_ok-tip.ensures.ok next
