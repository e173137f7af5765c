use Rattle.std.proofs.Common.{◌∙◌, ℕ, List, ◌++◌, ap, subst}
use Rattle.definitions.specs.Rows.{RowValue, rows_in}
use Rattle.dyadic.specs.Nodes.{low_of, high_of}
use Rattle.timeline.specs.Tries.{rows_of}
use Rattle.timeline.specs.Stores.{trie}
use Rattle.timeline.specs.Stores.{Store, store_of}
use Rattle.timeline.specs.Moments.{since}
use Rattle.timeline.specs.Pasts.{rows_at}
use Rattle.timeline.specs.Timelines.{past_in}
use Rattle.timeline.specs.Places.{NodeViewValue, IsPlace, IsBare, IsPlaced, key_in, digits_of}
use Rattle.timeline.proofs.NodeViews.{bare-rows, place-rows}
use Rattle.timeline.proofs.node_view.NodeView.copy.Goals as goal

pub returns-in_default : goal.returns-in_default
returns-in_default c =
    let store : Store = store_of c.self.inside.tree.now in let roots = c.self.inside.roots.now in
    let v = c.self.inside.version in let node = c.self.inside.node in
    let bare : IsBare (rows_at (past_in store roots) v) (λ (m n : ℕ). since m n store.keys v) (key_in node) (digits_of node) =
    subst (IsPlaced store (rows_at (past_in store roots) v) (λ (m n : ℕ). since m n store.keys v) (key_in node) (digits_of node)) c.in_default.is c.self.invariant.placed in
    c.of.ensures ∙ c.new-rows.ensures.items ∙ bare-rows store roots v node c.self.inside.at c.self.invariant bare
    ∙ ap (λ (n : NodeViewValue). rows_in (low_of n.node) (high_of n.node) (rows_at n.past n.version)) c.self.view_is

pub returns : goal.returns
returns c =
    let store : Store = store_of c.self.inside.tree.now in let roots = c.self.inside.roots.now in
    let v = c.self.inside.version in let node = c.self.inside.node in
    let i = c.in-Some.at in
    let place : IsPlace store (rows_at (past_in store roots) v) (λ (m n : ℕ). since m n store.keys v) (key_in node) (digits_of node) i =
    subst (IsPlaced store (rows_at (past_in store roots) v) (λ (m n : ℕ). since m n store.keys v) (key_in node) (digits_of node)) c.in-Some.is c.self.invariant.placed in
    c.of-2.ensures ∙ c.in_ok-copy_all.ensures ∙ ap (λ (rs : List RowValue). rs ++ rows_of (trie store i)) c.new-rows.ensures.items
    ∙ place-rows store roots v node c.self.inside.at c.self.invariant i place
    ∙ ap (λ (n : NodeViewValue). rows_in (low_of n.node) (high_of n.node) (rows_at n.past n.version)) c.self.view_is
