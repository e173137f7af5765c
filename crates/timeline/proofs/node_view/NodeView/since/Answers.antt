use Rattle.std.proofs.Common.{◌∙◌, ℕ, suc, ap, subst, add-one}
use Rattle.dyadic.specs.Nodes.{low_of, high_of}
use Rattle.timeline.specs.declared.span.Span.{Span}
use Rattle.timeline.specs.Stores.{Store, store_of}
use Rattle.timeline.specs.Moments.{since}
use Rattle.timeline.specs.Pasts.{rows_at}
use Rattle.timeline.specs.Timelines.{past_in}
use Rattle.timeline.specs.Places.{NodeViewValue, IsPlace, IsBare, IsPlaced, key_in, digits_of}
use Rattle.timeline.proofs.Readings.{span-place, span-read}
use Rattle.timeline.proofs.NodeViews.{bare-since, place-since}
use Rattle.timeline.proofs.node_view.NodeView.since.Goals as goal

pub index-requires : goal.index-requires
index-requires c =
    let store : Store = store_of c.self.inside.tree.now in let roots = c.self.inside.roots.now in
    let v = c.self.inside.version in let node = c.self.inside.node in
    let i = c.in-Some.at in
    let place : IsPlace store (rows_at (past_in store roots) v) (λ (m n : ℕ). since m n store.keys v) (key_in node) (digits_of node) i =
    subst (IsPlaced store (rows_at (past_in store roots) v) (λ (m n : ℕ). since m n store.keys v) (key_in node) (digits_of node)) c.in-Some.is c.self.invariant.placed in
    span-place c.self.inside.tree.now i place.stands

pub returns-in-Some : goal.returns-in-Some
returns-in-Some c =
    let store : Store = store_of c.self.inside.tree.now in let roots = c.self.inside.roots.now in
    let v = c.self.inside.version in let node = c.self.inside.node in
    let i = c.in-Some.at in
    let place : IsPlace store (rows_at (past_in store roots) v) (λ (m n : ℕ). since m n store.keys v) (key_in node) (digits_of node) i =
    subst (IsPlaced store (rows_at (past_in store roots) v) (λ (m n : ℕ). since m n store.keys v) (key_in node) (digits_of node)) c.in-Some.is c.self.invariant.placed in
    let s = c.index.result.now in
    add-one s.edit ∙ ap (λ (w : Span). suc w.edit) (span-read c.self.inside.tree.now i s place.stands c.index.ensures)
    ∙ place-since store roots v node c.self.inside.at c.self.invariant i place
    ∙ ap (λ (n : NodeViewValue). since (low_of n.node) (high_of n.node) n.past.ticks n.version) c.self.view_is

pub returns-in-None : goal.returns-in-None
returns-in-None c =
    let store : Store = store_of c.self.inside.tree.now in let roots = c.self.inside.roots.now in
    let v = c.self.inside.version in let node = c.self.inside.node in
    let bare : IsBare (rows_at (past_in store roots) v) (λ (m n : ℕ). since m n store.keys v) (key_in node) (digits_of node) =
    subst (IsPlaced store (rows_at (past_in store roots) v) (λ (m n : ℕ). since m n store.keys v) (key_in node) (digits_of node)) c.in-None.is c.self.invariant.placed in
    bare-since store roots v node c.self.inside.at c.self.invariant bare
    ∙ ap (λ (n : NodeViewValue). since (low_of n.node) (high_of n.node) n.past.ticks n.version) c.self.view_is
