use Rattle.std.proofs.Common.{ℕ, sym, subst}
use Rattle.timeline.specs.Moments.{since}
use Rattle.timeline.specs.Pasts.{rows_at}
use Rattle.timeline.specs.Stores.{Store, store_of}
use Rattle.timeline.specs.Timelines.{past_in}
use Rattle.timeline.specs.Places.{IsView, IsPlace, IsPlaced, key_in, digits_of}
use Rattle.timeline.proofs.NodeViews.{bare-within, place-within}
use Rattle.timeline.proofs.node_view.place_within.Goals as goal

pub returns-in_err-at : goal.returns-in_err-at
returns-in_err-at c =
    let store : Store = store_of c.args.tree.now in let roots = c.args.roots.now in
    subst (IsView store roots c.args.v c.args.inner) (sym c.from_residual.ensures)
    (bare-within store roots c.args.v c.args.node c.args.inner c.requires.within (subst (IsView store roots c.args.v c.args.node) c.in_err-at.was c.requires.view))

pub returns : goal.returns
returns c =
    let store : Store = store_of c.args.tree.now in let roots = c.args.roots.now in
    let v = c.args.v in let node = c.args.node in let i = c.in_ok-at.field-0 in
    let place : IsPlace store (rows_at (past_in store roots) v) (λ (m n : ℕ). since m n store.keys v) (key_in node) (digits_of node) i =
    subst (IsPlaced store (rows_at (past_in store roots) v) (λ (m n : ℕ). since m n store.keys v) (key_in node) (digits_of node)) c.in_ok-at.was c.requires.view.placed in
    place-within store roots v node c.args.at c.requires.view i place c.args.inner c.place_under.result c.requires.within c.place_under.ensures
