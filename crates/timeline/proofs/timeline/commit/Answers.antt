use Rattle.std.proofs.Common.{◌≡◌, ◌∙◌, take, ℕ, List, arith, ap, sym, subst}
use Rattle.timeline.specs.Stores.{Store, store_of, no_span, no_row}
use Rattle.timeline.specs.Puts.{Grows}
use Rattle.timeline.specs.Timelines.{IsTimeline}
use Rattle.timeline.proofs.Growth.{Keeps-take, same-store}
use Rattle.timeline.proofs.timeline.commit.Goals as goal

pub returns-in-Err-clause-timeline : goal.returns-in-Err-clause-timeline
returns-in-Err-clause-timeline c =
    let old : Store = store_of c.args.tree.now in
    let spoiled : Store = store_of c.extend.new.tree in
    let new : Store = record { spans = c.truncate.new.self.items; rows = c.truncate-in-Err.new.self.items; keys = c.truncate-in-Err-2.new.self.items } in
    let grown : Grows old spoiled = c.in-Err.ensures.spoiled in
    let spans : new.spans ≡ old.spans =
    c.truncate.ensures.items ∙ ap (λ (n : ℕ). take n spoiled.spans) (omega (arith, c.len-spans.ensures, c.args.tree.now.spans.ok.0)) ∙ Keeps-take no_span old.spans spoiled.spans grown.spans in
    let rows : new.rows ≡ old.rows =
    c.truncate-in-Err.ensures.items ∙ ap (λ (n : ℕ). take n spoiled.rows) (omega (arith, c.len-rows.ensures, c.args.tree.now.rows.ok.0)) ∙ Keeps-take no_row old.rows spoiled.rows grown.rows in
    let keys : new.keys ≡ old.keys =
    c.truncate-in-Err-2.ensures.items ∙ ap (λ (n : ℕ). take n spoiled.keys) (omega (arith, c.len-keys.ensures, c.args.tree.now.keys.ok.0)) ∙ Keeps-take 0 old.keys spoiled.keys grown.keys in
    let same : new ≡ old = same-store old new spans rows keys in
    subst (λ (rs : List ℕ). IsTimeline new rs) (sym c.in-Err.ensures.roots) (subst (λ (s : Store). IsTimeline s c.args.roots.now.items) (sym same) c.requires.timeline)

pub returns-in-Err-clause-nodes : goal.returns-in-Err-clause-nodes
returns-in-Err-clause-nodes c =
    let old : Store = store_of c.args.tree.now in
    let spoiled : Store = store_of c.extend.new.tree in
    let new : Store = record { spans = c.truncate.new.self.items; rows = c.truncate-in-Err.new.self.items; keys = c.truncate-in-Err-2.new.self.items } in
    let grown : Grows old spoiled = c.in-Err.ensures.spoiled in
    let spans : new.spans ≡ old.spans =
    c.truncate.ensures.items ∙ ap (λ (n : ℕ). take n spoiled.spans) (omega (arith, c.len-spans.ensures, c.args.tree.now.spans.ok.0)) ∙ Keeps-take no_span old.spans spoiled.spans grown.spans in
    let rows : new.rows ≡ old.rows =
    c.truncate-in-Err.ensures.items ∙ ap (λ (n : ℕ). take n spoiled.rows) (omega (arith, c.len-rows.ensures, c.args.tree.now.rows.ok.0)) ∙ Keeps-take no_row old.rows spoiled.rows grown.rows in
    let keys : new.keys ≡ old.keys =
    c.truncate-in-Err-2.ensures.items ∙ ap (λ (n : ℕ). take n spoiled.keys) (omega (arith, c.len-keys.ensures, c.args.tree.now.keys.ok.0)) ∙ Keeps-take 0 old.keys spoiled.keys grown.keys in
    let same : new ≡ old = same-store old new spans rows keys in
    same
