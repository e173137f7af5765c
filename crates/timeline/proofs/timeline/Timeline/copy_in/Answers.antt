use Rattle.std.proofs.Common.{◌≡◌, ◌∙◌, ◌-◌, ◌≤◌, ℕ, List, ◌++◌, length, get_or, ap, sym, subst}
use Rattle.std.proofs.lemmas.List.{get_or_read}
use Rattle.definitions.specs.Rows.{RowValue, rows_in}
use Rattle.timeline.specs.Keys.{keyed_in, key_at as key_with}
use Rattle.timeline.specs.Pasts.{PastValue, rows_at}
use Rattle.timeline.specs.Tries.{rows_of}
use Rattle.timeline.specs.Stores.{Store, store_of, trie}
use Rattle.timeline.specs.Timelines.{past_in}
use Rattle.timeline.proofs.Ticks.{root-there, keyed-here}
use Rattle.timeline.proofs.timeline.Timeline.copy_in.Goals as goal

pub returns : goal.returns
returns c =
    let store : Store = store_of c.self.inside.tree in let roots = c.self.inside.roots.items in
    let a = c.args.from in let b = c.args.to in let v = c.args.v in
    let within : v ≤ length (past_in store roots).ticks = subst (λ (p : PastValue). v ≤ length p.ticks) (sym c.self.view_is) c.requires.version in
    let root = c.index-root.result.now in
    let root-same : root ≡ get_or roots (v - 1) 0 = get_or_read roots (v - 1) root (root-there store roots c.self.invariant a b v c.if-v-eq0.false within) c.index-root.ensures 0 in
    let keyed : keyed_in (key_with a 0) (key_with b 0) (rows_of (trie store root)) ≡ rows_in a b (rows_at c.args.self.now v) =
    ap (λ (i : ℕ). keyed_in (key_with a 0) (key_with b 0) (rows_of (trie store i))) root-same ∙ keyed-here store roots c.self.invariant a b v c.if-v-eq0.false within ∙ ap (λ (p : PastValue). rows_in a b (rows_at p v)) c.self.view_is in
    c.of-2.ensures ∙ c.in_ok-copy_under.ensures ∙ ap (λ (rs : List RowValue). rs ++ keyed_in c.key_at-low.result c.key_at-high.result (rows_of (trie store root))) c.new-rows.ensures.items
    ∙ ap (λ (k : ℕ). keyed_in k c.key_at-high.result (rows_of (trie store root))) c.key_at-low.ensures ∙ ap (λ (k : ℕ). keyed_in (key_with a 0) k (rows_of (trie store root))) c.key_at-high.ensures
    ∙ keyed
