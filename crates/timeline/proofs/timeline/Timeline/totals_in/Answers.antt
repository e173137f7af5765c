use Rattle.std.proofs.Common.{◌≡◌, ◌∙◌, ◌-◌, ◌<◌, ◌≤◌, ◌^◌, ℕ, List, length, get_or, ap, sym, subst}
use Rattle.std.proofs.lemmas.List.{get_or_read}
use Rattle.definitions.specs.Rows.{RowValue, rows_in, moves_of}
use Rattle.definitions.specs.Signature.{weight as weight_of}
use Rattle.timeline.specs.declared.view.Totals.{Totals}
use Rattle.timeline.specs.Keys.{keyed_in, key_at as key_with}
use Rattle.timeline.specs.Moments.{since as since_version}
use Rattle.timeline.specs.Pasts.{PastValue, rows_at}
use Rattle.timeline.specs.Tries.{rows_of, last_in}
use Rattle.timeline.specs.Stores.{Store, store_of, span_at, trie, Stands}
use Rattle.timeline.specs.Views.{AreTotals}
use Rattle.timeline.specs.Timelines.{past_in}
use Rattle.timeline.proofs.Ticks.{none-at, none-since, root-there, root-is, root-few, keyed-here, since-here}
use Rattle.timeline.proofs.timeline.Timeline.totals_in.Goals as goal

pub returns-then-v-eq0-clause-count : goal.returns-then-v-eq0-clause-count
returns-then-v-eq0-clause-count c =
    let store : Store = store_of c.self.inside.tree in let roots = c.self.inside.roots.items in
    let a = c.args.from in let b = c.args.to in let v = c.args.v in
    let none = none-at store roots c.self.invariant a b v c.if-v-eq0.true in
    ap (λ (t : Totals). t.count) c.nothing.ensures ∙ sym (ap (λ (rs : List RowValue). length (rows_in a b rs)) (sym (ap (λ (p : PastValue). rows_at p v) c.self.view_is) ∙ none))

pub returns-then-v-eq0-clause-weight : goal.returns-then-v-eq0-clause-weight
returns-then-v-eq0-clause-weight c =
    let store : Store = store_of c.self.inside.tree in let roots = c.self.inside.roots.items in
    let a = c.args.from in let b = c.args.to in let v = c.args.v in
    let none = none-at store roots c.self.invariant a b v c.if-v-eq0.true in
    ap (λ (t : Totals). t.weight) c.nothing.ensures ∙ sym (ap (λ (rs : List RowValue). weight_of (moves_of (rows_in a b rs))) (sym (ap (λ (p : PastValue). rows_at p v) c.self.view_is) ∙ none))

pub returns-then-v-eq0-clause-since : goal.returns-then-v-eq0-clause-since
returns-then-v-eq0-clause-since c =
    let store : Store = store_of c.self.inside.tree in let roots = c.self.inside.roots.items in
    let a = c.args.from in let b = c.args.to in let v = c.args.v in
    let none = none-at store roots c.self.invariant a b v c.if-v-eq0.true in
    ap (λ (t : Totals). t.since) c.nothing.ensures ∙ none-since store roots c.self.invariant a b v c.if-v-eq0.true ∙ ap (λ (p : PastValue). since_version a b p.ticks v) c.self.view_is

pub totals_under-requires-clause-stands : goal.totals_under-requires-clause-stands
totals_under-requires-clause-stands c =
    let store : Store = store_of c.self.inside.tree in let roots = c.self.inside.roots.items in
    let a = c.args.from in let b = c.args.to in let v = c.args.v in
    let within : v ≤ length (past_in store roots).ticks = subst (λ (p : PastValue). v ≤ length p.ticks) (sym c.self.view_is) c.requires.version in
    let root = c.index-root.result.now in
    let root-same : root ≡ get_or roots (v - 1) 0 = get_or_read roots (v - 1) root (root-there store roots c.self.invariant a b v c.if-v-eq0.false within) c.index-root.ensures 0 in
    let is = root-is store roots c.self.invariant a b v c.if-v-eq0.false within in
    subst (λ (i : ℕ). Stands store i) (sym root-same) is.stands

pub totals_under-requires-clause-low : goal.totals_under-requires-clause-low
totals_under-requires-clause-low c =
    let store : Store = store_of c.self.inside.tree in let roots = c.self.inside.roots.items in
    let a = c.args.from in let b = c.args.to in let v = c.args.v in
    let within : v ≤ length (past_in store roots).ticks = subst (λ (p : PastValue). v ≤ length p.ticks) (sym c.self.view_is) c.requires.version in
    let root = c.index-root.result.now in
    let root-same : root ≡ get_or roots (v - 1) 0 = get_or_read roots (v - 1) root (root-there store roots c.self.invariant a b v c.if-v-eq0.false within) c.index-root.ensures 0 in
    let is = root-is store roots c.self.invariant a b v c.if-v-eq0.false within in
    subst (λ (i : ℕ). (span_at store i).height ≤ 63) (sym root-same) is.stands.low

pub totals_under-requires-clause-room : goal.totals_under-requires-clause-room
totals_under-requires-clause-room c =
    let store : Store = store_of c.self.inside.tree in let roots = c.self.inside.roots.items in
    let a = c.args.from in let b = c.args.to in let v = c.args.v in
    let within : v ≤ length (past_in store roots).ticks = subst (λ (p : PastValue). v ≤ length p.ticks) (sym c.self.view_is) c.requires.version in
    let root = c.index-root.result.now in
    let root-same : root ≡ get_or roots (v - 1) 0 = get_or_read roots (v - 1) root (root-there store roots c.self.invariant a b v c.if-v-eq0.false within) c.index-root.ensures 0 in
    subst (λ (i : ℕ). length (rows_of (trie store i)) < 2 ^ 32) (sym root-same) (root-few store roots c.self.invariant a b v c.if-v-eq0.false within)

pub returns-clause-count : goal.returns-clause-count
returns-clause-count c =
    let store : Store = store_of c.self.inside.tree in let roots = c.self.inside.roots.items in
    let a = c.args.from in let b = c.args.to in let v = c.args.v in
    let within : v ≤ length (past_in store roots).ticks = subst (λ (p : PastValue). v ≤ length p.ticks) (sym c.self.view_is) c.requires.version in
    let root = c.index-root.result.now in
    let root-same : root ≡ get_or roots (v - 1) 0 = get_or_read roots (v - 1) root (root-there store roots c.self.invariant a b v c.if-v-eq0.false within) c.index-root.ensures 0 in
    let totals : AreTotals (key_with a 0) (key_with b 0) (trie store root) c.totals_under.result =
    subst (λ (k : ℕ). AreTotals k (key_with b 0) (trie store root) c.totals_under.result) c.key_at.ensures
    (subst (λ (k : ℕ). AreTotals c.key_at.result k (trie store root) c.totals_under.result) c.key_at-2.ensures c.totals_under.ensures) in
    let keyed : keyed_in (key_with a 0) (key_with b 0) (rows_of (trie store root)) ≡ rows_in a b (rows_at c.args.self.now v) =
    ap (λ (i : ℕ). keyed_in (key_with a 0) (key_with b 0) (rows_of (trie store i))) root-same ∙ keyed-here store roots c.self.invariant a b v c.if-v-eq0.false within ∙ ap (λ (p : PastValue). rows_in a b (rows_at p v)) c.self.view_is in
    totals.count ∙ ap length keyed

pub returns-clause-weight : goal.returns-clause-weight
returns-clause-weight c =
    let store : Store = store_of c.self.inside.tree in let roots = c.self.inside.roots.items in
    let a = c.args.from in let b = c.args.to in let v = c.args.v in
    let within : v ≤ length (past_in store roots).ticks = subst (λ (p : PastValue). v ≤ length p.ticks) (sym c.self.view_is) c.requires.version in
    let root = c.index-root.result.now in
    let root-same : root ≡ get_or roots (v - 1) 0 = get_or_read roots (v - 1) root (root-there store roots c.self.invariant a b v c.if-v-eq0.false within) c.index-root.ensures 0 in
    let totals : AreTotals (key_with a 0) (key_with b 0) (trie store root) c.totals_under.result =
    subst (λ (k : ℕ). AreTotals k (key_with b 0) (trie store root) c.totals_under.result) c.key_at.ensures
    (subst (λ (k : ℕ). AreTotals c.key_at.result k (trie store root) c.totals_under.result) c.key_at-2.ensures c.totals_under.ensures) in
    let keyed : keyed_in (key_with a 0) (key_with b 0) (rows_of (trie store root)) ≡ rows_in a b (rows_at c.args.self.now v) =
    ap (λ (i : ℕ). keyed_in (key_with a 0) (key_with b 0) (rows_of (trie store i))) root-same ∙ keyed-here store roots c.self.invariant a b v c.if-v-eq0.false within ∙ ap (λ (p : PastValue). rows_in a b (rows_at p v)) c.self.view_is in
    totals.weighed ∙ ap (λ (rs : List RowValue). weight_of (moves_of rs)) keyed

pub returns-clause-since : goal.returns-clause-since
returns-clause-since c =
    let store : Store = store_of c.self.inside.tree in let roots = c.self.inside.roots.items in
    let a = c.args.from in let b = c.args.to in let v = c.args.v in
    let within : v ≤ length (past_in store roots).ticks = subst (λ (p : PastValue). v ≤ length p.ticks) (sym c.self.view_is) c.requires.version in
    let root = c.index-root.result.now in
    let root-same : root ≡ get_or roots (v - 1) 0 = get_or_read roots (v - 1) root (root-there store roots c.self.invariant a b v c.if-v-eq0.false within) c.index-root.ensures 0 in
    let totals : AreTotals (key_with a 0) (key_with b 0) (trie store root) c.totals_under.result =
    subst (λ (k : ℕ). AreTotals k (key_with b 0) (trie store root) c.totals_under.result) c.key_at.ensures
    (subst (λ (k : ℕ). AreTotals c.key_at.result k (trie store root) c.totals_under.result) c.key_at-2.ensures c.totals_under.ensures) in
    let keyed : keyed_in (key_with a 0) (key_with b 0) (rows_of (trie store root)) ≡ rows_in a b (rows_at c.args.self.now v) =
    ap (λ (i : ℕ). keyed_in (key_with a 0) (key_with b 0) (rows_of (trie store i))) root-same ∙ keyed-here store roots c.self.invariant a b v c.if-v-eq0.false within ∙ ap (λ (p : PastValue). rows_in a b (rows_at p v)) c.self.view_is in
    totals.touched ∙ ap (λ (i : ℕ). last_in (key_with a 0) (key_with b 0) (trie store i)) root-same ∙ since-here store roots c.self.invariant a b v c.if-v-eq0.false within ∙ ap (λ (p : PastValue). since_version a b p.ticks v) c.self.view_is
