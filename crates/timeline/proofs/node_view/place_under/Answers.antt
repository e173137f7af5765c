use Rattle.std.proofs.Common.{◌≡◌, ◌∙◌, ℕ, ap, arith, subst}
use Rattle.dyadic.proofs.Spans.{low-lt-high}
use Rattle.dyadic.proofs.Heights.{high-within}
use Rattle.timeline.specs.Keys.{key_at}
use Rattle.timeline.specs.Stores.{Store, store_of}
use Rattle.timeline.specs.Places.{IsPlacedUnder, key_in, digits_of}
use Rattle.timeline.proofs.node_view.place_under.Goals as goal

pub key_at-key-requires-clause-tick : goal.key_at-key-requires-clause-tick
key_at-key-requires-clause-tick c = omega (arith, c.low.ensures.value, low-lt-high c.args.node, high-within c.args.node c.low.ensures.node)

pub returns : goal.returns
returns c =
    let store : Store = store_of c.args.tree.now in
    let key : c.key_at-key.result ≡ key_in c.args.node = c.key_at-key.ensures ∙ ap (λ (n : ℕ). key_at n 0) c.low.ensures.value in
    subst (λ (k : ℕ). IsPlacedUnder store c.args.at k (digits_of c.args.node) c.find_under.result) key
    (subst (λ (d : ℕ). IsPlacedUnder store c.args.at c.key_at-key.result d c.find_under.result) c.digits.ensures c.find_under.ensures)
