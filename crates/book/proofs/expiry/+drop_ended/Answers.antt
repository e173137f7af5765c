use Rattle.std.proofs.Common.{◌≡◌, ◌∙◌, ◌-◌, ◌<◌, arith, sym, ap, subst, true, List}
use Rattle.dyadic.specs.Nodes.{NodeValue, low_of, high_of, LiesWithin}
use Rattle.node_cache.specs.Entries.{Entry, CacheValue}
use Rattle.versions.specs.declared.log.Accepted.{Accepted}
use Rattle.versions.specs.Versions.{LogValue, touched, since}
use Rattle.versions.specs.LogNodes.{LogNodeValue}
use Rattle.book.specs.Expiry.{IsTouchedHalf}
use Rattle.book.proofs.ExpiryLaws.{without_ended, without-half, without-last}
use Rattle.book.proofs.expiry.+drop_ended.Goals as goal

pub half_with-requires-clause-touches : goal.half_with-requires-clause-touches
half_with-requires-clause-touches t c =
    let edits : List Accepted = c.args.log.now.edits in let node : NodeValue = c.node-node.result in let touch = c.args.touch in let old : CacheValue = c.args.cache.now in
    let at : c.args.here.now.node ≡ node = sym c.node-node.ensures.value in
    let touches : touched (low_of node) (high_of node) edits touch ≡ true = subst (λ (n : NodeValue). touched (low_of n) (high_of n) edits touch ≡ true) at c.requires.touches in
    touches

pub within-requires : goal.within-requires
within-requires t c =
    subst (λ (n : NodeValue). LiesWithin (low_of n) (high_of n) c.in-Some.half) c.node-node.ensures.value c.in-Some.ensures.half.inside

pub drop_ended-requires : goal.drop_ended-requires
drop_ended-requires t c =
    let is : IsTouchedHalf c.args.log.now.edits c.args.touch c.node-node.result c.in-Some.half = c.in-Some.ensures.half in
    let smaller : c.within.result.node.height < t =
    omega (arith, ap (λ (w : LogNodeValue). w.node.height) c.within.ensures, is.shorter, ap (λ (n : NodeValue). n.height) c.node-node.ensures.value, c.decreases) in (
      smaller,
      (
        c.requires.some,
        (
          c.requires.within,
          (
            (ap (λ (w : LogNodeValue). w.log) c.within.ensures ∙ c.requires.here.0, ap (λ (w : LogNodeValue). w.version) c.within.ensures ∙ c.requires.here.1),
            subst (λ (w : LogNodeValue). touched (low_of w.node) (high_of w.node) c.args.log.now.edits c.args.touch ≡ true) (sym c.within.ensures) is.touches,
          ),
        ),
      ),
    )

pub returns-in-Some : goal.returns-in-Some
returns-in-Some t c =
    let edits : List Accepted = c.args.log.now.edits in let node : NodeValue = c.node-node.result in let touch = c.args.touch in let old : CacheValue = c.args.cache.now in
    let at : c.args.here.now.node ≡ node = sym c.node-node.ensures.value in
    let touches : touched (low_of node) (high_of node) edits touch ≡ true = subst (λ (n : NodeValue). touched (low_of n) (high_of n) edits touch ≡ true) at c.requires.touches in
    let from : c.since.result ≡ since (low_of node) (high_of node) edits (touch - 1) =
    c.since.ensures ∙ ap (λ (l : LogValue). since (low_of c.args.here.now.node) (high_of c.args.here.now.node) l.edits c.args.here.now.version) c.requires.here.0
    ∙ ap (since (low_of c.args.here.now.node) (high_of c.args.here.now.node) edits) c.requires.here.1 ∙ ap (λ (n : NodeValue). since (low_of n) (high_of n) edits (touch - 1)) at in
    let With : List Entry → CacheValue = λ entries. record { capacity = old.capacity; entries = entries } in
    c.drop_ended.ensures
    ∙ ap (λ (w : LogNodeValue). let new : CacheValue = record { capacity = c.drop_pair.new.self.capacity; entries = without_ended edits touch w.node.height c.drop_pair.new.self.entries } in new) c.within.ensures
    ∙ ap (λ (cache : CacheValue). let new : CacheValue = record { capacity = cache.capacity; entries = without_ended edits touch c.in-Some.half.height cache.entries } in new) c.drop_pair.ensures
    ∙ ap With (without-half edits touch node c.since.result c.requires.some c.requires.within touches from old.entries c.in-Some.half.height c.in-Some.ensures.half.shorter)
    ∙ ap (λ (n : NodeValue). With (without_ended edits touch n.height old.entries)) (sym at)

pub returns-in_default : goal.returns-in_default
returns-in_default t c =
    let edits : List Accepted = c.args.log.now.edits in let node : NodeValue = c.node-node.result in let touch = c.args.touch in let old : CacheValue = c.args.cache.now in
    let at : c.args.here.now.node ≡ node = sym c.node-node.ensures.value in
    let touches : touched (low_of node) (high_of node) edits touch ≡ true = subst (λ (n : NodeValue). touched (low_of n) (high_of n) edits touch ≡ true) at c.requires.touches in
    let from : c.since.result ≡ since (low_of node) (high_of node) edits (touch - 1) =
    c.since.ensures ∙ ap (λ (l : LogValue). since (low_of c.args.here.now.node) (high_of c.args.here.now.node) l.edits c.args.here.now.version) c.requires.here.0
    ∙ ap (since (low_of c.args.here.now.node) (high_of c.args.here.now.node) edits) c.requires.here.1 ∙ ap (λ (n : NodeValue). since (low_of n) (high_of n) edits (touch - 1)) at in
    let With : List Entry → CacheValue = λ entries. record { capacity = old.capacity; entries = entries } in
    c.drop_pair.ensures ∙ ap With (without-last edits touch node c.since.result c.requires.some c.requires.within touches from old.entries c.in_default.ensures.none)
    ∙ ap (λ (n : NodeValue). With (without_ended edits touch n.height old.entries)) (sym at)
