use Rattle.std.proofs.Common.{◌≡◌, ◌∙◌, ◌-◌, arith, sym, ap, subst, not, true, List, []}
use Rattle.std.specs.Prelude.{filter}
use Rattle.std.proofs.lemmas.List.{nil_from_length}
use Rattle.dyadic.specs.Nodes.{NodeValue, low_of, high_of}
use Rattle.node_cache.specs.Entries.{Entry, CacheValue}
use Rattle.versions.specs.Versions.{LogValue, touched}
use Rattle.versions.specs.LogNodes.{LogNodeValue}
use Rattle.book.specs.Play.{is_past}
use Rattle.book.proofs.ExpiryLaws.{without_ended, few-past, line-touched, without-past}
use Rattle.book.proofs.expiry.drop_past.Goals as goal
use Rattle.book.proofs.expiry.drop_past.Goals.{then-version-le-SPAN-via-then-version-le-SPAN, then-version-le-SPAN-via-else-version-le-SPAN+then-len-eq0}

pub returns-then-version-le-SPAN : goal.returns-then-version-le-SPAN
returns-then-version-le-SPAN c =
    let log : LogValue = c.args.log.now in let old : CacheValue = c.args.cache.now in
    let With : List Entry → CacheValue = λ entries. record { capacity = old.capacity; entries = entries } in
    let recent : List Entry → List Entry = filter (λ e. not (is_past log.edits e.node e.since)) in
    elim c.then-version-le-SPAN.branch [
      | then-version-le-SPAN-via-then-version-le-SPAN w ↦ sym (ap With (few-past log.edits old.entries (omega (arith, c.len-version.ensures.value, w.if-version-le-SPAN.true))))
      | then-version-le-SPAN-via-else-version-le-SPAN+then-len-eq0 w ↦ (
          let empty : old.entries ≡ [] = nil_from_length old.entries (sym w.len.ensures.value ∙ w.if-len-eq0.true) in
          sym (ap With (ap recent empty ∙ sym empty)))
    ]

pub drop_ended-requires-clause-touches : goal.drop_ended-requires-clause-touches
drop_ended-requires-clause-touches c =
    let log : LogValue = c.args.log.now in let touch = c.len-version.result - 64 in
    let line = (rw c.unwrap-line.ensures at c.new.ensures) in
    subst (λ (w : LogNodeValue). touched (low_of w.node) (high_of w.node) log.edits touch ≡ true) (sym c.node_at-here.ensures)
    (subst (λ (n : NodeValue). touched (low_of n) (high_of n) log.edits touch ≡ true) (sym line.1)
    (line-touched log touch c.len-version.ensures.log (omega (arith, c.if-version-le-SPAN.false)) (omega (arith, c.len-version.ensures.value))))

pub returns : goal.returns
returns c =
    let log : LogValue = c.args.log.now in let old : CacheValue = c.args.cache.now in
    let line = (rw c.unwrap-line.ensures at c.new.ensures) in
    let With : List Entry → CacheValue = λ entries. record { capacity = old.capacity; entries = entries } in
    c.drop_ended.ensures ∙ ap (λ (w : LogNodeValue). With (without_ended log.edits (c.len-version.result - 64) w.node.height old.entries)) c.node_at-here.ensures
    ∙ ap (λ (n : NodeValue). With (without_ended log.edits (c.len-version.result - 64) n.height old.entries)) line.1
    ∙ ap (λ n. With (without_ended log.edits (n - 64) 32 old.entries)) c.len-version.ensures.value
    ∙ ap With (without-past log old.entries c.requires (omega (arith, c.len-version.ensures.value, c.if-version-le-SPAN.false)))
