use Rattle.std.proofs.Common.{◌≡◌, ◌∙◌, ℕ, ap, sym, subst, arith, false, List, [], replicate, Option, None}
use Rattle.node_cache.specs.Entries.{CacheValue}
use Rattle.versions.specs.Versions.{LogValue}
use Rattle.book.specs.declared.step.Step.{Step}
use Rattle.book.specs.Play.{PendingLook}
use Rattle.book.specs.Books.{IsHeld}
use Rattle.book.proofs.BookLaws.{held-first}
use Rattle.book.proofs.book.Book.new.Goals as goal

pub invariant_of-result : goal.invariant_of-result
invariant_of-result c =
    let no_edits : LogValue = record { extent = c.args.shape; edits = [] } in
    let empty : CacheValue = record { capacity = c.args.capacity; entries = [] } in
    let pending : List (Option PendingLook) = c.loop-session.pending.items in
    let all : c.loop-session._session ≡ c.args.sessions = omega arith in
    let are : pending ≡ replicate c.args.sessions None = c.loop-session.invariant ∙ ap (λ (n : ℕ). replicate n None) all in
    subst (λ (log : LogValue). IsHeld log c.in_ok-cache.cache pending c.new-3.result.items false) (sym c.new-2.ensures)
    (subst (λ (cache : CacheValue). IsHeld no_edits cache pending c.new-3.result.items false) (sym c.in_ok-cache.ensures)
    (subst (λ (steps : List Step). IsHeld no_edits empty pending steps false) (sym c.new-3.ensures.items)
    (held-first c.args.shape c.args.capacity c.args.sessions pending (omega (arith, c.get-nodes.ensures.value, c.get-nodes.ensures.range.0)) (omega (arith, c.get-nodes.ensures.value, c.get-nodes.ensures.range.1)) c.requires.one c.requires.few are)))
