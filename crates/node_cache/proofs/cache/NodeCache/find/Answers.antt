use Rattle.std.proofs.Common.{◌≡◌, ◌∙◌, sym, ap, subst, is_some}
use Rattle.std.specs.Bool.{OnFalse}
use Rattle.node_cache.specs.Entries.{CacheValue, IsCache, cache_of, entry_of, promoted}
use Rattle.node_cache.proofs.Kept.{with_entries, IsCache-promoted, promoted-absent}
use Rattle.node_cache.proofs.Maps.{cache_of-promoted, is_some-entry_of}
use Rattle.node_cache.proofs.cache.NodeCache.find.Goals as goal

pub invariant_of-self : goal.invariant_of-self
invariant_of-self c =
    subst IsCache (sym (cache_of-promoted c.self.inside.signatures c.args.node c.args.since c.self.invariant c.promote.new.self c.promote.ensures.entries))
    (IsCache-promoted (cache_of c.self.inside.signatures) c.args.node c.args.since c.self.invariant)

pub returns-clause-found : goal.returns-clause-found
returns-clause-found c =
    c.promote.ensures.value ∙ sym (is_some-entry_of c.args.node c.args.since c.self.inside.signatures.entries)
    ∙ ap (λ (v : CacheValue). is_some (entry_of c.args.node c.args.since v.entries)) c.self.view_is

pub returns-clause-entries : goal.returns-clause-entries
returns-clause-entries c =
    cache_of-promoted c.self.inside.signatures c.args.node c.args.since c.self.invariant c.promote.new.self c.promote.ensures.entries
    ∙ ap (λ (v : CacheValue). with_entries v (promoted c.args.node c.args.since v.entries)) c.self.view_is

pub returns-clause-absent : goal.returns-clause-absent
returns-clause-absent c =
    subst (λ b. OnFalse b (cache_of c.promote.new.self ≡ c.args.self.now)) (sym (returns-clause-found c))
    (subst (λ v. OnFalse (is_some (entry_of c.args.node c.args.since c.args.self.now.entries)) (v ≡ c.args.self.now)) (sym (returns-clause-entries c))
    (promoted-absent c.args.self.now c.args.node c.args.since))
