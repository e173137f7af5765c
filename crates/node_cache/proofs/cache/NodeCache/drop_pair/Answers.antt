use Rattle.std.proofs.Common.{◌∙◌, sym, ap, subst}
use Rattle.node_cache.specs.Entries.{CacheValue, IsCache, cache_of, without_pair}
use Rattle.node_cache.proofs.Kept.{with_entries, IsCache-without}
use Rattle.node_cache.proofs.Maps.{cache_of-without}
use Rattle.node_cache.proofs.cache.NodeCache.drop_pair.Goals as goal

pub invariant_of-self : goal.invariant_of-self
invariant_of-self c =
    subst IsCache (sym (cache_of-without c.self.inside.signatures c.args.node c.args.since c.self.invariant c.pop.new.self c.pop.ensures.entries))
    (IsCache-without (cache_of c.self.inside.signatures) c.args.node c.args.since c.self.invariant)

pub returns : goal.returns
returns c =
    cache_of-without c.self.inside.signatures c.args.node c.args.since c.self.invariant c.pop.new.self c.pop.ensures.entries
    ∙ ap (λ (v : CacheValue). with_entries v (without_pair c.args.node c.args.since v.entries)) c.self.view_is
