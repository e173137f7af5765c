use Rattle.std.proofs.Common.{◌∙◌, sym, ap, subst}
use Rattle.std.specs.Arc.{arc_value}
use Rattle.node_cache.specs.Entries.{CacheValue, IsCache, cache_of, kept}
use Rattle.node_cache.proofs.Kept.{with_entries, IsCache-kept}
use Rattle.node_cache.proofs.Maps.{cache_of-kept}
use Rattle.node_cache.proofs.cache.NodeCache.keep.Goals as goal

pub invariant_of-self-2 : goal.invariant_of-self-2
invariant_of-self-2 c =
    subst IsCache (sym (cache_of-kept c.self.inside.signatures c.args.node c.args.since c.self.invariant c.args.sig c.put.new.self c.in_ok-put.ensures.entries))
    (IsCache-kept (cache_of c.self.inside.signatures) c.args.node c.args.since c.self.invariant (arc_value c.args.sig))

pub returns-clause-ok : goal.returns-clause-ok
returns-clause-ok c =
    cache_of-kept c.self.inside.signatures c.args.node c.args.since c.self.invariant c.args.sig c.put.new.self c.in_ok-put.ensures.entries
    ∙ ap (λ (v : CacheValue). with_entries v (kept c.args.node c.args.since (arc_value c.args.sig) v.capacity v.entries)) c.self.view_is
