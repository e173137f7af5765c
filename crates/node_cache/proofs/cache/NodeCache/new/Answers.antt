use Rattle.std.proofs.Common.{◌≡◌, [], sym, subst, MatchOption}
use Rattle.std.specs.NonZero.{non_zero_usize_get}
use Rattle.node_cache.specs.Entries.{IsCache, cache_of}
use Rattle.node_cache.proofs.Kept.{IsCache-new}
use Rattle.node_cache.proofs.cache.NodeCache.new.Goals as goal

pub invariant_of-result : goal.invariant_of-result
invariant_of-result c =
    let size : non_zero_usize_get c.unwrap-capacity.result ≡ c.get.result =
    subst (λ o. MatchOption o (c.get.result ≡ 0) (λ x. non_zero_usize_get x ≡ c.get.result)) c.unwrap-capacity.ensures c.new.ensures in
    subst (λ cache. IsCache (cache_of cache)) (sym c.in_ok-sparse.ensures)
    (subst (λ n. IsCache (record { capacity = n; entries = [] })) (sym size) (IsCache-new c.get.result c.get.ensures.range.0 c.get.ensures.range.1))
