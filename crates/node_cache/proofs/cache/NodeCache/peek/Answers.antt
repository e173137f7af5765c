use Rattle.std.proofs.Common.{◌≡◌, ◌∙◌, refl, sym, ap, Option, None, Some, Bor}
use Rattle.std.specs.Option.{option_map, option_copied}
use Rattle.std.specs.Arc.{arc_value}
use Rattle.std.specs.declared.sync.Arc.{Arc}
use Rattle.tensor_product.specs.Sigs.{SigValue}
use Rattle.node_cache.specs.Entries.{CacheValue, sig_of}
use Rattle.node_cache.proofs.Maps.{sig_of-map}
use Rattle.node_cache.proofs.cache.NodeCache.peek.Goals as goal

lent : {Z : Type 0} (o : Option (Bor (Arc SigValue Z))) → option_map (λ sig. arc_value sig.now) o ≡ option_map arc_value (option_copied o)
lent None = refl
lent (Some sig) = refl

pub returns : goal.returns
returns c =
    lent c.peek.result ∙ ap (option_map arc_value) c.peek.ensures
    ∙ sym (sig_of-map c.args.node c.args.since c.self.inside.signatures.entries)
    ∙ ap (λ (v : CacheValue). sig_of c.args.node c.args.since v.entries) c.self.view_is
