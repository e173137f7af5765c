use Rattle.std.specs.declared.alloc.Global.{Global}
use Rattle.std.proofs.Common.{◌≡◌, ◌∙◌, ℕ, ◌<◌, sym, ap, subst, List, [], ◌∷◌, ◌++◌, length, Vec}
use Rattle.versions.specs.Versions.{LogValue}
use Rattle.watches.specs.declared.interval.Interval.{Interval}
use Rattle.watches.specs.Watches.{WatchesValue, AreWatches}
use Rattle.watches.proofs.Feeds.{added-watches}
use Rattle.watches.proofs.watches.Watches.add.Goals as goal

pub invariant_of-self-2 : goal.invariant_of-self-2
invariant_of-self-2 c =
    let log : LogValue = c.self.inside.stream in
    let intervals : List Interval = c.self.inside.spans in
    let one : Interval = record { from = c.args.a; to = c.args.b } in
    let lists : List (Vec ℕ Global) = c.self.inside.lists.items in
    let unfed : length log.edits ≡ 0 = ap (λ (w : WatchesValue). length w.log.edits) c.self.view_is ∙ c.requires.unfed in
    let few : length intervals < 64 = subst (λ (w : WatchesValue). length w.intervals < 64) (sym c.self.view_is) c.requires.few in
    subst (λ (xs : List Interval). AreWatches (record { log = log; intervals = xs }) c.push.new.self.items) (sym c.in_ok-spans.ensures)
    (subst (λ (ls : List (Vec ℕ Global)). AreWatches (record { log = log; intervals = intervals ++ one ∷ [] }) ls) (sym c.in_ok-push.ensures.items)
    (added-watches log intervals lists one c.new.result unfed few (record { rises = c.requires.rises; within = c.requires.within }) c.new.ensures.items c.self.invariant))
