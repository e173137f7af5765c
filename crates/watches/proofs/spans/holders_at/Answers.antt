use Rattle.std.specs.declared.alloc.Global.{Global}
use Rattle.std.proofs.Common.{◌≡◌, ◌∙◌, ℕ, ◌+◌, ◌<◌, arith, sym, subst, List, [], ◌∷◌, ◌++◌, get_or, take, Vec}
use Rattle.std.proofs.lemmas.List.{take_more}
use Rattle.watches.specs.Spans.{AreHeldAt}
use Rattle.watches.proofs.Cuts.{held-pushed}
use Rattle.watches.proofs.spans.holders_at.Goals as goal

pub loop-cut-preserved : goal.loop-cut-preserved
loop-cut-preserved c =
    let i = c.loop-cut.cut-index in
    let cuts = c.args.cuts.now in
    let intervals = c.args.intervals.now in
    let more : take (i + 1) cuts ≡ take i cuts ++ get_or cuts i 0 ∷ [] = take_more cuts i 0 (omega arith) in
    let all : c.push.new.self.items ≡ c.loop-cut.holders.items ++ c.in_ok-holders_of.field-0 ∷ [] = c.in_ok-push.ensures.items in
    subst (λ (ticks : List ℕ). AreHeldAt intervals ticks c.push.new.self.items) (sym more)
    (subst (λ (hs : List (Vec ℕ Global)). AreHeldAt intervals (take i cuts ++ get_or cuts i 0 ∷ []) hs) (sym all)
    (held-pushed intervals (take i cuts) (get_or cuts i 0) c.loop-cut.holders.items c.in_ok-holders_of.field-0 c.in_ok-holders_of.ensures c.loop-cut.invariant))
