use Rattle.std.proofs.Common.{subst, List}
use Rattle.std.proofs.Common.{ℕ}
use Rattle.watches.specs.declared.interval.Interval.{Interval}
use Rattle.watches.specs.Spans.{HaveEnds, AreHeldAt}
use Rattle.watches.proofs.Cuts.{spans-held}
use Rattle.watches.proofs.spans.Spans.of.Goals as goal

pub invariant_of-result : goal.invariant_of-result
invariant_of-result c =
    let cuts = c.in_ok-cuts.cuts.items in
    let intervals = c.args.intervals.items in
    spans-held cuts c.in_ok-cuts.ensures.rising intervals c.in_ok-holders.holders.items
    (subst (λ (xs : List Interval). HaveEnds xs cuts) c.deref.ensures.value c.in_ok-cuts.ensures.ends)
    (subst (λ (xs : List Interval). AreHeldAt xs cuts c.in_ok-holders.holders.items) c.deref-2.ensures.value
    (subst (λ (ticks : List ℕ). AreHeldAt c.deref-2.result.now ticks c.in_ok-holders.holders.items) c.deref-3.ensures.value c.in_ok-holders.ensures))
