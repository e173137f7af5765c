use Rattle.std.proofs.Common.{◌≡◌, ◌∙◌, ℕ, ◌+◌, arith, sym, ap, subst, List, [], ◌∷◌, ◌++◌, length, get_or, take}
use Rattle.std.proofs.lemmas.List.{take_more, take_all}
use Rattle.std.proofs.lemmas.List.Sorted.{IsNonDecreasingBy-from_sort}
use Rattle.watches.specs.declared.interval.Interval.{Interval}
use Rattle.watches.specs.Spans.{HaveEnds}
use Rattle.watches.proofs.Cuts.{ends-pushed, ends-moved}
use Rattle.watches.proofs.spans.cuts_of.Goals as goal

pub loop-interval-preserved : goal.loop-interval-preserved
loop-interval-preserved c =
    let i = c.loop-interval.interval-index in
    let intervals = c.args.intervals.now in
    let x : Interval = get_or intervals i (record { from = 0; to = 0 }) in
    let more : take (i + 1) intervals ≡ take i intervals ++ x ∷ [] = take_more intervals i (record { from = 0; to = 0 }) (omega arith) in
    let all : c.push-in-loop-interval-2.new.self.items ≡ (c.loop-interval.cuts.items ++ x.from ∷ []) ++ x.to ∷ [] = c.in_ok-push-3.ensures.items ∙ ap (λ l. l ++ x.to ∷ []) c.in_ok-push-2.ensures.items in
    subst (λ (xs : List Interval). HaveEnds xs c.push-in-loop-interval-2.new.self.items) (sym more)
    (subst (λ (l : List ℕ). HaveEnds (take i intervals ++ x ∷ []) l) (sym all) (ends-pushed (take i intervals) x c.loop-interval.cuts.items c.loop-interval.invariant))

pub returns-clause-rising : goal.returns-clause-rising
returns-clause-rising c = IsNonDecreasingBy-from_sort (λ x. x) c.sort.new.self.items c.in_ok-sort.ensures.sorted

pub returns-clause-ends : goal.returns-clause-ends
returns-clause-ends c =
    let whole : take c.loop-interval.interval-index c.args.intervals.now ≡ c.args.intervals.now = take_all c.loop-interval.interval-index c.args.intervals.now (omega arith) in
    ends-moved c.args.intervals.now c.loop-interval.cuts.items c.sort.new.self.items c.in_ok-sort.ensures.permutation
    (subst (λ (xs : List Interval). HaveEnds xs c.loop-interval.cuts.items) whole c.loop-interval.invariant)
