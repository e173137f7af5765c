use Rattle.std.specs.declared.alloc.Global.{Global}
use Rattle.std.proofs.Common.{◌≡◌, ◌∙◌, ℕ, ◌+◌, arith, sym, ap, subst, true, false, List, [], ◌∷◌, ◌++◌, length, get_or, take, length-take, Vec}
use Rattle.std.proofs.lemmas.List.{take_more}
use Rattle.definitions.specs.Rows.{lies_in}
use Rattle.watches.specs.declared.interval.Interval.{Interval}
use Rattle.watches.specs.Spans.{AreHolders}
use Rattle.watches.proofs.Holders.{passed-hold, pushed-hold}
use Rattle.watches.proofs.spans.holders_of.Goals as goal
use Rattle.watches.proofs.spans.holders_of.Goals.{then-holds+in_ok-push, else-holds}

pub loop-i-preserved : goal.loop-i-preserved
loop-i-preserved c =
    let i = c.loop-i.i in
    let intervals = c.args.intervals.now in
    let tick = c.args.tick in
    let nothing : Interval = record { from = 0; to = 0 } in
    let x : Interval = get_or intervals i nothing in
    let more : take (i + 1) intervals ≡ take i intervals ++ x ∷ [] = take_more intervals i nothing (omega arith) in
    let place : length (take i intervals) ≡ i = omega (arith, length-take i intervals) in
    let holds : c.holds.result ≡ lies_in x.from x.to tick = c.holds.ensures in
    subst (λ (xs : List Interval). AreHolders xs tick c.if-holds.holders.items) (sym more)
    (elim c.if-holds.branch [
      | then-holds+in_ok-push w ↦ (
          let all : c.if-holds.holders.items ≡ c.loop-i.holders.items ++ length (take i intervals) ∷ [] =
          ap (λ (v : Vec ℕ Global). v.items) w.holders-is ∙ w.in_ok-push.ensures.items ∙ ap (λ n. c.loop-i.holders.items ++ n ∷ []) (sym place) in
          subst (λ (l : List ℕ). AreHolders (take i intervals ++ x ∷ []) tick l) (sym all)
          (pushed-hold (take i intervals) x tick c.loop-i.holders.items (sym holds ∙ w.if-holds.true) c.loop-i.invariant))
      | else-holds w ↦ (
          subst (λ (l : List ℕ). AreHolders (take i intervals ++ x ∷ []) tick l) (ap (λ (v : Vec ℕ Global). v.items) (sym w.holders-is))
          (passed-hold (take i intervals) x tick c.loop-i.holders.items (sym holds ∙ w.if-holds.false) c.loop-i.invariant))
    ])
