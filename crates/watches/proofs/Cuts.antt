-- The same intervals hold each tick of a span.
use Rattle.std.specs.declared.alloc.Global.{Global}
use Rattle.std.proofs.Common.{◌≡◌, ◌∙◌, ℕ, ◌+◌, ◌<◌, ◌≤◌, refl, sym, ap, subst, arith, List, [], ◌∷◌, ◌++◌, length, get_or, inl, inr, Vec}
use Rattle.std.proofs.lemmas.Bool.{cases_lt}
use Rattle.std.proofs.lemmas.Bool.Decides.{nat_tests}
use Rattle.std.proofs.lemmas.List.{get_or_read, get_or_append_left, get_or_push, length_push}
use Rattle.std.proofs.lemmas.List.Elements.{Contains-append_left, Contains-push}
use Rattle.std.proofs.lemmas.List.Sorted.{Contains-permutation}
use Rattle.std.specs.List.{Contains}
use Rattle.std.specs.List.Sorted.{IsNonDecreasing, IsPermutation}
use Rattle.definitions.specs.Rows.{lies_in}
use Rattle.watches.specs.declared.interval.Interval.{Interval}
use Rattle.watches.specs.Spans.{interval_at, AreHolders, HaveEnds, AreHeldAt, AreSpans}
use Rattle.watches.proofs.Holders.{same-hold}

-- an interval with no end between two ticks has both or neither
lies-same : (a b s t : ℕ) → s ≤ t → (a ≤ t → a ≤ s) → (b ≤ t → b ≤ s) → lies_in a b s ≡ lies_in a b t
lies-same a b s t upto from to = grind (arith, nat_tests)

module _ (cuts : List ℕ) (rising : IsNonDecreasing cuts) where
  -- a cut up to a tick of a span is one up to its first tick
  upto-cut : (k t x : ℕ) → k < length cuts → (k + 1 < length cuts → t < get_or cuts (k + 1) 0) → Contains cuts x → x ≤ t → x ≤ get_or cuts k 0
  upto-cut k t x here under among upto =
      let j = among.0 in
      let is : x ≡ get_or cuts j 0 = get_or_read cuts j x among.1 (sym among.2) 0 in
      elim (cases_lt k j) [
        | inl after ↦ absurd (omega (arith, under (omega (arith, among.1)), rising (k + 1) j 0 (omega arith) among.1))
        | inr before ↦ omega (arith, rising j k 0 before here)
      ]

  -- cuts that rise from 0 by way of each end
  pub spans-held : (intervals : List Interval) (holders : List (Vec ℕ Global)) → HaveEnds intervals cuts → AreHeldAt intervals cuts holders → AreSpans intervals cuts holders
  spans-held intervals holders ends held =
      let zero-is : 0 ≡ get_or cuts ends.zero_is.0 0 = sym ends.zero_is.2 in
      record {
        some = omega (arith, ends.zero_is.1);
        first = omega (arith, rising 0 ends.zero_is.0 0 (omega arith) ends.zero_is.1);
        count = held.count;
        held = λ k tick d here from under.
            same-hold intervals (get_or cuts k 0) tick (get_or holders k d).items
            (λ i within. lies-same (interval_at intervals i).from (interval_at intervals i).to (get_or cuts k 0) tick from
            (upto-cut k tick (interval_at intervals i).from here under (ends.from i within))
            (upto-cut k tick (interval_at intervals i).to here under (ends.to i within)))
            (held.each k d here);
      }

module _ (xs : List Interval) (x : Interval) where
  -- an end of each interval is among the cuts that have those of the earlier ones and of the last one
  each-end : (end : Interval → ℕ) (cuts : List ℕ) → ((i : ℕ) → i < length xs → Contains cuts (end (interval_at xs i))) → Contains cuts (end x)
      → (i : ℕ) → i < length (xs ++ x ∷ []) → Contains cuts (end (interval_at (xs ++ x ∷ []) i))
  each-end end cuts earlier last i under =
      let nothing : Interval = record { from = 0; to = 0 } in
      let more : length (xs ++ x ∷ []) ≡ length xs + 1 = length_push xs x in
      let Has : Interval → Type 0 = λ y. Contains cuts (end y) in
      elim (cases_lt i (length xs)) [
        | inl below ↦ subst Has (sym (get_or_append_left xs (x ∷ []) nothing i below)) (earlier i below)
        | inr above ↦ subst Has (sym (get_or_push xs x nothing i (omega arith))) last
      ]

  -- the ends of one interval more
  pub ends-pushed : (cuts : List ℕ) → HaveEnds xs cuts → HaveEnds (xs ++ x ∷ []) ((cuts ++ x.from ∷ []) ++ x.to ∷ [])
  ends-pushed cuts ends =
      let kept = λ (y : ℕ) (among : Contains cuts y). Contains-append_left (cuts ++ x.from ∷ []) (x.to ∷ []) y (Contains-append_left cuts (x.from ∷ []) y among) in
      let all : List ℕ = (cuts ++ x.from ∷ []) ++ x.to ∷ [] in
      record {
        zero_is = kept 0 ends.zero_is;
        from = each-end (λ y. y.from) all (λ i under. kept (interval_at xs i).from (ends.from i under))
            (Contains-append_left (cuts ++ x.from ∷ []) (x.to ∷ []) x.from (Contains-push cuts x.from));
        to = each-end (λ y. y.to) all (λ i under. kept (interval_at xs i).to (ends.to i under)) (Contains-push (cuts ++ x.from ∷ []) x.to);
      }

-- cuts in another order
pub ends-moved : (xs : List Interval) (cuts sorted : List ℕ) → IsPermutation cuts sorted → HaveEnds xs cuts → HaveEnds xs sorted
ends-moved xs cuts sorted moved ends = record {
  zero_is = Contains-permutation cuts sorted 0 moved ends.zero_is;
  from = λ i under. Contains-permutation cuts sorted (interval_at xs i).from moved (ends.from i under);
  to = λ i under. Contains-permutation cuts sorted (interval_at xs i).to moved (ends.to i under);
}

-- the holders of one tick more
pub held-pushed : (xs : List Interval) (ticks : List ℕ) (tick : ℕ) (holders : List (Vec ℕ Global)) (h : Vec ℕ Global) → AreHolders xs tick h.items → AreHeldAt xs ticks holders
    → AreHeldAt xs (ticks ++ tick ∷ []) (holders ++ h ∷ [])
held-pushed xs ticks tick holders h last held =
    let more : length (ticks ++ tick ∷ []) ≡ length ticks + 1 = length_push ticks tick in
    let as_many : length holders ≡ length ticks = held.count in
    let Holds : ℕ → Vec ℕ Global → Type 0 = λ t v. AreHolders xs t v.items in
    record {
      count = length_push holders h ∙ ap (λ n. n + 1) as_many ∙ sym more;
      each = λ k d under. elim (cases_lt k (length ticks)) [
        | inl below ↦ (
            subst (λ t. Holds t (get_or (holders ++ h ∷ []) k d)) (sym (get_or_append_left ticks (tick ∷ []) 0 k below))
            (subst (Holds (get_or ticks k 0)) (sym (get_or_append_left holders (h ∷ []) d k (omega arith))) (held.each k d below)))
        | inr above ↦ (
            subst (λ t. Holds t (get_or (holders ++ h ∷ []) k d)) (sym (get_or_push ticks tick 0 k (omega arith)))
            (subst (Holds tick) (sym (get_or_push holders h d k (omega arith))) last))
      ];
    }
