-- The places of the intervals that hold a tick.
use Rattle.std.proofs.Common.{◌≡◌, ◌≢◌, ◌∙◌, ℕ, ◌+◌, ◌<◌, ◌≤◌, refl, sym, ap, subst, arith, Bool, true, false, List, [], ◌∷◌, ◌++◌, length, get_or, inl, inr}
use Rattle.std.proofs.lemmas.Bool.{cases_lt, false≢true}
use Rattle.std.proofs.lemmas.List.{get_or_append_left, get_or_push, length_push}
use Rattle.definitions.specs.Rows.{lies_in}
use Rattle.watches.specs.declared.interval.Interval.{Interval}
use Rattle.watches.specs.Spans.{interval_at, holds_at, AreHolders}

-- the interval at a place below the last one's
earlier : (xs : List Interval) (x : Interval) (i tick : ℕ) → i < length xs → holds_at (xs ++ x ∷ []) i tick ≡ holds_at xs i tick
earlier xs x i tick under = ap (λ (y : Interval). lies_in y.from y.to tick) (get_or_append_left xs (x ∷ []) (record { from = 0; to = 0 }) i under)

latest : (xs : List Interval) (x : Interval) (tick : ℕ) → holds_at (xs ++ x ∷ []) (length xs) tick ≡ lies_in x.from x.to tick
latest xs x tick = ap (λ (y : Interval). lies_in y.from y.to tick) (get_or_push xs x (record { from = 0; to = 0 }) (length xs) refl)

-- one interval more that doesn't
pub passed-hold : (xs : List Interval) (x : Interval) (tick : ℕ) (holders : List ℕ) → lies_in x.from x.to tick ≡ false → AreHolders xs tick holders → AreHolders (xs ++ x ∷ []) tick holders
passed-hold xs x tick holders outside h =
    let more : length (xs ++ x ∷ []) ≡ length xs + 1 = length_push xs x in
    record {
      within = λ p under. omega (arith, h.within p under);
      hold = λ p under. earlier xs x (get_or holders p 0) tick (h.within p under) ∙ h.hold p under;
      rising = h.rising;
      each = λ i under holds. elim (cases_lt i (length xs)) [
        | inl below ↦ h.each i below (sym (earlier xs x i tick below) ∙ holds)
        | inr above ↦ (
            let last : i ≡ length xs = omega arith in
            let is : holds_at (xs ++ x ∷ []) i tick ≡ false = ap (λ j. holds_at (xs ++ x ∷ []) j tick) last ∙ latest xs x tick ∙ outside in
            absurd (false≢true (sym is ∙ holds)))
      ];
    }

module _ (xs : List Interval) (x : Interval) (tick : ℕ) (holders : List ℕ) where
  -- one interval more that does
  pub pushed-hold : lies_in x.from x.to tick ≡ true → AreHolders xs tick holders → AreHolders (xs ++ x ∷ []) tick (holders ++ length xs ∷ [])
  pushed-hold inside h =
      let more : length (xs ++ x ∷ []) ≡ length xs + 1 = length_push xs x in
      let longer : length (holders ++ length xs ∷ []) ≡ length holders + 1 = length_push holders (length xs) in
      let front = λ (p : ℕ) (under : p < length holders). get_or_append_left holders (length xs ∷ []) 0 p under in
      let back : get_or (holders ++ length xs ∷ []) (length holders) 0 ≡ length xs = get_or_push holders (length xs) 0 (length holders) refl in
      let at = λ (p : ℕ) (is : p ≡ length holders). ap (λ j. get_or (holders ++ length xs ∷ []) j 0) is ∙ back in
      record {
        within = λ p under. elim (cases_lt p (length holders)) [
          | inl below ↦ omega (arith, front p below, h.within p below)
          | inr above ↦ omega (arith, at p (omega arith))
        ];
        hold = λ p under. elim (cases_lt p (length holders)) [
          | inl below ↦ (ap (λ j. holds_at (xs ++ x ∷ []) j tick) (front p below) ∙ earlier xs x (get_or holders p 0) tick (h.within p below) ∙ h.hold p below)
          | inr above ↦ (ap (λ j. holds_at (xs ++ x ∷ []) j tick) (at p (omega arith)) ∙ latest xs x tick ∙ inside)
        ];
        rising = λ p q before under. elim (cases_lt q (length holders)) [
          | inl below ↦ omega (arith, front p (omega arith), front q below, h.rising p q before below)
          | inr above ↦ omega (arith, front p (omega arith), at q (omega arith), h.within p (omega arith))
        ];
        each = λ i under holds. elim (cases_lt i (length xs)) [
          | inl below ↦ (
              let old = h.each i below (sym (earlier xs x i tick below) ∙ holds) in
              (old.0, omega (arith, old.1), front old.0 old.1 ∙ old.2))
          | inr above ↦ (length holders, omega arith, back ∙ omega arith)
        ];
      }

-- intervals that hold one tick where they hold another
pub same-hold : (xs : List Interval) (s t : ℕ) (holders : List ℕ) → ((i : ℕ) → i < length xs → holds_at xs i s ≡ holds_at xs i t) → AreHolders xs s holders → AreHolders xs t holders
same-hold xs s t holders same h = record {
  within = h.within;
  hold = λ p under. sym (same (get_or holders p 0) (h.within p under)) ∙ h.hold p under;
  rising = h.rising;
  each = λ i under holds. h.each i under (same i under ∙ holds);
}
