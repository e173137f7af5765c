-- The step that begins a turn keeps the rule.
use Rattle.std.proofs.Common.{◌≡◌, ℕ, ◌+◌, ◌*◌, ◌%◌, eqb, ◌≢◌, false, List, [], ◌∷◌, length, get_or, set, sym, refl, ap, ◌∙◌, subst, arith, Option, Some, None}
use mathlib.Core.Option.{none, some}
use mathlib.Core.List.{IsPrefix}
use lib.ListN.{get_elem?}
use prog.Atomic.{either}
use lib.Seq.{set-get_or}
use Rattle.atomic_table.specs.Table.{Act, takes, keeps, step, stepped, Valid, carried_after, Allows}
use Rattle.atomic_table.proofs.Lists.{set_again, exchanged}
use Rattle.turnstile.specs.declared.view.SeatView.{SeatView}
use Rattle.turnstile.specs.Entries.{of_label}
use Rattle.turnstile.specs.History.{TableState, SeatState, Account, HasTurn, turn_bit, IsListed, Fits, SlotFits, OneHistory}
use Rattle.turnstile.specs.Steps.{taking, Takes}
use Rattle.turnstile.proofs.Seats.{at_same, each_seat, fits_turn}

module _ {K E : Type 0} (entries : K → List E) (label : E → ℕ) (frame : K → List ℕ) where
  -- the step leaves the number n in the word, keeps the rule, and tells what it should
  abbrev Outcome : (s : TableState K E) (id : ℕ) (v : SeatView E) (cs : List (ℕ × Option K)) (old n : ℕ) (slots : ℕ) → Type 0
  Outcome s id v cs old n slots = (w : SeatView E) × (a : Act (Option K)) × Valid s.homes cs a × OneHistory entries label frame (stepped s 0 n id cs w a) × Takes entries label frame (step slots 0 old (old + 1) none) (v, cs) (get_or s.words 0 0) (w, carried_after cs a)

  -- the word is the one expected, so the turn is free and begins
  takes_free : (slots id : ℕ) (v : SeatView E) (cs : List (ℕ × Option K)) (old : ℕ) → old % 2 ≡ 0 → cs ≡ [] → v.spent ≡ false → (s : TableState K E) (r : OneHistory entries label frame s) → get_elem? s.views id ≡ some v → get_or s.words 0 0 ≡ old
      → (holder : Option ℕ) → r.account.holder ≡ holder → Outcome s id v cs old (old + 1) slots
  takes_free slots id v cs old even e live s r at is (Some j) h =
      let now : get_or s.words 0 0 ≡ 2 * length r.account.history + turn_bit r.account.holder = ap (λ ws. get_or ws 0 0) r.word_is in
      let one : turn_bit r.account.holder ≡ 1 = ap turn_bit h in absurd (omega arith)
  takes_free slots id v cs old even e live s r at is None h =
      let a : Account E = r.account in
      let b : Account E = record a { holder = Some id } in
      let now : get_or s.words 0 0 ≡ 2 * length a.history + turn_bit a.holder = ap (λ ws. get_or ws 0 0) r.word_is in
      let zero : turn_bit a.holder ≡ 0 = ap turn_bit h in
      let slot : SlotFits entries label frame a None s.homes = subst (λ x. SlotFits entries label frame a x s.homes) h r.slot_fits in
      let k : K = slot.0 in
      let w : SeatView E = taking v (entries k) in
      let told : (j : ℕ × List E) → IsListed label a.history a.splits a.owner j → of_label label j.0 (entries k) ≡ j.1 = λ j l. subst (λ xs. of_label label j.0 xs ≡ j.1) (sym slot.2) l.own in
      let mine = r.seats id v at live in
      let held : Fits label b id w = record {
        seen = mine.seen;
        shorter = mine.shorter;
        framed = mine.framed;
        owned = mine.owned;
        labelled = mine.labelled;
        own = mine.own;
        counted = mine.counted;
        in_turn = λ _. (refl, slot.2);
        joined = mine.joined;
      } in (
        w,
        takes 0 (Some k),
        ap (λ hs. get_elem? hs 0) slot.1,
        record {
          account = b;
          word_is = ap (λ ws. set ws 0 (old + 1)) r.word_is ∙ ap (λ n. n ∷ []) (omega arith);
          slot_fits = ap (λ hs. set hs 0 none) slot.1;
          held = λ j same. let here : id ≡ j = cc same in subst (HasTurn (set s.views id w)) here (w, at_same s.views id v w at, refl, live);
          unmade = r.unmade;
          seats = each_seat (Fits label b) s.views id w held
              (λ j u other there alive. fits_turn label a (Some id) j u (λ t. absurd (cc (h, ((r.seats j u there alive).in_turn t).0))) (r.seats j u there alive));
        },
        (
          λ _. (
            k,
            ap (λ c. (w, (0, Some k) ∷ c)) e,
            record {
              framed = slot.3 ∙ sym mine.framed;
              seen = subst (λ xs. IsPrefix v.pass.seen xs) (sym slot.2) mine.seen;
              own = subst (λ xs. of_label label v.pass.label xs ≡ v.pass.own) (sym slot.2) mine.own;
              joined = λ n d lt. told _ (mine.joined n d lt);
            },
          ),
          λ ne. absurd (ne is),
        ),
      )

  -- the word is another, and nothing changes
  misses : (slots id : ℕ) (v : SeatView E) (cs : List (ℕ × Option K)) (old : ℕ) (s : TableState K E) (r : OneHistory entries label frame s) → get_elem? s.views id ≡ some v → get_or s.words 0 0 ≢ old → Outcome s id v cs old (get_or s.words 0 0) slots
  misses slots id v cs old s r at ne = (
    v,
    keeps,
    tt,
    subst (OneHistory entries label frame) (λ i. record { words = sym (set-get_or s.words 0 0) i; homes = s.homes; views = sym (set_again s.views id v at) i }) r,
    (λ is. absurd (ne is), λ _. refl),
  )

  -- an exchange of an even number by the next one begins a turn, or changes nothing
  pub takes_turn : (slots id : ℕ) (m : SeatState K E) (old : ℕ) → old % 2 ≡ 0 → m.1 ≡ [] → m.0.spent ≡ false
      → Allows (OneHistory entries label frame) slots id m 0 (λ n. either (eqb n old) (old + 1) n) (Takes entries label frame (step slots 0 old (old + 1) none) m)
  takes_turn slots id m old even e live s r len at inside = exchanged (get_or s.words 0 0) old (old + 1) (λ n. Outcome s id m.0 m.1 old n slots)
      (λ is. takes_free slots id m.0 m.1 old even e live s r at is r.account.holder refl)
      (λ ne. misses slots id m.0 m.1 old s r at ne)
