-- The steps that end a turn keep the rule.
use Rattle.std.proofs.Common.{◌≡◌, ℕ, ◌+◌, ◌-◌, ◌*◌, ◌%◌, ◌<◌, ◌^◌, true, false, List, [], ◌∷◌, ◌++◌, length, get_or, set, sym, refl, ap, ◌∙◌, subst, arith, Option, Some, None, length-append}
use mathlib.Core.Option.{none, some}
use mathlib.Core.List.{IsPrefix}
use base.Growing.{prefix_refl, prefix_trans}
use Rattle.atomic_table.specs.Table.{gives, step, put_back, rest, Allows}
use Rattle.turnstile.specs.declared.view.SeatView.{SeatView}
use Rattle.turnstile.specs.History.{SeatState, Account, turn_bit, IsListed, Fits, SlotFits, OneHistory}
use Rattle.turnstile.specs.Steps.{ending, Gives, GivesBack}
use Rattle.turnstile.proofs.EntryLists.{of_label_same, of_label_other}
use Rattle.turnstile.proofs.Seats.{each_seat, fits_turn}

module _ {K E : Type 0} (entries : K → List E) (label : E → ℕ) (frame : K → List ℕ) where
  -- the slot comes home with k
  comes_home : (a : Account E) (holder : Option ℕ) (seat : ℕ) (hs : List (mathlib.Core.Option.Option (Option K))) (cs : List (ℕ × Option K)) (k : K) → SlotFits entries label frame a holder hs → holder ≡ Some seat → cs ≡ (0, Some k) ∷ []
      → put_back hs cs ≡ some (Some k) ∷ []
  comes_home a (Some i) seat hs cs k at is e = ap (put_back hs) e ∙ ap (λ xs. set xs 0 (some (Some k))) at
  comes_home a None seat hs cs k at is e = absurd cc

  -- the turn ends with the entries that were taken
  pub gives_back : (slots id : ℕ) (m : SeatState K E) (k : K) → m.1 ≡ (0, Some k) ∷ [] → m.0.pass.turn ≡ true → m.0.spent ≡ false → frame k ≡ m.0.pass.frame → entries k ≡ m.0.pass.taken
      → Allows (OneHistory entries label frame) slots id m 0 (λ n. (n + (2 ^ 64 - 1)) % 2 ^ 64) (GivesBack (step slots 0 1 0 none) m)
  gives_back slots id m k e turn live framed same s r len at inside =
      let a : Account E = r.account in
      let b : Account E = record a { holder = None } in
      let x : ℕ = get_or s.words 0 0 in
      let mine = r.seats id m.0 at live in
      let mark = mine.in_turn turn in
      let one : turn_bit a.holder ≡ 1 = ap turn_bit mark.0 in
      let now : x ≡ 2 * length a.history + turn_bit a.holder = ap (λ ws. get_or ws 0 0) r.word_is in
      let below : 2 * length a.history < 2 ^ 64 = omega arith in
      let less : (x + (2 ^ 64 - 1)) % 2 ^ 64 ≡ 2 * length a.history + 0 = omega arith in
      let w : SeatView E = ending m.0 m.0.pass.taken m.0.pass.own in
      let ended : Fits label b id w = record {
        seen = subst (λ h. IsPrefix m.0.pass.taken h) mark.1 (prefix_refl m.0.pass.taken);
        shorter = (m.0.pass.taken, refl);
        framed = mine.framed;
        owned = mine.owned;
        labelled = mine.labelled;
        own = mine.own;
        counted = mine.counted;
        in_turn = λ t. absurd cc;
        joined = mine.joined;
      } in (
        w,
        gives,
        tt,
        record {
          account = b;
          word_is = ap (λ ws. set ws 0 ((x + (2 ^ 64 - 1)) % 2 ^ 64)) r.word_is ∙ ap (λ n. n ∷ []) less;
          slot_fits = (k, comes_home a a.holder id s.homes m.1 k r.slot_fits mark.0 e, same ∙ mark.1, framed ∙ mine.framed);
          held = λ j is. absurd cc;
          unmade = r.unmade;
          seats = each_seat (Fits label b) s.views id w ended
              (λ j u other there alive. let theirs = r.seats j u there alive in fits_turn label a None j u (λ t. absurd (other (cc (mark.0, (theirs.in_turn t).0)))) theirs);
        },
        ap (λ c. (w, rest c)) e,
      )

  -- the turn ends with one entry more, which has the seat's label
  pub gives_more : (slots id : ℕ) (m : SeatState K E) (k : K) (e : E) → m.1 ≡ (0, Some k) ∷ [] → m.0.pass.turn ≡ true → m.0.spent ≡ false → frame k ≡ m.0.pass.frame → entries k ≡ m.0.pass.taken ++ e ∷ [] → label e ≡ m.0.pass.label
      → length (entries k) < 2 ^ 62 → Allows (OneHistory entries label frame) slots id m 0 (λ n. (n + 1) % 2 ^ 64) (Gives entries (step slots 0 1 0 none) m)
  gives_more slots id m k e out turn live framed longer labelled few s r len at inside =
      let a : Account E = r.account in
      let h : List E = a.history ++ e ∷ [] in
      let b : Account E = record a { history = h; holder = None } in
      let x : ℕ = get_or s.words 0 0 in
      let mine = r.seats id m.0 at live in
      let mark = mine.in_turn turn in
      let one : turn_bit a.holder ≡ 1 = ap turn_bit mark.0 in
      let now : x ≡ 2 * length a.history + turn_bit a.holder = ap (λ ws. get_or ws 0 0) r.word_is in
      let there : entries k ≡ h = longer ∙ ap (λ xs. xs ++ e ∷ []) mark.1 in
      let size : length h ≡ length a.history + 1 = length-append a.history (e ∷ []) in
      let few' : length h < 2 ^ 62 = subst (λ xs. length xs < 2 ^ 62) there few in
      let more : (x + 1) % 2 ^ 64 ≡ 2 * length h + 0 = omega arith in
      let w : SeatView E = ending m.0 (entries k) (m.0.pass.own ++ e ∷ []) in
      let grown : IsPrefix a.history h = (e ∷ [], refl) in
      let owns : a.owner (label e) ≡ Some id = ap a.owner labelled ∙ mine.owned in
      -- no joined label is that of the new entry
      let listed : (j : ℕ × List E) → IsListed label a.history a.splits a.owner j → IsListed label b.history b.splits b.owner j = λ j l. record { gone = l.gone; labelled = l.labelled; own = of_label_other label j.0 a.history e (λ is. absurd (cc (owns, l.gone, ap a.owner is))) ∙ l.own } in
      let ended : Fits label b id w = record {
        seen = subst (λ xs. IsPrefix xs h) (sym there) (prefix_refl h);
        shorter = (entries k, refl);
        framed = mine.framed;
        owned = mine.owned;
        labelled = mine.labelled;
        own = of_label_same label m.0.pass.label a.history e labelled ∙ ap (λ xs. xs ++ e ∷ []) mine.own;
        counted = mine.counted;
        in_turn = λ t. absurd cc;
        joined = λ n d lt. listed _ (mine.joined n d lt);
      } in (
        w,
        gives,
        tt,
        record {
          account = b;
          word_is = ap (λ ws. set ws 0 ((x + 1) % 2 ^ 64)) r.word_is ∙ ap (λ n. n ∷ []) more;
          slot_fits = (k, comes_home a a.holder id s.homes m.1 k r.slot_fits mark.0 out, there, framed ∙ mine.framed);
          held = λ j is. absurd cc;
          unmade = λ l above. let most = mine.labelled in of_label_other label l a.history e (λ is. omega arith) ∙ r.unmade l above;
          seats = each_seat (Fits label b) s.views id w ended
              (λ j u other there' alive. let theirs = r.seats j u there' alive in record {
                seen = prefix_trans u.pass.seen a.history h theirs.seen grown;
                shorter = theirs.shorter;
                framed = theirs.framed;
                owned = theirs.owned;
                labelled = theirs.labelled;
                own = of_label_other label u.pass.label a.history e (λ is. other (cc (owns, theirs.owned, ap a.owner is))) ∙ theirs.own;
                counted = theirs.counted;
                in_turn = λ t. absurd (other (cc (mark.0, (theirs.in_turn t).0)));
                joined = λ n d lt. listed _ (theirs.joined n d lt);
              });
        },
        (k, e, out, longer, ap (λ c. (w, rest c)) out),
      )
