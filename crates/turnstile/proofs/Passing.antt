-- The table at the start, and the steps that make, end and compare passes, keep the rule.
use Rattle.std.proofs.Common.{◌≡◌, ℕ, zero, suc, ◌+◌, ◌≤◌, ◌≢◌, eqb, eq-eqb, ne_eqb, false, List, [], ◌∷◌, length, set, sym, refl, ap, ◌∙◌, subst, arith, Option, Some, None, ⊎_elim, if◌then◌else◌}
use Rattle.std.proofs.lemmas.List.Elements.{All-nil, All-cons}
use mathlib.Core.Option.{none, some, some-injective, some-ne-none}
use mathlib.Core.Logic.{dite}
use native.Mathlib.Decide.{ℕ_discrete}
use lib.ListN.{get_elem?}
use lib.Seq.{set-get_or}
use base.Growing.{prefix_refl}
use Rattle.atomic_table.specs.Table.{keeps, step, Allows, Splits, Joins, opening}
use Rattle.atomic_table.proofs.Lists.{at_set, set_else, set_again, at_longer}
use Rattle.turnstile.specs.declared.view.SeatView.{SeatView}
use Rattle.turnstile.specs.History.{SeatState, Account, IsListed, Fits, OneHistory}
use Rattle.turnstile.specs.Steps.{first_view, splitting, split_off, joining, spent_view, Compares}
use Rattle.turnstile.proofs.EntryLists.{longer_begins}
use Rattle.turnstile.proofs.Seats.{each_more, each_seat, still_has_turn}

-- the label l is x's, and the others are whose they were
marked : (ℕ → Option ℕ) → ℕ → Option ℕ → ℕ → Option ℕ
marked owner l x k = if eqb k l then x else owner k

-- the label that was marked
marked_here : (owner : ℕ → Option ℕ) (l : ℕ) (x : Option ℕ) (k : ℕ) → k ≡ l → marked owner l x k ≡ x
unfolding marked
marked_here owner l x k is = ap (λ b. if b then x else owner k) (eq-eqb k l is)

-- another label
marked_else : (owner : ℕ → Option ℕ) (l : ℕ) (x : Option ℕ) (k : ℕ) → k ≢ l → marked owner l x k ≡ owner k
unfolding marked
marked_else owner l x k ne = ap (λ b. if b then x else owner k) (ne_eqb k l ne)

module _ {K E : Type 0} (entries : K → List E) (label : E → ℕ) (frame : K → List ℕ) where
  -- of a new table: no entry, one label, no turn
  abbrev at_first : List ℕ → Account E
  at_first f = record { history = []; frame = f; splits = 0; owner = λ _. Some 0; holder = None }

  -- the first seat fits it
  first_fits : (f : List ℕ) (j : ℕ) (u : SeatView E) → get_elem? (first_view f ∷ []) j ≡ some u → Fits label (at_first f) j u
  first_fits f zero u at = subst (Fits label (at_first f) 0) (some-injective (first_view f) u at)
      (record { seen = prefix_refl []; shorter = prefix_refl []; framed = refl; owned = refl; labelled = omega arith; own = refl; counted = λ _. refl; in_turn = λ t. absurd cc; joined = All-nil (IsListed label [] 0 (λ _. Some 0)) })
  first_fits f (suc j) u at = absurd (some-ne-none u (sym at))

  -- a new table, with a value without entries in the slot
  pub opens : (k k' : K) → k ≡ k' → entries k ≡ [] → OneHistory entries label frame (opening (0 ∷ []) (Some k ∷ []) (first_view (frame k')))
  opens k k' same e = record {
    account = at_first (frame k');
    word_is = refl;
    slot_fits = (k, refl, e, ap frame same);
    held = λ j is. absurd cc;
    unmade = λ l above. refl;
    seats = λ j u at live. first_fits (frame k') j u at;
  }

  -- the seat of label 0 splits off one with the next label
  pub splits : (id : ℕ) (v : SeatView E) → v.pass.label ≡ 0 → v.pass.turn ≡ false → v.spent ≡ false → Splits (OneHistory entries label frame) id v (splitting v) (split_off v)
  splits id v first free live s r at =
      let a : Account E = r.account in
      let mine = r.seats id v at live in
      let count : v.pass.splits ≡ a.splits = mine.counted first in
      let n : ℕ = v.pass.splits + 1 in
      let vs : List (SeatView E) = set s.views id (splitting v) in
      let o : ℕ → Option ℕ = marked a.owner n (Some (length vs)) in
      let old : (l : ℕ) → l ≤ a.splits → o l ≡ a.owner l = λ l le. marked_else a.owner n (Some (length vs)) l (λ is. omega arith) in
      let b : Account E = record a { splits = n; owner = o } in
      let listed : (j : ℕ × List E) → IsListed label a.history a.splits a.owner j → IsListed label b.history b.splits b.owner j = λ j l. let most = l.labelled in record { gone = old j.0 l.labelled ∙ l.gone; labelled = omega arith; own = l.own } in
      let split : Fits label b id (splitting v) = let most = mine.labelled in record {
        seen = mine.seen;
        shorter = mine.shorter;
        framed = mine.framed;
        owned = old v.pass.label mine.labelled ∙ mine.owned;
        labelled = omega arith;
        own = mine.own;
        counted = λ _. refl;
        in_turn = λ t. absurd (cc (t, free));
        joined = λ n d lt. listed _ (mine.joined n d lt);
      } in
      let new : Fits label b (length vs) (split_off v) = record {
        seen = mine.seen;
        shorter = (v.pass.seen, refl);
        framed = mine.framed;
        owned = marked_here a.owner n (Some (length vs)) n refl;
        labelled = omega arith;
        own = r.unmade n (omega arith);
        counted = λ z. absurd (omega arith);
        in_turn = λ t. absurd cc;
        joined = All-nil (IsListed label b.history b.splits b.owner);
      } in
      let others : (j : ℕ) (u : SeatView E) → j ≢ id → get_elem? s.views j ≡ some u → u.spent ≡ false → Fits label b j u = λ j u other there alive. let theirs = r.seats j u there alive in let most = theirs.labelled in record {
        seen = theirs.seen;
        shorter = theirs.shorter;
        framed = theirs.framed;
        owned = old u.pass.label theirs.labelled ∙ theirs.owned;
        labelled = omega arith;
        own = theirs.own;
        counted = λ z. absurd (other (cc (theirs.owned, mine.owned, ap a.owner (z ∙ sym first))));
        in_turn = theirs.in_turn;
        joined = λ n d lt. listed _ (theirs.joined n d lt);
      } in
      record {
        account = b;
        word_is = r.word_is;
        slot_fits = r.slot_fits;
        held = λ j is. let out = still_has_turn s.views id j v (splitting v) at refl refl (r.held j is) in (out.0, at_longer vs (split_off v ∷ []) j out.0 out.1, out.2, out.3);
        unmade = λ l above. r.unmade l (omega arith);
        seats = each_more (Fits label b) vs (split_off v) new (each_seat (Fits label b) s.views id (splitting v) split others);
      }

  -- a seat takes in what another knows, whose label is then nobody's
  pub joins : (id : ℕ) (v : SeatView E) (other : ℕ) (w : SeatView E) → v.spent ≡ false → w.spent ≡ false → w.pass.turn ≡ false → Joins (OneHistory entries label frame) id v other w (joining v w) spent_view
  joins id v other w live live' free' s r at apart at' =
      let a : Account E = r.account in
      let mine = r.seats id v at live in
      let there' : get_elem? s.views other ≡ some w = sym (set_else s.views id other (joining v w) apart) ∙ at' in
      let theirs = r.seats other w there' live' in
      let o : ℕ → Option ℕ = marked a.owner w.pass.label None in
      let b : Account E = record a { owner = o } in
      let gone : (l : ℕ) → a.owner l ≡ None → o l ≡ None = λ l is. dite (ℕ_discrete l w.pass.label) (λ same. marked_here a.owner w.pass.label None l same) (λ ne. marked_else a.owner w.pass.label None l ne ∙ is) in
      let listed : (j : ℕ × List E) → IsListed label a.history a.splits a.owner j → IsListed label b.history b.splits b.owner j = λ j l. record { gone = gone j.0 l.gone; labelled = l.labelled; own = l.own } in
      let elsewhere : (j : ℕ) (u : SeatView E) → Fits label a j u → j ≢ other → Fits label b j u = λ j u f ne. record {
        seen = f.seen;
        shorter = f.shorter;
        framed = f.framed;
        owned = marked_else a.owner w.pass.label None u.pass.label (λ same. ne (cc (f.owned, theirs.owned, ap a.owner same))) ∙ f.owned;
        labelled = f.labelled;
        own = f.own;
        counted = f.counted;
        in_turn = f.in_turn;
        joined = λ n d lt. listed _ (f.joined n d lt);
      } in
      let me : Fits label b id v = elsewhere id v mine (λ same. apart (sym same)) in
      let begins = longer_begins v.pass.seen w.pass.seen a.history mine.seen theirs.seen in
      let both : Fits label b id (joining v w) = record {
        seen = begins.1;
        shorter = begins.0;
        framed = me.framed;
        owned = me.owned;
        labelled = me.labelled;
        own = me.own;
        counted = me.counted;
        in_turn = me.in_turn;
        joined = All-cons (IsListed label b.history b.splits b.owner) (w.pass.label, w.pass.own) v.pass.joined (record { gone = marked_here a.owner w.pass.label None w.pass.label refl; labelled = theirs.labelled; own = theirs.own }) me.joined;
      } in
      let vs : List (SeatView E) = set s.views id (joining v w) in
      record {
        account = b;
        word_is = r.word_is;
        slot_fits = r.slot_fits;
        held = λ j is. let out = still_has_turn s.views id j v (joining v w) at refl refl (r.held j is) in
            (out.0, set_else vs other j spent_view (λ is. absurd (cc (free', out.2, some-injective out.0 w (sym out.1 ∙ (ap (get_elem? vs) is ∙ at'))))) ∙ out.1, out.2, out.3);
        unmade = r.unmade;
        seats = λ j u there alive. ⊎_elim (λ t. absurd (cc (alive, ap (λ (x : SeatView E). x.spent) t.1)))
            (λ t. each_seat (λ j u. j ≢ other → Fits label b j u) s.views id (joining v w) (λ _. both) (λ j u ne there alive. elsewhere j u (r.seats j u there alive)) j u t.1 alive t.0)
            (at_set vs other j spent_view u there);
      }

  -- a load tells that the shorter of two lists begins the longer
  pub compares : (slots id : ℕ) (m : SeatState K E) → m.0.spent ≡ false → Allows (OneHistory entries label frame) slots id m 0 (λ n. n) (Compares (step slots 0 0 0 none) m)
  compares slots id m live s r len at inside = (
    m.0,
    keeps,
    tt,
    subst (OneHistory entries label frame) (λ i. record { words = sym (set-get_or s.words 0 0) i; homes = s.homes; views = sym (set_again s.views id m.0 at) i }) r,
    (refl, (r.seats id m.0 at live).shorter),
  )
