-- Lists of what seats know, and what the rule says of a seat where the account changes.
use Rattle.std.proofs.Common.{◌≡◌, ℕ, zero, suc, ◌≢◌, ◌⊎◌, inl, inr, true, false, List, [], ◌∷◌, ◌++◌, length, set, sym, refl, ap, ◌∙◌, subst, ⊎_elim, Option, Some}
use mathlib.Core.Option.{some, some-injective, some-ne-none}
use mathlib.Core.Logic.{dite}
use native.Mathlib.Decide.{ℕ_discrete}
use lib.ListN.{get_elem?}
use Rattle.atomic_table.proofs.Lists.{at_set, set_else}
use Rattle.turnstile.specs.declared.view.SeatView.{SeatView}
use Rattle.turnstile.specs.History.{Account, HasTurn, Fits}

module _ {A : Type 0} where
  -- what was set is there
  pub at_same : (l : List A) (i : ℕ) (a b : A) → get_elem? l i ≡ some a → get_elem? (set l i b) i ≡ some b
  at_same [] i a b e = absurd (some-ne-none a (sym e))
  at_same (x ∷ xs) zero a b e = refl
  at_same (x ∷ xs) (suc i) a b e = at_same xs i a b e

  -- an element of a list with one more is of the list, or the last
  at_more : (l : List A) (a b : A) (j : ℕ) → get_elem? (l ++ a ∷ []) j ≡ some b → (get_elem? l j ≡ some b) ⊎ ((j ≡ length l) × (a ≡ b))
  at_more [] a b zero e = inr (refl, some-injective a b e)
  at_more [] a b (suc j) e = absurd (some-ne-none b (sym e))
  at_more (x ∷ xs) a b zero e = inl e
  at_more (x ∷ xs) a b (suc j) e = ⊎_elim inl (λ t. inr (ap suc t.0, t.1)) (at_more xs a b j e)

module _ {E : Type 0} where
  -- a seat's view changes, and whether it has the turn does not
  pub still_has_turn : (vs : List (SeatView E)) (id seat : ℕ) (v w : SeatView E) → get_elem? vs id ≡ some v → w.pass.turn ≡ v.pass.turn → w.spent ≡ v.spent → HasTurn vs seat → HasTurn (set vs id w) seat
  still_has_turn vs id seat v w at t s out = dite (ℕ_discrete seat id)
      (λ is. let same : out.0 ≡ v = some-injective out.0 v (sym out.1 ∙ (ap (get_elem? vs) is ∙ at)) in
      (w, ap (get_elem? (set vs id w)) is ∙ at_same vs id v w at, t ∙ (ap (λ x. x.pass.turn) (sym same) ∙ out.2), s ∙ (ap (λ x. x.spent) (sym same) ∙ out.3)))
      (λ ne. (out.0, set_else vs id seat w ne ∙ out.1, out.2, out.3))

  -- a fact on each seat, where the view of one is set
  pub each_seat : (P : ℕ → SeatView E → Type 0) (vs : List (SeatView E)) (id : ℕ) (w : SeatView E) → P id w → ((j : ℕ) (u : SeatView E) → j ≢ id → get_elem? vs j ≡ some u → u.spent ≡ false → P j u)
      → (j : ℕ) (u : SeatView E) → get_elem? (set vs id w) j ≡ some u → u.spent ≡ false → P j u
  each_seat P vs id w mine others j u at live = ⊎_elim (λ (t : (j ≡ id) × (w ≡ u)). subst (λ (z : ℕ × SeatView E). P z.0 z.1) (λ i. (sym t.0 i, t.1 i)) mine)
      (λ (t : (j ≢ id) × (get_elem? vs j ≡ some u)). others j u t.0 t.1 live) (at_set vs id j w u at)

  -- a fact on each seat, where one seat is new
  pub each_more : (P : ℕ → SeatView E → Type 0) (vs : List (SeatView E)) (w : SeatView E) → P (length vs) w → ((j : ℕ) (u : SeatView E) → get_elem? vs j ≡ some u → u.spent ≡ false → P j u)
      → (j : ℕ) (u : SeatView E) → get_elem? (vs ++ w ∷ []) j ≡ some u → u.spent ≡ false → P j u
  each_more P vs w new others j u at live = ⊎_elim (λ t. others j u t live)
      (λ (t : (j ≡ length vs) × (w ≡ u)). subst (λ (z : ℕ × SeatView E). P z.0 z.1) (λ i. (sym t.0 i, t.1 i)) new) (at_more vs w u j at)

  -- another seat has the turn, or none
  pub fits_turn : (label : E → ℕ) (a : Account E) (holder : Option ℕ) (j : ℕ) (u : SeatView E) → (u.pass.turn ≡ true → (holder ≡ Some j) × (u.pass.taken ≡ a.history))
      → Fits label a j u → Fits label (record a { holder = holder }) j u
  fits_turn label a holder j u t f = record {
    seen = f.seen;
    shorter = f.shorter;
    framed = f.framed;
    owned = f.owned;
    labelled = f.labelled;
    own = f.own;
    counted = f.counted;
    in_turn = t;
    joined = f.joined;
  }
