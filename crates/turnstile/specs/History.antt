-- The rule of the table, which holds between any two steps: there is one history, and each seat knows a beginning of it.
-- The one word is twice the number of entries, and one more while a pass has the turn. The one slot has the value, and is out while a pass has the turn.
use Rattle.std.specs.Prelude.{◌≡◌, ℕ, ◌+◌, ◌*◌, ◌<◌, ◌≤◌, true, false, List, [], ◌∷◌, length, Option, Some, None, All}
use mathlib.Core.Option.{none, some}
use mathlib.Core.List.{IsPrefix}
use lib.ListN.{get_elem?}
use Rattle.atomic_table.specs.Table.{State, Me}
use Rattle.turnstile.specs.declared.view.SeatView.{SeatView}
use Rattle.turnstile.specs.Entries.{of_label}

-- what the rule speaks of: the history, its frame, the number of labels after 0, the seat that has each label, and the seat that has the turn
pub record Account (E : Type 0) : Type 0 where
  pub history : List E
  pub frame : List ℕ
  pub splits : ℕ
  pub owner : ℕ → Option ℕ
  pub holder : Option ℕ

-- 1 while a seat has the turn
abbrev pub turn_bit : Option ℕ → ℕ
turn_bit None = 0
turn_bit (Some seat) = 1

-- a table with one slot for a K, and what seats know of it
abbrev pub TableState : Type 0 → Type 0 → Type 0
TableState K E = State (Option K) (SeatView E)

-- a seat of such a table: what it knows, and the slots that are out with it
abbrev pub SeatState : Type 0 → Type 0 → Type 0
SeatState K E = Me (Option K) (SeatView E)

module _ {E : Type 0} where
  -- this seat has the turn
  abbrev pub HasTurn : List (SeatView E) → ℕ → Type 0
  HasTurn views seat = (v : SeatView E) × (get_elem? views seat ≡ some v) × (v.pass.turn ≡ true) × (v.spent ≡ false)

  -- the pass with this label was joined: the label is made, no seat has it, and its entries are those that are listed
  pub record IsListed (label : E → ℕ) (history : List E) (splits : ℕ) (owner : ℕ → Option ℕ) (j : ℕ × List E) : Type 0 where
    pub gone : owner j.0 ≡ None
    pub labelled : j.0 ≤ splits
    pub own : of_label label j.0 history ≡ j.1

  -- what a seat knows is true
  pub record Fits (label : E → ℕ) (a : Account E) (seat : ℕ) (v : SeatView E) : Type 0 where
    pub seen : IsPrefix v.pass.seen a.history
    pub shorter : IsPrefix v.shorter v.pass.seen
    pub framed : v.pass.frame ≡ a.frame
    pub owned : a.owner v.pass.label ≡ Some seat
    pub labelled : v.pass.label ≤ a.splits
    pub own : of_label label v.pass.label a.history ≡ v.pass.own
    pub counted : v.pass.label ≡ 0 → v.pass.splits ≡ a.splits
    pub in_turn : v.pass.turn ≡ true → (a.holder ≡ Some seat) × (v.pass.taken ≡ a.history)
    pub joined : All (IsListed label a.history a.splits a.owner) v.pass.joined

module _ {K E : Type 0} (entries : K → List E) (label : E → ℕ) (frame : K → List ℕ) where
  -- the slot is out with the seat that has the turn, or else its value stands for the history
  abbrev pub SlotFits : Account E → Option ℕ → List (mathlib.Core.Option.Option (Option K)) → Type 0
  SlotFits a None homes = (k : K) × (homes ≡ some (Some k) ∷ []) × (entries k ≡ a.history) × (frame k ≡ a.frame)
  SlotFits a (Some seat) homes = homes ≡ none ∷ []

  -- the rule
  pub record OneHistory (s : TableState K E) : Type 0 where
    pub account : Account E
    pub word_is : s.words ≡ (2 * length account.history + turn_bit account.holder) ∷ []
    pub slot_fits : SlotFits account account.holder s.homes
    pub held : (seat : ℕ) → account.holder ≡ Some seat → HasTurn s.views seat
    -- a label that is not yet made has no entry
    pub unmade : (l : ℕ) → account.splits < l → of_label label l account.history ≡ []
    pub seats : (seat : ℕ) (v : SeatView E) → get_elem? s.views seat ≡ some v → v.spent ≡ false → Fits label account seat v
