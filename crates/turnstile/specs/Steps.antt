-- What each step changes in what a seat knows, and what it tells.
use Rattle.std.specs.Prelude.{◌≡◌, ◌≢◌, ℕ, ◌+◌, Bool, true, false, List, [], ◌∷◌, ◌++◌, Option, Some, None}
use mathlib.Core.List.{IsPrefix}
use Rattle.atomic_table.specs.Table.{Step}
use Rattle.turnstile.specs.declared.view.SeatView.{SeatView}
use Rattle.turnstile.specs.Entries.{longer, shorter}
use Rattle.turnstile.specs.History.{SeatState}
use Rattle.turnstile.specs.Views.{new_pass, Continues}

-- the slots that are out with a seat which has the turn, or has not
abbrev pub slots_out : {K : Type 0} → Bool → List (ℕ × Option K)
slots_out true = (0, None) ∷ []
slots_out false = []

module _ {E : Type 0} where
  -- the first seat
  abbrev pub first_view : List ℕ → SeatView E
  first_view frame = record { pass = new_pass 0 frame []; shorter = []; spent = false }

  -- the turn begins, at these entries
  abbrev pub taking : SeatView E → List E → SeatView E
  taking v xs = record v { pass = record v.pass { turn = true; taken = xs } }

  -- the turn ends: the list xs is seen, and the own entries are ys
  abbrev pub ending : SeatView E → List E → List E → SeatView E
  ending v xs ys = record v { pass = record v.pass { seen = xs; own = ys; turn = false; taken = [] }; shorter = [] }

  -- a seat after a split
  abbrev pub splitting : SeatView E → SeatView E
  splitting v = record v { pass = record v.pass { splits = v.pass.splits + 1 } }

  -- the seat that is split off
  abbrev pub split_off : SeatView E → SeatView E
  split_off v = record { pass = new_pass (v.pass.splits + 1) v.pass.frame v.pass.seen; shorter = []; spent = false }

  -- a seat that takes in what another knows
  abbrev pub joining : SeatView E → SeatView E → SeatView E
  joining v w = record v { pass = record v.pass { seen = longer v.pass.seen w.pass.seen; joined = (w.pass.label, w.pass.own) ∷ v.pass.joined }; shorter = shorter v.pass.seen w.pass.seen }

  -- that other seat, from then on
  abbrev pub spent_view : SeatView E
  spent_view = record { pass = new_pass 0 [] []; shorter = []; spent = true }

module _ {K E : Type 0} where
  -- where the word was the one expected, the turn begins at a value that goes on from what the pass knew, and else nothing changes
  abbrev pub Takes : (K → List E) → (E → ℕ) → (K → List ℕ) → Step (Option K) → SeatState K E → ℕ → SeatState K E → Type 0
  Takes entries label frame st m found m' = (found ≡ st.first → (k : K) × (m' ≡ (taking m.0 (entries k), (0, Some k) ∷ [])) × Continues entries label frame m.0.pass k) × (found ≢ st.first → m' ≡ m)

  -- the turn ends at the value in the slot, which has one entry more than was taken
  abbrev pub Gives : (K → List E) → Step (Option K) → SeatState K E → ℕ → SeatState K E → Type 0
  Gives entries st m found m' = (k : K) × (e : E) × (m.1 ≡ (0, Some k) ∷ []) × (entries k ≡ m.0.pass.taken ++ e ∷ []) × (m' ≡ (ending m.0 (entries k) (m.0.pass.own ++ e ∷ []), []))

  -- the turn ends at the entries that were taken
  abbrev pub GivesBack : Step (Option K) → SeatState K E → ℕ → SeatState K E → Type 0
  GivesBack st m found m' = m' ≡ (ending m.0 m.0.pass.taken m.0.pass.own, [])

  -- of the lists that two joined passes had seen, the shorter begins the longer
  abbrev pub Compares : Step (Option K) → SeatState K E → ℕ → SeatState K E → Type 0
  Compares st m found m' = (m' ≡ m) × IsPrefix m.0.shorter m.0.pass.seen
