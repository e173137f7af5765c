-- What an edit makes of the rows, and the rows of each version.
use Rattle.std.specs.Prelude.{◌≡◌, ℕ, zero, suc, ◌+◌, ◌-◌, ◌<◌, ◌≤◌, ◌^◌, Bool, true, false, not, if◌then◌else◌, List, [], ◌∷◌, ◌++◌, All, length, take, map, slice_index_or, Option, Some, unwrap_or}
use Rattle.definitions.specs.Words.{Extent}
use Rattle.definitions.specs.Moves.{IsMove}
use Rattle.definitions.specs.Rows.{RowValue, lies_in, with_row, is_live}
use Rattle.increments.specs.Edits.{tick_of, with_move, without}
use Rattle.versions.specs.declared.edit.Edit.{Edit}
use Rattle.versions.specs.declared.edit.Edit.TheVariants.{Append, Correct, Remove}
use Rattle.versions.specs.declared.edit.EditReply.{EditReply}
use Rattle.versions.specs.declared.edit.EditReply.TheVariants.{Done, NameTaken, NoRow}
use Rattle.versions.specs.declared.log.Accepted.{Accepted}

-- ---- one edit
-- an edit of an extent
abbrev pub IsEdit : Extent → Edit → Type 0
IsEdit extent (Append name tick x) = (tick < 2 ^ 32) × IsMove extent x
IsEdit extent (Correct name x) = IsMove extent x
IsEdit extent (Remove name) = Unit {0}

-- a new row needs a name that isn't live; a row that changes or goes needs one that is
abbrev pub accepts : List RowValue → Edit → Bool
accepts rows (Append name tick x) = not (is_live name rows)
accepts rows (Correct name x) = is_live name rows
accepts rows (Remove name) = is_live name rows

-- the tick of the row that is edited
abbrev pub edited_tick : List RowValue → Edit → Option ℕ
edited_tick rows (Append name tick x) = Some tick
edited_tick rows (Correct name x) = tick_of name rows
edited_tick rows (Remove name) = tick_of name rows

-- the rows after an accepted edit, which makes this version: it is the birth of a new row
abbrev pub edited : ℕ → Edit → List RowValue → List RowValue
edited version (Append name tick x) rows = with_row (record { name = name; tick = tick; birth = version; x = x }) rows
edited version (Correct name x) rows = with_move name x rows
edited version (Remove name) rows = without name rows

-- ---- versions
-- the rows after these edits, of which the first makes the version after v
abbrev pub replayed : ℕ → List Accepted → List RowValue → List RowValue
replayed v [] rows = rows
replayed v (e ∷ edits) rows = replayed (suc v) edits (edited (suc v) e.edit rows)

-- the rows of version v, where these edits were accepted
abbrev pub rows_at : List Accepted → ℕ → List RowValue
rows_at edits v = replayed 0 (take v edits) []

-- the rows of the current version
abbrev pub current_rows : List Accepted → List RowValue
current_rows edits = rows_at edits (length edits)

-- an edit that the rows accept, with the tick of its row
pub record IsAccepted (rows : List RowValue) (e : Accepted) : Type 0 where
  pub accepted : accepts rows e.edit ≡ true
  pub tick_is : edited_tick rows e.edit ≡ Some e.tick

-- each edit was accepted after those before it
abbrev pub AreAccepted : ℕ → List Accepted → List RowValue → Type 0
AreAccepted v [] rows = Unit {0}
AreAccepted v (e ∷ edits) rows = IsAccepted rows e × AreAccepted (suc v) edits (edited (suc v) e.edit rows)

-- the accepted edits of a stream, in order: the number of each is the version that it makes
pub record LogValue : Type 0 where
  pub extent : Extent
  pub edits : List Accepted

-- a log that edits can have led to: each was accepted after those before it, and is one of the extent at a tick of the line of time
pub record IsLog (log : LogValue) : Type 0 where
  pub accepted : AreAccepted 0 log.edits []
  pub within : All (λ e. IsEdit log.extent e.edit × (e.tick < 2 ^ 32)) log.edits

-- ---- the reply to an edit
-- why an edit isn't accepted, with the current version: an append because its name is live, any other because its name isn't
abbrev pub refusal : Edit → ℕ → EditReply
refusal (Append name tick x) version = NameTaken version
refusal (Correct name x) version = NoRow version
refusal (Remove name) version = NoRow version

-- the version after it
abbrev pub edit_reply : List Accepted → Edit → EditReply
edit_reply edits e = if accepts (current_rows edits) e then Done (length edits + 1) else refusal e (length edits)

-- an accepted edit is the next one; a refused one changes nothing
abbrev pub after_edit : List Accepted → Edit → List Accepted
after_edit edits e =
    if accepts (current_rows edits) e then edits ++ (record { edit = e; tick = unwrap_or (edited_tick (current_rows edits) e) 0 }) ∷ [] else edits

-- ---- which versions touch an interval
-- the edit that makes version t has its tick in [a, b)
abbrev pub touched : ℕ → ℕ → List Accepted → ℕ → Bool
touched a b edits t = slice_index_or (map (λ e. lies_in a b e.tick) edits) (t - 1) false

-- the last version from 1 to v that touches [a, b), or 0
abbrev pub since : ℕ → ℕ → List Accepted → ℕ → ℕ
since a b edits zero = 0
since a b edits (suc v) = if touched a b edits (suc v) then suc v else since a b edits v

-- the first version after v that touches [a, b)
pub record IsFirstTouch (a b : ℕ) (edits : List Accepted) (v t : ℕ) : Type 0 where
  pub later : v < t
  pub within : t ≤ length edits
  pub touches : touched a b edits t ≡ true
  pub first : (u : ℕ) → v < u → u < t → touched a b edits u ≡ false
