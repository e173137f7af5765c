-- Short plays, worked out by hand: each step's reply and state are those that the definitions compute.
use Rattle.std.proofs.Common.{◌≡◌, refl, ℕ, ◌*◌, List, [], ◌∷◌, Option, Some, None}
use Rattle.std.specs.Prelude.{pos}
use Rattle.definitions.specs.Moves.{root, move_weight}
use Rattle.dyadic.specs.Nodes.{NodeValue}
use Rattle.versions.specs.declared.edit.Edit.{Edit}
use Rattle.versions.specs.declared.edit.Edit.TheVariants.{Append, Correct}
use Rattle.versions.specs.declared.edit.EditReply.TheVariants.{Done}
use Rattle.versions.specs.declared.log.Accepted.{Accepted}
use Rattle.script_reader.specs.declared.command.Kind.TheVariants.{Sig}
use Rattle.book.specs.declared.query.Query.{Query}
use Rattle.book.specs.declared.query.Allowed.TheVariants.{Fits}
use Rattle.book.specs.declared.step.LookReply.TheVariants.{Found}
use Rattle.book.specs.declared.step.Step.{Step}
use Rattle.book.specs.declared.step.Step.TheVariants.{Edited, Looked, Settled}
use Rattle.book.specs.Walks.{Pair}
use Rattle.book.specs.Play.{Request, Editing, Looking, Settling, State, PendingLook, after, step_of}

-- the row of this name and tick with this entry, and another entry for it
abbrev append : ℕ → ℕ → ℕ → Edit
append name tick x = Append (name ∷ []) tick ((pos x ∷ []) ∷ [])

abbrev correct : ℕ → ℕ → Edit
correct name x = Correct (name ∷ []) ((pos x ∷ []) ∷ [])

-- the signature of the first second, of a stream of one letter and depth 1
abbrev second : Option ℕ → Query
second version = record { kind = Sig; from = 0; to = 65536; r = 0; version = version; allowed = Fits (1 ∷ []) }

abbrev accepted : Edit → ℕ → Accepted
accepted edit tick = record { edit = edit; tick = tick }

abbrev whole : NodeValue
whole = record { index = 0; height = 16 }

abbrev state : List Accepted → List Pair → Option PendingLook → State
state edits pairs look = record { edits = edits; pairs = pairs; pending = look ∷ [] }

-- a request, its step, and the state after it
record Goes (old : State) (request : Request) (step : Step) (new : State) : Type 0 where
  reply : step_of old request ≡ step
  becomes : after 4096 old request ≡ new

abbrev one_row : List Accepted
one_row = accepted (append 97 0 5) 0 ∷ []

appended : Goes (state [] [] None) (Editing 1 (append 97 0 5)) (Edited 1 (append 97 0 5) (Done 1)) (state one_row [] None)
appended = record { reply = refl; becomes = refl }

missed : Goes (state one_row [] None) (Looking 1 (second None)) (Looked 1 (second None) (Found 1 0 1 1)) (state one_row [] (Some (record { version = 1; missed = whole ∷ [] })))
unfolding move_weight root
missed = record { reply = refl; becomes = refl }

-- ---- what is kept is found, and again after a correction
abbrev whole_at : ℕ → Pair
whole_at version = record { node = whole; since = version }

abbrev missing : ℕ → List NodeValue → Option PendingLook
missing version nodes = Some (record { version = version; missed = nodes })

kept : Goes (state one_row [] (missing 1 (whole ∷ []))) (Settling 1) (Settled 1 1) (state one_row (whole_at 1 ∷ []) None)
kept = record { reply = refl; becomes = refl }

found : Goes (state one_row (whole_at 1 ∷ []) None) (Looking 1 (second None)) (Looked 1 (second None) (Found 1 1 0 0)) (state one_row (whole_at 1 ∷ []) None)
unfolding move_weight root
found = record { reply = refl; becomes = refl }

abbrev two_edits : List Accepted
two_edits = accepted (append 97 0 5) 0 ∷ accepted (correct 97 6) 0 ∷ []

corrected : Goes (state one_row (whole_at 1 ∷ []) None) (Editing 1 (correct 97 6)) (Edited 1 (correct 97 6) (Done 2)) (state two_edits (whole_at 1 ∷ []) None)
corrected = record { reply = refl; becomes = refl }

old_found : Goes (state two_edits (whole_at 1 ∷ []) None) (Looking 1 (second (Some 1))) (Looked 1 (second (Some 1)) (Found 1 1 0 0)) (state two_edits (whole_at 1 ∷ []) None)
unfolding move_weight root
old_found = record { reply = refl; becomes = refl }

new_missed : Goes (state two_edits (whole_at 1 ∷ []) None) (Looking 1 (second (Some 2))) (Looked 1 (second (Some 2)) (Found 2 0 1 1)) (state two_edits (whole_at 1 ∷ []) (missing 2 (whole ∷ [])))
unfolding move_weight root
new_missed = record { reply = refl; becomes = refl }

new_kept : Goes (state two_edits (whole_at 1 ∷ []) (missing 2 (whole ∷ []))) (Settling 1) (Settled 1 1) (state two_edits (whole_at 2 ∷ whole_at 1 ∷ []) None)
new_kept = record { reply = refl; becomes = refl }

new_found : Goes (state two_edits (whole_at 2 ∷ whole_at 1 ∷ []) None) (Looking 1 (second None)) (Looked 1 (second None) (Found 2 1 0 0)) (state two_edits (whole_at 2 ∷ whole_at 1 ∷ []) None)
unfolding move_weight root
new_found = record { reply = refl; becomes = refl }

-- ---- nine rows of one second, five in its left half: a correction in the right one leaves the left one's signature
abbrev one_at : ℕ → ℕ → Accepted
one_at name sixteenth = accepted (append name (4096 * sixteenth) 1) (4096 * sixteenth)

abbrev nine_rows : List Accepted
nine_rows = one_at 98 0 ∷ one_at 99 1 ∷ one_at 100 2 ∷ one_at 101 3 ∷ one_at 102 4 ∷ one_at 97 8 ∷ one_at 103 9 ∷ one_at 104 10 ∷ one_at 105 11 ∷ []

abbrev left : NodeValue
left = record { index = 0; height = 15 }

abbrev right : NodeValue
right = record { index = 1; height = 15 }

abbrev left_at : ℕ → Pair
left_at version = record { node = left; since = version }

abbrev right_at : ℕ → Pair
right_at version = record { node = right; since = version }

halves_missed : Goes (state nine_rows [] None) (Looking 1 (second None)) (Looked 1 (second None) (Found 9 0 3 9)) (state nine_rows [] (missing 9 (left ∷ right ∷ whole ∷ [])))
unfolding move_weight root
halves_missed = record { reply = refl; becomes = refl }

halves_kept : Goes (state nine_rows [] (missing 9 (left ∷ right ∷ whole ∷ []))) (Settling 1) (Settled 1 3) (state nine_rows (whole_at 9 ∷ right_at 9 ∷ left_at 5 ∷ []) None)
halves_kept = record { reply = refl; becomes = refl }

abbrev with_correction : List Accepted
with_correction =
    one_at 98 0 ∷ one_at 99 1 ∷ one_at 100 2 ∷ one_at 101 3 ∷ one_at 102 4 ∷ one_at 97 8 ∷ one_at 103 9 ∷ one_at 104 10 ∷ one_at 105 11 ∷ accepted (correct 97 6) 32768 ∷ []

right_corrected : Goes (state nine_rows (whole_at 9 ∷ right_at 9 ∷ left_at 5 ∷ []) None) (Editing 1 (correct 97 6)) (Edited 1 (correct 97 6) (Done 10))
    (state with_correction (whole_at 9 ∷ right_at 9 ∷ left_at 5 ∷ []) None)
right_corrected = record { reply = refl; becomes = refl }

left_found : Goes (state with_correction (whole_at 9 ∷ right_at 9 ∷ left_at 5 ∷ []) None) (Looking 1 (second None)) (Looked 1 (second None) (Found 10 1 2 4))
    (state with_correction (left_at 5 ∷ whole_at 9 ∷ right_at 9 ∷ []) (missing 10 (right ∷ whole ∷ [])))
unfolding move_weight root
left_found = record { reply = refl; becomes = refl }
