-- What a line that appends or corrects a row says, by its fields.
use Rattle.std.proofs.Common.{◌≡◌, ℕ, ◌<◌, true, List, length, drop, Some, refl, sym, ap, ◌∙◌, subst}
use Rattle.std.specs.Prelude.{nat_lt}
use Rattle.std.proofs.lemmas.Bool.{ltb-true}
use Rattle.definitions.specs.Words.{Extent}
use Rattle.definitions.specs.Moves.{Parts, IsMove}
use Rattle.spellings.specs.Names.{is_name}
use Rattle.versions.specs.declared.edit.Edit.TheVariants as edits
use Rattle.script_reader.specs.declared.command.Command.TheVariants as commands
use Rattle.script_reader.specs.declared.said.Said.TheVariants as sayings
use Rattle.script_reader.specs.declared.tally.Tally.{Tally}
use Rattle.script_reader.specs.Fields.{field, is_tick, tick_or_zero, are_entries, entries_of}
use Rattle.script_reader.specs.Coordinates.{is_count, lie_move}
use Rattle.script_reader.specs.Limits.{named}
use Rattle.script_reader.specs.Forms.{append_form, correct_form}
use Rattle.script_reader.specs.Reading.{IsOfForm}

-- where a command may stand, in a script of this shape
pub record IsOpen (before : Tally) (shape : Extent) : Type 0 where
  -- a session was opened
  pub opened : nat_lt 0 before.sessions ≡ true
  -- the script has named this shape
  pub shaped : before.shape ≡ Some shape

-- coordinates from a place on, and the move that they make
pub record AreCoordinates (shape : Extent) (words : List (List ℕ)) (x : Parts) : Type 0 where
  -- a Lie element can be given by so many
  pub counted : is_count shape (length words) ≡ true
  -- each word spells an entry
  pub entries : are_entries words ≡ true
  -- x is a move of the shape
  pub move : IsMove shape x
  -- it is the one with these coordinates
  pub is : x ≡ lie_move shape (entries_of words)

-- an append line with a name, a tick and coordinates says that this row is appended
pub append_reads : (before : Tally) (words : List (List ℕ)) (shape : Extent) (name : List ℕ) (tick : ℕ) (x : Parts) → IsOpen before shape → AreCoordinates shape (drop 3 words) x
    → is_name (field 1 words) ≡ true → name ≡ field 1 words → is_tick 4294967295 (field 2 words) ≡ true → tick ≡ tick_or_zero 4294967295 (field 2 words) → tick < 4294967296
    → IsOfForm append_form before words (sayings.Command (commands.Edit (edits.Append name tick x)))
append_reads before words shape name tick x opening row named' name-is timed tick-is early =
    let counted : is_count (named before.shape) (length (drop 3 words)) ≡ true = ap (λ s. is_count (named s) (length (drop 3 words))) opening.shaped ∙ row.counted in
    record {
      good = rw (opening.opened, counted, named', timed, row.entries) refl;
      next = (ltb-true 0 before.sessions opening.opened, (early, subst (λ s. IsMove (named s) x) (sym opening.shaped) row.move));
      says = rw (name-is, tick-is, row.is, opening.shaped) refl;
    }

-- a correct line with a name and coordinates says that the row of this name gets this move
pub correct_reads : (before : Tally) (words : List (List ℕ)) (shape : Extent) (name : List ℕ) (x : Parts) → IsOpen before shape → AreCoordinates shape (drop 2 words) x
    → is_name (field 1 words) ≡ true → name ≡ field 1 words
    → IsOfForm correct_form before words (sayings.Command (commands.Edit (edits.Correct name x)))
correct_reads before words shape name x opening row named' name-is =
    let counted : is_count (named before.shape) (length (drop 2 words)) ≡ true = ap (λ s. is_count (named s) (length (drop 2 words))) opening.shaped ∙ row.counted in
    record {
      good = rw (opening.opened, counted, named', row.entries) refl;
      next = (ltb-true 0 before.sessions opening.opened, subst (λ s. IsMove (named s) x) (sym opening.shaped) row.move);
      says = rw (name-is, row.is, opening.shaped) refl;
    }
