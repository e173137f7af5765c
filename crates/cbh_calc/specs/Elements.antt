-- The list of Lie elements that bytes spell, or the first bad line.
use Rattle.std.specs.Prelude.{ℕ, suc, nat_lt, if◌then◌else◌, List, [], ◌∷◌, ◌++◌, length, map, filter, codes, Option, Some, None, Result, Ok, Err, is_some}
use Rattle.std.specs.Str.{bytes_eq}
use Rattle.std.specs.List.{list_all}
use Rattle.definitions.specs.Words.{Extent}
use Rattle.definitions.specs.Moves.{Parts}
use Rattle.spellings.specs.Lines.{lines_of, words_in, is_content}
use Rattle.script_reader.specs.declared.fault.Reason.{Reason}
use Rattle.script_reader.specs.declared.fault.Reason.TheVariants as reasons
use Rattle.script_reader.specs.declared.fault.ScriptFault.{ScriptFault}
use Rattle.script_reader.specs.declared.fault.ScriptFault.TheVariants.{Size, Line}
use Rattle.script_reader.specs.Fields.{field, unless, first_of, are_entries, entries_of}
use Rattle.script_reader.specs.Coordinates.{is_count, lie_move}
use Rattle.script_reader.specs.Limits.{named, nothing_said}
use Rattle.script_reader.specs.Forms.{form_reason, extent_of, shape_form}
use Rattle.script_reader.specs.Lines.{is_allowed_byte}
use Rattle.script_reader.specs.Script.{bad_or, most_bytes}

-- a shape, and moves of it
pub record Elements : Type 0 where
  pub extent : Extent
  pub moves : List Parts

-- ---- what good content lines say
-- the extent that the first of them names
abbrev pub extent_in : List (List ℕ) → Option Extent
extent_in [] = None
extent_in (first ∷ lines) = Some (extent_of (words_in first))

-- the move whose coordinates a line has
abbrev pub move_in : Extent → List ℕ → Parts
move_in extent line = lie_move extent (entries_of (words_in line))

-- the moves of the others
abbrev pub moves_of : List (List ℕ) → List Parts
moves_of [] = []
moves_of (first ∷ lines) = map (move_in (extent_of (words_in first))) lines

-- the list that content lines say
abbrev pub elements_of : List (List ℕ) → Elements
elements_of lines = record { extent = named (extent_in lines); moves = moves_of lines }

-- ---- the reasons of a content line
-- the reasons of the first content line: it is a shape line
abbrev pub shape_reason : List (List ℕ) → Option Reason
shape_reason words = first_of (unless (bytes_eq (field 0 words) (codes "shape")) reasons.Place ∷ form_reason shape_form nothing_said words ∷ [])

-- the reasons of a later one, which n elements precede: its words are the coordinates of a Lie element
abbrev pub element_reason : Extent → ℕ → List (List ℕ) → Option Reason
element_reason extent n words =
    first_of (unless (is_count extent (length words)) reasons.Fields
    ∷ unless (are_entries words) reasons.Number
    ∷ unless (nat_lt n 4096) reasons.Commands
    ∷ [])

-- the reasons of words, where this extent was named, if any, and n elements precede them
abbrev pub words_reason : Option Extent → ℕ → List (List ℕ) → Option Reason
words_reason None n words = shape_reason words
words_reason (Some extent) n words = element_reason extent n words

-- why a content line is bad, where this extent was named, if any, and n elements precede it
abbrev pub reason_after : Option Extent → ℕ → List ℕ → Option Reason
reason_after extent n line = first_of (unless (list_all is_allowed_byte line) reasons.Byte ∷ words_reason extent n (words_in line) ∷ [])

-- why a content line is bad, after the content lines before it
abbrev pub reason_of : List (List ℕ) → List ℕ → Option Reason
reason_of earlier line = reason_after (extent_in earlier) (length (moves_of earlier)) line

-- ---- the first bad line
-- the number of the first bad line among these, which n lines precede, and its first reason
abbrev pub first_bad : ℕ → List (List ℕ) → List (List ℕ) → Option (ℕ × Reason)
first_bad n earlier [] = if is_some (extent_in earlier) then None else Some (suc n, reasons.End)
first_bad n earlier (line ∷ lines) =
    if is_content line then bad_or (suc n) (reason_of earlier line) (first_bad (suc n) (earlier ++ line ∷ []) lines)
    else first_bad (suc n) earlier lines

-- the first bad line, or what the content lines say
abbrev pub judged : Option (ℕ × Reason) → List (List ℕ) → Result Elements ScriptFault
judged (Some bad) lines = Err (Line bad.0 bad.1)
judged None lines = Ok (elements_of (filter is_content lines))

-- the list of elements that the bytes spell, or why they spell none
abbrev pub moves_in : List ℕ → Result Elements ScriptFault
moves_in bytes = if nat_lt most_bytes (length bytes) then Err Size else judged (first_bad 0 [] (lines_of bytes)) (lines_of bytes)
