-- The lines of a text of bytes, and the words of a line.
use Rattle.std.specs.Prelude.{ℕ, Bool, false, not, ◌||◌, ◌==◌, if◌then◌else◌, List, [], ◌∷◌, map}

-- a byte in front of the first piece
abbrev pub onto_first : ℕ → List (List ℕ) → List (List ℕ)
onto_first c [] = (c ∷ []) ∷ []
onto_first c (piece ∷ pieces) = (c ∷ piece) ∷ pieces

-- the pieces between line feeds; the last one counts only where it is not empty
abbrev pub pieces_of : List ℕ → List (List ℕ)
pieces_of [] = []
pieces_of (c ∷ bytes) = if c == 10 then [] ∷ pieces_of bytes else onto_first c (pieces_of bytes)

-- one carriage return at the end is dropped
abbrev pub without_return : List ℕ → List ℕ
without_return [] = []
without_return (c ∷ []) = if c == 13 then [] else c ∷ []
without_return (c ∷ d ∷ line) = c ∷ without_return (d ∷ line)

-- the bytes cut at each line feed, and each piece without one carriage return at its end
abbrev pub lines_of : List ℕ → List (List ℕ)
lines_of bytes = map without_return (pieces_of bytes)

-- a space or a tab
abbrev pub is_blank : ℕ → Bool
is_blank c = c == 32 || c == 9

-- there is a byte, and it is not blank
abbrev pub starts_word : List ℕ → Bool
starts_word [] = false
starts_word (c ∷ line) = not (is_blank c)

-- the longest runs of bytes that are not blank
abbrev pub words_in : List ℕ → List (List ℕ)
words_in [] = []
words_in (c ∷ line) =
    if is_blank c then words_in line
    else if starts_word line then onto_first c (words_in line)
    else (c ∷ []) ∷ words_in line

-- the line from its first byte on that isn't a space or a tab
abbrev pub after_blanks : List ℕ → List ℕ
after_blanks [] = []
after_blanks (c ∷ line) = if is_blank c then after_blanks line else c ∷ line

-- there is a byte, and it is no number sign
abbrev pub starts_content : List ℕ → Bool
starts_content [] = false
starts_content (c ∷ line) = not (c == 35)

-- neither empty nor a comment
abbrev pub is_content : List ℕ → Bool
is_content line = starts_content (after_blanks line)
