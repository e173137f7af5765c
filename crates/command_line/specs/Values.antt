-- The values of options: numbers and orders.
use Rattle.std.specs.Prelude.{ℕ, Bool, ◌&&◌, ◌==◌, nat_le, if◌then◌else◌, List, [], ◌∷◌, map, length, codes, Option, Some, None}
use Rattle.std.specs.List.{list_all}
use Rattle.std.specs.Str.{bytes_eq}
use Rattle.spellings.specs.Lines.{onto_first}
use Rattle.spellings.specs.Numbers.{is_digit, value_of}

-- one to five decimal digits, whose value is from 1 to the given one
abbrev pub is_number : ℕ → List ℕ → Bool
is_number most value = list_all is_digit value && nat_le 1 (length value) && nat_le (length value) 5 && nat_le 1 (value_of value) && nat_le (value_of value) most

-- the number that a value spells, from 1 to the given one
abbrev pub number_in : ℕ → List ℕ → Option ℕ
number_in most value = if is_number most value then Some (value_of value) else None

-- the pieces between commas: one more than there are commas
abbrev pub pieces_of : List ℕ → List (List ℕ)
pieces_of [] = [] ∷ []
pieces_of (c ∷ value) = if c == 44 then [] ∷ pieces_of value else onto_first c (pieces_of value)

-- the numbers of sessions, where each piece is one
abbrev pub sessions_in : List (List ℕ) → Option (List ℕ)
sessions_in pieces = if list_all (is_number 16) pieces then Some (map value_of pieces) else None

-- the order that a value spells: `none` is the empty one
abbrev pub order_in : List ℕ → Option (List ℕ)
order_in value = if bytes_eq value (codes "none") then Some [] else sessions_in (pieces_of value)
