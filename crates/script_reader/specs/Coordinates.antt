-- The entries of a row in a line: the coordinates of a Lie element, one for each member of the Hall list up to some degree.
use Rattle.std.specs.Prelude.{ℕ, suc, ◌-◌, ◌≤◌, Bool, ◌==◌, nat_le, List, [], ◌∷◌, length, map, take, drop, Option, option_map, is_some, unwrap_or, ℤ, filter}
use Rattle.std.specs.List.{position}
use Rattle.definitions.specs.Words.{Extent, up_to}
use Rattle.definitions.specs.Hall.{degree_of, hall_list}
use Rattle.definitions.specs.Moves.{Parts, padded}

-- how many members of the Hall list of an extent have degree at most q
unfoldable pub members_to : Extent → ℕ → ℕ
members_to extent q = length (filter (λ m. nat_le (degree_of m) q) (hall_list extent.width extent.depth))

-- how many have degree at most 1, 2, .. up to the depth
unfoldable pub degree_counts : Extent → List ℕ
degree_counts extent = map (members_to extent) (up_to extent.depth)

-- the least degree, from 1 to the depth, up to which there are n members
unfoldable pub degree_with : Extent → ℕ → Option ℕ
degree_with extent n = option_map suc (position (λ count. count == n) (degree_counts extent))

-- whether a Lie element can be given by so many coordinates
abbrev pub is_count : Extent → ℕ → Bool
is_count extent n = is_some (degree_with extent n)

-- the entries in parts: the first part begins at the place `from`, each other one where the one before it ends, and they end at these places
abbrev pub cut_from : ℕ → List ℕ → List ℤ → Parts
cut_from from [] entries = []
cut_from from (place ∷ places) entries = take (place - from) entries ∷ cut_from place places (drop (place - from) entries)

-- the parts up to the degree q: the entries stand in the order of the Hall numbers, and so by degree
abbrev pub parts_to : Extent → ℕ → List ℤ → Parts
parts_to extent q entries = cut_from 0 (take q (degree_counts extent)) entries

-- the move with these coordinates: its parts are those up to the least degree that has so many
unfoldable pub lie_move : Extent → List ℤ → Parts
lie_move extent entries = padded extent.depth (parts_to extent (unwrap_or (degree_with extent (length entries)) 0) entries)

-- places up to n, none of which is before the one that it follows, nor before `from`
abbrev pub AreEnds : ℕ → List ℕ → ℕ → Type 0
AreEnds from [] n = Unit {0}
AreEnds from (place ∷ places) n = (from ≤ place) × (place ≤ n) × AreEnds place places n
