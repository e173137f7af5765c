-- Lists of entries.
use Rattle.std.specs.Prelude.{ℕ, nat_lt, ◌==◌, List, filter, length, if◌then◌else◌}

-- the entries with this label
abbrev pub of_label : {E : Type 0} → (E → ℕ) → ℕ → List E → List E
of_label label l entries = filter (λ e. label e == l) entries

module _ {E : Type 0} where
  -- the longer of two lists, and the first where they are equally long
  abbrev pub longer : List E → List E → List E
  longer xs ys = if nat_lt (length xs) (length ys) then ys else xs

  -- the other one
  abbrev pub shorter : List E → List E → List E
  shorter xs ys = if nat_lt (length xs) (length ys) then xs else ys
