-- Rows of terms, one after another in one list.
use Rattle.std.specs.Prelude.{◌≡◌, ℕ, ◌-◌, ◌≤◌, List, [], ◌∷◌, take, drop}
use Rattle.lie_bracket.specs.declared.term.Term.{Term}

-- the rows from a place on, by their ends
abbrev pub rows_from : List Term → ℕ → List ℕ → List (List Term)
rows_from terms from [] = []
rows_from terms from (end ∷ ends) = take (end - from) (drop from terms) ∷ rows_from terms end ends

-- the ends rise from a place to the end of all
abbrev pub AreEnds : ℕ → List ℕ → ℕ → Type 0
AreEnds from [] total = from ≡ total
AreEnds from (end ∷ ends) total = (from ≤ end) × AreEnds end ends total
