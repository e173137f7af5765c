-- The terms of a move: its entries other than 0 with the members that they are for.
use Rattle.std.specs.Prelude.{ℕ, suc, cond, slice_index_or, pos, List, [], ◌∷◌, ◌++◌, ℤ}
use Rattle.definitions.specs.Moves.{Parts}
use Rattle.definitions.specs.Hall.{of_degree}
use Rattle.definitions.specs.declared.member.Member.{Member}
use Rattle.lie_bracket.specs.declared.term.Term.{Term}
use Rattle.lie_bracket.specs.Brackets.{term}
use Rattle.lie_bracket.specs.Tables.{is_zero}

-- the members of these numbers with their entries
abbrev pub part_terms : List ℕ → List ℤ → List Term
part_terms [] xs = []
part_terms (h ∷ hs) [] = []
part_terms (h ∷ hs) (x ∷ xs) = cond (is_zero x) [] (term x h ∷ []) ++ part_terms hs xs

-- the parts from degree j on
abbrev pub parts_terms : List Member → ℕ → Parts → List Term
parts_terms hall j [] = []
parts_terms hall j (part ∷ parts) = part_terms (of_degree hall j) part ++ parts_terms hall (suc j) parts

-- the term of the entry at a place for a member, none where the entry is 0 or isn't given
abbrev pub entry_terms : ℕ → List ℤ → ℕ → List Term
entry_terms h xs i = cond (is_zero (slice_index_or xs i (pos 0))) [] (term (slice_index_or xs i (pos 0)) h ∷ [])
