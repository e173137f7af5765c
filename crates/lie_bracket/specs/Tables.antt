-- Tables of brackets by pairs of members, and the pair at which none is made.
use Rattle.std.specs.Prelude.{◌≡◌, ℕ, zero, suc, ◌+◌, ◌*◌, ◌<◌, ◌≤◌, ◌^◌, Bool, true, false, ◌&&◌, eqb, ltb, cond, Option, Some, List, [], ◌∷◌, ◌++◌, map, flat_map, filter, find, length, ℤ, pos, negsuc, unsigned_abs}
use Rattle.definitions.specs.Words.{up_to}
use Rattle.definitions.specs.Signature.{limit}
use Rattle.definitions.specs.Hall.{degree}
use Rattle.definitions.specs.declared.member.Member.{Member}
use Rattle.lie_bracket.specs.declared.term.Term.{Term}
use Rattle.lie_bracket.specs.declared.fault.TableFault.{TableFault}
use Rattle.lie_bracket.specs.declared.fault.TableFault.TheVariants.{Memory, Pair, Level}
use Rattle.lie_bracket.specs.declared.fault.BracketFault.{BracketFault}
use Rattle.lie_bracket.specs.declared.fault.BracketFault.TheVariants.{Size, Memory as Short}
use Rattle.lie_bracket.specs.Brackets.{term, mass, majorant}

-- n .. 1
abbrev pub down_from : ℕ → List ℕ
down_from zero = []
down_from (suc n) = suc n ∷ down_from n

-- the pairs of a with the greater numbers, where the degrees add up to this sum
abbrev pub pairs_at : List Member → ℕ → ℕ → List (ℕ × ℕ)
pairs_at hall sum a = map (λ b. (a, b)) (filter (λ b. ltb a b && eqb (degree hall a + degree hall b) sum) (up_to (length hall)))

-- the pairs a < b whose degrees add up to at most the depth: by rising sum, then falling a, then rising b
abbrev pub pairs_in_order : ℕ → List Member → List (ℕ × ℕ)
pairs_in_order depth hall = flat_map (λ sum. flat_map (pairs_at hall sum) (down_from (length hall))) (up_to depth)

-- whether the majorant of a pair has a mass above 2 ^ 40
abbrev pub is_heavy : ℕ → List Member → ℕ × ℕ → Bool
is_heavy depth hall pair = ltb (2 ^ 40) (unsigned_abs (mass (majorant depth hall pair.0 pair.1)))

-- the first pair in the order that is heavy
unfoldable pub heavy_pair : ℕ → List Member → Option (ℕ × ℕ)
heavy_pair depth hall = find (is_heavy depth hall) (pairs_in_order depth hall)

-- whether the number is 0
abbrev pub is_zero : ℤ → Bool
is_zero (pos zero) = true
is_zero (pos (suc n)) = false
is_zero (negsuc n) = false

-- the numbers up to n with their factors, without those that are 0
abbrev pub nonzero : ℕ → (ℕ → ℤ) → List Term
nonzero zero f = []
nonzero (suc n) f = nonzero n f ++ cond (is_zero (f (suc n))) [] (term (f (suc n)) (suc n) ∷ [])

-- ---- faults
-- the first heavy pair
abbrev pub IsTableFault : ℕ → List Member → TableFault → Type 0
IsTableFault depth hall Memory = Unit {0}
IsTableFault depth hall (Pair a b) = heavy_pair depth hall ≡ Some (a, b)
IsTableFault depth hall (Level k) = ⊥

-- the greatest absolute factors x and y of two sums
abbrev pub IsBracketFault : ℕ → ℕ → BracketFault → Type 0
IsBracketFault x y (Size s t) = (s ≡ x) × (t ≡ y) × (limit < x * y * 2 ^ 60)
IsBracketFault x y Short = x * y * 2 ^ 60 ≤ limit
