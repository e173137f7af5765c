-- Lie elements as lists of terms, and when a list is one.
use Rattle.std.specs.Prelude.{◌≢◌, ℕ, zero, suc, ◌<◌, ◌≤◌, List, All, AllPairs, map, length, slice_index_or, pos, unsigned_abs}
use Rattle.definitions.specs.Moves.{greatest}
use Rattle.definitions.specs.Signature.{limit}
use Rattle.definitions.specs.declared.member.Member.{Member}
use Rattle.lie_bracket.specs.declared.term.Term.{Term}
use Rattle.lie_bracket.specs.declared.fault.TermsFault.{TermsFault}
use Rattle.lie_bracket.specs.declared.fault.TermsFault.TheVariants.{Place}
use Rattle.lie_bracket.specs.Brackets.{term}

-- a Lie element: numbers from 1 that rise, factors other than 0 and of at most 127 bits
pub record IsElement (terms : List Term) : Type 0 where
  pub rising : AllPairs (λ s t. s.number < t.number) terms
  pub numbers : All (λ t. 1 ≤ t.number) terms
  pub some : All (λ t. t.factor ≢ pos 0) terms
  pub in_range : All (λ t. unsigned_abs t.factor ≤ limit) terms

-- the greatest absolute factor
abbrev pub top : List Term → ℕ
top terms = greatest (map (λ t. t.factor) terms)

-- ---- which lists are refused
-- the term at a place; what stands past the end is of no matter
abbrev pub term_at : List Term → ℕ → Term
term_at terms i = slice_index_or terms i (term (pos 0) 0)

-- the number at the place before, 0 before the first
abbrev pub number_before : List Term → ℕ → ℕ
number_before terms zero = 0
number_before terms (suc i) = (term_at terms i).number

-- a term may stand after one of the number `last`, among n members
pub record IsGood (n last : ℕ) (t : Term) : Type 0 where
  pub above : last < t.number
  pub within : t.number ≤ n
  pub some : t.factor ≢ pos 0
  pub in_range : unsigned_abs t.factor ≤ limit

-- the term at this place may stand after the one before
abbrev pub IsGoodAt : ℕ → List Term → ℕ → Type 0
IsGoodAt n terms i = IsGood n (number_before terms i) (term_at terms i)

-- the first place, from 0, whose term may not stand there
pub record IsFirstBad (n : ℕ) (terms : List Term) (i : ℕ) : Type 0 where
  pub inside : i < length terms
  pub bad : IsGoodAt n terms i → ⊥
  pub before : (k : ℕ) → k < i → IsGoodAt n terms k

-- the fault names the first bad term
abbrev pub IsRefusedBy : List Member → List Term → TermsFault → Type 0
IsRefusedBy hall terms (Place i) = IsFirstBad (length hall) terms i
