-- Tables of brackets while they are made: what is stored for pairs of members, and the brackets that this gives.
use Rattle.std.specs.Prelude.{◌≡◌, ℕ, ◌+◌, ◌^◌, ◌<◌, ◌≤◌, ◌⊎◌, eqb, ltb, cond, None, All, List, [], ◌∷◌, length, ℤ, neg_ℤ, unsigned_abs}
use Rattle.std.specs.Option.{unwrap_or}
use Rattle.std.specs.Ordering.{nat_cmp, ordering_then}
use Rattle.std.specs.BTreeMap.{BTreeMap, get}
use Rattle.std.specs.declared.cmp.Ordering.{Ordering}
use Rattle.definitions.specs.Hall.{InHall, degree}
use Rattle.definitions.specs.declared.member.Member.{Member}
use Rattle.lie_bracket.specs.declared.term.Term.{Term}
use Rattle.lie_bracket.specs.declared.sign.Sign.{Sign}
use Rattle.lie_bracket.specs.declared.sign.Sign.TheVariants.{Minus, Plus}
use Rattle.lie_bracket.specs.Brackets.{scaled, coefficient, bracket, majorant}
use Rattle.lie_bracket.specs.Tables.{nonzero, heavy_pair}

-- pairs by their first numbers, then by their second
abbrev pub pair_cmp : ℕ × ℕ → ℕ × ℕ → Ordering
pair_cmp p q = ordering_then (nat_cmp p.0 q.0) (nat_cmp p.1 q.1)

-- the terms for a pair, none where it has no entry
abbrev pub stored : BTreeMap (ℕ × ℕ) (List Term) → ℕ → ℕ → List Term
stored m a b = unwrap_or (get pair_cmp m (a, b)) []

-- minus or plus the number
abbrev pub signed : Sign → ℤ → ℤ
signed Minus k = neg_ℤ k
signed Plus k = k

-- the bracket, or with plus the majorant
abbrev pub bracket_by : Sign → ℕ → List Member → ℕ → ℕ → List Term
bracket_by Minus = bracket
bracket_by Plus = majorant

-- the bracket of two members by the entry for them in the order of their numbers
abbrev pub looked_up : Sign → BTreeMap (ℕ × ℕ) (List Term) → ℕ → ℕ → List Term
looked_up sign m a b = cond (ltb a b) (stored m a b) (cond (ltb b a) (scaled (signed sign) (stored m b a)) [])

-- the sum of the absolute factors
abbrev pub sizes : List Term → ℕ
sizes [] = 0
sizes (t ∷ ts) = unsigned_abs t.factor + sizes ts

-- the sum of the absolute factors of h
abbrev pub size_at : ℕ → List Term → ℕ
size_at h [] = 0
size_at h (t ∷ ts) = cond (eqb t.number h) (unsigned_abs t.factor) 0 + size_at h ts

-- terms of members up to n
abbrev pub Numbers : ℕ → List Term → Type 0
Numbers n terms = All (λ t. (1 ≤ t.number) × (t.number ≤ n)) terms

-- each entry has members up to n and a size of at most 2 ^ 40
abbrev pub AreSmall : ℕ → BTreeMap (ℕ × ℕ) (List Term) → Type 0
AreSmall n m = (a b : ℕ) → Numbers n (stored m a b) × (sizes (stored m a b) ≤ 2 ^ 40)

-- a pair of members whose bracket may be other than nothing
pub record IsPair (depth : ℕ) (hall : List Member) (a b : ℕ) : Type 0 where
  pub left : InHall hall a
  pub right : InHall hall b
  pub in_order : a < b
  pub deep : degree hall a + degree hall b ≤ depth

-- by the sum of the degrees, then by falling a, then by rising b
abbrev pub IsEarlier : List Member → ℕ → ℕ → ℕ → ℕ → Type 0
IsEarlier hall c d a b =
    (degree hall c + degree hall d < degree hall a + degree hall b)
    ⊎ ((degree hall c + degree hall d ≡ degree hall a + degree hall b) × ((a < c) ⊎ ((a ≡ c) × (d < b))))

-- the factors of the bracket of a pair
abbrev pub entry_of : Sign → ℕ → List Member → ℕ → ℕ → List Term
entry_of sign depth hall a b = nonzero (length hall) (λ h. coefficient h (bracket_by sign depth hall a b))

-- all pairs before (a, b) have their entries
abbrev pub AreDone : Sign → ℕ → List Member → BTreeMap (ℕ × ℕ) (List Term) → ℕ → ℕ → Type 0
AreDone sign depth hall m a b = (c d : ℕ) → IsPair depth hall c d → IsEarlier hall c d a b → stored m c d ≡ entry_of sign depth hall c d

-- all pairs have their entries, and no others
pub record IsTable (sign : Sign) (depth : ℕ) (hall : List Member) (m : BTreeMap (ℕ × ℕ) (List Term)) : Type 0 where
  pub entries : (a b : ℕ) → IsPair depth hall a b → stored m a b ≡ entry_of sign depth hall a b
  pub others : (a b : ℕ) → (IsPair depth hall a b → ⊥) → stored m a b ≡ []
  pub small : AreSmall (length hall) m

-- the brackets and the majorants of all pairs, of which none is heavy
pub record AreTables (depth : ℕ) (hall : List Member) (brackets majorants : BTreeMap (ℕ × ℕ) (List Term)) : Type 0 where
  pub brackets_all : IsTable Minus depth hall brackets
  pub majorants_all : IsTable Plus depth hall majorants
  pub light : heavy_pair depth hall ≡ None
