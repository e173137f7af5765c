-- Sums of members of a Hall list, and the brackets of members as such sums.
use Rattle.std.specs.Prelude.{ℕ, zero, suc, ◌+◌, ◌*◌, Bool, true, false, ◌||◌, eqb, ltb, cond, List, [], ◌∷◌, ◌++◌, map, length, ℤ, pos, neg_ℤ, ◌+ℤ◌, ◌*ℤ◌}
use Rattle.definitions.specs.Hall.{member, degree, number_of}
use Rattle.definitions.specs.declared.member.Member.{Member}
use Rattle.definitions.specs.declared.member.Member.TheVariants.{Letter, Pair}
use Rattle.lie_bracket.specs.declared.term.Term.{Term}

-- ---- sums: lists of terms, in which a number may stand more than once
-- k times the member h
abbrev pub term : ℤ → ℕ → Term
term k h = record { factor = k; number = h }

-- the same numbers, each factor under f
abbrev pub scaled : (ℤ → ℤ) → List Term → List Term
scaled f terms = map (λ t. term (f t.factor) t.number) terms

-- the sum of f over the terms, with their factors
abbrev pub over_terms : List Term → (ℕ → List Term) → List Term
over_terms [] f = []
over_terms (t ∷ ts) f = scaled (λ k. t.factor *ℤ k) (f t.number) ++ over_terms ts f

-- the factor of h
abbrev pub coefficient : ℕ → List Term → ℤ
coefficient h [] = pos 0
coefficient h (t ∷ ts) = cond (eqb t.number h) t.factor (pos 0) +ℤ coefficient h ts

-- the sum of the factors
abbrev pub mass : List Term → ℤ
mass [] = pos 0
mass (t ∷ ts) = t.factor +ℤ mass ts

-- the sum of the series of the numbers, with their factors
abbrev pub expanded : (ℕ → List ℕ → ℤ) → List Term → List ℕ → ℤ
expanded e [] w = pos 0
expanded e (t ∷ ts) w = (t.factor *ℤ e t.number w) +ℤ expanded e ts w

-- ---- the bracket of a and b by its cases, where `rest` gives the brackets that it leads to
-- the pair is not in the list: for b = (l, r) the bracket with r of [a, l], minus that with l of [a, r]
abbrev pub by_parents : (ℤ → ℤ) → (ℕ → ℕ → List Term) → ℕ → Member → List Term
by_parents minus rest a Letter = []
by_parents minus rest a (Pair n l r) = over_terms (rest a l) (λ c. rest c r) ++ scaled minus (over_terms (rest a r) (λ c. rest c l))

-- a < b: the pair is in the list at that number, or is not where the number is 0
abbrev pub by_number : (ℤ → ℤ) → (ℕ → ℕ → List Term) → ℕ → Member → ℕ → List Term
by_number minus rest a m zero = by_parents minus rest a m
by_number minus rest a m (suc n) = term (pos 1) (suc n) ∷ []

-- whether a > b
abbrev pub by_order : (ℤ → ℤ) → (ℕ → ℕ → List Term) → ℕ → ℕ → Member → ℕ → Bool → List Term
by_order minus rest a b m n true = scaled minus (rest b a)
by_order minus rest a b m n false = by_number minus rest a m n

-- whether the bracket is nothing
abbrev pub by_degree : (ℤ → ℤ) → (ℕ → ℕ → List Term) → ℕ → ℕ → Member → ℕ → Bool → Bool → List Term
by_degree minus rest a b m n above true = []
by_degree minus rest a b m n above false = by_order minus rest a b m n above

-- so many brackets stand inside one another at most; it is nothing where a = b or the degrees add up to more than the depth
abbrev pub bracket_within : (ℤ → ℤ) → ℕ → List Member → ℕ → ℕ → ℕ → List Term
bracket_within minus depth hall zero a b = []
bracket_within minus depth hall (suc fuel) a b =
    by_degree minus (bracket_within minus depth hall fuel) a b (member hall b) (number_of hall a b) (ltb b a) (eqb a b || ltb depth (degree hall a + degree hall b))

-- more than there ever are: the degrees fall, or stay while the smaller number rises
abbrev pub enough : ℕ → List Member → ℕ
enough depth hall = 2 * (suc depth * suc (length hall))

-- the bracket of the members a and b: by degrees, order and parents as above, with the commutator's signs
unfoldable pub bracket : ℕ → List Member → ℕ → ℕ → List Term
bracket depth hall a b = bracket_within neg_ℤ depth hall (enough depth hall) a b

-- the same with every sign plus
unfoldable pub majorant : ℕ → List Member → ℕ → ℕ → List Term
majorant depth hall a b = bracket_within (λ k. k) depth hall (enough depth hall) a b

-- the bracket of two sums
abbrev pub bracket_sums : (ℕ → ℕ → List Term) → List Term → List Term → List Term
bracket_sums br xs ys = over_terms ys (λ b. over_terms xs (λ a. br a b))
