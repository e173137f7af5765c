-- The Hall list of a shape, and the degrees, numbers, expansions and texts of its members.
use Rattle.std.specs.Prelude.{◌≡◌, ℕ, zero, suc, ◌-◌, ◌/◌, ◌≤◌, Bool, true, false, ◌&&◌, eqb, ltb, leb, Option, Some, None, List, ◌++◌, map, flat_map, filter, replicate, position, length, slice_index_or, codes, ℤ}
use Rattle.std.specs.Fmt.{decimal}
use Rattle.definitions.specs.Words.{Extent, IsShape, up_to}
use Rattle.definitions.specs.Commutators.{letter, commutator}
use Rattle.definitions.specs.declared.member.Member.{Member}
use Rattle.definitions.specs.declared.member.Member.TheVariants.{Letter, Pair}

-- the members of a list have the numbers from 1
pub record InHall (hall : List Member) (h : ℕ) : Type 0 where
  pub least : 1 ≤ h
  pub most : h ≤ length hall

-- the member of a number; what stands at 0 is of no matter
abbrev pub member : List Member → ℕ → Member
member hall zero = Pair 0 0 0
member hall (suc k) = slice_index_or hall k (Pair 0 0 0)

-- the degree of a letter is 1, and a pair tells its own: the count of letters in it
abbrev pub degree_of : Member → ℕ
degree_of Letter = 1
degree_of (Pair n i j) = n

-- the degree of the member of this number
abbrev pub degree : List Member → ℕ → ℕ
degree hall h = degree_of (member hall h)

-- the numbers of the members of degree n
abbrev pub of_degree : List Member → ℕ → List ℕ
of_degree hall n = filter (λ h. eqb (degree hall h) n) (up_to (length hall))

-- a letter, or a pair whose left parent is at most i
abbrev pub follows : ℕ → Member → Bool
follows i Letter = true
follows i (Pair n l r) = leb l i

-- the pair (i, j) is taken where i < j and j follows i
abbrev pub is_taken : List Member → ℕ → ℕ → Bool
is_taken hall i j = ltb i j && follows i (member hall j)

-- the pairs of degree n with i on the left and a member of degree e on the right
abbrev pub pairs_with : List Member → ℕ → ℕ → ℕ → List Member
pairs_with hall n e i = map (Pair n i) (filter (is_taken hall i) (of_degree hall e))

-- the pairs of degree n with a member of degree e on the left
abbrev pub pairs_from : List Member → ℕ → ℕ → List Member
pairs_from hall n e = flat_map (pairs_with hall n (n - e)) (of_degree hall e)

-- the pairs of degree n: the left one has at most half of the degree
abbrev pub pairs_of : List Member → ℕ → List Member
pairs_of hall n = flat_map (pairs_from hall n) (up_to (n / 2))

-- the letters, and then the pairs of the degrees 2 .. n + 1
abbrev pub grown : ℕ → ℕ → List Member
grown width zero = replicate width Letter
grown width (suc n) = grown width n ++ pairs_of (grown width n) (suc (suc n))

-- the members of degree at most the depth
abbrev pub hall_list : ℕ → ℕ → List Member
hall_list width depth = grown width (depth - 1)

-- the Hall list of some shape
abbrev pub IsHallList : List Member → Type 0
IsHallList hall = (extent : Extent) × IsShape extent × (hall ≡ hall_list extent.width extent.depth)

-- ---- numbers of pairs
-- the member is the pair of the members i and j
abbrev pub is_pair : ℕ → ℕ → Member → Bool
is_pair i j Letter = false
is_pair i j (Pair n l r) = eqb i l && eqb j r

-- the number of what stands at a place: from 1, and 0 where there is no place
abbrev pub number_at : Option ℕ → ℕ
number_at None = 0
number_at (Some k) = suc k

-- the number of the pair (i, j), 0 where it isn't in the list
unfoldable pub number_of : List Member → ℕ → ℕ → ℕ
number_of hall i j = number_at (position (is_pair i j) hall)

-- ---- values of members by those of their parents
-- the value of one member, with the values of all others given: a letter's own, or what a pair makes of those of its parents
abbrev pub folded_with : {A : Type 0} → (ℕ → A) → (A → A → A) → (ℕ → A) → ℕ → Member → A
folded_with of_letter of_pair rest h Letter = of_letter h
folded_with of_letter of_pair rest h (Pair n i j) = of_pair (rest i) (rest j)

-- so many steps from a member to its parents are made at most
abbrev pub folded : {A : Type 0} → (ℕ → A) → (A → A → A) → List Member → ℕ → ℕ → A
folded of_letter of_pair hall zero h = of_letter h
folded of_letter of_pair hall (suc steps) h = folded_with of_letter of_pair (folded of_letter of_pair hall steps) h (member hall h)

-- a letter is the word of this letter, a pair the commutator of its parents, by plain concatenation: the coefficient at a word
unfoldable pub expansion : List Member → ℕ → List ℕ → ℤ
expansion hall h = folded letter commutator hall (degree hall h) h

-- the text [x,y], in bytes
abbrev pub bracketed : List ℕ → List ℕ → List ℕ
bracketed x y = codes "[" ++ x ++ codes "," ++ y ++ codes "]"

-- the text of a letter is its number, that of a pair [x,y] for the texts x and y of its parents
unfoldable pub text_of : List Member → ℕ → List ℕ
text_of hall h = folded decimal bracketed hall (degree hall h) h
