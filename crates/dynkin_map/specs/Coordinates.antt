-- The Dynkin map: iterated brackets of the letters of a word, and Hall coordinates of a series.
use Rattle.std.specs.Prelude.{ℕ, zero, suc, ◌*◌, ◌^◌, max, List, [], ◌∷◌, map, length, find, Option, eqb, ltb, cond, ℤ, pos, unsigned_abs, ◌*ℤ◌}
use Rattle.definitions.specs.Words.{Extent, up_to}
use Rattle.definitions.specs.Commutators.{sum_words}
use Rattle.definitions.specs.Logarithm.{log_bound}
use Rattle.definitions.specs.Hall.{hall_list, degree}
use Rattle.definitions.specs.declared.member.Member.{Member}
use Rattle.lie_bracket.specs.declared.term.Term.{Term}
use Rattle.lie_bracket.specs.Brackets.{term, over_terms, coefficient, bracket, majorant}
use Rattle.lie_bracket.specs.Tables.{nonzero}

-- the bracket of the letter a with the image of a word, where the word is not empty
abbrev pub image_with : (ℕ → ℕ → List Term) → ℕ → List ℕ → List Term → List Term
image_with br a [] rest = term (pos 1) a ∷ []
image_with br a (b ∷ u) rest = over_terms rest (br a)

-- [a, [b, .. [y, z]]] for the word a b .. y z, in Hall numbers
abbrev pub image : (ℕ → ℕ → List Term) → List ℕ → List Term
image br [] = []
image br (a ∷ u) = image_with br a u (image br u)

-- the coordinate of a series at h: over k k! lcm_to k for h of degree k and a logarithm
unfoldable pub coordinate : ℕ → ℕ → List Member → (List ℕ → ℤ) → ℕ → ℤ
coordinate width depth hall series h = sum_words width (degree hall h) (λ u. series u *ℤ coefficient h (image (bracket depth hall) u))

-- the greatest value of f over the members of degree k, 0 where there is none
abbrev pub greatest_member : List Member → ℕ → (ℕ → ℕ) → ℕ → ℕ
greatest_member hall k f zero = 0
greatest_member hall k f (suc n) = max (greatest_member hall k f n) (cond (eqb (degree hall (suc n)) k) (f (suc n)) 0)

-- how much the images of words of k letters come to at a member, every sign plus
unfoldable pub growth : ℕ → ℕ → List Member → ℕ → ℕ
growth width depth hall k = greatest_member hall k (λ h. unsigned_abs (sum_words width k (λ u. coefficient h (image (majorant depth hall) u)))) (length hall)

-- the nonzero coordinates of a series, by number
unfoldable pub coordinates : Extent → (List ℕ → ℤ) → List Term
coordinates extent series =
    nonzero (length (hall_list extent.width extent.depth)) (coordinate extent.width extent.depth (hall_list extent.width extent.depth) series)

-- the first degree whose growth is above 2 ^ 40
unfoldable pub heavy_level : Extent → Option ℕ
heavy_level extent = find (λ k. ltb (2 ^ 40) (growth extent.width extent.depth (hall_list extent.width extent.depth) k)) (up_to extent.depth)

-- what a weight is multiplied by at degree k, so that no sum on the way to a coordinate is out of range
abbrev pub lie_bound : Extent → ℕ → ℕ
lie_bound extent k = log_bound k * max 1 (growth extent.width extent.depth (hall_list extent.width extent.depth) k)

-- the factors of the degrees from 1 to the depth
abbrev pub lie_bounds : Extent → List ℕ
lie_bounds extent = map (lie_bound extent) (up_to extent.depth)
