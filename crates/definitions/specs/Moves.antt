-- A move is what a row adds to the stream: its parts of degree 1 to N, each a list of whole numbers. The entries of part j are Hall coordinates of degree j.
use Rattle.std.specs.Prelude.{◌≡◌, ℕ, zero, suc, ◌+◌, ◌-◌, ◌*◌, ◌^◌, nat_le, if◌then◌else◌, max, List, All, [], ◌∷◌, ◌++◌, ◌<◌, ◌≤◌, length, slice_index_or, replicate, ℤ, pos, ◌+ℤ◌, ◌*ℤ◌, unsigned_abs}
use Rattle.definitions.specs.Words.{Extent}
use Rattle.definitions.specs.Hall.{hall_list, of_degree, expansion}
use Rattle.definitions.specs.Exponentials.{exponential}
use Rattle.definitions.specs.declared.member.Member.{Member}

-- the parts, from degree 1 on
abbrev pub Parts : Type 0
Parts = List (List ℤ)

-- the entries of degree 1, one for each letter
abbrev pub first_part : Parts → List ℤ
first_part parts = slice_index_or parts 0 []

-- as many parts as there are degrees: those that are not given are empty
abbrev pub padded : ℕ → Parts → Parts
padded depth parts = parts ++ replicate (depth - length parts) []

-- a move of one part
abbrev pub plain : ℕ → List ℤ → Parts
plain depth entries = entries ∷ replicate (depth - 1) []

-- a move of a shape: as many parts as a word has letters at most, the first with an entry for each letter
pub record IsMove (extent : Extent) (parts : Parts) : Type 0 where
  pub letters : length (first_part parts) ≡ extent.width
  pub deep : length parts ≡ extent.depth
  pub short : All (λ part. length part < 2 ^ 32) parts

-- the parts that a move can be given by
pub record AreParts (extent : Extent) (parts : Parts) : Type 0 where
  pub some : 1 ≤ length parts
  pub few : length parts ≤ extent.depth
  pub letters : length (first_part parts) ≡ extent.width
  pub short : All (λ part. length part < 2 ^ 32) parts

-- the product of the entries along the letters of a word: the exponential of a straight step, as a move of one part is
abbrev pub along : List ℤ → List ℕ → ℤ
along entries [] = pos 1
along entries (a ∷ word) = slice_index_or entries (a - 1) (pos 0) *ℤ along entries word

-- the sum of the expansions of members of a Hall list, each times its entry: members without an entry, and entries without a member, count for nothing
abbrev pub part_series : List Member → List ℕ → List ℤ → List ℕ → ℤ
part_series hall [] xs word = pos 0
part_series hall (h ∷ hs) [] word = pos 0
part_series hall (h ∷ hs) (x ∷ xs) word = (x *ℤ expansion hall h word) +ℤ part_series hall hs xs word

-- the parts from degree j on
abbrev pub parts_series : List Member → ℕ → Parts → List ℕ → ℤ
parts_series hall j [] word = pos 0
parts_series hall j (part ∷ parts) word = part_series hall (of_degree hall j) part word +ℤ parts_series hall (suc j) parts word

-- the Lie element of a move, whose first part has an entry for each letter, and which has as many parts as words have letters at most
unfoldable pub lie_series : Parts → List ℕ → ℤ
lie_series parts word = parts_series (hall_list (length (first_part parts)) (length parts)) 1 parts word

-- the exponential of a move
unfoldable pub step : Parts → List ℕ → ℤ
step parts word = exponential (lie_series parts) word

-- ---- weights
-- the greatest absolute value
abbrev pub greatest : List ℤ → ℕ
greatest [] = 0
greatest (x ∷ xs) = max (unsigned_abs x) (greatest xs)

-- the first of r, r + 1, .. whose j-th power is at least n, with so many tries at most
abbrev pub root_from : ℕ → ℕ → ℕ → ℕ → ℕ
root_from j n r zero = r
root_from j n r (suc tries) = if nat_le n (r ^ j) then r else root_from j n (suc r) tries

-- the least number whose j-th power is at least n, for j from 1
unfoldable pub root : ℕ → ℕ → ℕ
root j n = root_from j n 0 n

-- the sum of the absolute values
abbrev pub total : List ℤ → ℕ
total [] = 0
total (x ∷ xs) = unsigned_abs x + total xs

-- bounds of the coefficients of the parts from degree j on
abbrev pub sizes_from : ℕ → Parts → List ℕ
sizes_from j [] = []
sizes_from j (part ∷ parts) = 2 ^ (j - 1) * total part ∷ sizes_from (suc j) parts

-- bounds of the coefficients of the parts
abbrev pub sizes_of : Parts → List ℕ
sizes_of [] = []
sizes_of (part ∷ parts) = greatest part ∷ sizes_from 2 parts

-- the sum of the j-th roots of depth ^ (j - 1) times the bound of degree j, rounded up
abbrev pub weight_from : ℕ → ℕ → List ℕ → ℕ
weight_from depth j [] = 0
weight_from depth j (p ∷ ps) = root j (depth ^ (j - 1) * p) + weight_from depth (suc j) ps

-- the coefficient of a step at k letters, of at most as many as there are parts, is at most the k-th power of this
unfoldable pub move_weight : Parts → ℕ
move_weight parts = weight_from (length parts) 1 (sizes_of parts)

-- no part after the first has an entry other than 0
pub record IsPlain (parts : Parts) : Type 0 where
  pub others : (k : ℕ) → total (slice_index_or parts (suc k) []) ≡ 0
