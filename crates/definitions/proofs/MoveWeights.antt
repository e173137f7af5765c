-- The weight of a move of letters alone is the greatest of its entries.
use Rattle.std.proofs.Common.{◌≡◌, ℕ, zero, suc, ◌*◌, ◌-◌, ◌^◌, refl, ap, ◌∙◌, arith, ℤ, List, [], ◌∷◌, length, replicate}
use Rattle.std.specs.Prelude.{slice_index_or}
use Rattle.std.proofs.Math.Nat.{mul-zero, pow-zero}
use Rattle.definitions.specs.Moves.{Parts, first_part, plain, greatest, root, total, sizes_from, weight_from, move_weight, IsPlain}
use Rattle.definitions.proofs.Roots.{root-one, root-zero}

weights-none : (depth j : ℕ) (parts : Parts) → ((k : ℕ) → total (slice_index_or parts k []) ≡ 0) → weight_from depth j (sizes_from j parts) ≡ 0
weights-none depth j [] none = refl
weights-none depth j (part ∷ parts) none =
    let zero' : 2 ^ (j - 1) * total part ≡ 0 = ap (λ (n : ℕ). 2 ^ (j - 1) * n) (none 0) ∙ mul-zero (2 ^ (j - 1)) in
    let inside : depth ^ (j - 1) * (2 ^ (j - 1) * total part) ≡ 0 = ap (λ (n : ℕ). depth ^ (j - 1) * n) zero' ∙ mul-zero (depth ^ (j - 1)) in
    let first : root j (depth ^ (j - 1) * (2 ^ (j - 1) * total part)) ≡ 0 = ap (root j) inside ∙ root-zero j in
    omega (arith, first, weights-none depth (suc j) parts (λ k. none (suc k)))

-- the weight of a move whose later parts are 0 is the greatest absolute entry of its first part
pub weight-of_plain : (parts : Parts) → IsPlain parts → move_weight parts ≡ greatest (first_part parts)
unfolding move_weight
weight-of_plain [] is = refl
weight-of_plain (part ∷ parts) is =
    let n : ℕ = length (part ∷ parts) in
    let one : n ^ (1 - 1) * greatest part ≡ greatest part = ap (λ (x : ℕ). x * greatest part) (pow-zero n) ∙ omega arith in
    let first : root 1 (n ^ (1 - 1) * greatest part) ≡ greatest part = ap (root 1) one ∙ root-one (greatest part) in
    omega (arith, first, weights-none n 2 parts is.others)

-- ---- as moves of one part are written
replicate-empty : (n k : ℕ) → total (slice_index_or (replicate n []) k []) ≡ 0
replicate-empty zero k = refl
replicate-empty (suc n) zero = refl
replicate-empty (suc n) (suc k) = replicate-empty n k

-- a move of one part, filled up with empty ones, has nothing but 0 after the first
pub plain-IsPlain : (depth : ℕ) (entries : List ℤ) → IsPlain (plain depth entries)
plain-IsPlain depth entries = record { others = replicate-empty (depth - 1) }

-- the weight of a move of one part is its greatest absolute entry
pub move_weight-plain : (depth : ℕ) (entries : List ℤ) → move_weight (plain depth entries) ≡ greatest entries
move_weight-plain depth entries = weight-of_plain (plain depth entries) (plain-IsPlain depth entries)
