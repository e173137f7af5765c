-- The bounds of the parts of a move, part by part.
use Rattle.std.proofs.Common.{◌≡◌, ℕ, zero, suc, ◌+◌, ◌*◌, ◌-◌, ◌≤◌, ◌<◌, ◌^◌, refl, sym, ap, ◌∙◌, subst, arith, ℤ, List, [], ◌∷◌, ◌++◌, length, get_or, take, pos, unsigned_abs}
use Rattle.std.specs.Prelude.{All}
use Rattle.std.proofs.Math.Nat.{mul-le-mul, pow-le-pow_right}
use Rattle.std.proofs.lemmas.List.{take_more, ext_get_or}
use Rattle.std.proofs.lemmas.List.Elements.{All-nil, All-cons, All-append}
use Rattle.definitions.specs.Moves.{Parts, total, sizes_from, sizes_of}
use Rattle.words.specs.Sizes.{size_at}

-- one more element
pub All-take_more : {X : Type 0} (P : X → Type 0) (xs : List X) (i : ℕ) (d : X) → i < length xs → All P (take i xs) → P (get_or xs i d) → All P (take (i + 1) xs)
All-take_more P xs i d h all here =
    subst (λ ys. All P ys) (sym (take_more xs i d h)) (All-append P (take i xs) (get_or xs i d ∷ []) all (All-cons P (get_or xs i d) [] here (All-nil P)))

total-push : (entries : List ℤ) (x : ℤ) → total (entries ++ x ∷ []) ≡ total entries + unsigned_abs x
total-push [] x = omega arith
total-push (y ∷ entries) x = omega (arith, total-push entries x)

-- the sum of the absolute values, with one entry more
pub total-take_more : (entries : List ℤ) (i : ℕ) → i < length entries → total (take (i + 1) entries) ≡ total (take i entries) + unsigned_abs (get_or entries i (pos 0))
total-take_more entries i here = ap total (take_more entries i (pos 0) here) ∙ total-push (take i entries) (get_or entries i (pos 0))

-- ---- lists of bounds
length-sizes_from : (j : ℕ) (parts : Parts) → length (sizes_from j parts) ≡ length parts
length-sizes_from j [] = refl
length-sizes_from j (part ∷ parts) = omega (arith, length-sizes_from (suc j) parts)

-- each part has one bound
pub length-sizes_of : (parts : Parts) → length (sizes_of parts) ≡ length parts
length-sizes_of [] = refl
length-sizes_of (part ∷ parts) = omega (arith, length-sizes_from 2 parts)

sizes_from-at : (j : ℕ) (parts : Parts) (i : ℕ) → i < length parts → get_or (sizes_from (suc j) parts) i 0 ≡ 2 ^ (j + i) * total (get_or parts i [])
sizes_from-at j [] i h = absurd (omega arith)
sizes_from-at j (part ∷ parts) zero h = (let e : suc j - 1 ≡ j + 0 = omega arith in ap (λ (n : ℕ). 2 ^ n * total part) e)
sizes_from-at j (part ∷ parts) (suc i) h =
    sizes_from-at (suc j) parts i (omega arith) ∙ (let e : suc j + i ≡ j + suc i = omega arith in ap (λ (n : ℕ). 2 ^ n * total (get_or parts i [])) e)

-- the bound of the part at i, which has degree i + 1
pub sizes_of-at : (parts : Parts) (i : ℕ) → i < length parts → get_or (sizes_of parts) i 0 ≡ size_at i (get_or parts i [])
sizes_of-at [] i h = absurd (omega arith)
sizes_of-at (part ∷ parts) zero h = refl
sizes_of-at (part ∷ parts) (suc i) h =
    sizes_from-at 1 parts i (omega arith) ∙ (let e : 1 + i ≡ suc i = omega arith in ap (λ (n : ℕ). 2 ^ n * total (get_or parts i [])) e)

-- a list that has the bound of each part at its place is the list of the bounds
pub sizes-are : (sizes : List ℕ) (parts : Parts) → length sizes ≡ length parts → ((i : ℕ) → i < length parts → get_or sizes i 0 ≡ size_at i (get_or parts i [])) → sizes ≡ sizes_of parts
sizes-are sizes parts len each =
    ext_get_or 0 sizes (sizes_of parts) (omega (arith, len, length-sizes_of parts)) (λ i h. each i (omega (arith, len)) ∙ sym (sizes_of-at parts i (omega (arith, len))))

-- 2 ^ k times a total is within 102 bits
pub scaled-small : (k t : ℕ) → k < 8 → t ≤ 2 ^ 95 → 2 ^ k * t ≤ 2 ^ 102
scaled-small k t h le =
    let scale : 2 ^ k ≤ 2 ^ 7 = pow-le-pow_right (let some : 0 < 2 = omega arith in some) (let l : k ≤ 7 = omega arith in l) in
    let both : 2 ^ k * t ≤ 2 ^ 7 * 2 ^ 95 = mul-le-mul scale le in
    omega (arith, both)

-- no absolute value is above the sum of all
pub entry-le-total : (entries : List ℤ) (i : ℕ) → unsigned_abs (get_or entries i (pos 0)) ≤ total entries
entry-le-total [] i = omega arith
entry-le-total (x ∷ entries) zero = omega arith
entry-le-total (x ∷ entries) (suc i) = omega (arith, entry-le-total entries i)
