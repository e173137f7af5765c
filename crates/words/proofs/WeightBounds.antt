-- The weight of a move is within 64 bits.
use Rattle.std.proofs.Common.{◌≡◌, inl, inr, ℕ, zero, suc, ◌+◌, ◌*◌, ◌-◌, ◌≤◌, ◌^◌, ap, ◌∙◌, arith, List, [], ◌∷◌, length, get_or}
use Rattle.std.specs.Prelude.{All}
use Rattle.std.proofs.Math.Nat.{mul-le-mul, pow-le-pow_left, pow-zero}
use Rattle.std.proofs.lemmas.Bool.{cases_lt}
use Rattle.std.proofs.lemmas.List.Elements.{All-head, All-tail}
use Rattle.definitions.specs.Moves.{root, weight_from}
use Rattle.definitions.proofs.Roots.{root-least, root-one}

-- a root is at most each number whose power is large enough
root-most : (j n m : ℕ) → n ≤ m ^ j → root j n ≤ m
root-most j n m h =
    elim (cases_lt m (root j n)) [
      | inl more ↦ absurd (omega (arith, root-least j n m more, h))
      | inr most ↦ most
    ]

-- a scaled bound is at most what the depth 8 and 102 bits give
scaled : (d k p bound : ℕ) → d ≤ 8 → p ≤ 2 ^ 102 → 8 ^ k * 2 ^ 102 ≤ bound → d ^ k * p ≤ bound
scaled d k p bound hd hp h =
    let both : d ^ k * p ≤ 8 ^ k * 2 ^ 102 = mul-le-mul (pow-le-pow_left hd k) hp in
    omega (arith, both, h)

-- the roots of degree 2 to 8
root-small : (d j p : ℕ) → 2 ≤ j → j ≤ 8 → d ≤ 8 → p ≤ 2 ^ 102 → root j (d ^ (j - 1) * p) ≤ 2 ^ 53
root-small d zero p some few hd hp = absurd (omega arith)
root-small d (suc zero) p some few hd hp = absurd (omega arith)
root-small d (suc (suc zero)) p some few hd hp = root-most 2 (d ^ 1 * p) (2 ^ 53) (scaled d 1 p ((2 ^ 53) ^ 2) hd hp (omega arith))
root-small d (suc (suc (suc zero))) p some few hd hp = root-most 3 (d ^ 2 * p) (2 ^ 53) (scaled d 2 p ((2 ^ 53) ^ 3) hd hp (omega arith))
root-small d (suc (suc (suc (suc zero)))) p some few hd hp = root-most 4 (d ^ 3 * p) (2 ^ 53) (scaled d 3 p ((2 ^ 53) ^ 4) hd hp (omega arith))
root-small d (suc (suc (suc (suc (suc zero))))) p some few hd hp = root-most 5 (d ^ 4 * p) (2 ^ 53) (scaled d 4 p ((2 ^ 53) ^ 5) hd hp (omega arith))
root-small d (suc (suc (suc (suc (suc (suc zero)))))) p some few hd hp = root-most 6 (d ^ 5 * p) (2 ^ 53) (scaled d 5 p ((2 ^ 53) ^ 6) hd hp (omega arith))
root-small d (suc (suc (suc (suc (suc (suc (suc zero))))))) p some few hd hp = root-most 7 (d ^ 6 * p) (2 ^ 53) (scaled d 6 p ((2 ^ 53) ^ 7) hd hp (omega arith))
root-small d (suc (suc (suc (suc (suc (suc (suc (suc zero)))))))) p some few hd hp = root-most 8 (d ^ 7 * p) (2 ^ 53) (scaled d 7 p ((2 ^ 53) ^ 8) hd hp (omega arith))
root-small d (suc (suc (suc (suc (suc (suc (suc (suc (suc j))))))))) p some few hd hp = absurd (omega arith)

-- the roots from degree 2 on are at most 2^53 each
later-small : (d j : ℕ) (sizes : List ℕ) → 2 ≤ j → j + length sizes ≤ 9 → d ≤ 8 → All (λ p. p ≤ 2 ^ 102) sizes → weight_from d j sizes ≤ length sizes * 2 ^ 53
later-small d j [] some few hd small = omega arith
later-small d j (p ∷ sizes) some few hd small =
    omega (
      arith,
      root-small d j p some (omega arith) hd (All-head (λ q. q ≤ 2 ^ 102) p sizes small),
      later-small d (suc j) sizes (omega arith) (omega arith) hd (All-tail (λ q. q ≤ 2 ^ 102) p sizes small),
    )

-- the weight is at most 2^64 where the first bound has 63 bits and the at most seven others have 102
pub weight-small : (d p : ℕ) (sizes : List ℕ) → length sizes ≤ 7 → d ≤ 8 → p ≤ 2 ^ 63 → All (λ q. q ≤ 2 ^ 102) sizes → weight_from d 1 (p ∷ sizes) ≤ 2 ^ 64
weight-small d p sizes few hd hp small =
    let one : d ^ 0 * p ≡ p = ap (λ (n : ℕ). n * p) (pow-zero d) ∙ omega arith in
    omega (arith, ap (root 1) one, root-one p, later-small d 2 sizes (omega arith) (omega arith) hd small)

-- the same of a whole list of bounds
pub weight-bound : (sizes : List ℕ) → length sizes ≤ 8 → get_or sizes 0 0 ≤ 2 ^ 63 → All (λ q. q ≤ 2 ^ 102) sizes → weight_from (length sizes) 1 sizes ≤ 2 ^ 64
weight-bound [] few first small = omega arith
weight-bound (p ∷ sizes) few first small = weight-small (length (p ∷ sizes)) p sizes (omega arith) few first (All-tail (λ q. q ≤ 2 ^ 102) p sizes small)
