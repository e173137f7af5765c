-- Sums modulo 2^64.
use Rattle.std.proofs.Common.{◌≡◌, ◌∙◌, ℕ, ◌+◌, ◌%◌, ◌^◌, ◌<◌, refl, sym, ap, arith, ℤ, pos, negsuc, ◌+ℤ◌, List, [], ◌∷◌, ◌++◌}
use Rattle.std.specs.Prelude.{unsigned_abs}
use Rattle.std.specs.Int.{w64, cast_signed, cast_unsigned, int_rem_euclid, int_wrap}
use Rattle.std.proofs.lemmas.Int.{of_z-to_z, int_wrap-add_same}
use Rattle.std.proofs.Math.IntN.{+ℤ_comm, +ℤ_assoc, +ℤ_idl, +ℤ_idr}
use Rattle.answers.specs.Generator.{int_sum, int_mod}

-- what is left of a division by 2^64, rounded down
pub remainder-is : (z : ℤ) → unsigned_abs (int_rem_euclid z (pos (2 ^ 64))) ≡ int_mod z (2 ^ 64)
remainder-is (pos n) = refl
remainder-is (negsuc n) = omega arith

mod-below : (z : ℤ) → int_mod z (2 ^ 64) < 2 ^ 64
mod-below (pos n) = omega arith
mod-below (negsuc n) = omega arith

-- the bits of a wrapped integer, as a number, are its value modulo 2^64
mod-of-wrapped : (z : ℤ) → cast_unsigned w64 (int_wrap w64 z) ≡ int_mod z (2 ^ 64)
unfolding int_wrap
mod-of-wrapped z = ap (λ n. cast_unsigned w64 (cast_signed w64 n)) (remainder-is z) ∙ of_z-to_z w64 (int_mod z (2 ^ 64)) (mod-below z)

-- wrapping what was taken modulo 2^64 changes nothing
wrapped-mod : (z : ℤ) → int_wrap w64 (pos (int_mod z (2 ^ 64))) ≡ int_wrap w64 z
unfolding int_wrap
wrapped-mod z =
    let below = mod-below z in
    let same : int_mod z (2 ^ 64) % 2 ^ 64 ≡ int_mod z (2 ^ 64) = omega arith in
    ap (cast_signed w64) (same ∙ sym (remainder-is z))

-- a number may be replaced by what is left of it
pub mod-add : (a b : ℤ) → int_mod (pos (int_mod a (2 ^ 64)) +ℤ b) (2 ^ 64) ≡ int_mod (a +ℤ b) (2 ^ 64)
mod-add a b =
    sym (mod-of-wrapped (pos (int_mod a (2 ^ 64)) +ℤ b))
    ∙ ap (cast_unsigned w64) (int_wrap-add_same w64 (pos (int_mod a (2 ^ 64))) a b (wrapped-mod a))
    ∙ mod-of-wrapped (a +ℤ b)

-- a number that is added modulo 2^64 to a sum of naturals is added to its integer
pub mod-added : (sum : ℕ) (z : ℤ) → (sum + int_mod z (2 ^ 64)) % 2 ^ 64 ≡ int_mod (pos sum +ℤ z) (2 ^ 64)
mod-added sum z =
    ap (λ y. int_mod y (2 ^ 64)) (+ℤ_comm (pos sum) (pos (int_mod z (2 ^ 64))))
    ∙ mod-add z (pos sum)
    ∙ ap (λ y. int_mod y (2 ^ 64)) (+ℤ_comm z (pos sum))

sum-append : (xs ys : List ℤ) → int_sum (xs ++ ys) ≡ int_sum xs +ℤ int_sum ys
sum-append [] ys = sym (+ℤ_idl (int_sum ys))
sum-append (x ∷ xs) ys = ap (λ y. x +ℤ y) (sum-append xs ys) ∙ sym (+ℤ_assoc x (int_sum xs) (int_sum ys))

-- values more
pub mod-sum-append : (start now next : ℕ) (xs ys zs : List ℤ) → zs ≡ xs ++ ys
    → now ≡ int_mod (pos start +ℤ int_sum xs) (2 ^ 64) → next ≡ int_mod (pos now +ℤ int_sum ys) (2 ^ 64) → next ≡ int_mod (pos start +ℤ int_sum zs) (2 ^ 64)
mod-sum-append start now next xs ys zs all before step =
    step
    ∙ ap (λ n. int_mod (pos n +ℤ int_sum ys) (2 ^ 64)) before
    ∙ mod-add (pos start +ℤ int_sum xs) (int_sum ys)
    ∙ ap (λ y. int_mod y (2 ^ 64)) (+ℤ_assoc (pos start) (int_sum xs) (int_sum ys) ∙ ap (λ y. pos start +ℤ y) (sym (sum-append xs ys) ∙ ap int_sum (sym all)))

-- a value more
pub mod-sum-push : (start now next : ℕ) (xs : List ℤ) (y : ℤ) (zs : List ℤ) → zs ≡ xs ++ y ∷ []
    → now ≡ int_mod (pos start +ℤ int_sum xs) (2 ^ 64) → next ≡ int_mod (pos now +ℤ y) (2 ^ 64) → next ≡ int_mod (pos start +ℤ int_sum zs) (2 ^ 64)
mod-sum-push start now next xs y zs all before step =
    mod-sum-append start now next xs (y ∷ []) zs all before (step ∙ ap (λ z. int_mod (pos now +ℤ z) (2 ^ 64)) (sym (+ℤ_idr y)))
