-- Where the first byte of a kind stands.
use Rattle.std.proofs.Common.{◌≡◌, ℕ, Bool, true, List, [], ◌∷◌, length, ltb, arith, refl, Some}
use Rattle.std.specs.List.{list_any, position, position_or_len}
use Rattle.std.proofs.lemmas.Grind.{common_steps}

-- some element passes exactly where the first place that passes lies before the end
pub any_before_end : {X : Type 0} (p : X → Bool) (xs : List X) → list_any p xs ≡ ltb (position_or_len p xs) (length xs)
any_before_end p [] = refl
any_before_end p (x ∷ xs) = grind (arith, common_steps, any_before_end p xs)

-- the place that was found is the first, and some element passes
pub found_first : {X : Type 0} (p : X → Bool) (xs : List X) (place : ℕ) → Some place ≡ position p xs → (list_any p xs ≡ true) × (place ≡ position_or_len p xs)
found_first p xs place found =
    let some : list_any p xs ≡ true = grind (arith, common_steps, any_before_end p xs, found) in
    (some, grind (arith, common_steps, found))
