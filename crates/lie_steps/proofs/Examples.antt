-- Worked examples of steps and weights.
use Rattle.std.proofs.Common.{◌≡◌, refl, [], ◌∷◌}
use Rattle.std.specs.Prelude.{pos, negsuc}
use Rattle.definitions.specs.Sums.{sum_below}
use Rattle.definitions.specs.Moves.{Parts, plain, lie_series, step, root, move_weight}
use Rattle.definitions.specs.Exponentials.{plain_product, exponential}
use Rattle.definitions.specs.Hall.{expansion}
use Rattle.definitions.specs.Commutators.{commutator, commutator_term}
use Rattle.definitions.specs.Signature.{signature}
use Rattle.definitions.specs.Products.{scaled_product, product_term}

-- the bracket of two letters alone
abbrev bracket : Parts
bracket = (pos 0 ∷ pos 0 ∷ []) ∷ (pos 1 ∷ []) ∷ []

bracket_forward : step bracket (1 ∷ 2 ∷ []) ≡ pos 2
unfolding step lie_series exponential plain_product expansion commutator commutator_term sum_below
bracket_forward = refl

bracket_backward : step bracket (2 ∷ 1 ∷ []) ≡ negsuc 1
unfolding step lie_series exponential plain_product expansion commutator commutator_term sum_below
bracket_backward = refl

bracket_weight : move_weight bracket ≡ 2
unfolding move_weight root
bracket_weight = refl

-- a letter with the bracket, and then another letter
abbrev first_move : Parts
first_move = (pos 1 ∷ pos 0 ∷ []) ∷ (pos 1 ∷ []) ∷ []

both_forward : signature (first_move ∷ plain 2 (pos 0 ∷ pos 1 ∷ []) ∷ []) (1 ∷ 2 ∷ []) ≡ pos 4
unfolding signature scaled_product product_term step lie_series exponential plain_product expansion commutator commutator_term sum_below
both_forward = refl

both_backward : signature (first_move ∷ plain 2 (pos 0 ∷ pos 1 ∷ []) ∷ []) (2 ∷ 1 ∷ []) ≡ negsuc 1
unfolding signature scaled_product product_term step lie_series exponential plain_product expansion commutator commutator_term sum_below
both_backward = refl
