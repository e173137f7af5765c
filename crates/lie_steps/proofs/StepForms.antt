-- Moves with one step: what a signature says of the one it says of the other. And the Lie element of a move as a sum of terms.
use Rattle.std.proofs.Common.{◌≡◌, ℕ, ◌≤◌, refl, sym, ◌∙◌, List, [], ◌∷◌, ◌++◌, length, drop}
use Rattle.std.specs.Prelude.{All}
use Rattle.std.proofs.lemmas.List.Elements.{All-drop}
use Rattle.definitions.specs.Moves.{Parts, first_part, plain, step, move_weight, IsPlain}
use Rattle.definitions.specs.Signature.{signature}
use Rattle.definitions.proofs.ProductLaws.{scaled_product-same}
use Rattle.definitions.proofs.SignatureLaws.{signature-push}
use Rattle.definitions.proofs.MoveWeights.{weight-of_plain, move_weight-plain}
use Rattle.lie_steps.proofs.PlainSteps.{step-of_plain, step-plain}

-- a move of letters alone steps as it does without its other parts
pub plain-form : (depth : ℕ) (x : Parts) → 1 ≤ length x → IsPlain x → (word : List ℕ) → All (λ a. 1 ≤ a) word → step x word ≡ step (plain depth (first_part x)) word
plain-form depth x some is word letters = step-of_plain x some is word letters ∙ sym (step-plain depth (first_part x) word letters)

-- a move whose later parts are 0 weighs what its first part does by itself
pub plain-form_weight : (depth : ℕ) (x : Parts) → IsPlain x → move_weight x ≡ move_weight (plain depth (first_part x))
plain-form_weight depth x is = weight-of_plain x is ∙ sym (move_weight-plain depth (first_part x))

-- the last move
pub signature-last : (moves : List Parts) (x y : Parts) (word : List ℕ) → ((i : ℕ) → i ≤ length word → step x (drop i word) ≡ step y (drop i word))
    → signature (moves ++ x ∷ []) word ≡ signature (moves ++ y ∷ []) word
signature-last moves x y word same =
    signature-push moves x word
    ∙ scaled_product-same (signature moves) (signature moves) (step x) (step y) word (λ i h. refl) same
    ∙ sym (signature-push moves y word)

-- the signature is the same with the last move cut to its first part, where its later parts are 0
pub signature-plain_last : (moves : List Parts) (depth : ℕ) (x : Parts) (word : List ℕ) → 1 ≤ length x → IsPlain x → All (λ a. 1 ≤ a) word
    → signature (moves ++ plain depth (first_part x) ∷ []) word ≡ signature (moves ++ x ∷ []) word
signature-plain_last moves depth x word some is letters =
    signature-last moves (plain depth (first_part x)) x word
    (λ i h. sym (plain-form depth x some is (drop i word) (All-drop (λ a. 1 ≤ a) i word letters)))
