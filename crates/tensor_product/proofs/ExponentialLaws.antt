-- The exponential of a tensor is a signature: of the move whose Lie element the tensor is.
use Rattle.std.proofs.Common.{◌≡◌, ℕ, ◌≤◌, ◌^◌, refl, sym, ap, ◌∙◌, subst, arith, List, [], ◌∷◌, length, take, unsigned_abs}
use Rattle.definitions.specs.Words.{Extent, IsWord}
use Rattle.definitions.specs.Exponentials.{exponential}
use Rattle.definitions.specs.Moves.{Parts, lie_series, step, sizes_of, weight_from, move_weight}
use Rattle.definitions.specs.Signature.{signature, limit}
use Rattle.definitions.specs.Products.{unit}
use Rattle.definitions.proofs.ProductLaws.{scaled_product-unit_left, scaled_product-same}
use Rattle.definitions.proofs.SignatureLaws.{signature-push, signature-none}
use Rattle.scaled_tensor.specs.Tensors.{TensorValue, coefficient}
use Rattle.lie_steps.proofs.ExponentialBounds.{IsClosed, IsSized, exponential-bound}
use Rattle.lie_steps.proofs.ExponentialRoom.{exponential-same}
use Rattle.lie_steps.proofs.Exponentials.{exponential-empty}
use Rattle.lie_steps.proofs.LieSeries.{root_at, sizes-IsSized}
use Rattle.tensor_product.specs.Sigs.{SigValue, IsSig, StandsFor}
use Rattle.tensor_product.specs.Exponentiation.{HasSizes, IsExponentialOf}
use Rattle.tensor_product.proofs.ExtendLaws.{word-take}
use Rattle.tensor_product.proofs.MultiplyLaws.{word-drop}
use Rattle.tensor_product.proofs.SigLaws.{empty-word}

-- the fronts and rests of a word of an extent are words of it
pub words-closed : (extent : Extent) → IsClosed (IsWord extent)
words-closed extent = record { front = word-take extent; back = word-drop extent }

-- a tensor within its sizes is sized by the roots of these, which add up to the weight
pub tensor-IsSized : (z : TensorValue) (sizes : List ℕ) → HasSizes z sizes → IsSized (IsWord z.extent) z.extent.depth (root_at z.extent.depth 1 sizes) (weight_from z.extent.depth 1 sizes) (coefficient z)
tensor-IsSized z sizes has = sizes-IsSized (IsWord z.extent) z.extent.depth sizes (coefficient z) (words-closed z.extent) has.starts has.within

-- the exponential of a tensor within its sizes is a signature, if the power of its weight is within the limit
pub exponential-IsSig : (z : TensorValue) (sizes : List ℕ) (s : SigValue) → HasSizes z sizes → IsExponentialOf z sizes s → s.weight ^ s.tensor.extent.depth ≤ limit → IsSig s
exponential-IsSig z sizes s has is fits = record {
  fits = fits;
  starts = is.coefficients [] (empty-word z.extent) ∙ exponential-empty (coefficient z);
  bounded = record {
    bounded = λ word is_word.
        let is_z : IsWord z.extent word = subst (λ (e : Extent). IsWord e word) is.same_extent is_word in
        let bound : unsigned_abs (exponential (coefficient z) word) ≤ weight_from z.extent.depth 1 sizes ^ length word =
        exponential-bound (IsWord z.extent) z.extent.depth (root_at z.extent.depth 1 sizes) (weight_from z.extent.depth 1 sizes) (coefficient z) (tensor-IsSized z sizes has) word is_z is_z.short in
        omega (arith, bound, ap unsigned_abs (is.coefficients word is_z), ap (λ (v : ℕ). v ^ length word) is.weighs);
  };
}

-- one move alone
signature-one : (x : Parts) (word : List ℕ) → signature (x ∷ []) word ≡ step x word
signature-one x word =
    signature-push [] x word
    ∙ scaled_product-same (signature []) unit (step x) (step x) word (λ i h. signature-none (take i word)) (λ i h. refl)
    ∙ scaled_product-unit_left (step x) word

-- the tensor of a move's Lie element
pub exponential-stands : (z : TensorValue) (x : Parts) (s : SigValue) → length x ≡ z.extent.depth → ((word : List ℕ) → IsWord z.extent word → coefficient z word ≡ lie_series x word)
    → IsExponentialOf z (sizes_of x) s → StandsFor s (x ∷ [])
unfolding step move_weight
exponential-stands z x s deep values is = record {
  weighs = is.weighs ∙ ap (λ (n : ℕ). weight_from n 1 (sizes_of x)) (sym deep) ∙ omega arith;
  coefficients = λ word is_word.
      let is_z : IsWord z.extent word = subst (λ (e : Extent). IsWord e word) is.same_extent is_word in
      is.coefficients word is_z
      ∙ exponential-same (IsWord z.extent) (words-closed z.extent) (coefficient z) (lie_series x) values word is_z
      ∙ sym (signature-one x word);
}
