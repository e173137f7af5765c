-- The powers and the sums on the way to the logarithm of a signature: what they are, and that a weight that fits leaves room for each step.
use Rattle.std.proofs.Common.{◌≡◌, ℕ, suc, ◌*◌, ◌≤◌, ◌^◌, refl, sym, ap, ◌∙◌, subst, arith, List, [], ◌∷◌, length, ℤ, pos, unsigned_abs}
use Rattle.std.proofs.Math.Nat.{pow-suc, le_trans, le_of_eq}
use Rattle.std.proofs.lemmas.Int.{ints}
use Rattle.definitions.specs.Words.{Extent, IsWord}
use Rattle.definitions.specs.Sums.{sum_below}
use Rattle.definitions.specs.Moves.{Parts}
use Rattle.definitions.specs.Signature.{signature}
use Rattle.definitions.specs.Logarithm.{logarithm, log_bound}
use Rattle.scaled_tensor.specs.Tensors.{TensorValue, coefficient}
use Rattle.scaled_tensor.specs.LogTensors.{LogTensorValue, IsLogTensor}
use Rattle.tensor_product.specs.Sigs.{SigValue, IsSig, IsBoundedBy, StandsFor}
use Rattle.tensor_product.proofs.ExtendLaws.{word-take}
use Rattle.tensor_product.proofs.SigLaws.{empty-word}
use Rattle.tensor_product.proofs.MultiplyLaws.{word-drop}
use Rattle.exp_log.specs.Logs.{IsLogOf}
use Rattle.exp_log.proofs.PowerBounds.{IsClosed, partial_logarithm-bound, partial_logarithm-all, logarithm-same, partial_logarithm}

-- the fronts and rests of a word of an extent are words of it
pub words-closed : (extent : Extent) → IsClosed (IsWord extent)
words-closed extent = record { front = word-take extent; back = word-drop extent }

-- the logarithm is 0 at the empty word
pub logarithm-empty : (s : List ℕ → ℤ) → logarithm s [] ≡ pos 0
unfolding logarithm sum_below
logarithm-empty s = refl

-- the logarithm of a series of weight 0 is 0
pub logarithm-still : (t : TensorValue) (weight : ℕ) (word : List ℕ) → IsBoundedBy t weight → weight ≡ 0 → IsWord t.extent word → logarithm (coefficient t) word ≡ pos 0
logarithm-still t weight [] bounds none is_word = logarithm-empty (coefficient t)
logarithm-still t weight (a ∷ word) bounds none is_word =
    let S : List ℕ → ℤ = coefficient t in
    let n : ℕ = suc (length word) in
    let bound : unsigned_abs (partial_logarithm S n (a ∷ word)) ≤ weight ^ n * log_bound n =
    partial_logarithm-bound (IsWord t.extent) S weight (words-closed t.extent) bounds.bounded (a ∷ word) n is_word in
    let power : weight ^ n ≡ 0 = ap (λ (v : ℕ). v ^ n) none ∙ pow-suc 0 (length word) ∙ omega arith in
    sym (partial_logarithm-all S n (a ∷ word) (omega arith)) ∙ omega (arith, ints, bound, ap (λ (m : ℕ). m * log_bound n) power)

-- the logarithm of a signature is within its bounds
pub series-IsLogTensor : (s : SigValue) (t : TensorValue) (v : ℕ) → IsSig s → v ≡ s.weight → t.extent ≡ s.tensor.extent
    → ((word : List ℕ) → IsWord s.tensor.extent word → coefficient t word ≡ logarithm (coefficient s.tensor) word) → IsLogTensor (record { tensor = t; weight = v })
series-IsLogTensor s t v ok ev same values =
    let S : List ℕ → ℤ = coefficient s.tensor in
    let closed : IsClosed (IsWord s.tensor.extent) = words-closed s.tensor.extent in
    record {
      starts = values [] (empty-word s.tensor.extent) ∙ logarithm-empty S;
      bounded = λ word is_t_word.
          let is_word : IsWord s.tensor.extent word = subst (λ (x : Extent). IsWord x word) same is_t_word in
          let e : coefficient t word ≡ partial_logarithm S (length word) word = values word is_word ∙ sym (partial_logarithm-all S (length word) word (omega arith)) in
          subst (λ (n : ℕ). unsigned_abs (coefficient t word) ≤ n ^ length word * log_bound (length word)) (sym ev)
          (le_trans (le_of_eq (ap unsigned_abs e)) (partial_logarithm-bound (IsWord s.tensor.extent) S s.weight closed ok.bounded.bounded word (length word) is_word));
    }

-- the logarithm of a tensor that stands for moves is that of their signature, with their weight
pub series-stands : (s : SigValue) (p : LogTensorValue) (moves : List Parts) → p.weight ≡ s.weight → p.tensor.extent ≡ s.tensor.extent
    → ((word : List ℕ) → IsWord s.tensor.extent word → coefficient p.tensor word ≡ logarithm (coefficient s.tensor) word) → StandsFor s moves → IsLogOf p moves
series-stands s p moves ev same values stands = record {
  weighs = ev ∙ stands.weighs;
  coefficients = λ word is_p_word.
      let is_word : IsWord s.tensor.extent word = subst (λ (x : Extent). IsWord x word) same is_p_word in
      values word is_word ∙ logarithm-same (IsWord s.tensor.extent) (coefficient s.tensor) (signature moves) (words-closed s.tensor.extent) stands.coefficients word is_word;
}
