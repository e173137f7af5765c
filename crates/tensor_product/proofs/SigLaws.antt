-- A signature of one move more, and when its weight fits.
use Rattle.std.proofs.Common.{◌≡◌, ℕ, zero, suc, ◌+◌, ◌*◌, ◌<◌, ◌≤◌, ◌^◌, sym, ap, ◌∙◌, subst, arith, List, [], ◌∷◌, ◌++◌, length, take, drop, length-take, length-drop, replicate, ℤ, unsigned_abs}
use Rattle.std.proofs.Math.Nat.{pow-suc, pow-zero, one-mul, le_trans, pow-le-pow_right}
use Rattle.std.proofs.lemmas.List.{get_or-replicate, length-replicate}
use Rattle.std.proofs.lemmas.List.Elements.{All-nil, All-drop, All-weaker}
use Rattle.std.proofs.lemmas.List.Sums.{sum_by_push}
use Rattle.definitions.specs.Words.{Extent, IsWord, IsLetter}
use Rattle.definitions.specs.Products.{unit, scaled_product}
use Rattle.definitions.specs.Moves.{Parts, plain, along, step, greatest, move_weight}
use Rattle.definitions.specs.Signature.{signature, limit, Fits}
use Rattle.definitions.proofs.MoveLaws.{along-bound}
use Rattle.definitions.proofs.MoveWeights.{move_weight-plain}
use Rattle.lie_steps.proofs.PlainSteps.{step-plain}
use Rattle.definitions.proofs.ProductLaws.{scaled_product-same}
use Rattle.definitions.proofs.ProductBounds.{AreFactors, product-bound}
use Rattle.definitions.proofs.SignatureLaws.{signature-none, signature-push}
use Rattle.scaled_tensor.specs.Tensors.{TensorValue, coefficient}
use Rattle.tensor_product.specs.Sigs.{SigValue, IsSig, IsBoundedBy, StandsFor}
use Rattle.tensor_product.specs.Extension.{IsExtendedBy}
use Rattle.tensor_product.proofs.ExtendLaws.{word-take, product-empty}

-- a power that fits, fits with a smaller exponent
pub pow-within : (b k n m : ℕ) → 1 ≤ m → k ≤ n → b ^ n ≤ m → b ^ k ≤ m
pow-within zero zero n m some h l = rw pow-zero some
pow-within zero (suc k) n m some h l = omega (arith, pow-suc 0 k)
pow-within (suc b) k n m some h l = le_trans (pow-le-pow_right (omega arith) h) l

-- where the last power is within the limit, all are
pub fits-flat : (v depth : ℕ) → v ^ depth ≤ limit → Fits (replicate depth 1) v
fits-flat v depth fits k h =
    let here : k < depth = omega (arith, length-replicate {A = ℕ} depth 1) in
    omega (arith, pow-within v (k + 1) depth limit (omega arith) (omega arith) fits, ap (λ (f : ℕ). v ^ (k + 1) * f) (get_or-replicate depth k 1 0 here))

-- the empty word is one of each extent
pub empty-word : (extent : Extent) → IsWord extent []
empty-word extent = record { short = omega arith; letters = All-nil (IsLetter extent.width) }

-- the series of 1, with the weight 0, stands for no moves
pub unit-stands : (t : TensorValue) → ((word : List ℕ) → IsWord t.extent word → coefficient t word ≡ unit word) → StandsFor (record { tensor = t; weight = 0 }) []
unit-stands t is_unit = record {
  weighs = omega arith;
  coefficients = λ word is_word. is_unit word is_word ∙ sym (signature-none word);
}

-- a weight that fits is itself at most the limit
pub weight-fits : (v depth : ℕ) → 1 ≤ depth → v ^ depth ≤ limit → v ≤ limit
weight-fits v depth some fits =
    let one : v ^ 1 ≤ limit = pow-within v 1 depth limit (omega arith) some fits in
    let e : v ^ 1 ≡ v = pow-suc v 0 ∙ ap (λ (n : ℕ). n * v) (pow-zero v) ∙ one-mul v in
    omega (arith, one, e)

-- the prefixes of a word are bounded by their lengths
pub prefixes-bounded : (t : TensorValue) (v : ℕ) (word : List ℕ) → IsBoundedBy t v → IsWord t.extent word
    → (i : ℕ) → i ≤ length word → unsigned_abs (coefficient t (take i word)) ≤ v ^ i
prefixes-bounded t v word bounds is_word i h =
    let at : length (take i word) ≡ i = omega (arith, length-take i word) in
    subst (λ (n : ℕ). unsigned_abs (coefficient t (take i word)) ≤ v ^ n) at (bounds.bounded (take i word) (word-take t.extent i word is_word))

-- a signature that is extended by a step stays one, if the power of its new weight is within the limit
pub extended-IsSig : (s : SigValue) (x : List ℤ) (new : TensorValue) (v : ℕ) → IsSig s → IsExtendedBy x s.tensor new → v ≡ s.weight + greatest x → v ^ new.extent.depth ≤ limit
    → IsSig (record { tensor = new; weight = v })
extended-IsSig s x new v ok extended ev fits = record {
  fits = fits;
  starts = extended.products [] (empty-word s.tensor.extent) ∙ product-empty (coefficient s.tensor) x ∙ ok.starts;
  bounded = record {
    bounded = λ word is_word.
        let is_old : IsWord s.tensor.extent word = subst (λ (e : Extent). IsWord e word) extended.same_extent is_word in
        let factors : AreFactors s.weight (greatest x) (length word) (λ i. coefficient s.tensor (take i word)) (λ i. along x (drop i word)) =
        record {
          left = prefixes-bounded s.tensor s.weight word ok.bounded is_old;
          right = λ i h. subst (λ (n : ℕ). unsigned_abs (along x (drop i word)) ≤ greatest x ^ n) (length-drop i word) (along-bound x (drop i word));
        } in
        let bound : unsigned_abs (scaled_product (coefficient s.tensor) (along x) word) ≤ (s.weight + greatest x) ^ length word =
        product-bound (coefficient s.tensor) (along x) s.weight (greatest x) word factors in
        subst (λ (n : ℕ). unsigned_abs (coefficient new word) ≤ n ^ length word) (sym ev)
        (subst (λ (z : ℤ). unsigned_abs z ≤ (s.weight + greatest x) ^ length word) (sym (extended.products word is_old)) bound);
  };
}

-- it stands for one plain move more
pub extended-stands : (s : SigValue) (depth : ℕ) (x : List ℤ) (new : TensorValue) (v : ℕ) (moves : List Parts) → IsExtendedBy x s.tensor new → v ≡ s.weight + greatest x → StandsFor s moves
    → StandsFor (record { tensor = new; weight = v }) (moves ++ plain depth x ∷ [])
extended-stands s depth x new v moves extended ev stands = record {
  weighs = omega (arith, ev, stands.weighs, sum_by_push move_weight moves (plain depth x), move_weight-plain depth x);
  coefficients = λ word is_word.
      let is_old : IsWord s.tensor.extent word = subst (λ (e : Extent). IsWord e word) extended.same_extent is_word in
      extended.products word is_old
      ∙ scaled_product-same (coefficient s.tensor) (signature moves) (along x) (step (plain depth x)) word
      (λ i h. stands.coefficients (take i word) (word-take s.tensor.extent i word is_old))
      (λ i h. sym (step-plain depth x (drop i word)
      (All-weaker (IsLetter s.tensor.extent.width) (λ a. 1 ≤ a) (λ a l. l.0) (drop i word) (All-drop (IsLetter s.tensor.extent.width) i word is_old.letters))))
      ∙ sym (signature-push moves (plain depth x) word);
}
