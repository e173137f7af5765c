-- The product of two tensors: that no sum over cuts leaves the limit, how the words are written in their order, and what the product stands for.
use Rattle.std.proofs.Common.{◌≡◌, ℕ, zero, suc, ◌+◌, ◌-◌, ◌≤◌, ◌^◌, refl, sym, ap, ap₂, ◌∙◌, subst, arith, add-one, List, [], ◌++◌, length, take, take_all, drop, length-drop, ℤ, pos, ◌+ℤ◌, ◌*ℤ◌, unsigned_abs}
use Rattle.std.proofs.Math.Nat.{mul-le-mul_right}
use Rattle.std.proofs.lemmas.Int.{unsigned_abs-mul}
use Rattle.std.proofs.lemmas.List.Elements.{All-drop}
use Rattle.std.proofs.lemmas.List.Sums.{sum_by-append}
use Rattle.definitions.specs.Words.{Extent, IsWord, IsLetter, binom}
use Rattle.definitions.specs.Sums.{sum_below}
use Rattle.definitions.specs.Products.{product_term, scaled_product}
use Rattle.definitions.specs.Moves.{Parts, move_weight}
use Rattle.definitions.specs.Signature.{signature, limit}
use Rattle.definitions.proofs.SumLaws.{sum_below-same, sum_below-next}
use Rattle.definitions.proofs.ProductLaws.{scaled_product-same}
use Rattle.definitions.proofs.ProductBounds.{AreFactors, product-bound}
use Rattle.definitions.proofs.SignatureLaws.{signature-append}
use Rattle.scaled_tensor.specs.Tensors.{TensorValue, coefficient}
use Rattle.tensor_product.specs.Sigs.{SigValue, IsSig, IsBoundedBy, StandsFor}
use Rattle.tensor_product.specs.Extension.{prefixes_of}
use Rattle.tensor_product.specs.Multiplication.{cut_value, cut_sum, IsProduct}
use Rattle.tensor_product.proofs.ExtendLaws.{word-take}
use Rattle.tensor_product.proofs.SigLaws.{empty-word, prefixes-bounded}

-- the letters after the first n of a word of an extent are a word of it
pub word-drop : (extent : Extent) (n : ℕ) (word : List ℕ) → IsWord extent word → IsWord extent (drop n word)
word-drop extent n word h = record {
  short = omega (arith, h.short, length-drop n word);
  letters = All-drop (IsLetter extent.width) n word h.letters;
}

-- the sum over no cuts is 0
pub cut_sum-none : (p : ℕ → ℤ) (b : List ℕ → ℤ) (word : List ℕ) → cut_sum p b word 0 ≡ pos 0
unfolding cut_sum sum_below
cut_sum-none p b word = refl

cut_sum-next : (p : ℕ → ℤ) (b : List ℕ → ℤ) (word : List ℕ) (n : ℕ) → cut_sum p b word (suc n) ≡ cut_sum p b word n +ℤ cut_value p b word n
unfolding cut_sum
cut_sum-next p b word n = sum_below-next n (cut_value p b word)

-- what is left of a word after n letters
pub rest : (n : ℕ) (word : List ℕ) → take (length word - n) (drop n word) ≡ drop n word
rest n word = take_all (length word - n) (drop n word) (omega (arith, length-drop n word))

-- one cut more
pub cut_sum-step : (p : ℕ → ℤ) (b : List ℕ → ℤ) (word : List ℕ) (n : ℕ) (sum term : ℤ) → sum ≡ cut_sum p b word n → term ≡ cut_value p b word n → sum +ℤ term ≡ cut_sum p b word (n + 1)
cut_sum-step p b word n sum term es et = ap₂ ◌+ℤ◌ es et ∙ sym (cut_sum-next p b word n) ∙ ap (cut_sum p b word) (sym (add-one n))

-- the sum depends on the coefficients of the prefixes alone
pub cut_sum-same : (p q : ℕ → ℤ) (b : List ℕ → ℤ) (word : List ℕ) (n : ℕ) → n ≤ suc (length word) → ((i : ℕ) → i ≤ length word → p i ≡ q i) → cut_sum p b word n ≡ cut_sum q b word n
unfolding cut_sum
cut_sum-same p q b word n h same =
    sum_below-same n (cut_value p b word) (cut_value q b word) (λ i l. ap (λ (z : ℤ). pos (binom (length word) i) *ℤ (z *ℤ b (drop i word))) (same i (omega arith)))

-- the sum over all cuts is the scaled product
pub cut_sum-all : (a b : List ℕ → ℤ) (word : List ℕ) → cut_sum (λ i. a (take i word)) b word (suc (length word)) ≡ scaled_product a b word
unfolding cut_sum scaled_product product_term
cut_sum-all a b word = refl

-- there is at least one way to pick k of n things, where k is at most n
pub some-ways : (n k : ℕ) → k ≤ n → 1 ≤ binom n k
some-ways n zero h = omega arith
some-ways zero (suc k) h = absurd (omega arith)
some-ways (suc n) (suc k) h = omega (arith, some-ways n k (omega arith))

-- a multiple is no smaller
pub multiple : (n : ℕ) (z : ℤ) → 1 ≤ n → unsigned_abs z ≤ unsigned_abs (pos n *ℤ z)
multiple n z some = omega (arith, unsigned_abs-mul (pos n) z, mul-le-mul_right (unsigned_abs z) some)

-- the suffixes of a word are bounded by their lengths
pub suffixes-bounded : (t : TensorValue) (v : ℕ) (word : List ℕ) → IsBoundedBy t v → IsWord t.extent word
    → (i : ℕ) → i ≤ length word → unsigned_abs (coefficient t (drop i word)) ≤ v ^ (length word - i)
suffixes-bounded t v word bounds is_word i h =
    subst (λ (n : ℕ). unsigned_abs (coefficient t (drop i word)) ≤ v ^ n) (length-drop i word) (bounds.bounded (drop i word) (word-drop t.extent i word is_word))

-- the prefixes of a word in one signature and its suffixes in another are bounded by the powers of the weights
pub factors-of : (a b : SigValue) (word : List ℕ) → IsSig a → IsSig b → b.tensor.extent ≡ a.tensor.extent → IsWord a.tensor.extent word
    → AreFactors a.weight b.weight (length word) (prefixes_of a.tensor word) (λ i. coefficient b.tensor (drop i word))
factors-of a b word ok_a ok_b same is_word = record {
  left = prefixes-bounded a.tensor a.weight word ok_a.bounded is_word;
  right = suffixes-bounded b.tensor b.weight word ok_b.bounded (subst (λ (e : Extent). IsWord e word) (sym same) is_word);
}

-- a product of series that are 1 at the empty word is 1 there
pub product-starts : (a b : List ℕ → ℤ) → a [] ≡ pos 1 → b [] ≡ pos 1 → scaled_product a b [] ≡ pos 1
unfolding scaled_product product_term sum_below
product-starts a b ea eb = ap₂ (λ (x y : ℤ). pos 0 +ℤ pos 1 *ℤ (x *ℤ y)) ea eb

-- the product of two signatures is a signature, if the power of the sum of their weights is within the limit
pub product-IsSig : (a b : SigValue) (t : TensorValue) (v : ℕ) → IsSig a → IsSig b → b.tensor.extent ≡ a.tensor.extent → IsProduct a.tensor b.tensor t → v ≡ a.weight + b.weight
    → v ^ a.tensor.extent.depth ≤ limit → IsSig (record { tensor = t; weight = v })
product-IsSig a b t v ok_a ok_b same made ev fits = record {
  fits = subst (λ (e : Extent). v ^ e.depth ≤ limit) (sym made.same_extent) fits;
  starts = made.products [] (empty-word a.tensor.extent) ∙ product-starts (coefficient a.tensor) (coefficient b.tensor) ok_a.starts ok_b.starts;
  bounded = record {
    bounded = λ word is_word.
        let is_first : IsWord a.tensor.extent word = subst (λ (e : Extent). IsWord e word) made.same_extent is_word in
        let bound : unsigned_abs (scaled_product (coefficient a.tensor) (coefficient b.tensor) word) ≤ (a.weight + b.weight) ^ length word =
        product-bound (coefficient a.tensor) (coefficient b.tensor) a.weight b.weight word (factors-of a b word ok_a ok_b same is_first) in
        subst (λ (n : ℕ). unsigned_abs (coefficient t word) ≤ n ^ length word) (sym ev)
        (subst (λ (z : ℤ). unsigned_abs z ≤ (a.weight + b.weight) ^ length word) (sym (made.products word is_first)) bound);
  };
}

-- it stands for the moves of the first, then those of the second
pub product-stands : (a b : SigValue) (t : TensorValue) (v : ℕ) (A B : List Parts) → b.tensor.extent ≡ a.tensor.extent → IsProduct a.tensor b.tensor t → v ≡ a.weight + b.weight
    → StandsFor a A → StandsFor b B → StandsFor (record { tensor = t; weight = v }) (A ++ B)
product-stands a b t v A B same made ev first second = record {
  weighs = omega (arith, ev, first.weighs, second.weighs, sum_by-append move_weight A B);
  coefficients = λ word is_word.
      let is_first : IsWord a.tensor.extent word = subst (λ (e : Extent). IsWord e word) made.same_extent is_word in
      let is_second : IsWord b.tensor.extent word = subst (λ (e : Extent). IsWord e word) (sym same) is_first in
      made.products word is_first
      ∙ scaled_product-same (coefficient a.tensor) (signature A) (coefficient b.tensor) (signature B) word
      (λ i h. first.coefficients (take i word) (word-take a.tensor.extent i word is_first))
      (λ i h. second.coefficients (drop i word) (word-drop b.tensor.extent i word is_second))
      ∙ sym (signature-append A B word);
}
