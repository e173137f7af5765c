-- The product of two tensors by plain concatenation: its sums, and how the words are written in their order.
use Rattle.std.proofs.Common.{◌≡◌, ◌≢◌, ℕ, suc, ◌+◌, ◌-◌, ◌≤◌, refl, sym, ap, ap₂, ◌∙◌, subst, arith, add-one, List, length, take, drop, ℤ, pos, ◌+ℤ◌, ◌*ℤ◌, unsigned_abs, inl, inr}
use Rattle.std.proofs.lemmas.Bool.{cases_lt}
use Rattle.definitions.specs.Words.{Extent, IsWord, shorter}
use Rattle.definitions.specs.Sums.{sum_below}
use Rattle.definitions.specs.Exponentials.{plain_product}
use Rattle.definitions.specs.Signature.{limit}
use Rattle.definitions.proofs.WordLaws.{place-lt, place-injective}
use Rattle.definitions.proofs.SumLaws.{sum_below-same, sum_below-next}
use Rattle.scaled_tensor.specs.Tensors.{TensorValue, place, coefficient}
use Rattle.tensor_product.specs.Concatenation.{plain_value, plain_sum, HasPlainRoom, IsWrittenBelow, IsWritten}
use Rattle.tensor_product.proofs.MultiplyLaws.{rest}

-- the sum over no cuts is 0
pub plain_sum-none : (p : ℕ → ℤ) (b : List ℕ → ℤ) (word : List ℕ) → plain_sum p b word 0 ≡ pos 0
unfolding plain_sum sum_below
plain_sum-none p b word = refl

plain_sum-next : (p : ℕ → ℤ) (b : List ℕ → ℤ) (word : List ℕ) (n : ℕ) → plain_sum p b word (suc n) ≡ plain_sum p b word n +ℤ plain_value p b word n
unfolding plain_sum
plain_sum-next p b word n = sum_below-next n (plain_value p b word)

-- the coefficient of the first n letters times that of the others is what the cut after n letters adds
pub plain_value-is : (p : ℕ → ℤ) (b : List ℕ → ℤ) (word : List ℕ) (n : ℕ) (x y : ℤ) → x ≡ p n → y ≡ b (take (length word - n) (drop n word)) → x *ℤ y ≡ plain_value p b word n
plain_value-is p b word n x y ex ey = ap₂ ◌*ℤ◌ ex (ey ∙ ap b (rest n word))

-- one cut more
pub plain_sum-step : (p : ℕ → ℤ) (b : List ℕ → ℤ) (word : List ℕ) (n : ℕ) (sum term : ℤ) → sum ≡ plain_sum p b word n → term ≡ plain_value p b word n → sum +ℤ term ≡ plain_sum p b word (n + 1)
plain_sum-step p b word n sum term es et = ap₂ ◌+ℤ◌ es et ∙ sym (plain_sum-next p b word n) ∙ ap (plain_sum p b word) (sym (add-one n))

-- the sum depends on the coefficients of the prefixes alone
pub plain_sum-same : (p q : ℕ → ℤ) (b : List ℕ → ℤ) (word : List ℕ) (n : ℕ) → n ≤ suc (length word) → ((i : ℕ) → i ≤ length word → p i ≡ q i) → plain_sum p b word n ≡ plain_sum q b word n
unfolding plain_sum
plain_sum-same p q b word n h same =
    sum_below-same n (plain_value p b word) (plain_value q b word) (λ i l. ap (λ (z : ℤ). z *ℤ b (drop i word)) (same i (omega arith)))

-- the sum over all cuts is the product by concatenation
pub plain_sum-all : (a b : List ℕ → ℤ) (word : List ℕ) → plain_sum (λ i. a (take i word)) b word (suc (length word)) ≡ plain_product a b word
unfolding plain_sum plain_product
plain_sum-all a b word = refl

-- prefixes with the same coefficients leave the same room
pub HasPlainRoom-same : (p q : ℕ → ℤ) (b : List ℕ → ℤ) (word : List ℕ) → ((i : ℕ) → i ≤ length word → p i ≡ q i) → HasPlainRoom p b word → HasPlainRoom q b word
HasPlainRoom-same p q b word same room = record {
  joined = λ i h. subst (λ (z : ℤ). unsigned_abs (z *ℤ b (drop i word)) ≤ limit) (same i h) (room.joined i h);
  summed = λ n h. subst (λ (z : ℤ). unsigned_abs z ≤ limit) (plain_sum-same p q b word n h same) (room.summed n h);
}

-- the word at place n is written after those below
pub written-step : (n m : ℕ) (extent : Extent) (series : List ℕ → ℤ) (now new : TensorValue) (next : List ℕ) → IsWrittenBelow n extent series now → IsWord extent next → place extent next ≡ n → m ≡ suc n
    → new.extent ≡ extent → coefficient new next ≡ series next
    → ((other : List ℕ) → IsWord extent other → other ≢ next → coefficient new other ≡ coefficient now other) → IsWrittenBelow m extent series new
written-step n m extent series now new next below is_next at em same written others = record {
  same_extent = same;
  values = λ word is_word h.
      elim (cases_lt (place extent word) n) [
        | inl before ↦ others word is_word (λ e. omega (arith, before, at, ap (place extent) e)) ∙ below.values word is_word before
        | inr from ↦
            let e : word ≡ next = place-injective extent.width word next is_word.letters is_next.letters (omega (arith, from, at, h, em)) in
            subst (λ (w : List ℕ). coefficient new w ≡ series w) (sym e) written
      ];
}

-- a series that is written at all places is written at each word
pub written-all : (n : ℕ) (extent : Extent) (series : List ℕ → ℤ) (t : TensorValue) → IsWrittenBelow n extent series t → n ≡ shorter extent.width (suc extent.depth) → IsWritten extent series t
written-all n extent series t below e = record {
  same_extent = below.same_extent;
  values = λ word is_word. below.values word is_word (omega (arith, e, place-lt extent.width extent.depth word is_word.letters is_word.short));
}
