-- The tensor while it is extended: word by word in a level, level by level from the longest words down.
use Rattle.std.proofs.Common.{◌≡◌, ℕ, suc, ◌≤◌, ◌<◌, ◌^◌, refl, sym, ap, ◌∙◌, subst, arith, List, [], ◌∷◌, length, take, drop, length-take, ℤ, inl, inr}
use Rattle.std.proofs.lemmas.Int.{ints}
use Rattle.std.proofs.lemmas.Bool.{cases_lt}
use Rattle.std.proofs.Math.Nat.{pow-suc}
use Rattle.definitions.specs.Words.{Extent, IsWord, number}
use Rattle.definitions.specs.Products.{unit, product_term, scaled_product}
use Rattle.definitions.specs.Sums.{sum_below}
use Rattle.definitions.specs.Moves.{along, greatest}
use Rattle.definitions.proofs.WordLaws.{letters-take}
use Rattle.definitions.proofs.MoveLaws.{along-bound}
use Rattle.definitions.proofs.ProductLaws.{scaled_product-same, scaled_product-unit_right}
use Rattle.scaled_tensor.specs.Tensors.{TensorValue, coefficient}
use Rattle.tensor_product.specs.Extension.{ExtendsAt, IsExtendedBy}

-- the first n letters of a word of an extent are a word of it
pub word-take : (extent : Extent) (n : ℕ) (word : List ℕ) → IsWord extent word → IsWord extent (take n word)
word-take extent n word h = record {
  short = omega (arith, h.short, length-take n word);
  letters = letters-take extent.width n word h.letters;
}

-- the product at the empty word
pub product-empty : (a : List ℕ → ℤ) (x : List ℤ) → scaled_product a (along x) [] ≡ a []
unfolding scaled_product product_term sum_below
product-empty a x = omega (arith, ints)

-- the product by the same step, where the prefixes are the same
product-same : (a b : List ℕ → ℤ) (x : List ℤ) (word : List ℕ) → ((i : ℕ) → i ≤ length word → a (take i word) ≡ b (take i word)) → scaled_product a (along x) word ≡ scaled_product b (along x) word
product-same a b x word same = scaled_product-same a b (along x) (along x) word same (λ i h. refl)

-- a step of weight 0 is the unit
along-still : (x : List ℤ) (word : List ℕ) → greatest x ≡ 0 → along x word ≡ unit word
along-still x [] still = refl
along-still x (a ∷ word) still =
    omega (arith, ints, along-bound x (a ∷ word), ap (λ (m : ℕ). m ^ suc (length word)) still, pow-suc 0 (length word))

-- a step whose entries are all 0 leaves the tensor as it is
pub still : (x : List ℤ) (t : TensorValue) → greatest x ≡ 0 → IsExtendedBy x t t
still x t none = record {
  same_extent = refl;
  products = λ word is_word.
      sym (scaled_product-same (coefficient t) (coefficient t) (along x) unit word (λ i h. refl) (λ i h. along-still x (drop i word) none) ∙ scaled_product-unit_right (coefficient t) word);
}

-- the words of k letters whose number is below n
abbrev pub IsBelow : ℕ → ℕ → ℕ → List ℕ → Type 0
IsBelow width k n word = (length word ≡ k) × (number width word < n)

-- shorter words are as they were
pub shorter-kept : (k : ℕ) (x : List ℤ) (old now : TensorValue) (word : List ℕ) → ExtendsAt (λ w. k < length w) x old now → IsWord old.extent word → length word ≤ k
    → (i : ℕ) → i ≤ length word → coefficient now (take i word) ≡ coefficient old (take i word)
shorter-kept k x old now word progress is_word h i l =
    progress.others (take i word) (word-take old.extent i word is_word) (λ at. omega (arith, length-take i word))

-- extended at the words of more than k letters, and then at those of k, it is extended at those of k or more
pub longer-step : (k j : ℕ) (x : List ℤ) (old now new : TensorValue) → suc j ≡ k → ExtendsAt (λ w. k < length w) x old now → ExtendsAt (λ w. length w ≡ k) x now new → ExtendsAt (λ w. j < length w) x old new
longer-step k j x old now new ej progress step =
    let moved : now.extent ≡ old.extent = progress.same_extent in
    record {
      same_extent = step.same_extent ∙ moved;
      products = λ word is_word at.
          let is_now : IsWord now.extent word = subst (λ (e : Extent). IsWord e word) (sym moved) is_word in
          elim (cases_lt k (length word)) [
            | inl above ↦ step.others word is_now (λ same. omega arith) ∙ progress.products word is_word above
            | inr upto ↦ step.products word is_now (omega arith) ∙ product-same (coefficient now) (coefficient old) x word (shorter-kept k x old now word progress is_word upto)
          ];
      others = λ word is_word not_at.
          let is_now : IsWord now.extent word = subst (λ (e : Extent). IsWord e word) (sym moved) is_word in
          step.others word is_now (λ same. not_at (omega arith)) ∙ progress.others word is_word (λ at. not_at (omega arith));
    }

-- all words but the empty one, which keeps its coefficient
pub longer-all : (x : List ℤ) (old now : TensorValue) → ExtendsAt (λ w. 0 < length w) x old now → IsExtendedBy x old now
longer-all x old now progress = record {
  same_extent = progress.same_extent;
  products = λ word is_word. at_word word is_word;
}
  where
    at_word : (word : List ℕ) → IsWord old.extent word → coefficient now word ≡ scaled_product (coefficient old) (along x) word
    at_word [] is_word = progress.others [] is_word (λ at. omega arith) ∙ sym (product-empty (coefficient old) x)
    at_word (a ∷ word) is_word = progress.products (a ∷ word) is_word (omega arith)
