-- The product of two tensors, cut by cut and word by word.
use Rattle.std.specs.Prelude.{◌≡◌, ℕ, ◌<◌, ◌≤◌, List, length, drop, ℤ, pos, ◌+ℤ◌, ◌*ℤ◌, unsigned_abs}
use Rattle.definitions.specs.Words.{IsWord, binom}
use Rattle.definitions.specs.Sums.{sum_below}
use Rattle.definitions.specs.Products.{scaled_product}
use Rattle.scaled_tensor.specs.Tensors.{TensorValue, coefficient}

-- what the cut after i letters adds, where p i is the coefficient of the first i letters
abbrev pub cut_value : (ℕ → ℤ) → (List ℕ → ℤ) → List ℕ → ℕ → ℤ
cut_value p b word i = pos (binom (length word) i) *ℤ (p i *ℤ b (drop i word))

-- the sum over the cuts after fewer than n letters
unfoldable pub cut_sum : (ℕ → ℤ) → (List ℕ → ℤ) → List ℕ → ℕ → ℤ
cut_sum p b word n = sum_below n (cut_value p b word)

-- each coefficient is that of the product
pub record IsProduct (a b product : TensorValue) : Type 0 where
  pub same_extent : product.extent ≡ a.extent
  pub products : (word : List ℕ) → IsWord a.extent word → coefficient product word ≡ scaled_product (coefficient a) (coefficient b) word

-- no number on the way to a product in place is greater than a bound: the cut after all letters is there from the start, and the others are added in their order
pub record HasJoinRoom (most : ℕ) (p : ℕ → ℤ) (b : List ℕ → ℤ) (word : List ℕ) : Type 0 where
  pub ways : (i : ℕ) → i < length word → binom (length word) i ≤ most
  pub prefixes : (i : ℕ) → i ≤ length word → unsigned_abs (p i) ≤ most
  pub suffixes : (i : ℕ) → i ≤ length word → unsigned_abs (b (drop i word)) ≤ most
  pub scaled : (i : ℕ) → i < length word → unsigned_abs (pos (binom (length word) i) *ℤ p i) ≤ most
  pub weighted : (i : ℕ) → i < length word → unsigned_abs (cut_value p b word i) ≤ most
  pub summed : (n : ℕ) → n ≤ length word → unsigned_abs (p (length word) +ℤ cut_sum p b word n) ≤ most

-- the words that meet P have the coefficients of the product, and the others are as they were
pub record JoinsAt (P : List ℕ → Type 0) (b : List ℕ → ℤ) (old new : TensorValue) : Type 0 where
  pub same_extent : new.extent ≡ old.extent
  pub products : (word : List ℕ) → IsWord old.extent word → P word → coefficient new word ≡ scaled_product (coefficient old) b word
  pub others : (word : List ℕ) → IsWord old.extent word → ¬ (P word) → coefficient new word ≡ coefficient old word
