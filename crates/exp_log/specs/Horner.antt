-- The logarithm's sum from its last power to the first, by Horner's rule.
use Rattle.std.specs.Prelude.{◌≡◌, ℕ, suc, ◌+◌, ◌-◌, ◌≤◌, ◌<◌, List, length, take, drop, ℤ, pos, ◌*ℤ◌, unsigned_abs}
use Rattle.definitions.specs.Words.{Extent, IsWord, binom}
use Rattle.definitions.specs.Sums.{sum_below}
use Rattle.definitions.specs.Logarithm.{power}
use Rattle.scaled_tensor.specs.Tensors.{TensorValue, coefficient}
use Rattle.tensor_product.specs.Multiplication.{cut_value, cut_sum}
use Rattle.exp_log.specs.Powers.{log_factor}

-- the powers of m and more parts in the logarithm at k letters, m parts taken from each
unfoldable pub tail_from : (List ℕ → ℤ) → ℕ → ℕ → List ℕ → ℤ
tail_from s k m word = sum_below (suc (k - m)) (λ i. log_factor (m + i) k *ℤ power s i word)

-- the coefficients of the words that the tail from m on is needed at
pub record IsTail (s : List ℕ → ℤ) (k m : ℕ) (t : TensorValue) : Type 0 where
  pub values : (word : List ℕ) → IsWord t.extent word → length word ≤ k - m → coefficient t word ≡ tail_from s k m word

-- no number on the way to the product of two series at a word, without the cut after all letters, is greater than a bound
pub record HasStepRoom (most : ℕ) (a b : List ℕ → ℤ) (word : List ℕ) : Type 0 where
  pub ways : (i : ℕ) → i < length word → binom (length word) i ≤ most
  pub prefixes : (i : ℕ) → i < length word → unsigned_abs (a (take i word)) ≤ most
  pub suffixes : (i : ℕ) → i ≤ length word → unsigned_abs (b (drop i word)) ≤ most
  pub scaled : (i : ℕ) → i < length word → unsigned_abs (pos (binom (length word) i) *ℤ a (take i word)) ≤ most
  pub weighted : (i : ℕ) → i < length word → unsigned_abs (cut_value (λ j. a (take j word)) b word i) ≤ most
  pub summed : (n : ℕ) → n ≤ length word → unsigned_abs (cut_sum (λ j. a (take j word)) b word n) ≤ most

-- nor is any number on the way to the logarithm at the words of k letters
pub record HasLogRoom (most : ℕ) (extent : Extent) (s : List ℕ → ℤ) (k : ℕ) : Type 0 where
  pub steps : (m : ℕ) → 1 ≤ m → m ≤ k → (word : List ℕ) → IsWord extent word → length word + m ≤ k + 1 → HasStepRoom most (tail_from s k m) s word
