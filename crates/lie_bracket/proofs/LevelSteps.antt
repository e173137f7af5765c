-- One word more of a level that is written.
use Rattle.std.proofs.Common.{◌≡◌, ◌≢◌, inl, inr, ℕ, ◌+◌, ◌<◌, ◌^◌, ◌∙◌, sym, ap, subst, arith, ℤ, List, length}
use Rattle.std.proofs.lemmas.Bool.{cases_eq}
use Rattle.definitions.specs.Words.{Extent, IsWord, number}
use Rattle.definitions.proofs.WordLaws.{number-lt, number-injective}
use Rattle.scaled_tensor.specs.Tensors.{TensorValue, coefficient}

-- the words of k letters up to a number have the values of f, those of other lengths what they had
pub record IsWritten (extent : Extent) (k : ℕ) (f : List ℕ → ℤ) (old now : TensorValue) (n : ℕ) : Type 0 where
  -- the extent stays
  pub same_extent : now.extent ≡ extent
  -- the first n words of k letters have what is written
  pub written : (word : List ℕ) → IsWord extent word → length word ≡ k → number extent.width word < n → coefficient now word ≡ f word
  -- words of other lengths are as they were
  pub others : (word : List ℕ) → IsWord extent word → length word ≢ k → coefficient now word ≡ coefficient old word

-- the word of number n is written
pub written-next : (extent : Extent) (k : ℕ) (f : List ℕ → ℤ) (old before now : TensorValue) (n : ℕ) (w : List ℕ) → IsWritten extent k f old before n
    → IsWord extent w → length w ≡ k → number extent.width w ≡ n → coefficient now w ≡ f w → now.extent ≡ before.extent
    → ((word : List ℕ) → IsWord before.extent word → word ≢ w → coefficient now word ≡ coefficient before word) → IsWritten extent k f old now (n + 1)
written-next extent k f old before now n w so_far is_word len num value same rest =
    let kept : (word : List ℕ) → IsWord extent word → word ≢ w → coefficient now word ≡ coefficient before word =
    λ word is apart. rest word (subst (λ (e : Extent). IsWord e word) (sym so_far.same_extent) is) apart in
    record {
      same_extent = same ∙ so_far.same_extent;
      written = λ word is l lt.
          elim (cases_eq (number extent.width word) n) [
            | inl here ↦
                let one : word ≡ w = number-injective extent.width word w is.letters is_word.letters (l ∙ sym len) (here ∙ sym num) in
                ap (coefficient now) one ∙ value ∙ ap f (sym one)
            | inr other ↦ kept word is (λ e. other (ap (number extent.width) e ∙ num)) ∙ so_far.written word is l (omega arith)
          ];
      others = λ word is apart. kept word is (λ e. apart (ap length e ∙ len)) ∙ so_far.others word is apart;
    }

-- each word of k letters has a number below their count
pub within-count : (extent : Extent) (k : ℕ) (word : List ℕ) → IsWord extent word → length word ≡ k → number extent.width word < extent.width ^ k
within-count extent k word is len = subst (λ (n : ℕ). number extent.width word < extent.width ^ n) len (number-lt extent.width word is.letters)
