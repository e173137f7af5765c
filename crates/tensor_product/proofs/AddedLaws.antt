-- A tensor while multiples of another one are added: word by word in a level, and level by level.
use Rattle.std.proofs.Common.{◌≡◌, ℕ, ◌+◌, ◌≤◌, ◌<◌, ◌^◌, refl, sym, ap, ◌∙◌, subst, arith, List, length, ℤ, ◌+ℤ◌, ◌*ℤ◌, inl, inr}
use Rattle.std.proofs.lemmas.Bool.{cases_lt}
use Rattle.definitions.specs.Words.{Extent, IsWord, number}
use Rattle.definitions.proofs.WordLaws.{number-injective, number-lt}
use Rattle.scaled_tensor.specs.Tensors.{TensorValue, coefficient}
use Rattle.tensor_product.proofs.ExtendLaws.{IsBelow}
use Rattle.tensor_product.specs.Sums.{HasSumRoom, IsAddedAt}

-- nothing is added at no word
pub added-none : (P : List ℕ → Type 0) (c : ℕ → ℤ) (t old : TensorValue) → ((word : List ℕ) → ¬ (P word)) → IsAddedAt P c t old old
added-none P c t old none = record {
  same_extent = refl;
  sums = λ word is_word at. absurd (none word at);
  others = λ word is_word not_at. refl;
}

-- the words that are left have room as at the start
pub room-kept : (P : List ℕ → Type 0) (c : ℕ → ℤ) (t old now : TensorValue) (word : List ℕ) → IsAddedAt P c t old now → IsWord old.extent word → ¬ (P word)
    → HasSumRoom (coefficient old word) (c (length word)) (coefficient t word) → HasSumRoom (coefficient now word) (c (length word)) (coefficient t word)
room-kept P c t old now word progress is_word not_at room =
    subst (λ (z : ℤ). HasSumRoom z (c (length word)) (coefficient t word)) (sym (progress.others word is_word not_at)) room

-- added at the words of k letters with numbers below n, and then at number n, it is added at those below n + 1
pub below-step : (k n : ℕ) (c : ℕ → ℤ) (t old now new : TensorValue) (next : List ℕ) → IsAddedAt (IsBelow old.extent.width k n) c t old now
    → IsAddedAt (λ w. w ≡ next) c t now new → IsWord old.extent next → length next ≡ k → number old.extent.width next ≡ n → IsAddedAt (IsBelow old.extent.width k (n + 1)) c t old new
below-step k n c t old now new next progress step is_next len num =
    let moved : now.extent ≡ old.extent = progress.same_extent in
    record {
      same_extent = step.same_extent ∙ moved;
      sums = λ word is_word at.
          let is_now : IsWord now.extent word = subst (λ (e : Extent). IsWord e word) (sym moved) is_word in
          elim (cases_lt (number old.extent.width word) n) [
            | inl before ↦ step.others word is_now (λ same. omega (arith, before, num, ap (number old.extent.width) same)) ∙ progress.sums word is_word (at.0, before)
            | inr from ↦
                let same : word ≡ next = number-injective old.extent.width word next is_word.letters is_next.letters (at.0 ∙ sym len) (omega (arith, from, num, at.1)) in
                step.sums word is_now same ∙ ap (λ (z : ℤ). z +ℤ (c (length word) *ℤ coefficient t word)) (progress.others word is_word (λ below. omega (arith, below.1, from)))
          ];
      others = λ word is_word not_at.
          let is_now : IsWord now.extent word = subst (λ (e : Extent). IsWord e word) (sym moved) is_word in
          step.others word is_now (λ same. not_at (ap length same ∙ len, omega (arith, num, ap (number old.extent.width) same)))
          ∙ progress.others word is_word (λ at. not_at (at.0, omega (arith, at.1)));
    }

-- where n is past all numbers of the words of k letters, it is added at all these words
pub below-all : (k n : ℕ) (c : ℕ → ℤ) (t old now : TensorValue) → IsAddedAt (IsBelow old.extent.width k n) c t old now → old.extent.width ^ k ≤ n → IsAddedAt (λ w. length w ≡ k) c t old now
below-all k n c t old now progress enough = record {
  same_extent = progress.same_extent;
  sums = λ word is_word at. progress.sums word is_word (at, omega (arith, number-lt old.extent.width word is_word.letters, ap (λ (m : ℕ). old.extent.width ^ m) at));
  others = λ word is_word not_at. progress.others word is_word (λ at. not_at at.0);
}

-- the words of m or more letters, and fewer than k
abbrev pub IsBetween : ℕ → ℕ → List ℕ → Type 0
IsBetween m k word = (m ≤ length word) × (length word < k)

-- added at the words of m to k - 1 letters, and then at those of k, it is added at those of m to k letters
pub level-step : (m k : ℕ) (c : ℕ → ℤ) (t old now new : TensorValue) → m ≤ k → IsAddedAt (IsBetween m k) c t old now
    → IsAddedAt (λ w. length w ≡ k) c t now new → IsAddedAt (IsBetween m (k + 1)) c t old new
level-step m k c t old now new from progress step =
    let moved : now.extent ≡ old.extent = progress.same_extent in
    record {
      same_extent = step.same_extent ∙ moved;
      sums = λ word is_word at.
          let is_now : IsWord now.extent word = subst (λ (e : Extent). IsWord e word) (sym moved) is_word in
          elim (cases_lt (length word) k) [
            | inl before ↦ step.others word is_now (λ same. omega arith) ∙ progress.sums word is_word (at.0, before)
            | inr here ↦
                let same : length word ≡ k = omega (arith, here, at.1) in
                step.sums word is_now same ∙ ap (λ (z : ℤ). z +ℤ (c (length word) *ℤ coefficient t word)) (progress.others word is_word (λ below. omega (arith, below.1, here)))
          ];
      others = λ word is_word not_at.
          let is_now : IsWord now.extent word = subst (λ (e : Extent). IsWord e word) (sym moved) is_word in
          step.others word is_now (λ same. not_at (omega arith, omega arith)) ∙ progress.others word is_word (λ at. not_at (at.0, omega (arith, at.1)));
    }

-- where k is past the depth, it is added at all words of m or more letters
pub levels-all : (m k : ℕ) (c : ℕ → ℤ) (t old now : TensorValue) → old.extent.depth < k → IsAddedAt (IsBetween m k) c t old now → IsAddedAt (λ w. m ≤ length w) c t old now
levels-all m k c t old now deep progress = record {
  same_extent = progress.same_extent;
  sums = λ word is_word at. progress.sums word is_word (at, omega (arith, is_word.short));
  others = λ word is_word not_at. progress.others word is_word (λ at. not_at at.0);
}
