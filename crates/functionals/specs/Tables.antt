-- A number for each word of an extent, in the order of the words.
use Rattle.std.specs.Prelude.{◌≡◌, ℕ, ◌+◌, ◌≤◌, List, length, slice_index_or, All, ℤ, pos, ◌+ℤ◌, unsigned_abs}
use Rattle.definitions.specs.Words.{Extent, IsShape, IsWord, IsLetter, shorter, number}
use Rattle.definitions.specs.Signature.{limit}
use Rattle.functionals.specs.declared.term.WordTerm.{WordTerm}
use Rattle.scaled_tensor.specs.Tensors.{place}
use Rattle.functionals.specs.Functionals.{coefficient_at}

-- the numbers are the sums of the coefficients
pub record IsTableOf (extent : Extent) (sums : List ℤ) (terms : List WordTerm) : Type 0 where
  pub at : (word : List ℕ) → IsWord extent word → slice_index_or sums (place extent word) (pos 0) ≡ coefficient_at terms word

-- the coefficients of these terms are added, each to the number of its word
pub record IsAdded (extent : Extent) (old new : List ℤ) (terms : List WordTerm) : Type 0 where
  pub same_length : length new ≡ length old
  pub added : (word : List ℕ) → IsWord extent word → slice_index_or new (place extent word) (pos 0) ≡ slice_index_or old (place extent word) (pos 0) +ℤ coefficient_at terms word

-- each number may grow by this much
pub record HasRoom (extent : Extent) (sums : List ℤ) (size : ℕ) : Type 0 where
  pub at : (word : List ℕ) → IsWord extent word → unsigned_abs (slice_index_or sums (place extent word) (pos 0)) + size ≤ limit

-- the letters before the last ones, so many, of a word: their number among the words of their length is this index, and the words of all these letters start at this place
pub record IsPrefix (extent : Extent) (start index last : ℕ) (prefix : List ℕ) : Type 0 where
  pub shape : IsShape extent
  pub letters : All (IsLetter extent.width) prefix
  pub short : length prefix + last ≤ extent.depth
  pub index_is : number extent.width prefix ≡ index
  pub start_is : start ≡ shorter extent.width (length prefix + last)

-- a term of a functional
pub record IsTerm (extent : Extent) (t : WordTerm) : Type 0 where
  pub word : IsWord extent t.word
  pub fits : unsigned_abs t.coefficient ≤ limit
