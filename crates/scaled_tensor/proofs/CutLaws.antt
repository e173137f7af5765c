-- The number of a word from those of its parts, and the coefficients of a level by the parts of its words.
use Rattle.std.proofs.Common.{◌≡◌, ◌≢◌, ℕ, zero, suc, ◌+◌, ◌*◌, ◌-◌, ◌≤◌, ◌<◌, ◌^◌, sym, ap, ap₂, ◌∙◌, subst, arith, add-one, List, [], ◌∷◌, length, take, drop, length-take, length-drop, get_or, inl, inr, ◌⊎◌, ℤ, pos, ◌+ℤ◌, ◌*ℤ◌, unsigned_abs}
use Rattle.std.specs.Prelude.{All}
use Rattle.std.proofs.Math.Nat.{mul-le-mul_right}
use Rattle.std.proofs.lemmas.Nat.{same_from_place, pow-add}
use Rattle.std.proofs.lemmas.Bool.{cases_order}
use Rattle.std.proofs.lemmas.List.Elements.{All-drop}
use Rattle.definitions.specs.Words.{IsLetter, IsWord, number, words_of, shorter}
use Rattle.definitions.proofs.WordLaws.{number-lt, letters-take, shorter_part}
use Rattle.definitions.proofs.WordLists.{IsNumbered, word-numbered}
use Rattle.scaled_tensor.specs.Tensors.{TensorValue, IsTensor, coefficient, outer_at, HasOuterRoomWithin}

-- the number of a word by those of its first i letters and of the others
pub number-cut : (width i : ℕ) (word : List ℕ) → i ≤ length word → number width word ≡ number width (take i word) * width ^ (length word - i) + number width (drop i word)
number-cut width zero word h = omega arith
number-cut width (suc i) [] h = absurd (omega arith)
number-cut width (suc i) (a ∷ word) h =
    let count : length (take i word) ≡ i = omega (arith, length-take i word) in
    let less : suc (length word) - suc i ≡ length word - i = omega arith in
    let whole : length word ≡ i + (length word - i) = omega arith in
    let power : width ^ length word ≡ width ^ i * width ^ (length word - i) = ap (λ (n : ℕ). width ^ n) whole ∙ pow-add width i (length word - i) in
    rw (count, less) (omega (arith, number-cut width i word (omega arith), ap (λ (n : ℕ). (a - 1) * n) power))

-- a word of i + j letters, whose parts have the numbers q and r
pub record IsJoined (width i j q r : ℕ) (word : List ℕ) : Type 0 where
  -- its letters are from 1 to the width
  pub letters : All (IsLetter width) word
  -- it has i + j of them
  pub len : length word ≡ i + j
  -- the first i have the number q
  pub head : number width (take i word) ≡ q
  -- the others have the number r
  pub tail : number width (drop i word) ≡ r
  -- the number of the word is q times the count of words of j letters, plus r
  pub whole : number width word ≡ q * width ^ j + r

place-joined : (width i j q r : ℕ) → q < width ^ i → r < width ^ j → q * width ^ j + r < width ^ (i + j)
place-joined width i j q r hq hr =
    let room : suc q * width ^ j ≤ width ^ i * width ^ j = mul-le-mul_right (width ^ j) hq in
    omega (arith, room, pow-add width i j)

-- the word whose parts have two numbers
pub word-joined : (width i j q r : ℕ) → q < width ^ i → r < width ^ j → IsJoined width i j q r (get_or (words_of width (i + j)) (q * width ^ j + r) [])
word-joined width i j q r hq hr =
    let word : List ℕ = get_or (words_of width (i + j)) (q * width ^ j + r) [] in
    let its : IsNumbered width (i + j) (q * width ^ j + r) word = word-numbered width (i + j) (q * width ^ j + r) (place-joined width i j q r hq hr) in
    let rest : length word - i ≡ j = omega (arith, its.len) in
    let cut : number width word ≡ number width (take i word) * width ^ j + number width (drop i word) = subst (λ (n : ℕ). number width word ≡ number width (take i word) * width ^ n + number width (drop i word)) rest (number-cut width i word (omega (arith, its.len))) in
    let dropped : length (drop i word) ≡ j = omega (arith, length-drop i word, its.len) in
    let below : number width (drop i word) < width ^ j = subst (λ (n : ℕ). number width (drop i word) < width ^ n) dropped (number-lt width (drop i word) (All-drop (IsLetter width) i word its.letters)) in
    let parts = same_from_place (number width (take i word)) (number width (drop i word)) q r (width ^ j) below hr (sym cut ∙ its.number_is) in
    record { letters = its.letters; len = its.len; head = parts.0; tail = parts.1; whole = its.number_is }

-- two lists by the parts of the words of k letters, which stand from a place on
pub record IsCut (t : TensorValue) (k i from : ℕ) (left right : List ℤ) : Type 0 where
  -- words of k letters are within the depth
  pub deep : k ≤ t.extent.depth
  -- the left part has no more than these k letters
  pub within : i ≤ k
  -- the place comes after all words of fewer letters
  pub from_is : from ≡ shorter t.extent.width k
  -- the left list has a number for each word of i letters
  pub left_len : length left ≡ t.extent.width ^ i
  -- the right one has a number for each word of k - i letters
  pub right_len : length right ≡ t.extent.width ^ (k - i)

level-size : (t : TensorValue) (k i from : ℕ) (left right : List ℤ) → IsCut t k i from left right → length left * length right ≡ t.extent.width ^ k
level-size t k i from left right cut =
    let whole : i + (k - i) ≡ k = omega (arith, cut.within) in
    ap₂ ◌*◌ cut.left_len cut.right_len ∙ sym (pow-add t.extent.width i (k - i)) ∙ ap (λ (n : ℕ). t.extent.width ^ n) whole

-- the level stands within the coefficients
pub cut-within : (t : TensorValue) (k i from : ℕ) (left right : List ℤ) → IsTensor t → IsCut t k i from left right → from + length left * length right ≤ length t.coefficients
cut-within t k i from left right ok cut =
    omega (arith, level-size t k i from left right cut, cut.from_is, ok.all_words, shorter_part t.extent.width (suc k) (suc t.extent.depth) (omega (arith, cut.deep)))

-- the word whose parts have the numbers q and r
pub record IsAt (t : TensorValue) (k i from q r : ℕ) (left right : List ℤ) (word : List ℕ) : Type 0 where
  -- it is a word of the tensor's extent
  pub is_word : IsWord t.extent word
  -- it has k letters
  pub len : length word ≡ k
  -- from the place on, its coefficient is the one at q times the length of the right list, plus r
  pub value : coefficient t word ≡ get_or t.coefficients (from + (q * length right + r)) (pos 0)
  -- the outer product has the left number at q times the right one at r there
  pub outer : outer_at t.extent.width i left right word ≡ get_or left q (pos 0) *ℤ get_or right r (pos 0)

word-at-cut : (t : TensorValue) (k i from q r : ℕ) (left right : List ℤ) → IsCut t k i from left right → q < length left → r < length right
    → IsAt t k i from q r left right (get_or (words_of t.extent.width (i + (k - i))) (q * t.extent.width ^ (k - i) + r) [])
unfolding coefficient
word-at-cut t k i from q r left right cut hq hr =
    let width : ℕ = t.extent.width in
    let word : List ℕ = get_or (words_of width (i + (k - i))) (q * width ^ (k - i) + r) [] in
    let its : IsJoined width i (k - i) q r word = word-joined width i (k - i) q r (omega (arith, hq, cut.left_len)) (omega (arith, hr, cut.right_len)) in
    let len : length word ≡ k = omega (arith, its.len, cut.within) in
    let place : shorter width (length word) + number width word ≡ from + (q * length right + r) =
    ap₂ (λ (m n : ℕ). shorter width m + n) len its.whole ∙ ap₂ (λ (m n : ℕ). m + (q * n + r)) (sym cut.from_is) (sym cut.right_len) in
    record {
      is_word = record { short = omega (arith, len, cut.deep); letters = its.letters };
      len = len;
      value = ap (λ (n : ℕ). get_or t.coefficients n (pos 0)) place;
      outer = ap₂ (λ (m n : ℕ). get_or left m (pos 0) *ℤ get_or right n (pos 0)) its.head its.tail;
    }

-- each product of the two lists is one at a word
pub cut-multiplied-within : (most : ℕ) (t : TensorValue) (k i from : ℕ) (left right : List ℤ) → IsCut t k i from left right
    → ((word : List ℕ) → IsWord t.extent word → length word ≡ k → HasOuterRoomWithin most t i left right word)
    → (q r : ℕ) → q < length left → r < length right → unsigned_abs (get_or left q (pos 0) *ℤ get_or right r (pos 0)) ≤ most
cut-multiplied-within most t k i from left right cut room q r hq hr =
    let at = word-at-cut t k i from q r left right cut hq hr in
    subst (λ (z : ℤ). unsigned_abs z ≤ most) at.outer (room _ at.is_word at.len).multiplied

-- so is each sum with the coefficient that it is added to
pub cut-added-within : (most : ℕ) (t : TensorValue) (k i from : ℕ) (left right : List ℤ) → IsCut t k i from left right
    → ((word : List ℕ) → IsWord t.extent word → length word ≡ k → HasOuterRoomWithin most t i left right word)
    → (q r : ℕ) → q < length left → r < length right → unsigned_abs (get_or t.coefficients (from + (q * length right + r)) (pos 0) +ℤ get_or left q (pos 0) *ℤ get_or right r (pos 0)) ≤ most
cut-added-within most t k i from left right cut room q r hq hr =
    let at = word-at-cut t k i from q r left right cut hq hr in
    subst (λ (z : ℤ). unsigned_abs z ≤ most) (ap₂ ◌+ℤ◌ at.value at.outer) (room _ at.is_word at.len).added

-- and each coefficient of the level
pub cut-old-within : (most : ℕ) (t : TensorValue) (k i from : ℕ) (left right : List ℤ) → IsCut t k i from left right
    → ((word : List ℕ) → IsWord t.extent word → length word ≡ k → HasOuterRoomWithin most t i left right word)
    → (q r : ℕ) → q < length left → r < length right → unsigned_abs (get_or t.coefficients (from + (q * length right + r)) (pos 0)) ≤ most
cut-old-within most t k i from left right cut room q r hq hr =
    let at = word-at-cut t k i from q r left right cut hq hr in
    subst (λ (z : ℤ). unsigned_abs z ≤ most) at.value (room _ at.is_word at.len).old

-- a tensor with other coefficients
abbrev pub with_all : TensorValue → List ℤ → TensorValue
with_all t xs = record { extent = t.extent; coefficients = xs }

-- what is added to the level, by words
pub cut-written : (t : TensorValue) (k i from : ℕ) (left right new : List ℤ) → IsCut t k i from left right
    → ((q r : ℕ) → q < length left → r < length right → get_or new (from + (q * length right + r)) (pos 0) ≡ get_or t.coefficients (from + (q * length right + r)) (pos 0) +ℤ get_or left q (pos 0) *ℤ get_or right r (pos 0))
    → (word : List ℕ) → IsWord t.extent word → length word ≡ k → coefficient (with_all t new) word ≡ coefficient t word +ℤ outer_at t.extent.width i left right word
unfolding coefficient
cut-written t k i from left right new cut run word is_word len =
    let width : ℕ = t.extent.width in
    let q : ℕ = number width (take i word) in
    let r : ℕ = number width (drop i word) in
    let head : length (take i word) ≡ i = omega (arith, length-take i word, len, cut.within) in
    let tail : length (drop i word) ≡ k - i = omega (arith, length-drop i word, len) in
    let hq : q < width ^ i = subst (λ (n : ℕ). q < width ^ n) head (number-lt width (take i word) (letters-take width i word is_word.letters)) in
    let hr : r < width ^ (k - i) = subst (λ (n : ℕ). r < width ^ n) tail (number-lt width (drop i word) (All-drop (IsLetter width) i word is_word.letters)) in
    let rest : length word - i ≡ k - i = omega (arith, len) in
    let whole : number width word ≡ q * width ^ (k - i) + r = number-cut width i word (omega (arith, len, cut.within)) ∙ ap (λ (n : ℕ). q * width ^ n + r) rest in
    let place : shorter width (length word) + number width word ≡ from + (q * length right + r) =
    ap₂ (λ (m n : ℕ). shorter width m + n) len whole ∙ ap₂ (λ (m n : ℕ). m + (q * n + r)) (sym cut.from_is) (sym cut.right_len) in
    rw place (run q r (omega (arith, hq, cut.left_len)) (omega (arith, hr, cut.right_len)))

-- a word of k letters stands among the numbers of its level
within : (width k : ℕ) (word : List ℕ) → All (IsLetter width) word → length word ≡ k
    → (shorter width k ≤ shorter width (length word) + number width word) × (shorter width (length word) + number width word < shorter width (k + 1))
within width k word letters len =
    let next : shorter width (k + 1) ≡ shorter width k + width ^ k = ap (shorter width) (add-one k) in
    subst (λ (n : ℕ). (shorter width k ≤ shorter width n + number width word) × (shorter width n + number width word < shorter width (k + 1))) (sym len)
    (omega arith, omega (arith, next, subst (λ (n : ℕ). number width word < width ^ n) len (number-lt width word letters)))

-- any other word stands before or after them
apart : (width k : ℕ) (word : List ℕ) → All (IsLetter width) word → length word ≢ k
    → (shorter width (length word) + number width word < shorter width k) ⊎ (shorter width k + width ^ k ≤ shorter width (length word) + number width word)
apart width k word letters differ =
    elim (cases_order (length word) k) [
      | inl same ↦ absurd (differ same)
      | inr rest ↦ elim rest [
        | inl below ↦ inl (omega (arith, number-lt width word letters, shorter_part width (suc (length word)) k below))
        | inr above ↦ inr (omega (arith, shorter_part width (suc k) (length word) above))
      ]
    ]

-- words of other lengths are as they were
pub cut-others : (t : TensorValue) (k i from : ℕ) (left right new : List ℤ) → IsCut t k i from left right
    → ((n : ℕ) → (n < from) ⊎ (from + length left * length right ≤ n) → get_or new n (pos 0) ≡ get_or t.coefficients n (pos 0))
    → (word : List ℕ) → IsWord t.extent word → length word ≢ k → coefficient (with_all t new) word ≡ coefficient t word
unfolding coefficient
cut-others t k i from left right new cut others word is_word differ =
    others (shorter t.extent.width (length word) + number t.extent.width word)
    (elim (apart t.extent.width k word is_word.letters differ) [
      | inl below ↦ inl (omega (arith, below, cut.from_is))
      | inr above ↦ inr (omega (arith, above, cut.from_is, level-size t k i from left right cut))
    ])

-- the numbers of a level end within the list
pub level-ends : (t : TensorValue) (k to : ℕ) → IsTensor t → k ≤ t.extent.depth → to ≡ shorter t.extent.width (k + 1) → to ≤ length t.coefficients
level-ends t k to ok deep is_to = omega (arith, is_to, ok.all_words, shorter_part t.extent.width (k + 1) (suc t.extent.depth) (omega (arith, deep)))

-- the words of a level that was cleared have 0
pub level-cleared : (t : TensorValue) (k from to : ℕ) (new : List ℤ) → from ≡ shorter t.extent.width k → to ≡ shorter t.extent.width (k + 1)
    → ((i : ℕ) → from ≤ i → i < to → get_or new i (pos 0) ≡ pos 0)
    → (word : List ℕ) → IsWord t.extent word → length word ≡ k → coefficient (with_all t new) word ≡ pos 0
unfolding coefficient
level-cleared t k from to new is_from is_to zeros word is_word len =
    let at = within t.extent.width k word is_word.letters len in
    zeros (shorter t.extent.width (length word) + number t.extent.width word) (omega (arith, at.0, is_from)) (omega (arith, at.1, is_to))

-- and the others are as they were
pub level-kept : (t : TensorValue) (k from to : ℕ) (new : List ℤ) → from ≡ shorter t.extent.width k → to ≡ shorter t.extent.width (k + 1)
    → ((i : ℕ) → (i < from) ⊎ (to ≤ i) → get_or new i (pos 0) ≡ get_or t.coefficients i (pos 0))
    → (word : List ℕ) → IsWord t.extent word → length word ≢ k → coefficient (with_all t new) word ≡ coefficient t word
unfolding coefficient
level-kept t k from to new is_from is_to kept word is_word differ =
    let next : shorter t.extent.width (k + 1) ≡ shorter t.extent.width k + t.extent.width ^ k = ap (shorter t.extent.width) (add-one k) in
    kept (shorter t.extent.width (length word) + number t.extent.width word)
    (elim (apart t.extent.width k word is_word.letters differ) [
      | inl below ↦ inl (omega (arith, below, is_from))
      | inr above ↦ inr (omega (arith, above, is_to, next))
    ])
