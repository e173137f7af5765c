-- The sums of the prefixes of the words of one length, by the numbers of the prefixes, and the coefficients that they give.
use Rattle.std.proofs.Common.{◌≡◌, ◌≢◌, ℕ, zero, suc, ◌+◌, ◌*◌, ◌-◌, ◌≤◌, ◌<◌, ◌^◌, refl, sym, ap, ap₂, ◌∙◌, subst, arith, add-one, List, [], ◌∷◌, ◌++◌, length, take, drop, length-take, take_all, get_or, ℤ, pos, ◌+ℤ◌, ◌*ℤ◌, unsigned_abs, inl, inr}
use Rattle.std.specs.Prelude.{All}
use Rattle.std.proofs.Math.Nat.{pow-suc, pow-zero, one-le-pow, mul-le-mul_right, mul-le-mul_left, pow-le-pow_right, pow-le-pow_left, le_trans}
use Rattle.std.proofs.lemmas.Nat.{same_from_place}
use Rattle.std.proofs.lemmas.Bool.{cases_lt}
use Rattle.std.proofs.lemmas.List.{take_more, drop_all, get_or-take}
use Rattle.std.proofs.Math.Seq.{drop-cons}
use Rattle.std.proofs.lemmas.Int.{ints}
use Rattle.definitions.proofs.Integers.{one-mul_ℤ}
use Rattle.definitions.specs.Words.{Extent, IsShape, IsLetter, IsWord, number, words_of, binom}
use Rattle.definitions.specs.Moves.{along, greatest}
use Rattle.definitions.proofs.WordLaws.{number-lt, number-push, letters-take}
use Rattle.definitions.proofs.Binomials.{binom-all}
use Rattle.scaled_tensor.specs.Tensors.{TensorValue, coefficient, outer_at, HasOuterRoomWithin}
use Rattle.scaled_tensor.proofs.CutLaws.{IsJoined, word-joined}
use Rattle.tensor_product.proofs.ExtendLaws.{word-take}
use Rattle.tensor_product.specs.Extension.{partial_sum, entry_after, HasRoomWithin, prefixes_of, ExtendsAt}
use Rattle.tensor_product.proofs.PartialSums.{partial_sum-next, partial_sum-none, partial_sum-all, partial_sum-same, grown-is, term-last, factors}
use Rattle.definitions.proofs.ProductBounds.{term-bound, sum-bound}

-- the number of a prefix from that of the one before and the next letter
pub record IsPushed (width j : ℕ) (word : List ℕ) : Type 0 where
  -- it is the number before times the width, plus the place of the letter
  pub number_is : number width (take (suc j) word) ≡ number width (take j word) * width + (get_or word j 0 - 1)
  -- the place of this letter is below the width
  pub letter : get_or word j 0 - 1 < width

-- a word of one letter more
pub pushed : (width j : ℕ) (word : List ℕ) → All (IsLetter width) word → j < length word → IsPushed width j word
pushed width j word letters here =
    let letter : IsLetter width (get_or word j 0) = letters j 0 here in
    let more : take (suc j) word ≡ take j word ++ get_or word j 0 ∷ [] = ap (λ (n : ℕ). take n word) (sym (add-one j)) ∙ take_more word j 0 here in
    record {
      number_is = omega (arith, ap (number width) more, number-push width (take j word) (get_or word j 0));
      letter = omega (arith, letter);
    }

-- the sums of the prefixes of j letters, by their numbers
pub record AreSums (t : TensorValue) (x : List ℤ) (k j : ℕ) (sums : List ℤ) : Type 0 where
  -- at the number of the first j letters of each word of k stands the partial sum of these j
  pub sums_are : (word : List ℕ) → IsWord t.extent word → length word ≡ k → get_or sums (number t.extent.width (take j word)) (pos 0) ≡ partial_sum (prefixes_of t word) x word j

-- a word of k letters whose first j have the number q, and whose next letter is the one of place a
pub record IsPrefixed (t : TensorValue) (k j q a : ℕ) (word : List ℕ) : Type 0 where
  -- it is a word of the tensor's extent
  pub is_word : IsWord t.extent word
  -- it has k letters
  pub len : length word ≡ k
  -- the first j have the number q
  pub head : number t.extent.width (take j word) ≡ q
  -- the next one has the place a
  pub next : get_or word j 0 - 1 ≡ a
  -- the first j + 1 have the number q times the width, and a
  pub longer : number t.extent.width (take (suc j) word) ≡ q * t.extent.width + a

-- the word whose prefix has one number and whose next letter another one
pub some-word : (t : TensorValue) (k j q a : ℕ) → 1 ≤ t.extent.width → k ≤ t.extent.depth → j < k → q < t.extent.width ^ j → a < t.extent.width
    → IsPrefixed t k j q a (get_or (words_of t.extent.width (suc j + (k - suc j))) ((q * t.extent.width + a) * t.extent.width ^ (k - suc j) + 0) [])
some-word t k j q a some deep here hq ha =
    let width : ℕ = t.extent.width in
    let word : List ℕ = get_or (words_of width (suc j + (k - suc j))) ((q * width + a) * width ^ (k - suc j) + 0) [] in
    let room : suc q * width ≤ width ^ j * width = mul-le-mul_right width hq in
    let below : q * width + a < width ^ suc j = omega (arith, room, pow-suc width j) in
    let its : IsJoined width (suc j) (k - suc j) (q * width + a) 0 word = word-joined width (suc j) (k - suc j) (q * width + a) 0 below (one-le-pow (k - suc j) width some) in
    let len : length word ≡ k = omega (arith, its.len) in
    let push : IsPushed width j word = pushed width j word its.letters (omega (arith, len)) in
    let parts = same_from_place (number width (take j word)) (get_or word j 0 - 1) q a width push.letter ha (sym push.number_is ∙ its.head) in
    record {
      is_word = record { short = omega (arith, len); letters = its.letters };
      len = len;
      head = parts.0;
      next = parts.1;
      longer = its.head;
    }

-- what the level of the tensor with one letter more has
pub record IsLevel (t : TensorValue) (j : ℕ) (level : List ℤ) : Type 0 where
  -- it has a number for each word of j letters
  pub len : length level ≡ t.extent.width ^ j
  -- this is the coefficient of the word
  pub values : (word : List ℕ) → IsWord t.extent word → length word ≡ j → get_or level (number t.extent.width word) (pos 0) ≡ coefficient t word

-- what a level has at a prefix
level-prefix : (t : TensorValue) (k j : ℕ) (level : List ℤ) (word : List ℕ) → IsLevel t (suc j) level → j < k → IsWord t.extent word → length word ≡ k
    → get_or level (number t.extent.width (take (suc j) word)) (pos 0) ≡ prefixes_of t word (suc j)
level-prefix t k j level word its here is_word len = its.values (take (suc j) word) (word-take t.extent (suc j) word is_word) (omega (arith, length-take (suc j) word, len))

-- the sum of one letter more, from the numbers that the code has
next-is : (t : TensorValue) (x : List ℤ) (k j ways : ℕ) (word : List ℕ) (sum entry prefix : ℤ) → length word ≡ k → j < k
    → sum ≡ partial_sum (prefixes_of t word) x word j → entry ≡ entry_after x word j → ways ≡ binom k (suc j) → prefix ≡ prefixes_of t word (suc j)
    → sum *ℤ entry +ℤ pos ways *ℤ prefix ≡ partial_sum (prefixes_of t word) x word (suc j)
next-is t x k j ways word sum entry prefix len here es ee ew ep =
    partial_sum-next (prefixes_of t word) x word j sum entry prefix ways (omega (arith, len)) es ee
    (ew ∙ ap₂ binom (sym len) (sym (add-one j))) (ep ∙ ap (prefixes_of t word) (sym (add-one j)))
    ∙ ap (partial_sum (prefixes_of t word) x word) (add-one j)

-- no sum is greater than the bound
pub sums-within : (most : ℕ) (t : TensorValue) (k j count : ℕ) (x sums : List ℤ) → 1 ≤ t.extent.width → k ≤ t.extent.depth → j < k → count ≡ t.extent.width ^ j
    → AreSums t x k j sums → ((word : List ℕ) → IsWord t.extent word → length word ≡ k → HasRoomWithin most (prefixes_of t word) x word)
    → (q : ℕ) → q < count → unsigned_abs (get_or sums q (pos 0)) ≤ most
sums-within most t k j count x sums some deep here ec are room q hq =
    let w = some-word t k j q 0 some deep here (omega (arith, hq, ec)) some in
    let es : get_or sums q (pos 0) ≡ partial_sum (prefixes_of t _) x _ j = ap (λ (n : ℕ). get_or sums n (pos 0)) (sym w.head) ∙ are.sums_are _ w.is_word w.len in
    subst (λ (z : ℤ). unsigned_abs z ≤ most) (sym es) ((room _ w.is_word w.len).summed j (omega (arith, w.len)))

-- no number on the way is greater than the bound
pub record HasGrowRoom (most : ℕ) (t : TensorValue) (count ways : ℕ) (x sums level : List ℤ) : Type 0 where
  -- the binomial is at most the bound
  pub ways_in : ways ≤ most
  -- so is each sum
  pub sums_in : (q : ℕ) → q < count → unsigned_abs (get_or sums q (pos 0)) ≤ most
  -- so is each coefficient of a prefix of one letter more
  pub prefixes : (q a : ℕ) → q < count → a < length x → unsigned_abs (get_or level (q * length x + a) (pos 0)) ≤ most
  -- so is each sum times an entry
  pub grown : (q a : ℕ) → q < count → a < length x → unsigned_abs (get_or sums q (pos 0) *ℤ get_or x a (pos 0)) ≤ most
  -- so is the binomial times each of these coefficients
  pub added : (q a : ℕ) → q < count → a < length x → unsigned_abs (pos ways *ℤ get_or level (q * length x + a) (pos 0)) ≤ most
  -- so is each sum of these two products
  pub summed : (q a : ℕ) → q < count → a < length x → unsigned_abs (get_or sums q (pos 0) *ℤ get_or x a (pos 0) +ℤ pos ways *ℤ get_or level (q * length x + a) (pos 0)) ≤ most

-- no number on the way to the sums of one letter more is greater than the bound
pub grow-room : (most : ℕ) (t : TensorValue) (k j count ways : ℕ) (x sums level : List ℤ) → 1 ≤ t.extent.width → k ≤ t.extent.depth → suc j < k → length x ≡ t.extent.width → count ≡ t.extent.width ^ j
    → ways ≡ binom k (suc j) → IsLevel t (suc j) level → AreSums t x k j sums → ((word : List ℕ) → IsWord t.extent word → length word ≡ k → HasRoomWithin most (prefixes_of t word) x word)
    → HasGrowRoom most t count ways x sums level
grow-room most t k j count ways x sums level some deep here ex ec ew its are room = record {
  ways_in =
      let w = some-word t k j 0 0 some deep (omega arith) (one-le-pow j t.extent.width some) some in
      subst (λ (n : ℕ). n ≤ most) (sym (ew ∙ ap (λ (n : ℕ). binom n (suc j)) (sym w.len))) ((room _ w.is_word w.len).ways j (omega (arith, w.len)));
  sums_in = sums-within most t k j count x sums some deep (omega arith) ec are room;
  prefixes = λ q a hq ha.
      let w = some-word t k j q a some deep (omega arith) (omega (arith, hq, ec)) (omega (arith, ha, ex)) in
      let el : get_or level (q * length x + a) (pos 0) ≡ prefixes_of t _ (suc j) =
      ap (λ (n : ℕ). get_or level n (pos 0)) (ap (λ (n : ℕ). q * n + a) ex ∙ sym w.longer) ∙ level-prefix t k j level _ its (omega arith) w.is_word w.len in
      subst (λ (z : ℤ). unsigned_abs z ≤ most) (sym el) ((room _ w.is_word w.len).prefixes (suc j) (omega (arith, w.len)));
  grown = λ q a hq ha.
      let w = some-word t k j q a some deep (omega arith) (omega (arith, hq, ec)) (omega (arith, ha, ex)) in
      let es : get_or sums q (pos 0) ≡ partial_sum (prefixes_of t _) x _ j = ap (λ (n : ℕ). get_or sums n (pos 0)) (sym w.head) ∙ are.sums_are _ w.is_word w.len in
      subst (λ (z : ℤ). unsigned_abs z ≤ most) (ap₂ (λ (y : ℤ) (n : ℕ). y *ℤ get_or x n (pos 0)) (sym es) w.next) ((room _ w.is_word w.len).grown j (omega (arith, w.len)));
  added = λ q a hq ha.
      let w = some-word t k j q a some deep (omega arith) (omega (arith, hq, ec)) (omega (arith, ha, ex)) in
      let el : get_or level (q * length x + a) (pos 0) ≡ prefixes_of t _ (suc j) =
      ap (λ (n : ℕ). get_or level n (pos 0)) (ap (λ (n : ℕ). q * n + a) ex ∙ sym w.longer) ∙ level-prefix t k j level _ its (omega arith) w.is_word w.len in
      let ways_are : ways ≡ binom (length _) (suc j) = ew ∙ ap (λ (n : ℕ). binom n (suc j)) (sym w.len) in
      subst (λ (z : ℤ). unsigned_abs z ≤ most) (ap₂ (λ (n : ℕ) (z : ℤ). pos n *ℤ z) (sym ways_are) (sym el)) ((room _ w.is_word w.len).added j (omega (arith, w.len)));
  summed = λ q a hq ha.
      let w = some-word t k j q a some deep (omega arith) (omega (arith, hq, ec)) (omega (arith, ha, ex)) in
      let es : get_or sums q (pos 0) ≡ partial_sum (prefixes_of t _) x _ j = ap (λ (n : ℕ). get_or sums n (pos 0)) (sym w.head) ∙ are.sums_are _ w.is_word w.len in
      let el : get_or level (q * length x + a) (pos 0) ≡ prefixes_of t _ (suc j) =
      ap (λ (n : ℕ). get_or level n (pos 0)) (ap (λ (n : ℕ). q * n + a) ex ∙ sym w.longer) ∙ level-prefix t k j level _ its (omega arith) w.is_word w.len in
      subst (λ (z : ℤ). unsigned_abs z ≤ most) (sym (next-is t x k j ways _ _ _ _ w.len (omega arith) es (ap (λ (n : ℕ). get_or x n (pos 0)) (sym w.next)) ew el))
      ((room _ w.is_word w.len).summed (suc j) (omega (arith, w.len)));
}

-- they are the partial sums of one letter more
pub sums-grown : (t : TensorValue) (k j count ways : ℕ) (x sums level new : List ℤ) → suc j < k → length x ≡ t.extent.width → count ≡ t.extent.width ^ j
    → ways ≡ binom k (suc j) → IsLevel t (suc j) level → AreSums t x k j sums
    → ((q a : ℕ) → q < count → a < length x → get_or new (q * length x + a) (pos 0) ≡ get_or sums q (pos 0) *ℤ get_or x a (pos 0) +ℤ pos ways *ℤ get_or level (q * length x + a) (pos 0))
    → AreSums t x k (suc j) new
sums-grown t k j count ways x sums level new here ex ec ew its are run = record {
  sums_are = λ word is_word len.
      let width : ℕ = t.extent.width in
      let push : IsPushed width j word = pushed width j word is_word.letters (omega (arith, len)) in
      let q : ℕ = number width (take j word) in
      let a : ℕ = get_or word j 0 - 1 in
      let head : length (take j word) ≡ j = omega (arith, length-take j word, len) in
      let hq : q < width ^ j = subst (λ (n : ℕ). q < width ^ n) head (number-lt width (take j word) (letters-take width j word is_word.letters)) in
      let place : number width (take (suc j) word) ≡ q * length x + a = push.number_is ∙ ap (λ (n : ℕ). q * n + a) (sym ex) in
      let el : get_or level (q * length x + a) (pos 0) ≡ prefixes_of t word (suc j) = ap (λ (n : ℕ). get_or level n (pos 0)) (sym place) ∙ level-prefix t k j level word its (omega arith) is_word len in
      ap (λ (n : ℕ). get_or new n (pos 0)) place ∙ run q a (omega (arith, hq, ec)) (omega (arith, push.letter, ex))
      ∙ next-is t x k j ways word _ _ _ len (omega arith) (are.sums_are word is_word len) refl ew el;
}

-- the sum of no letters
pub sums-none : (t : TensorValue) (k : ℕ) (x sums : List ℤ) → get_or sums 0 (pos 0) ≡ coefficient t [] → AreSums t x k 0 sums
sums-none t k x sums e = record { sums_are = λ word is_word len. e ∙ sym (partial_sum-none (prefixes_of t word) x word) }

-- the part of the scratch that is filled has the same sums
pub sums-part : (t : TensorValue) (k j count : ℕ) (x sums : List ℤ) → j ≤ k → count ≡ t.extent.width ^ j → AreSums t x k j sums → AreSums t x k j (take count sums)
sums-part t k j count x sums h ec are = record {
  sums_are = λ word is_word len.
      let head : length (take j word) ≡ j = omega (arith, length-take j word, len) in
      let below : number t.extent.width (take j word) < t.extent.width ^ j = subst (λ (n : ℕ). number t.extent.width (take j word) < t.extent.width ^ n) head (number-lt t.extent.width (take j word) (letters-take t.extent.width j word is_word.letters)) in
      get_or-take count sums (number t.extent.width (take j word)) (pos 0) (omega (arith, below, ec)) ∙ are.sums_are word is_word len;
}

-- the last letter of a word
last-letter : (width j : ℕ) (word : List ℕ) → length word ≡ suc j → number width (drop j word) ≡ get_or word j 0 - 1
last-letter width j word len =
    let none : drop (suc j) word ≡ [] = drop_all (suc j) word (omega (arith, len)) in
    let one : drop j word ≡ get_or word j 0 ∷ [] = drop-cons word j 0 (omega (arith, len)) ∙ ap (λ (w : List ℕ). get_or word j 0 ∷ w) none in
    ap (number width) one ∙ simp (pow-zero, number) (omega arith)

outer-is : (t : TensorValue) (k j : ℕ) (x sums : List ℤ) (word : List ℕ) → k ≡ suc j → AreSums t x k j sums → IsWord t.extent word → length word ≡ k
    → outer_at t.extent.width j sums x word ≡ partial_sum (prefixes_of t word) x word j *ℤ entry_after x word j
outer-is t k j x sums word ek are is_word len =
    ap₂ (λ (z : ℤ) (n : ℕ). z *ℤ get_or x n (pos 0)) (are.sums_are word is_word len) (last-letter t.extent.width j word (len ∙ ek))

added-is : (t : TensorValue) (k j : ℕ) (x sums : List ℤ) (word : List ℕ) → k ≡ suc j → AreSums t x k j sums → IsWord t.extent word → length word ≡ k
    → coefficient t word +ℤ outer_at t.extent.width j sums x word ≡ partial_sum (prefixes_of t word) x word (suc j)
added-is t k j x sums word ek are is_word len =
    let p : ℕ → ℤ = prefixes_of t word in
    let whole : coefficient t word ≡ p (suc j) = ap (coefficient t) (sym (take_all (suc j) word (omega (arith, len, ek)))) in
    let one : 1 ≡ binom k (suc j) = sym (binom-all k) ∙ ap (binom k) ek in
    let next : partial_sum p x word j *ℤ entry_after x word j +ℤ pos 1 *ℤ coefficient t word ≡ partial_sum p x word (suc j) = next-is t x k j 1 word _ _ _ len (omega arith) refl refl one whole in
    omega (arith, ints, outer-is t k j x sums word ek are is_word len, next, one-mul_ℤ (coefficient t word))

-- for the last letter the outer product can be added to the coefficients
pub last-room : (most : ℕ) (t : TensorValue) (k j : ℕ) (x sums : List ℤ) → k ≡ suc j → AreSums t x k j sums → ((word : List ℕ) → IsWord t.extent word → length word ≡ k → HasRoomWithin most (prefixes_of t word) x word)
    → (word : List ℕ) → IsWord t.extent word → length word ≡ k → HasOuterRoomWithin most t j sums x word
last-room most t k j x sums ek are room word is_word len = record {
  old = subst (λ (z : ℤ). unsigned_abs z ≤ most) (ap (coefficient t) (take_all (suc j) word (omega (arith, len, ek)))) ((room word is_word len).prefixes (suc j) (omega (arith, len, ek)));
  multiplied = subst (λ (z : ℤ). unsigned_abs z ≤ most) (sym (outer-is t k j x sums word ek are is_word len)) ((room word is_word len).grown j (omega (arith, len, ek)));
  added = subst (λ (z : ℤ). unsigned_abs z ≤ most) (sym (added-is t k j x sums word ek are is_word len)) ((room word is_word len).summed (suc j) (omega (arith, len, ek)));
}

-- with it the level is that of the product by the step
pub last-level : (t new : TensorValue) (k j : ℕ) (x sums : List ℤ) → k ≡ suc j → AreSums t x k j sums → new.extent ≡ t.extent
    → ((word : List ℕ) → IsWord t.extent word → length word ≡ k → coefficient new word ≡ coefficient t word +ℤ outer_at t.extent.width j sums x word)
    → ((word : List ℕ) → IsWord t.extent word → length word ≢ k → coefficient new word ≡ coefficient t word)
    → ExtendsAt (λ w. length w ≡ k) x t new
last-level t new k j x sums ek are same added others = record {
  same_extent = same;
  products = λ word is_word len.
      added word is_word len ∙ added-is t k j x sums word ek are is_word len
      ∙ ap (partial_sum (prefixes_of t word) x word) (sym (len ∙ ek)) ∙ partial_sum-all (coefficient t) x word;
  others = others;
}

-- the sums of one letter more have room in the scratch
pub grow-within : (t : TensorValue) (k j count size : ℕ) (x : List ℤ) → 1 ≤ t.extent.width → suc j < k → length x ≡ t.extent.width → count ≡ t.extent.width ^ j → t.extent.width ^ (k - 1) ≤ size
    → count * length x ≤ size
grow-within t k j count size x some here ex ec room =
    le_trans (subst (λ (n : ℕ). n ≤ t.extent.width ^ (k - 1)) (pow-suc t.extent.width j ∙ ap₂ ◌*◌ (sym ec) (sym ex)) (pow-le-pow_right some (omega arith))) room

-- a level of the tensor while longer words are written
pub level-is : (t : TensorValue) (j : ℕ) (level : List ℤ) → length level ≡ t.extent.width ^ (j + 1)
    → ((word : List ℕ) → IsWord t.extent word → length word ≡ j + 1 → get_or level (number t.extent.width word) (pos 0) ≡ coefficient t word) → IsLevel t (suc j) level
level-is t j level len values = record {
  len = len ∙ ap (λ (n : ℕ). t.extent.width ^ n) (add-one j);
  values = λ word is_word h. values word is_word (h ∙ sym (add-one j));
}

-- a power that is past the number of words
few-at : (a n depth : ℕ) → 1 ≤ a → a ^ depth ≤ 2000 → 2000 < a ^ suc n → a ^ (depth - 1) ≤ a ^ (n - 1)
few-at a n depth some few past =
    elim (cases_lt n depth) [
      | inl beyond ↦ absurd (omega (arith, pow-le-pow_right {n = a} some beyond))
      | inr upto ↦ pow-le-pow_right some (omega arith)
    ]

-- no level but the longest has more words
few-words : (width depth : ℕ) → 1 ≤ width → 1 ≤ depth → depth ≤ 8 → width ^ depth ≤ 2000 → width ^ (depth - 1) ≤ 256
few-words width depth some deep within few =
    elim (cases_lt 7 width) [
      | inl wide ↦
          let one_less : depth ≡ suc (depth - 1) = omega arith in
          let whole : width ^ depth ≡ width ^ (depth - 1) * width = ap (λ (n : ℕ). width ^ n) one_less ∙ pow-suc width (depth - 1) in
          omega (arith, whole, mul-le-mul_left (width ^ (depth - 1)) wide)
      | inr upto ↦ elim (cases_lt width 3) [
        | inl thin ↦
            let base : width ≤ 2 = omega arith in
            let short : depth - 1 ≤ 7 = omega arith in
            let two : width ^ (depth - 1) ≤ 2 ^ (depth - 1) = pow-le-pow_left base (depth - 1) in
            let seven : 2 ^ (depth - 1) ≤ 2 ^ 7 = pow-le-pow_right (let h : 1 ≤ 2 = omega arith in h) short in
            omega (arith, two, seven)
        | inr from3 ↦ elim (cases_lt width 4) [
          | inl upto3 ↦ let e : width ≡ 3 = omega arith in rw e (le_trans (few-at 3 6 depth (omega arith) (rw e at few) (omega arith)) (omega arith))
          | inr from4 ↦ elim (cases_lt width 5) [
            | inl upto4 ↦ let e : width ≡ 4 = omega arith in rw e (le_trans (few-at 4 5 depth (omega arith) (rw e at few) (omega arith)) (omega arith))
            | inr from5 ↦ elim (cases_lt width 6) [
              | inl upto5 ↦ let e : width ≡ 5 = omega arith in rw e (le_trans (few-at 5 4 depth (omega arith) (rw e at few) (omega arith)) (omega arith))
              | inr from6 ↦ elim (cases_lt width 7) [
                | inl upto6 ↦ let e : width ≡ 6 = omega arith in rw e (le_trans (few-at 6 4 depth (omega arith) (rw e at few) (omega arith)) (omega arith))
                | inr from7 ↦ let e : width ≡ 7 = omega arith in rw e (le_trans (few-at 7 3 depth (omega arith) (rw e at few) (omega arith)) (omega arith))
              ]
            ]
          ]
        ]
      ]
    ]

-- no level but the longest has more than 256 words
pub few-prefixes : (extent : Extent) → IsShape extent → extent.width ^ (extent.depth - 1) ≤ 256
few-prefixes extent shape = few-words extent.width extent.depth shape.some_width shape.some_depth shape.within_depth (omega (arith, shape.within_words))

-- fewer letters have no more words
pub fewer-words : (width j k : ℕ) → 1 ≤ width → j ≤ k → width ^ j ≤ width ^ k
fewer-words width j k some h = pow-le-pow_right some h

-- prefixes with the same coefficients leave the same room
pub HasRoomWithin-same : (most : ℕ) (p q : ℕ → ℤ) (x : List ℤ) (word : List ℕ) → ((i : ℕ) → i ≤ length word → p i ≡ q i) → HasRoomWithin most p x word → HasRoomWithin most q x word
HasRoomWithin-same most p q x word same room = record {
  ways = room.ways;
  prefixes = λ i h. subst (λ (z : ℤ). unsigned_abs z ≤ most) (same i h) (room.prefixes i h);
  grown = λ j h. subst (λ (z : ℤ). unsigned_abs (z *ℤ entry_after x word j) ≤ most) (partial_sum-same p q x word j (λ i l. same i (omega arith))) (room.grown j h);
  added = λ j h. subst (λ (z : ℤ). unsigned_abs (pos (binom (length word) (suc j)) *ℤ z) ≤ most) (same (suc j) (omega arith)) (room.added j h);
  summed = λ j h. subst (λ (z : ℤ). unsigned_abs z ≤ most) (partial_sum-same p q x word j (λ i l. same i (omega arith))) (room.summed j h);
}

-- a binomial is at most the power of 2
pub binom-small : (n k : ℕ) → binom n k ≤ 2 ^ n
binom-small n zero = one-le-pow n 2 (let h : 1 ≤ 2 = omega arith in h)
binom-small zero (suc k) = omega arith
binom-small (suc n) (suc k) = omega (arith, binom-small n k, binom-small n (suc k), pow-suc 2 n)

-- no binomial of a word is greater than 2 ^ 8
pub ways-small : (most n k : ℕ) → n ≤ 8 → 256 ≤ most → binom n k ≤ most
ways-small most n k h room =
    let small : 2 ^ n ≤ 2 ^ 8 = pow-le-pow_right (let l : 1 ≤ 2 = omega arith in l) h in
    omega (arith, binom-small n k, small)

-- weights whose sum is within a bound leave room within it
pub room-within : (most : ℕ) (p : ℕ → ℤ) (x : List ℤ) (word : List ℕ) (v : ℕ) → length word ≤ 8 → 256 ≤ most → 1 ≤ greatest x → ((i : ℕ) → i ≤ length word → unsigned_abs (p i) ≤ v ^ i)
    → (v + greatest x) ^ length word ≤ most → HasRoomWithin most p x word
unfolding partial_sum
room-within most p x word v short room some bounds fits = record {
  ways = λ j h. ways-small most (length word) (suc j) short room;
  prefixes = λ i h.
      let wider : v ≤ v + greatest x = omega arith in
      let one : 1 ≤ v + greatest x = omega (arith, some) in
      let up : v ^ i ≤ (v + greatest x) ^ i = pow-le-pow_left wider i in
      let longer : (v + greatest x) ^ i ≤ (v + greatest x) ^ length word = pow-le-pow_right one h in
      omega (arith, bounds i h, up, longer, fits);
  grown = λ j h.
      subst (λ (z : ℤ). unsigned_abs z ≤ most) (sym (grown-is p x word j h))
      (le_trans (sum-bound v (greatest x) (length word) (suc j) p (λ i. along x (drop i (take (suc j) word))) (factors p x word v (suc j) some (omega arith) bounds) (omega arith)) fits);
  added = λ j h.
      subst (λ (z : ℤ). unsigned_abs z ≤ most) (term-last p x word (suc j) (omega arith))
      (le_trans (term-bound v (greatest x) (length word) (suc j) p (λ i. along x (drop i (take (suc j) word))) (factors p x word v (suc j) some (omega arith) bounds) (omega arith)) fits);
  summed = λ j h.
      le_trans (sum-bound v (greatest x) (length word) (suc j) p (λ i. along x (drop i (take j word))) (factors p x word v j some h bounds) (omega arith)) fits;
}

-- an entry is at most the greatest
pub entry-within : (x : List ℤ) (a : ℕ) → a < length x → unsigned_abs (get_or x a (pos 0)) ≤ greatest x
entry-within [] a h = absurd (omega arith)
entry-within (y ∷ x) zero h = omega arith
entry-within (y ∷ x) (suc a) h = omega (arith, entry-within x a (omega arith))
