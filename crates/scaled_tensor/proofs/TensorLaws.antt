-- What reads and writes do to the coefficients by word.
use Rattle.std.proofs.Common.{◌≡◌, ◌≢◌, ℕ, zero, suc, ◌+◌, ◌-◌, ◌≤◌, ◌<◌, ◌^◌, refl, ap, ◌∙◌, arith, List, [], ◌∷◌, ◌++◌, length, take, drop, get_or, set, replicate, ℤ, pos, to_z, of_z, to_z-of_z, unsigned_abs, get_or-set_same, get_or-set_other}
use Rattle.std.specs.Prelude.{All}
use Rattle.std.proofs.lemmas.List.{get_or_default, get_or-replicate, get_or-take, get_or-drop}
use Rattle.std.proofs.lemmas.Int.{fits_signed_from_abs}
use Rattle.std.proofs.Math.Nat.{pow-zero}
use Rattle.std.proofs.lemmas.List.{length-replicate, replicate_more}
use Rattle.std.proofs.lemmas.List.Elements.{All-cons, All-replicate}
use mir.Syntax.{w128}
use Rattle.definitions.specs.Words.{IsShape, IsWord, shorter, number}
use Rattle.definitions.specs.Products.{unit}
use Rattle.definitions.specs.Signature.{limit}
use Rattle.definitions.proofs.WordLaws.{place-lt, place-injective, shorter_part, number-lt}
use Rattle.scaled_tensor.specs.Tensors.{TensorValue, IsTensor, place, coefficient}

-- a number in range is the same in 128 bits
pub in_range_kept : (z : ℤ) → unsigned_abs z ≤ limit → to_z w128 (of_z w128 z) ≡ z
in_range_kept z h = to_z-of_z (fits_signed_from_abs w128 z (omega arith))

-- the place of a word is one of the coefficients'
pub place-within : (t : TensorValue) (word : List ℕ) → IsTensor t → IsWord t.extent word → place t.extent word < length t.coefficients
place-within t word ok is_word =
    omega (arith, place-lt t.extent.width t.extent.depth word is_word.letters is_word.short, ok.all_words)

-- what is read at the place of a word, in 128 bits, is its coefficient
pub read-is : (t : TensorValue) (word : List ℕ) (n : ℕ) (z : ℤ) → IsTensor t → IsWord t.extent word → n ≡ place t.extent word
    → z ≡ get_or t.coefficients n z → to_z w128 (of_z w128 z) ≡ coefficient t word
unfolding coefficient
read-is t word n z ok is_word e read =
    let here : n < length t.coefficients = omega (arith, e, place-within t word ok is_word) in
    let small : unsigned_abs (get_or t.coefficients n z) ≤ limit = ok.in_range n z here in
    let small' : unsigned_abs z ≤ limit = rw (← read) at small in
    in_range_kept z small' ∙ read ∙ get_or_default t.coefficients n z (pos 0) here ∙ ap (λ (i : ℕ). get_or t.coefficients i (pos 0)) e

-- the tensor after a write
abbrev pub rewritten : TensorValue → ℕ → ℤ → TensorValue
rewritten t n z = record { extent = t.extent; coefficients = set t.coefficients n z }

-- the word at whose place a number is written has this number
pub rewritten-same : (t : TensorValue) (word : List ℕ) (n : ℕ) (z : ℤ) → IsTensor t → IsWord t.extent word → n ≡ place t.extent word → coefficient (rewritten t n z) word ≡ z
unfolding coefficient
rewritten-same t word n z ok is_word e =
    let here : n < length t.coefficients = omega (arith, e, place-within t word ok is_word) in
    rw (← e) (get_or-set_same t.coefficients n z (pos 0) here)

-- any other word has the coefficient that it had
pub rewritten-other : (t : TensorValue) (word other : List ℕ) (n : ℕ) (z : ℤ) → IsWord t.extent word → IsWord t.extent other → n ≡ place t.extent word → other ≢ word
    → coefficient (rewritten t n z) other ≡ coefficient t other
unfolding coefficient
rewritten-other t word other n z is_word is_other e apart =
    get_or-set_other t.coefficients n (place t.extent other) z (pos 0)
    (λ same. apart (place-injective t.extent.width other word is_other.letters is_word.letters (same ∙ e)))

-- the coefficients of the unit
abbrev pub one_and_zeros : ℕ → List ℤ
one_and_zeros n = pos 1 ∷ replicate (n - 1) (pos 0)

-- 1 and zeros, one number for each word, are the coefficients of a tensor
pub unit-IsTensor : (t : TensorValue) (n : ℕ) → IsShape t.extent → 1 ≤ n → n ≡ shorter t.extent.width (suc t.extent.depth) → t.coefficients ≡ one_and_zeros n → IsTensor t
unit-IsTensor t n shape some e items =
    let zeros : All (λ z. unsigned_abs z ≤ limit) (replicate (n - 1) (pos 0)) = All-replicate (λ z. unsigned_abs z ≤ limit) (n - 1) (pos 0) (omega arith) in
    let all : All (λ z. unsigned_abs z ≤ limit) (one_and_zeros n) = All-cons (λ z. unsigned_abs z ≤ limit) (pos 1) (replicate (n - 1) (pos 0)) (omega arith) zeros in
    record {
      shape = shape;
      all_words = rw items (omega (arith, e, length-replicate (n - 1) (pos 0)));
      in_range = rw items all;
    }

later : (n i : ℕ) → 1 ≤ i → i < suc n → get_or (pos 1 ∷ replicate n (pos 0)) i (pos 0) ≡ pos 0
later n zero some h = absurd (omega arith)
later n (suc i) some h = get_or-replicate n i (pos 0) (pos 0) (omega arith)

-- they are the coefficients of the series of 1
pub unit-coefficient : (t : TensorValue) (n : ℕ) (word : List ℕ) → 1 ≤ n → n ≡ shorter t.extent.width (suc t.extent.depth) → t.coefficients ≡ one_and_zeros n → IsWord t.extent word → coefficient t word ≡ unit word
unfolding coefficient
unit-coefficient t n [] some e items is_word = rw items refl
unit-coefficient t n (a ∷ word) some e items is_word =
    let low : place t.extent (a ∷ word) < n = omega (arith, e, place-lt t.extent.width t.extent.depth (a ∷ word) is_word.letters is_word.short) in
    let first : 1 ≤ place t.extent (a ∷ word) = omega (arith, shorter_part t.extent.width 1 (suc (length word)) (omega arith), pow-zero t.extent.width) in
    rw items (later (n - 1) (place t.extent (a ∷ word)) first (omega arith))

-- the words of k letters, cut out
pub level-is : (t : TensorValue) (word : List ℕ) (k from to : ℕ) → IsWord t.extent word → length word ≡ k → from ≡ shorter t.extent.width k → to ≡ shorter t.extent.width (suc k)
    → get_or (take (to - from) (drop from t.coefficients)) (number t.extent.width word) (pos 0) ≡ coefficient t word
unfolding coefficient
level-is t word k from to is_word len ef et =
    let below : number t.extent.width word < to - from = omega (arith, ef, et, number-lt t.extent.width word is_word.letters, ap (λ (n : ℕ). t.extent.width ^ n) len) in
    let at : from + number t.extent.width word ≡ place t.extent word = omega (arith, ef, ap (shorter t.extent.width) len) in
    get_or-take (to - from) (drop from t.coefficients) (number t.extent.width word) (pos 0) below ∙ get_or-drop from t.coefficients (number t.extent.width word) (pos 0) ∙ ap (λ (n : ℕ). get_or t.coefficients n (pos 0)) at

-- 1 and zeros with another 0 at the end are 1 and zeros, one number more
pub one-more : (i : ℕ) (old new : List ℤ) → 1 ≤ i → old ≡ one_and_zeros i → new ≡ old ++ pos 0 ∷ [] → new ≡ one_and_zeros (i + 1)
one-more i old new some e f =
    let next : i - 1 + 1 ≡ i + 1 - 1 = omega arith in
    f ∙ ap (λ (xs : List ℤ). xs ++ pos 0 ∷ []) e ∙ ap (λ (xs : List ℤ). pos 1 ∷ xs) (replicate_more (i - 1) (pos 0)) ∙ ap (λ (n : ℕ). pos 1 ∷ replicate n (pos 0)) next

-- a tensor of zeros is 0 at each word
pub zero-coefficient : (t : TensorValue) (n : ℕ) (word : List ℕ) → n ≡ shorter t.extent.width (suc t.extent.depth) → t.coefficients ≡ replicate n (pos 0) → IsWord t.extent word → coefficient t word ≡ pos 0
unfolding coefficient
zero-coefficient t n word e items is_word =
    rw items (get_or-replicate n (place t.extent word) (pos 0) (pos 0) (omega (arith, e, place-lt t.extent.width t.extent.depth word is_word.letters is_word.short)))

-- tensors are equal where their parts are
pub same-parts : (s t : TensorValue) → s.extent.width ≡ t.extent.width → s.extent.depth ≡ t.extent.depth → s.coefficients ≡ t.coefficients → s ≡ t
same-parts s t width depth coefficients =
    ap (λ (n : ℕ). record { extent = record { width = n; depth = s.extent.depth }; coefficients = s.coefficients }) width
    ∙ ap (λ (n : ℕ). record { extent = record { width = t.extent.width; depth = n }; coefficients = s.coefficients }) depth
    ∙ ap (λ (xs : List ℤ). record { extent = t.extent; coefficients = xs }) coefficients
