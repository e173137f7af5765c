-- The list of all words of one length, by their numbers.
use Rattle.std.proofs.Common.{◌≡◌, ℕ, zero, suc, ◌+◌, ◌*◌, ◌-◌, ◌/◌, ◌%◌, ◌<◌, ◌^◌, refl, sym, ap, ◌∙◌, subst, arith, List, [], ◌∷◌, length, get_or, length-append, inl, inr}
use Rattle.std.specs.Prelude.{All, map, flat_map}
use Rattle.std.proofs.Math.Nat.{pow-suc, pow-zero, eq-or-lt_of_le, div-lt_iff_lt-mul, div-add-mod'}
use Rattle.std.proofs.Math.Seq.{get_or-append_seam}
use Rattle.std.proofs.lemmas.List.{length-map, get_or_append_left, get_or-append-add, get_or-map}
use Rattle.std.proofs.lemmas.List.Elements.{All-cons, All-nil}
use Rattle.definitions.proofs.WordLaws.{number-injective}
use Rattle.definitions.specs.Words.{IsLetter, number, up_to, words_of}

length-up_to : (n : ℕ) → length (up_to n) ≡ n
length-up_to zero = refl
length-up_to (suc n) = omega (arith, length-up_to n, length-append (up_to n) (suc n ∷ []))

up_to-at : (n i : ℕ) → i < n → get_or (up_to n) i 0 ≡ suc i
up_to-at zero i h = absurd (omega arith)
up_to-at (suc n) i h =
    elim (eq-or-lt_of_le h) [
      | inl e ↦ let same : i ≡ length (up_to n) = omega (arith, length-up_to n) in rw same (get_or-append_seam (up_to n) (suc n) [] 0 ∙ omega (arith, length-up_to n))
      | inr l ↦ get_or_append_left (up_to n) (suc n ∷ []) 0 i (omega (arith, length-up_to n)) ∙ up_to-at n i (omega arith)
    ]

-- blocks of n elements each
length-blocks : {A : Type 0} (f : ℕ → List A) (xs : List ℕ) (n : ℕ) → ((x : ℕ) → length (f x) ≡ n) → length (flat_map f xs) ≡ length xs * n
length-blocks f [] n each = omega arith
length-blocks f (x ∷ xs) n each = omega (arith, length-append (f x) (flat_map f xs), each x, length-blocks f xs n each)

-- in joined lists of n elements each, the j-th element of the i-th list
block-at : {A : Type 0} (f : ℕ → List A) (xs : List ℕ) (n i j : ℕ) (d : A) → ((x : ℕ) → length (f x) ≡ n) → i < length xs → j < n
    → get_or (flat_map f xs) (i * n + j) d ≡ get_or (f (get_or xs i 0)) j d
block-at f [] n i j d each h g = absurd (omega arith)
block-at f (x ∷ xs) n zero j d each h g =
    let e : 0 * n + j ≡ j = omega arith in
    rw e (get_or_append_left (f x) (flat_map f xs) d j (omega (arith, each x)))
block-at f (x ∷ xs) n (suc i) j d each h g =
    let e : suc i * n + j ≡ length (f x) + (i * n + j) = omega (arith, each x) in
    rw e (get_or-append-add (f x) (flat_map f xs) (i * n + j) d ∙ block-at f xs n i j d each (omega arith) g)

-- there are width ^ k words of k letters
pub length-words_of : (width k : ℕ) → length (words_of width k) ≡ width ^ k
length-words_of width zero = omega (arith, pow-zero width)
length-words_of width (suc k) =
    length-blocks (λ a. map (λ word. a ∷ word) (words_of width k)) (up_to width) (width ^ k) (λ a. length-map (words_of width k) (λ word. a ∷ word) ∙ length-words_of width k)
    ∙ ap (λ (n : ℕ). n * width ^ k) (length-up_to width) ∙ omega (arith, pow-suc width k)

-- the word of k letters with the number i
pub record IsNumbered (width k i : ℕ) (word : List ℕ) : Type 0 where
  -- it is made of the letters 1 .. width
  pub letters : All (IsLetter width) word
  -- it has k letters
  pub len : length word ≡ k
  -- its number among the words of its length is i
  pub number_is : number width word ≡ i

numbered-cons : (width k q r : ℕ) (word : List ℕ) → q < width → IsNumbered width k r word → IsNumbered width (suc k) (q * width ^ k + r) (suc q ∷ word)
numbered-cons width k q r word h is = record {
  letters = All-cons (IsLetter width) (suc q) word (omega arith, omega arith) is.letters;
  len = omega (arith, is.len);
  number_is = rw is.len (let e : suc q - 1 ≡ q = omega arith in omega (arith, is.number_is, ap (λ (n : ℕ). n * width ^ k) e));
}

-- the word of its first letter's place and the number of its other letters
pub word-at : (width k q r : ℕ) → q < width → r < width ^ k → get_or (words_of width (suc k)) (q * width ^ k + r) [] ≡ suc q ∷ get_or (words_of width k) r []
word-at width k q r h g =
    block-at (λ a. map (λ word. a ∷ word) (words_of width k)) (up_to width) (width ^ k) q r [] (λ a. length-map (words_of width k) (λ word. a ∷ word) ∙ length-words_of width k) (omega (arith, length-up_to width)) g
    ∙ get_or-map (λ word. get_or (up_to width) q 0 ∷ word) (words_of width k) r [] [] (omega (arith, length-words_of width k))
    ∙ ap (λ (a : ℕ). a ∷ get_or (words_of width k) r []) (up_to-at width q h)

some-factor : (m n i : ℕ) → i < m * n → 0 < n
some-factor m zero i h = absurd (omega arith)
some-factor m (suc n) i h = omega arith

-- the words stand in the order of their numbers
pub word-numbered : (width k i : ℕ) → i < width ^ k → IsNumbered width k i (get_or (words_of width k) i [])
word-numbered width zero i h =
    let e : i ≡ 0 = omega (arith, pow-zero width) in
    rw e (record { letters = All-nil (IsLetter width); len = refl; number_is = refl })
word-numbered width (suc k) i h =
    let within : i < width * width ^ k = omega (arith, pow-suc width k) in
    let some : 0 < width ^ k = some-factor width (width ^ k) i within in
    let q : i / width ^ k < width = (div-lt_iff_lt-mul {k = width ^ k} {x = i} {y = width} some).1 within in
    let r : i % width ^ k < width ^ k = omega arith in
    subst (λ (x : ℕ). IsNumbered width (suc k) x (get_or (words_of width (suc k)) x [])) (div-add-mod' i (width ^ k))
    (rw (word-at width k (i / width ^ k) (i % width ^ k) q r)
    (numbered-cons width k (i / width ^ k) (i % width ^ k) _ q (word-numbered width k (i % width ^ k) r)))

-- the word of that number is the only one
pub word-of-number : (width k i : ℕ) (word : List ℕ) → i < width ^ k → IsNumbered width k i word → get_or (words_of width k) i [] ≡ word
word-of-number width k i word h is =
    let its : IsNumbered width k i (get_or (words_of width k) i []) = word-numbered width k i h in
    number-injective width _ word its.letters is.letters (its.len ∙ sym is.len) (its.number_is ∙ sym is.number_is)
