-- Rows of words of one letter more, one after another.
use Rattle.std.proofs.Common.{◌≡◌, ℕ, zero, suc, ◌+◌, ◌*◌, ◌≤◌, ◌<◌, ◌^◌, refl, sym, ap, ap₂, ◌∙◌, arith, add-one, pos, List, [], ◌∷◌, ◌++◌, length, get_or, take, map}
use Rattle.std.specs.Prelude.{flat_map}
use Rattle.std.proofs.Math.Nat.{pow-suc, mul-le-mul_right}
use Rattle.std.proofs.lemmas.List.{append_assoc, append-nil, map-append, take_more, get_or_append_left, get_or-map, length-append, length-map}
use Rattle.std.proofs.lemmas.Grind.{flat_map-append}
use Rattle.definitions.specs.Words.{Extent, IsShape, shorter, up_to, words_of}
use Rattle.definitions.proofs.WordLaws.{shorter_part}
use Rattle.definitions.proofs.WordLists.{length-words_of}
use Rattle.lie_bracket.specs.declared.term.Term.{Term}
use Rattle.lie_bracket.specs.Tables.{nonzero}
use Rattle.definitions.specs.AllWords.{words_below}
use Rattle.definitions.proofs.AllWords.{length-words_below, words_below-at}
use Rattle.dynkin_map.specs.Table.{row_of}
use Rattle.dynkin_map.proofs.Factors.{length-factors_to}
use Rattle.dynkin_map.proofs.CoordinateSteps.{members_of}

-- one row more
pub row-pushed : (r : List ℕ → List Term) (g : List ℕ → List ℕ) (ws : List (List ℕ)) (i : ℕ) (old rows new : List (List Term)) (z : List Term) → i < length ws → rows ≡ old ++ map r (map g (take i ws))
    → new ≡ rows ++ z ∷ [] → z ≡ r (g (get_or ws i [])) → new ≡ old ++ map r (map g (take (i + 1) ws))
row-pushed r g ws i old rows new z lt er en ez =
    let w : List ℕ = get_or ws i [] in
    en
    ∙ ap₂ (λ (xs : List (List Term)) (y : List Term). xs ++ y ∷ []) er ez
    ∙ append_assoc old (map r (map g (take i ws))) (r (g w) ∷ [])
    ∙ sym (ap (λ (xs : List (List ℕ)). old ++ map r (map g xs)) (take_more ws i [] lt)
    ∙ ap (λ (ys : List (List ℕ)). old ++ map r ys) (map-append g (take i ws) (w ∷ []))
    ∙ ap (λ (zs : List (List Term)). old ++ zs) (map-append r (map g (take i ws)) (g w ∷ [])))

-- the rows of one first letter more
pub letter-pushed : (r : List ℕ → List Term) (f : ℕ → List (List ℕ)) (n : ℕ) (old rows new : List (List Term)) → rows ≡ old ++ map r (flat_map f (up_to n)) → new ≡ rows ++ map r (f (n + 1)) → new ≡ old ++ map r (flat_map f (up_to (n + 1)))
letter-pushed r f n old rows new er en =
    let last : flat_map f (up_to (suc n)) ≡ flat_map f (up_to n) ++ f (suc n) = flat_map-append f (up_to n) (suc n ∷ []) ∙ ap (λ (xs : List (List ℕ)). flat_map f (up_to n) ++ xs) (append-nil (f (suc n))) in
    en
    ∙ ap₂ (λ (xs : List (List Term)) (k : ℕ). xs ++ map r (f k)) er (add-one n)
    ∙ append_assoc old (map r (flat_map f (up_to n))) (map r (f (suc n)))
    ∙ sym (ap (λ (k : ℕ). old ++ map r (flat_map f (up_to k))) (add-one n) ∙ ap (λ (xs : List (List ℕ)). old ++ map r xs) last ∙ ap (λ (ys : List (List Term)). old ++ ys) (map-append r (flat_map f (up_to n)) (f (suc n))))

-- the words that begin with a
abbrev pub words_with : ℕ → ℕ → ℕ → List (List ℕ)
words_with width k a = map (λ word. a ∷ word) (words_of width k)

length-with : (width k : ℕ) (xs : List ℕ) → length (flat_map (words_with width k) xs) ≡ length xs * width ^ k
length-with width k [] = omega arith
length-with width k (x ∷ xs) =
    omega (arith, length-append (words_with width k x) (flat_map (words_with width k) xs), length-map (words_of width k) (λ word. x ∷ word), length-words_of width k, length-with width k xs)

length-up_to : (n : ℕ) → length (up_to n) ≡ n
length-up_to n = sym (length-map (up_to n) (λ (i : ℕ). i)) ∙ length-factors_to (λ i. i) n

length-first : (width k n : ℕ) (r : List ℕ → List Term) → length (map r (flat_map (words_with width k) (up_to n))) ≡ n * width ^ k
length-first width k n r = length-map (flat_map (words_with width k) (up_to n)) r ∙ length-with width k (up_to n) ∙ ap (λ (m : ℕ). m * width ^ k) (length-up_to n)

-- the rows of all words of k letters at most, and those of one letter more for the first letters up to n
pub record AreFirst (extent : Extent) (k n from : ℕ) (old rows : List (List Term)) : Type 0 where
  -- what stood before: all words of k letters at most
  pub old_is : old ≡ map (row_of extent) (words_below extent.width (suc k))
  -- the new rows follow them, a letter 1 .. n before each word of k letters
  pub rows_are : rows ≡ old ++ map (row_of extent) (flat_map (words_with extent.width k) (up_to n))
  -- where the rows of the words of k letters begin
  pub from_is : from ≡ shorter extent.width k

length-old : (extent : Extent) (k n from : ℕ) (old rows : List (List Term)) → AreFirst extent k n from old rows → length old ≡ shorter extent.width k + extent.width ^ k
length-old extent k n from old rows are =
    ap (λ (xs : List (List Term)). length xs) are.old_is ∙ length-map (words_below extent.width (suc k)) (row_of extent) ∙ length-words_below extent.width (suc k)

-- the rows of the words of k letters are there
pub first-inside : (extent : Extent) (k n from : ℕ) (old rows : List (List Term)) → AreFirst extent k n from old rows → from + extent.width ^ k ≤ length rows
first-inside extent k n from old rows are =
    let more : List (List Term) = map (row_of extent) (flat_map (words_with extent.width k) (up_to n)) in
    omega (arith, are.from_is, length-old extent k n from old rows are, ap (λ (xs : List (List Term)). length xs) are.rows_are, length-append old more)

-- there are at most 2000 rows
pub first-short : (extent : Extent) (k n from : ℕ) (old rows : List (List Term)) → IsShape extent → k < extent.depth → n ≤ extent.width → AreFirst extent k n from old rows → length rows ≤ 2000
first-short extent k n from old rows shape deep most are =
    let more : List (List Term) = map (row_of extent) (flat_map (words_with extent.width k) (up_to n)) in
    let room : n * extent.width ^ k ≤ extent.width * extent.width ^ k = mul-le-mul_right (extent.width ^ k) most in
    let next : suc (suc k) ≤ suc extent.depth = omega arith in
    omega (
      arith,
      length-old extent k n from old rows are,
      ap (λ (xs : List (List Term)). length xs) are.rows_are,
      length-append old more,
      length-first extent.width k n (row_of extent),
      room,
      pow-suc extent.width k,
      shorter_part extent.width (suc (suc k)) (suc extent.depth) next,
      shape.within_words,
    )

-- the row that is read is that of the i-th word of k letters
pub first-row : (extent : Extent) (k n from : ℕ) (old rows : List (List Term)) → AreFirst extent k n from old rows → (i : ℕ) → i < extent.width ^ k → get_or rows (from + i) [] ≡ row_of extent (get_or (words_of extent.width k) i [])
first-row extent k n from old rows are i lt =
    let more : List (List Term) = map (row_of extent) (flat_map (words_with extent.width k) (up_to n)) in
    let inside : shorter extent.width k + i < length (words_below extent.width (suc k)) = omega (arith, length-words_below extent.width (suc k)) in
    ap₂ (λ (xs : List (List Term)) (j : ℕ). get_or xs (j + i) []) are.rows_are are.from_is
    ∙ get_or_append_left old more [] (shorter extent.width k + i) (omega (arith, length-old extent k n from old rows are))
    ∙ ap (λ (xs : List (List Term)). get_or xs (shorter extent.width k + i) []) are.old_is
    ∙ get_or-map (row_of extent) (words_below extent.width (suc k)) (shorter extent.width k + i) [] [] inside
    ∙ ap (row_of extent) (words_below-at extent.width k (suc k) i (omega arith) lt)

-- the empty word has no terms
nonzero-nothing : (n : ℕ) → nonzero n (λ h. pos 0) ≡ []
nonzero-nothing zero = refl
nonzero-nothing (suc n) = append-nil (nonzero n (λ h. pos 0)) ∙ nonzero-nothing n

-- the empty word has the first row, which has no terms
pub empty-row : (extent : Extent) (rows : List (List Term)) → rows ≡ [] ∷ [] → rows ≡ map (row_of extent) (words_below extent.width 1)
empty-row extent rows e = e ∙ ap (λ (r : List Term). r ∷ []) (sym (nonzero-nothing (length (members_of extent))))
