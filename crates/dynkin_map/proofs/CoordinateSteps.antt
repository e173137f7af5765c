-- The coordinates of a logarithm, summed up level by level.
use Rattle.std.proofs.Common.{◌≡◌, ◌≢◌, inl, inr, ℕ, suc, ◌+◌, ◌*◌, ◌-◌, ◌≤◌, ◌<◌, ◌^◌, sym, ap, ap₂, ◌∙◌, subst, arith, ℤ, pos, ◌+ℤ◌, ◌*ℤ◌, unsigned_abs, List, [], length, get_or, ltb, cond, map}
use Rattle.std.specs.Prelude.{All, Bool}
use Rattle.std.proofs.Math.IntN.{*ℤ-zero}
use Rattle.std.proofs.lemmas.Int.{ints}
use Rattle.std.proofs.lemmas.Bool.{cases_eq, lt-ltb, le-ltb, cases_order}
use Rattle.std.proofs.lemmas.List.{get_or-map, length-map}
use Rattle.definitions.specs.Words.{Extent, IsShape, IsWord, IsLetter, number, shorter, words_of}
use Rattle.definitions.specs.Sums.{sum_below, count_below}
use Rattle.definitions.specs.Signature.{limit, Fits}
use Rattle.definitions.specs.Logarithm.{log_bound}
use Rattle.definitions.specs.Commutators.{sum_words}
use Rattle.definitions.proofs.SumLaws.{sum_below-same, sum_below-zero, count_below-same, count_below-mul}
use Rattle.definitions.proofs.WordLists.{IsNumbered, word-numbered}
use Rattle.definitions.proofs.WordLaws.{shorter_part}
use Rattle.definitions.specs.Hall.{InHall, hall_list, degree}
use Rattle.definitions.specs.declared.member.Member.{Member}
use Rattle.hall_set.proofs.GrownLists.{hall_list-IsHall}
use Rattle.scaled_tensor.specs.Tensors.{TensorValue}
use Rattle.scaled_tensor.specs.Tensors.{coefficient as at_word}
use Rattle.scaled_tensor.specs.LogTensors.{LogTensorValue, IsLogTensor}
use Rattle.lie_bracket.specs.declared.term.Term.{Term}
use Rattle.lie_bracket.specs.Brackets.{coefficient, bracket}
use Rattle.lie_bracket.specs.Entries.{size_at, Numbers}
use Rattle.lie_bracket.specs.Tables.{nonzero}
use Rattle.lie_bracket.proofs.NonzeroLaws.{coefficient-nonzero, size_at-nonzero, nonzero-Numbers, nonzero-same}
use Rattle.dynkin_map.specs.Coordinates.{image, coordinate, coordinates, lie_bounds}
use Rattle.definitions.specs.AllWords.{words_below}
use Rattle.definitions.proofs.AllWords.{length-words_below, words_below-at}
use Rattle.dynkin_map.specs.Table.{row_of, growth_of}
use Rattle.lie_bracket.proofs.TableSteps.{coefficient-other}
use Rattle.dynkin_map.proofs.CoordinateLaws.{image-terms}
use Rattle.dynkin_map.proofs.Letters.{hall_list-HasLetters}
use Rattle.dynkin_map.proofs.WordSums.{sum_words-numbered}
use Rattle.dynkin_map.proofs.GrowthBounds.{weighted-growth}
use Rattle.dynkin_map.proofs.Factors.{fits-growth}

-- ---- the rows by the places of their words
-- the images of all words of a shape, by length and then in lexicographic order
abbrev pub rows_of : Extent → List (List Term)
rows_of extent = map (row_of extent) (words_below extent.width (suc extent.depth))

-- as many as the shape has words
pub length-rows_of : (extent : Extent) → length (rows_of extent) ≡ shorter extent.width (suc extent.depth)
length-rows_of extent = length-map (words_below extent.width (suc extent.depth)) (row_of extent) ∙ length-words_below extent.width (suc extent.depth)

-- the row of the i-th word of k letters
pub row-of-word : (extent : Extent) (k i : ℕ) → k ≤ extent.depth → i < extent.width ^ k → get_or (rows_of extent) (shorter extent.width k + i) [] ≡ row_of extent (get_or (words_of extent.width k) i [])
row-of-word extent k i le within =
    get_or-map (row_of extent) (words_below extent.width (suc extent.depth)) (shorter extent.width k + i) [] [] (omega (arith, length-words_below extent.width (suc extent.depth), shorter_part extent.width (suc k) (suc extent.depth) (omega arith)))
    ∙ ap (row_of extent) (words_below-at extent.width k (suc extent.depth) i (omega arith) within)

-- the Hall list of a shape
abbrev pub members_of : Extent → List Member
members_of extent = hall_list extent.width extent.depth

-- the coefficient of the member h in the image of a word
abbrev pub at_image : Extent → ℕ → List ℕ → ℤ
at_image extent h u = coefficient h (image (bracket extent.depth (members_of extent)) u)

row-coefficient : (extent : Extent) (h : ℕ) (u : List ℕ) → InHall (members_of extent) h → coefficient h (row_of extent u) ≡ at_image extent h u
row-coefficient extent h u inside = coefficient-nonzero (length (members_of extent)) (λ j. at_image extent j u) h inside.least inside.most

row-size : (extent : Extent) (h : ℕ) (u : List ℕ) → InHall (members_of extent) h → size_at h (row_of extent u) ≡ unsigned_abs (at_image extent h u)
row-size extent h u inside = size_at-nonzero (length (members_of extent)) (λ j. at_image extent j u) h inside.least inside.most

-- the numbers of a row are those of members
pub row-Numbers : (extent : Extent) (u : List ℕ) → Numbers (length (members_of extent)) (row_of extent u)
row-Numbers extent u = nonzero-Numbers (length (members_of extent)) (λ j. at_image extent j u)

-- a word has members of its degree alone
pub image-other : (extent : Extent) (h : ℕ) (u : List ℕ) → 1 ≤ extent.depth → All (IsLetter extent.width) u → degree (members_of extent) h ≢ length u → at_image extent h u ≡ pos 0
image-other extent h u some letters other =
    coefficient-other h (members_of extent) (length u) (image (bracket extent.depth (members_of extent)) u)
    (image-terms extent.width extent.depth (members_of extent) (hall_list-IsHall extent.width extent.depth some) (hall_list-HasLetters extent.width extent.depth) u letters) other

-- ---- what a level adds
-- the i-th word of k letters
abbrev pub word_at : Extent → ℕ → ℕ → List ℕ
word_at extent k i = get_or (words_of extent.width k) i []

-- words of other lengths have nothing at the member
other-word : (extent : Extent) (h k i : ℕ) → 1 ≤ extent.depth → i < extent.width ^ k → degree (members_of extent) h ≢ k → at_image extent h (word_at extent k i) ≡ pos 0
other-word extent h k i some within other =
    let its : IsNumbered extent.width k i (word_at extent k i) = word-numbered extent.width k i within in
    image-other extent h (word_at extent k i) some its.letters (λ e. other (e ∙ its.len))

-- the coordinate of a series at the member h
abbrev pub coordinate_of : Extent → (List ℕ → ℤ) → ℕ → ℤ
coordinate_of extent series h = coordinate extent.width extent.depth (members_of extent) series h

-- the level of the member's degree adds its coordinate
level-own : (extent : Extent) (series : List ℕ → ℤ) (h k : ℕ) → degree (members_of extent) h ≡ k
    → sum_below (extent.width ^ k) (λ i. series (word_at extent k i) *ℤ at_image extent h (word_at extent k i)) ≡ coordinate_of extent series h
unfolding coordinate
level-own extent series h k e =
    sym (sum_words-numbered extent.width k (λ u. series u *ℤ at_image extent h u))
    ∙ ap (λ (n : ℕ). sum_words extent.width n (λ u. series u *ℤ at_image extent h u)) (sym e)

-- another level adds nothing
level-other : (extent : Extent) (series : List ℕ → ℤ) (h k : ℕ) → 1 ≤ extent.depth → degree (members_of extent) h ≢ k
    → sum_below (extent.width ^ k) (λ i. series (word_at extent k i) *ℤ at_image extent h (word_at extent k i)) ≡ pos 0
level-other extent series h k some other =
    sum_below-zero (extent.width ^ k) (λ i. series (word_at extent k i) *ℤ at_image extent h (word_at extent k i))
    (λ i l. ap (λ (z : ℤ). series (word_at extent k i) *ℤ z) (other-word extent h k i some l other) ∙ *ℤ-zero (series (word_at extent k i)))

-- the coordinates of the degrees below k
abbrev pub so_far : Extent → (List ℕ → ℤ) → ℕ → ℕ → ℤ
so_far extent series k h = cond (ltb (degree (members_of extent) h) k) (coordinate_of extent series h) (pos 0)

so_far-below : (extent : Extent) (series : List ℕ → ℤ) (k h : ℕ) → degree (members_of extent) h < k → so_far extent series k h ≡ coordinate_of extent series h
so_far-below extent series k h lt = ap (λ (b : Bool). cond b (coordinate_of extent series h) (pos 0)) (lt-ltb (degree (members_of extent) h) k lt)

so_far-past : (extent : Extent) (series : List ℕ → ℤ) (k h : ℕ) → k ≤ degree (members_of extent) h → so_far extent series k h ≡ pos 0
so_far-past extent series k h le = ap (λ (b : Bool). cond b (coordinate_of extent series h) (pos 0)) (le-ltb (degree (members_of extent) h) k le)

so_far-next : (extent : Extent) (series : List ℕ → ℤ) (k h : ℕ) → 1 ≤ extent.depth
    → so_far extent series k h +ℤ sum_below (extent.width ^ k) (λ i. series (word_at extent k i) *ℤ at_image extent h (word_at extent k i)) ≡ so_far extent series (suc k) h
so_far-next extent series k h some =
    elim (cases_order (degree (members_of extent) h) k) [
      | inl same ↦
          ap₂ ◌+ℤ◌ (so_far-past extent series k h (omega arith)) (level-own extent series h k same)
          ∙ (λ (z : ℤ). let e : pos 0 +ℤ z ≡ z = omega (arith, ints) in e) (coordinate_of extent series h)
          ∙ sym (so_far-below extent series (suc k) h (omega arith))
      | inr other ↦ elim other [
        | inl below ↦
            ap₂ ◌+ℤ◌ (so_far-below extent series k h below) (level-other extent series h k some (λ e. omega arith))
            ∙ (λ (z : ℤ). let e : z +ℤ pos 0 ≡ z = omega (arith, ints) in e) (coordinate_of extent series h)
            ∙ sym (so_far-below extent series (suc k) h (omega arith))
        | inr above ↦
            ap₂ ◌+ℤ◌ (so_far-past extent series k h (omega arith)) (level-other extent series h k some (λ e. omega arith))
            ∙ sym (so_far-past extent series (suc k) h above)
      ]
    ]

-- ---- the room for a level
nothing-below : (n : ℕ) (f : ℕ → ℕ) → ((i : ℕ) → i < n → f i ≡ 0) → count_below n f ≡ 0
nothing-below n f none = count_below-same n f (λ i. 0 * f i) (λ i l. omega (arith, none i l)) ∙ count_below-mul n 0 f ∙ (let e : 0 * count_below n f ≡ 0 = omega arith in e)

-- the level of k letters can be added to a coordinate, whatever its signs, where the weight fits
pub level-room : (p : LogTensorValue) (k h : ℕ) (now : ℤ) → IsShape p.tensor.extent → IsLogTensor p → Fits (lie_bounds p.tensor.extent) p.weight → k ≤ p.tensor.extent.depth → InHall (members_of p.tensor.extent) h
    → now ≡ so_far p.tensor.extent (at_word p.tensor) k h → unsigned_abs now ≤ limit
    → unsigned_abs now + count_below (p.tensor.extent.width ^ k) (λ i. unsigned_abs (at_word p.tensor (word_at p.tensor.extent k i)) * unsigned_abs (at_image p.tensor.extent h (word_at p.tensor.extent k i))) ≤ limit
level-room p k h now shape log fits le inside e range =
    let extent : Extent = p.tensor.extent in
    let series : List ℕ → ℤ = at_word p.tensor in
    elim (cases_eq (degree (members_of extent) h) k) [
      | inl own ↦
          let least : 1 ≤ k = omega (arith, own, (hall_list-IsHall extent.width extent.depth shape.some_depth).positive h inside) in
          let none : now ≡ pos 0 = e ∙ so_far-past extent series k h (omega arith) in
          let within : (i : ℕ) → i < extent.width ^ k → unsigned_abs (series (word_at extent k i)) ≤ p.weight ^ k * log_bound k =
          (λ i l.
          let its : IsNumbered extent.width k i (word_at extent k i) = word-numbered extent.width k i l in
          omega (arith, log.bounded (word_at extent k i) (record { short = omega (arith, its.len, le); letters = its.letters }), ap (λ (n : ℕ). p.weight ^ n * log_bound n) its.len)) in
          let most : count_below (extent.width ^ k) (λ i. unsigned_abs (series (word_at extent k i)) * unsigned_abs (at_image extent h (word_at extent k i))) ≤ p.weight ^ k * log_bound k * growth_of extent k =
          subst (λ (n : ℕ). ((i : ℕ) → i < extent.width ^ n → unsigned_abs (series (word_at extent n i)) ≤ p.weight ^ k * log_bound k) → count_below (extent.width ^ n) (λ i. unsigned_abs (series (word_at extent n i)) * unsigned_abs (at_image extent h (word_at extent n i))) ≤ p.weight ^ k * log_bound k * growth_of extent n) own
          (λ bounded. weighted-growth extent.width extent.depth (members_of extent) h (p.weight ^ k * log_bound k) (λ i. unsigned_abs (series (word_at extent (degree (members_of extent) h) i))) inside bounded) within in
          omega (arith, ap unsigned_abs none, most, fits-growth extent p.weight k fits least le)
      | inr other ↦
          let none : count_below (extent.width ^ k) (λ i. unsigned_abs (series (word_at extent k i)) * unsigned_abs (at_image extent h (word_at extent k i))) ≡ 0 =
          nothing-below (extent.width ^ k) (λ i. unsigned_abs (series (word_at extent k i)) * unsigned_abs (at_image extent h (word_at extent k i)))
          (λ i l. ap (λ (z : ℤ). unsigned_abs (series (word_at extent k i)) * unsigned_abs z) (other-word extent h k i shape.some_depth l other) ∙ omega arith) in
          omega (arith, none, range)
    ]

-- ---- one level more
-- the numerators of a tensor at the words of k letters, by the numbers of the words
pub record IsLevel (t : TensorValue) (k : ℕ) (level : List ℤ) : Type 0 where
  -- there are words of k letters in the shape
  pub within : k ≤ t.extent.depth
  -- one numerator for each of them
  pub len : length level ≡ t.extent.width ^ k
  -- each at the number of its word
  pub values : (word : List ℕ) → IsWord t.extent word → length word ≡ k → get_or level (number t.extent.width word) (pos 0) ≡ at_word t word

level-at : (t : TensorValue) (k : ℕ) (level : List ℤ) → IsLevel t k level → (i : ℕ) → i < t.extent.width ^ k → get_or level i (pos 0) ≡ at_word t (word_at t.extent k i)
level-at t k level is i within =
    let its : IsNumbered t.extent.width k i (word_at t.extent k i) = word-numbered t.extent.width k i within in
    sym (ap (λ (n : ℕ). get_or level n (pos 0)) its.number_is)
    ∙ is.values (word_at t.extent k i) (record { short = omega (arith, its.len, is.within); letters = its.letters }) its.len

-- rows of the table, from those of the words of k letters on
pub record AreRows (t : TensorValue) (k : ℕ) (rows : List (List Term)) (from : ℕ) : Type 0 where
  -- all rows of the shape
  pub all : rows ≡ rows_of t.extent
  -- from the first word of k letters on
  pub from_is : from ≡ shorter t.extent.width k

row-at : (t : TensorValue) (k : ℕ) (rows : List (List Term)) (from i : ℕ) → AreRows t k rows from → k ≤ t.extent.depth → i < t.extent.width ^ k → get_or rows (from + i) [] ≡ row_of t.extent (word_at t.extent k i)
row-at t k rows from i are le lt = ap₂ (λ (rs : List (List Term)) (n : ℕ). get_or rs (n + i) []) are.all are.from_is ∙ row-of-word t.extent k i le lt

-- the level's rows are there
pub rows-inside : (t : TensorValue) (k : ℕ) (level : List ℤ) (rows : List (List Term)) (from : ℕ) → IsLevel t k level → AreRows t k rows from → from + length level ≤ length rows
rows-inside t k level rows from is are =
    let le : suc k ≤ suc t.extent.depth = omega (arith, is.within) in
    omega (arith, is.len, are.from_is, ap (λ (rs : List (List Term)). length rs) are.all, length-rows_of t.extent, shorter_part t.extent.width (suc k) (suc t.extent.depth) le)

-- there are at most 2000 rows
pub rows-few : (t : TensorValue) (k : ℕ) (rows : List (List Term)) (from : ℕ) → IsShape t.extent → AreRows t k rows from → length rows ≤ 2000
rows-few t k rows from shape are = omega (arith, shape.within_words, ap (λ (rs : List (List Term)). length rs) are.all, length-rows_of t.extent)

-- their numbers are those of members
pub rows-Numbers : (t : TensorValue) (k n : ℕ) (level : List ℤ) (rows : List (List Term)) (from : ℕ) → IsLevel t k level → AreRows t k rows from → n ≡ length (members_of t.extent)
    → (i : ℕ) → i < length level → Numbers n (get_or rows (from + i) [])
rows-Numbers t k n level rows from is are en i lt =
    subst (λ (m : ℕ). Numbers m (get_or rows (from + i) [])) (sym en)
    (subst (Numbers (length (members_of t.extent))) (sym (row-at t k rows from i are is.within (omega (arith, is.len)))) (row-Numbers t.extent (word_at t.extent k i)))

-- the level can be added to a coordinate by its rows
pub rows-room : (p : LogTensorValue) (k h : ℕ) (level : List ℤ) (rows : List (List Term)) (from : ℕ) (now : ℤ) → IsShape p.tensor.extent → IsLogTensor p → Fits (lie_bounds p.tensor.extent) p.weight
    → IsLevel p.tensor k level → AreRows p.tensor k rows from → InHall (members_of p.tensor.extent) h
    → now ≡ so_far p.tensor.extent (at_word p.tensor) k h → unsigned_abs now ≤ limit
    → unsigned_abs now + count_below (length level) (λ i. unsigned_abs (get_or level i (pos 0)) * size_at h (get_or rows (from + i) [])) ≤ limit
rows-room p k h level rows from now shape log fits is are inside e range =
    let extent : Extent = p.tensor.extent in
    let same : count_below (length level) (λ i. unsigned_abs (get_or level i (pos 0)) * size_at h (get_or rows (from + i) []))
    ≡ count_below (extent.width ^ k) (λ i. unsigned_abs (at_word p.tensor (word_at extent k i)) * unsigned_abs (at_image extent h (word_at extent k i))) =
    ap (λ (n : ℕ). count_below n (λ i. unsigned_abs (get_or level i (pos 0)) * size_at h (get_or rows (from + i) []))) is.len
    ∙ count_below-same (extent.width ^ k) (λ i. unsigned_abs (get_or level i (pos 0)) * size_at h (get_or rows (from + i) []))
    (λ i. unsigned_abs (at_word p.tensor (word_at extent k i)) * unsigned_abs (at_image extent h (word_at extent k i)))
    (λ i l. ap₂ (λ (x : ℤ) (n : ℕ). unsigned_abs x * n) (level-at p.tensor k level is i l) (ap (size_at h) (row-at p.tensor k rows from i are is.within l) ∙ row-size extent h (word_at extent k i) inside)) in
    omega (arith, same, level-room p k h now shape log fits is.within inside e range)

-- after the level of k letters the sum is that of all words up to k letters
pub rows-next : (t : TensorValue) (k h : ℕ) (level : List ℤ) (rows : List (List Term)) (from : ℕ) (now new : ℤ) → IsShape t.extent → IsLevel t k level → AreRows t k rows from → InHall (members_of t.extent) h
    → now ≡ so_far t.extent (at_word t) k h
    → new ≡ now +ℤ sum_below (length level) (λ i. get_or level i (pos 0) *ℤ coefficient h (get_or rows (from + i) []))
    → new ≡ so_far t.extent (at_word t) (suc k) h
rows-next t k h level rows from now new shape is are inside e step =
    step
    ∙ ap₂ ◌+ℤ◌ e
    (ap (λ (n : ℕ). sum_below n (λ i. get_or level i (pos 0) *ℤ coefficient h (get_or rows (from + i) []))) is.len
    ∙ sum_below-same (t.extent.width ^ k) (λ i. get_or level i (pos 0) *ℤ coefficient h (get_or rows (from + i) []))
    (λ i. at_word t (word_at t.extent k i) *ℤ at_image t.extent h (word_at t.extent k i))
    (λ i l. ap₂ ◌*ℤ◌ (level-at t k level is i l) (ap (coefficient h) (row-at t k rows from i are is.within l) ∙ row-coefficient t.extent h (word_at t.extent k i) inside)))
    ∙ so_far-next t.extent (at_word t) k h shape.some_depth

-- ---- the end
-- after all levels the sum is the coordinate
pub all-degrees : (extent : Extent) (series : List ℕ → ℤ) (h : ℕ) → 1 ≤ extent.depth → InHall (members_of extent) h → so_far extent series (extent.depth + 1) h ≡ coordinate_of extent series h
all-degrees extent series h some inside =
    so_far-below extent series (extent.depth + 1) h (omega (arith, (hall_list-IsHall extent.width extent.depth some).topped h inside))

-- before the first level it is 0
pub none-so_far : (extent : Extent) (series : List ℕ → ℤ) (h : ℕ) → so_far extent series 0 h ≡ pos 0
none-so_far extent series h = so_far-past extent series 0 h (omega arith)

-- the sums, without those that are 0, are the coordinates
pub coordinates-listed : (extent : Extent) (series : List ℕ → ℤ) (sums : List ℤ) → length sums ≡ length (members_of extent)
    → ((h : ℕ) → h < length sums → get_or sums h (pos 0) ≡ coordinate_of extent series (suc h))
    → nonzero (length sums) (λ h. get_or sums (h - 1) (pos 0)) ≡ coordinates extent series
unfolding coordinates
coordinates-listed extent series sums len values =
    nonzero-same (length sums) (λ h. get_or sums (h - 1) (pos 0)) (coordinate_of extent series)
    (λ h least most. values (h - 1) (omega arith) ∙ (let same : suc (h - 1) ≡ h = omega arith in ap (coordinate_of extent series) same))
    ∙ ap (λ (n : ℕ). nonzero n (coordinate_of extent series)) len
