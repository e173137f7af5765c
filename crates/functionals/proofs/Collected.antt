-- Collecting terms keeps the value.
use Rattle.std.proofs.Common.{inl, inr, ◌≡◌, ℕ, zero, suc, ◌+◌, ◌≤◌, ◌<◌, refl, sym, ap, ap₂, ◌∙◌, arith, ℤ, pos, negsuc, ◌+ℤ◌, ◌*ℤ◌, List, [], ◌∷◌, ◌++◌, length, Bool, true, false, cond, eqb, ◌&&◌}
use Rattle.std.specs.Prelude.{All, map, flat_map}
use Rattle.std.specs.Str.{bytes_eq}
use Rattle.std.proofs.Math.IntN.{*ℤ-zero}
use Rattle.std.proofs.lemmas.Int.{ints}
use Rattle.std.proofs.lemmas.Bool.{eq-eqb, ne_eqb, cases_Bool}
use Rattle.std.proofs.lemmas.Slice.Eq.{bytes_eq-Decides}
use Rattle.std.proofs.lemmas.List.Elements.{All-head, All-tail, All-nil, All-cons, All-append, All-map}
use Rattle.definitions.specs.Words.{Extent, IsWord, IsLetter, words_of, up_to}
use Rattle.definitions.specs.Shuffles.{shuffles, sum_over}
use Rattle.definitions.proofs.Integers.{mul-one_ℤ, zero-mul_ℤ}
use Rattle.lie_steps.proofs.Concatenations.{sum_over-none}
use Rattle.shuffle.proofs.ShuffleSums.{add-mul_ℤ, sum_over-append, sum_over-map, sum_over-same, sum_over-add, sum_over-mul}
use Rattle.functionals.specs.declared.term.WordTerm.{WordTerm}
use Rattle.definitions.specs.AllWords.{words_below}
use Rattle.functionals.specs.Functionals.{coefficient_at, value, reach, each_with, shuffled_by, shuffled, with_term, gathered, collected, shuffle_product, IsFunctional}
use Rattle.std.proofs.Math.Nat.{le-max_left, le-max_right, eq-or-lt_of_le}
use Rattle.definitions.specs.Words.{factorial}
use Rattle.definitions.specs.Moves.{Parts}
use Rattle.definitions.specs.Signature.{signature}
use Rattle.exp_log.proofs.ShuffleRelations.{signature-obeys}
use Rattle.functionals.proofs.Values.{raised, value-shuffled}

-- 1 at the word u, 0 elsewhere
abbrev pub at : List ℕ → List ℕ → ℤ
at u w = cond (bytes_eq u w) (pos 1) (pos 0)

-- ---- the sum over the words that are gathered
with_term-value : (n : ℕ) (s : List ℕ → ℤ) (w : List ℕ) (z : ℤ) (terms : List WordTerm) → value n s (with_term w z terms) ≡ (z *ℤ raised n s w) +ℤ value n s terms
with_term-value n s w (pos zero) terms = omega (arith, ints, zero-mul_ℤ (raised n s w))
with_term-value n s w (pos (suc k)) terms = refl
with_term-value n s w (negsuc k) terms = refl

gathered-value : (n : ℕ) (s : List ℕ → ℤ) (ws : List (List ℕ)) (terms : List WordTerm) → value n s (gathered ws terms) ≡ sum_over (λ w. coefficient_at terms w *ℤ raised n s w) ws
gathered-value n s [] terms = refl
gathered-value n s (w ∷ ws) terms =
    with_term-value n s w (coefficient_at terms w) (gathered ws terms) ∙ ap (λ (z : ℤ). (coefficient_at terms w *ℤ raised n s w) +ℤ z) (gathered-value n s ws terms)

-- the part of one term
picked : (c : ℤ) (h : List ℕ → ℤ) (u w : List ℕ) → cond (bytes_eq u w) c (pos 0) *ℤ h w ≡ (c *ℤ h u) *ℤ at u w
picked c h u w =
    elim (cases_Bool (bytes_eq u w)) [
      | inl e ↦ ap (λ (b : Bool). cond b c (pos 0) *ℤ h w) e
          ∙ ap (λ (x : List ℕ). c *ℤ h x) (sym ((bytes_eq-Decides u w).0 e))
          ∙ sym (ap (λ (b : Bool). (c *ℤ h u) *ℤ cond b (pos 1) (pos 0)) e ∙ mul-one_ℤ (c *ℤ h u))
      | inr e ↦ ap (λ (b : Bool). cond b c (pos 0) *ℤ h w) e ∙ zero-mul_ℤ (h w)
          ∙ sym (ap (λ (b : Bool). (c *ℤ h u) *ℤ cond b (pos 1) (pos 0)) e ∙ *ℤ-zero (c *ℤ h u))
    ]

-- each word of the terms stands in the list once
abbrev pub IsOnce : List (List ℕ) → List ℕ → Type 0
IsOnce ws u = sum_over (at u) ws ≡ pos 1

terms-value : (n : ℕ) (s : List ℕ → ℤ) (ws : List (List ℕ)) (terms : List WordTerm) → All (λ t. IsOnce ws t.word) terms
    → sum_over (λ w. coefficient_at terms w *ℤ raised n s w) ws ≡ value n s terms
terms-value n s ws [] once = sum_over-same (λ w. pos 0 *ℤ raised n s w) (λ w. pos 0) ws (λ w. zero-mul_ℤ (raised n s w)) ∙ sum_over-none ws
terms-value n s ws (t ∷ terms) once =
    let c : ℤ = t.coefficient in
    sum_over-same (λ w. coefficient_at (t ∷ terms) w *ℤ raised n s w) (λ w. ((c *ℤ raised n s t.word) *ℤ at t.word w) +ℤ (coefficient_at terms w *ℤ raised n s w)) ws
    (λ w. add-mul_ℤ (cond (bytes_eq t.word w) c (pos 0)) (coefficient_at terms w) (raised n s w) ∙ ap (λ (z : ℤ). z +ℤ (coefficient_at terms w *ℤ raised n s w)) (picked c (raised n s) t.word w))
    ∙ sum_over-add (λ w. (c *ℤ raised n s t.word) *ℤ at t.word w) (λ w. coefficient_at terms w *ℤ raised n s w) ws
    ∙ ap₂ ◌+ℤ◌
    (sum_over-mul (c *ℤ raised n s t.word) (at t.word) ws
    ∙ ap (λ (z : ℤ). (c *ℤ raised n s t.word) *ℤ z) (All-head (λ r. IsOnce ws r.word) t terms once)
    ∙ mul-one_ℤ (c *ℤ raised n s t.word))
    (terms-value n s ws terms (All-tail (λ r. IsOnce ws r.word) t terms once))

-- ---- each word of the extent stands once in the list of words
-- the sum of f over a list of letters
abbrev pub total : (ℕ → ℤ) → List ℕ → ℤ
total f [] = pos 0
total f (a ∷ xs) = f a +ℤ total f xs

total-append : (f : ℕ → ℤ) (xs ys : List ℕ) → total f (xs ++ ys) ≡ total f xs +ℤ total f ys
total-append f [] ys = omega (arith, ints)
total-append f (x ∷ xs) ys = omega (arith, ints, total-append f xs ys)

total-same : (f g : ℕ → ℤ) (xs : List ℕ) → ((a : ℕ) → f a ≡ g a) → total f xs ≡ total g xs
total-same f g [] same = refl
total-same f g (x ∷ xs) same = ap₂ ◌+ℤ◌ (same x) (total-same f g xs same)

sum_over-flat_map : (f : List ℕ → ℤ) (h : ℕ → List (List ℕ)) (xs : List ℕ) → sum_over f (flat_map h xs) ≡ total (λ a. sum_over f (h a)) xs
sum_over-flat_map f h [] = refl
sum_over-flat_map f h (x ∷ xs) = sum_over-append f (h x) (flat_map h xs) ∙ ap (λ (z : ℤ). sum_over f (h x) +ℤ z) (sum_over-flat_map f h xs)

-- a number at the letter b
abbrev letter_at : ℕ → ℤ → ℕ → ℤ
letter_at b z a = cond (eqb b a) z (pos 0)

letters-none : (b : ℕ) (z : ℤ) (n : ℕ) → n < b → total (letter_at b z) (up_to n) ≡ pos 0
letters-none b z zero h = refl
letters-none b z (suc n) h =
    total-append (letter_at b z) (up_to n) (suc n ∷ [])
    ∙ ap₂ (λ (x : ℤ) (t : Bool). x +ℤ (cond t z (pos 0) +ℤ pos 0)) (letters-none b z n (omega arith)) (ne_eqb b (suc n) (λ e. omega arith))

letters-one : (b : ℕ) (z : ℤ) (n : ℕ) → 1 ≤ b → b ≤ n → total (letter_at b z) (up_to n) ≡ z
letters-one b z zero some h = absurd (omega arith)
letters-one b z (suc n) some h =
    elim (eq-or-lt_of_le h) [
      | inl e ↦ total-append (letter_at b z) (up_to n) (suc n ∷ [])
          ∙ ap₂ (λ (x : ℤ) (t : Bool). x +ℤ (cond t z (pos 0) +ℤ pos 0)) (letters-none b z n (omega arith)) (eq-eqb b (suc n) e)
          ∙ omega (arith, ints)
      | inr l ↦ total-append (letter_at b z) (up_to n) (suc n ∷ [])
          ∙ ap₂ (λ (x : ℤ) (t : Bool). x +ℤ (cond t z (pos 0) +ℤ pos 0)) (letters-one b z n some (omega arith)) (ne_eqb b (suc n) (λ e. omega arith))
          ∙ omega (arith, ints)
    ]

same-cond : (t : Bool) → cond t (pos 0) (pos 0) ≡ pos 0
same-cond true = refl
same-cond false = refl

letters-zero : (b : ℕ) (xs : List ℕ) → total (letter_at b (pos 0)) xs ≡ pos 0
letters-zero b [] = refl
letters-zero b (x ∷ xs) = ap₂ ◌+ℤ◌ (same-cond (eqb b x)) (letters-zero b xs)

-- how often a word stands in the list of words of k letters
abbrev occurrences : ℕ → ℕ → List ℕ → ℤ
occurrences width k u = sum_over (at u) (words_of width k)

and-cond : (x y : Bool) → cond (x && y) (pos 1) (pos 0) ≡ cond x (cond y (pos 1) (pos 0)) (pos 0)
and-cond true y = refl
and-cond false y = refl

cond-sum : (x : Bool) (u : List ℕ) (ws : List (List ℕ)) → sum_over (λ w. cond x (at u w) (pos 0)) ws ≡ cond x (sum_over (at u) ws) (pos 0)
cond-sum true u ws = refl
cond-sum false u ws = sum_over-none ws

occurrences-cons : (width k b : ℕ) (u : List ℕ) → occurrences width (suc k) (b ∷ u) ≡ total (letter_at b (occurrences width k u)) (up_to width)
occurrences-cons width k b u =
    sum_over-flat_map (at (b ∷ u)) (λ a. map (λ w. a ∷ w) (words_of width k)) (up_to width)
    ∙ total-same (λ a. sum_over (at (b ∷ u)) (map (λ w. a ∷ w) (words_of width k))) (letter_at b (occurrences width k u)) (up_to width)
    (λ a. sum_over-map (at (b ∷ u)) (λ w. a ∷ w) (words_of width k)
    ∙ sum_over-same (λ w. at (b ∷ u) (a ∷ w)) (λ w. cond (eqb b a) (at u w) (pos 0)) (words_of width k) (λ w. and-cond (eqb b a) (bytes_eq u w))
    ∙ cond-sum (eqb b a) u (words_of width k))

occurrences-one : (width : ℕ) (u : List ℕ) → All (IsLetter width) u → occurrences width (length u) u ≡ pos 1
occurrences-one width [] h = refl
occurrences-one width (b ∷ u) h =
    let first : IsLetter width b = All-head (IsLetter width) b u h in
    occurrences-cons width (length u) b u
    ∙ ap (λ (z : ℤ). total (letter_at b z) (up_to width)) (occurrences-one width u (All-tail (IsLetter width) b u h))
    ∙ letters-one b (pos 1) width first.0 first.1

empty-none : (width k : ℕ) (xs : List ℕ) → total (λ a. sum_over (at []) (map (λ w. a ∷ w) (words_of width k))) xs ≡ pos 0
empty-none width k [] = refl
empty-none width k (x ∷ xs) = ap₂ ◌+ℤ◌ (sum_over-map (at []) (λ w. x ∷ w) (words_of width k) ∙ sum_over-none (words_of width k)) (empty-none width k xs)

occurrences-none : (width k : ℕ) (u : List ℕ) → (length u ≡ k → ⊥) → occurrences width k u ≡ pos 0
occurrences-none width zero [] h = absurd (h refl)
occurrences-none width zero (b ∷ u) h = refl
occurrences-none width (suc k) [] h = sum_over-flat_map (at []) (λ a. map (λ w. a ∷ w) (words_of width k)) (up_to width) ∙ empty-none width k (up_to width)
occurrences-none width (suc k) (b ∷ u) h =
    occurrences-cons width k b u
    ∙ ap (λ (z : ℤ). total (letter_at b z) (up_to width)) (occurrences-none width k u (λ e. h (ap suc e)))
    ∙ letters-zero b (up_to width)

below-none : (width k : ℕ) (u : List ℕ) → k ≤ length u → sum_over (at u) (words_below width k) ≡ pos 0
below-none width zero u h = refl
below-none width (suc k) u h =
    sum_over-append (at u) (words_below width k) (words_of width k)
    ∙ ap₂ ◌+ℤ◌ (below-none width k u (omega arith)) (occurrences-none width k u (λ e. omega arith))

-- each word of fewer than k letters stands once in the list of these words
pub below-one : (width k : ℕ) (u : List ℕ) → All (IsLetter width) u → length u < k → IsOnce (words_below width k) u
below-one width zero u h l = absurd (omega arith)
below-one width (suc k) u h l =
    elim (eq-or-lt_of_le l) [
      | inl e ↦ let same : length u ≡ k = omega arith in
          sum_over-append (at u) (words_below width k) (words_of width k)
          ∙ ap₂ ◌+ℤ◌ (below-none width k u (omega arith)) (sym (ap (λ (n : ℕ). occurrences width n u) same) ∙ occurrences-one width u h)
      | inr r ↦ sum_over-append (at u) (words_below width k) (words_of width k)
          ∙ ap₂ ◌+ℤ◌ (below-one width k u h (omega arith)) (occurrences-none width k u (λ e. omega arith))
    ]

-- collecting keeps the value
collected-value : (n : ℕ) (s : List ℕ → ℤ) (extent : Extent) (terms : List WordTerm) → All (λ t. IsWord extent t.word) terms → value n s (collected extent terms) ≡ value n s terms
unfolding collected
collected-value n s extent terms words =
    gathered-value n s (words_below extent.width (suc extent.depth)) terms
    ∙ terms-value n s (words_below extent.width (suc extent.depth)) terms
    (λ i d h. let is = words i d h in below-one extent.width (suc extent.depth) _ is.letters (omega (arith, is.short)))

-- ---- the words of a shuffle product
abbrev OfLetters : ℕ → ℕ → List ℕ → Type 0
OfLetters width n w = (All (IsLetter width) w) × (length w ≡ n)

one-longer : (width n m a : ℕ) (w : List ℕ) → IsLetter width a → suc n ≡ m → OfLetters width n w → OfLetters width m (a ∷ w)
one-longer width n m a w first e h = (All-cons (IsLetter width) a w first h.0, omega (arith, h.1))

shuffles-words : (width : ℕ) (u v : List ℕ) → All (IsLetter width) u → All (IsLetter width) v → All (OfLetters width (length u + length v)) (shuffles u v)
shuffles-words width [] v hu hv = All-cons (OfLetters width (0 + length v)) v [] (hv, omega arith) (All-nil (OfLetters width (0 + length v)))
shuffles-words width (a ∷ u) [] hu hv = All-cons (OfLetters width (length (a ∷ u) + 0)) (a ∷ u) [] (hu, omega arith) (All-nil (OfLetters width (length (a ∷ u) + 0)))
shuffles-words width (a ∷ u) (b ∷ v) hu hv =
    let p : List ℕ → Type 0 = OfLetters width (length (a ∷ u) + length (b ∷ v)) in
    All-append p (map (λ w. a ∷ w) (shuffles u (b ∷ v))) (map (λ w. b ∷ w) (shuffles (a ∷ u) v))
    (All-map p (λ w. a ∷ w) (shuffles u (b ∷ v))
    (λ i d h. one-longer width (length u + length (b ∷ v)) (length (a ∷ u) + length (b ∷ v)) a _ (All-head (IsLetter width) a u hu) (omega arith)
    (shuffles-words width u (b ∷ v) (All-tail (IsLetter width) a u hu) hv i d h)))
    (All-map p (λ w. b ∷ w) (shuffles (a ∷ u) v)
    (λ i d h. one-longer width (length (a ∷ u) + length v) (length (a ∷ u) + length (b ∷ v)) b _ (All-head (IsLetter width) b v hv) (omega arith)
    (shuffles-words width (a ∷ u) v hu (All-tail (IsLetter width) b v hv) i d h)))

-- the word of the term is one of the extent
abbrev pub HasWord : Extent → WordTerm → Type 0
HasWord extent t = IsWord extent t.word

each_with-words : (extent : Extent) (c : ℤ) (u v : List ℕ) → All (IsLetter extent.width) u → All (IsLetter extent.width) v → length u + length v ≤ extent.depth
    → All (HasWord extent) (each_with c (shuffles u v))
each_with-words extent c u v hu hv within =
    All-map (HasWord extent) (λ w. record { word = w; coefficient = c }) (shuffles u v)
    (λ i d h. let is = shuffles-words extent.width u v hu hv i d h in record { short = omega (arith, is.1); letters = is.0 })

shuffled_by-words : (extent : Extent) (t : WordTerm) (g : List WordTerm) → HasWord extent t → All (HasWord extent) g → length t.word + reach g ≤ extent.depth
    → All (HasWord extent) (shuffled_by t g)
shuffled_by-words extent t [] ht hg within = All-nil (HasWord extent)
shuffled_by-words extent t (r ∷ g) ht hg within =
    All-append (HasWord extent) (each_with (t.coefficient *ℤ r.coefficient) (shuffles t.word r.word)) (shuffled_by t g)
    (each_with-words extent (t.coefficient *ℤ r.coefficient) t.word r.word ht.letters (All-head (HasWord extent) r g hg).letters (omega (arith, le-max_left (length r.word) (reach g))))
    (shuffled_by-words extent t g ht (All-tail (HasWord extent) r g hg) (omega (arith, le-max_right (length r.word) (reach g))))

-- the words of all shuffles are words of the extent, where the reaches add up to at most the depth
pub shuffled-words : (extent : Extent) (f g : List WordTerm) → All (HasWord extent) f → All (HasWord extent) g → reach f + reach g ≤ extent.depth
    → All (HasWord extent) (shuffled f g)
shuffled-words extent [] g hf hg within = All-nil (HasWord extent)
shuffled-words extent (t ∷ f) g hf hg within =
    All-append (HasWord extent) (shuffled_by t g) (shuffled f g)
    (shuffled_by-words extent t g (All-head (HasWord extent) t f hf) hg (omega (arith, le-max_left (length t.word) (reach f))))
    (shuffled-words extent f g (All-tail (HasWord extent) t f hf) hg (omega (arith, le-max_right (length t.word) (reach f))))

-- ---- the law
-- at a signature, the value of the shuffle product times the factorial of the depth is the product of both values
pub shuffle_product-value : (moves : List Parts) (extent : Extent) (f g : List WordTerm) → IsFunctional extent f → IsFunctional extent g → reach f + reach g ≤ extent.depth
    → pos (factorial extent.depth) *ℤ value extent.depth (signature moves) (shuffle_product extent f g) ≡ value extent.depth (signature moves) f *ℤ value extent.depth (signature moves) g
shuffle_product-value moves extent f g isf isg within =
    ap (λ (z : ℤ). pos (factorial extent.depth) *ℤ z)
    (collected-value extent.depth (signature moves) extent (shuffled f g) (shuffled-words extent f g isf.words isg.words within))
    ∙ value-shuffled extent.depth (signature moves) f g (signature-obeys moves) isf.shape.within_depth within
