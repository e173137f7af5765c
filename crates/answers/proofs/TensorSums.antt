-- Sums of the coefficients of a tensor, level by level.
use Rattle.std.proofs.Common.{add-one, ◌≡◌, ◌∙◌, ℕ, zero, suc, ◌+◌, ◌<◌, ◌≤◌, ◌^◌, refl, sym, ap, ap₂, arith, ℤ, pos, List, [], ◌∷◌, ◌++◌, length, get_or, slice_index_or}
use Rattle.std.specs.Prelude.{map, flat_map}
use Rattle.std.proofs.lemmas.List.{append-nil, map-append, length-map, get_or-map, get_or_default, same_lists}
use Rattle.std.proofs.lemmas.List.Concat.{flat_map-append}
use Rattle.definitions.specs.Words.{Extent, IsWord, number, up_to, words_of}
use Rattle.definitions.proofs.WordLists.{IsNumbered, length-words_of, word-numbered}
use Rattle.scaled_tensor.specs.Tensors.{TensorValue, coefficient}
use Rattle.session.specs.Answers.{HasSeries}
use Rattle.answers.specs.Generator.{int_sum}
use Rattle.answers.specs.Totals.{tensor_sum}

-- a list of what a series has at the words of k letters, in their order
values-of-words : (extent : Extent) (k : ℕ) (series : List ℕ → ℤ) (values : List ℤ) → k ≤ extent.depth → length values ≡ extent.width ^ k
    → ((word : List ℕ) → IsWord extent word → length word ≡ k → slice_index_or values (number extent.width word) (pos 0) ≡ series word)
    → values ≡ map series (words_of extent.width k)
values-of-words extent k series values h len each =
    same_lists values (map series (words_of extent.width k)) (len ∙ sym (length-words_of extent.width k) ∙ sym (length-map (words_of extent.width k) series))
    (λ i d lt.
    let within : i < length (words_of extent.width k) = omega (arith, length-words_of extent.width k) in
    let its : IsNumbered extent.width k i (get_or (words_of extent.width k) i []) = word-numbered extent.width k i (omega arith) in
    get_or_default values i d (pos 0) lt
    ∙ ap (λ (n : ℕ). get_or values n (pos 0)) (sym its.number_is)
    ∙ each (get_or (words_of extent.width k) i []) (record { short = omega (arith, its.len); letters = its.letters }) its.len
    ∙ sym (get_or-map series (words_of extent.width k) i [] d within))

-- the values of a series up to level k
abbrev pub values_to : ℕ → (List ℕ → ℤ) → ℕ → List ℤ
values_to width series k = map series (flat_map (words_of width) (up_to k))

values-level : (width k : ℕ) (series : List ℕ → ℤ) → values_to width series (suc k) ≡ values_to width series k ++ map series (words_of width (suc k))
values-level width k series =
    ap (map series) (flat_map-append (words_of width) (up_to k) (suc k ∷ []) ∙ ap (λ (ws : List (List ℕ)). flat_map (words_of width) (up_to k) ++ ws) (append-nil (words_of width (suc k))))
    ∙ map-append series (flat_map (words_of width) (up_to k)) (words_of width (suc k))

-- a level more
pub level-values : (extent : Extent) (k : ℕ) (series : List ℕ → ℤ) (values : List ℤ) → k + 1 ≤ extent.depth → length values ≡ extent.width ^ (k + 1)
    → ((word : List ℕ) → IsWord extent word → length word ≡ k + 1 → slice_index_or values (number extent.width word) (pos 0) ≡ series word)
    → values_to extent.width series (k + 1) ≡ values_to extent.width series k ++ values
level-values extent k series values h len each =
    ap (values_to extent.width series) (add-one k)
    ∙ values-level extent.width k series
    ∙ ap (λ (n : ℕ). values_to extent.width series k ++ map series (words_of extent.width n)) (sym (add-one k))
    ∙ ap (λ (vs : List ℤ). values_to extent.width series k ++ vs) (sym (values-of-words extent (k + 1) series values h len each))

-- ---- series that agree at the words of an extent
same-at-level : (extent : Extent) (f g : List ℕ → ℤ) (k : ℕ) → k ≤ extent.depth → ((word : List ℕ) → IsWord extent word → f word ≡ g word)
    → map f (words_of extent.width k) ≡ map g (words_of extent.width k)
same-at-level extent f g k h same =
    same_lists _ _ (length-map (words_of extent.width k) f ∙ sym (length-map (words_of extent.width k) g))
    (λ i d lt.
    let within : i < length (words_of extent.width k) = omega (arith, length-map (words_of extent.width k) f) in
    let its : IsNumbered extent.width k i (get_or (words_of extent.width k) i []) = word-numbered extent.width k i (omega (arith, length-words_of extent.width k)) in
    get_or-map f (words_of extent.width k) i [] d within
    ∙ same (get_or (words_of extent.width k) i []) (record { short = omega (arith, its.len); letters = its.letters })
    ∙ sym (get_or-map g (words_of extent.width k) i [] d within))

same-to-level : (extent : Extent) (f g : List ℕ → ℤ) (k : ℕ) → k ≤ extent.depth → ((word : List ℕ) → IsWord extent word → f word ≡ g word)
    → values_to extent.width f k ≡ values_to extent.width g k
same-to-level extent f g zero h same = refl
same-to-level extent f g (suc k) h same =
    values-level extent.width k f
    ∙ ap₂ (λ (vs : List ℤ) (ws : List ℤ). vs ++ ws) (same-to-level extent f g k (omega arith) same) (same-at-level extent f g (suc k) h same)
    ∙ sym (values-level extent.width k g)

-- a tensor has the sum of its series
pub series-sum : (extent : Extent) (tensor : TensorValue) (series : List ℕ → ℤ) → HasSeries extent tensor series → tensor_sum tensor ≡ int_sum (values_to extent.width series extent.depth)
series-sum extent tensor series has =
    ap (λ (e : Extent). int_sum (values_to e.width (coefficient tensor) e.depth)) has.extent_is
    ∙ ap int_sum (same-to-level extent (coefficient tensor) series extent.depth (omega arith) has.coefficients)
