-- Collecting from a table, word by word.
use Rattle.std.proofs.Common.{◌≡◌, ℕ, zero, suc, ◌+◌, ◌^◌, ◌≤◌, ◌<◌, refl, sym, ap, ap₂, ◌∙◌, arith, ℤ, pos, negsuc, List, [], ◌∷◌, ◌++◌, length, take}
use Rattle.std.proofs.lemmas.List.{take_more, take_all, append_assoc}
use Rattle.definitions.specs.Words.{Extent, IsWord, number, words_of}
use Rattle.definitions.proofs.WordLists.{word-of-number, length-words_of}
use Rattle.functionals.specs.declared.term.WordTerm.{WordTerm}
use Rattle.functionals.specs.Functionals.{coefficient_at, with_term, gathered}

-- a term that is not 0 is kept
pub with_term-some : (word : List ℕ) (z : ℤ) (terms : List WordTerm) → (z ≡ pos 0 → ⊥) → with_term word z terms ≡ record { word = word; coefficient = z } ∷ terms
with_term-some word (pos zero) terms h = absurd (h refl)
with_term-some word (pos (suc n)) terms h = refl
with_term-some word (negsuc n) terms h = refl

with_term-append : (word : List ℕ) (z : ℤ) (terms rest : List WordTerm) → with_term word z terms ++ rest ≡ with_term word z (terms ++ rest)
with_term-append word (pos zero) terms rest = refl
with_term-append word (pos (suc n)) terms rest = refl
with_term-append word (negsuc n) terms rest = refl

-- gathering over two lists of words, one after the other
pub gathered-append : (us ws : List (List ℕ)) (terms : List WordTerm) → gathered (us ++ ws) terms ≡ gathered us terms ++ gathered ws terms
gathered-append [] ws terms = refl
gathered-append (u ∷ us) ws terms =
    ap (with_term u (coefficient_at terms u)) (gathered-append us ws terms) ∙ sym (with_term-append u (coefficient_at terms u) (gathered us terms) (gathered ws terms))

-- one word more of a level
pub level-step : (extent : Extent) (terms : List WordTerm) (k i : ℕ) (word : List ℕ) (z : ℤ) (before old new : List WordTerm) → IsWord extent word → length word ≡ k → number extent.width word ≡ i → i < extent.width ^ k
    → z ≡ coefficient_at terms word → old ≡ before ++ gathered (take i (words_of extent.width k)) terms → new ≡ old ++ with_term word z []
    → new ≡ before ++ gathered (take (i + 1) (words_of extent.width k)) terms
level-step extent terms k i word z before old new is len num here e was step =
    let ws : List (List ℕ) = words_of extent.width k in
    let inside : i < length ws = omega (arith, length-words_of extent.width k) in
    let more : take (i + 1) ws ≡ take i ws ++ word ∷ [] =
    take_more ws i [] inside ∙ ap (λ (w : List ℕ). take i ws ++ w ∷ []) (word-of-number extent.width k i word here (record { letters = is.letters; len = len; number_is = num })) in
    step
    ∙ ap₂ (λ (xs : List WordTerm) (y : ℤ). xs ++ with_term word y []) was e
    ∙ append_assoc before (gathered (take i ws) terms) (with_term word (coefficient_at terms word) [])
    ∙ ap (λ (xs : List WordTerm). before ++ xs) (sym (gathered-append (take i ws) (word ∷ []) terms))
    ∙ ap (λ (us : List (List ℕ)). before ++ gathered us terms) (sym more)

-- all words of a level
pub level-all : (width k i : ℕ) (terms before items : List WordTerm) → width ^ k ≤ i → items ≡ before ++ gathered (take i (words_of width k)) terms → items ≡ before ++ gathered (words_of width k) terms
level-all width k i terms before items h e = e ∙ ap (λ (us : List (List ℕ)). before ++ gathered us terms) (take_all i (words_of width k) (omega (arith, length-words_of width k)))
