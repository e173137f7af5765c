-- The logarithm with given coordinates, and the series with this logarithm.
use Rattle.std.proofs.Common.{◌≡◌, ℕ, suc, ◌-◌, ◌≤◌, refl, sym, ap, ◌∙◌, subst, arith, ℤ, pos, ◌-ℤ◌, List, [], ◌∷◌, length}
use Rattle.std.specs.Prelude.{All, int_div, int_rem}
use Rattle.definitions.specs.Words.{Extent, IsShape, IsWord}
use Rattle.definitions.specs.Logarithm.{lcm_to, logarithm}
use Rattle.definitions.specs.Hall.{InHall, hall_list}
use Rattle.scaled_tensor.specs.Tensors.{TensorValue, coefficient}
use Rattle.lie_bracket.specs.declared.term.Term.{Term}
use Rattle.lie_bracket.proofs.ExpandSteps.{expanded-empty}
use Rattle.exp_laws.specs.Unfolded.{unfolded}
use Rattle.exp_laws.proofs.UnfoldedLaws.{whole-of_remainder, logarithm-unfolded}
use Rattle.piecewise.specs.Series.{expansion_of, log_of, series_of}
use Rattle.piecewise.specs.Faults.{EachBelow, IsWhole, CanUnfold}
use Rattle.piecewise.specs.Levels.{IsKnown}
use Rattle.piecewise.proofs.LevelSteps.{AgreeOn, logarithms-agree, unfolded-agree}

-- the members of an element's terms
abbrev pub HasMembers : Extent → List Term → Type 0
HasMembers extent z = All (λ t. InHall (hall_list extent.width extent.depth) t.number) z

-- at a word of letters it is the quotient of the expansion
pub log_of-word : (extent : Extent) (z : List Term) (word : List ℕ) → log_of extent z word ≡ int_div (expansion_of extent z word) (pos (length word))
unfolding log_of
log_of-word extent z word = refl

-- at the empty word it is 0
pub log_of-empty : (extent : Extent) (z : List Term) → IsShape extent → HasMembers extent z → log_of extent z [] ≡ pos 0
unfolding log_of
log_of-empty extent z shape members =
    ap (λ (x : ℤ). int_div x (pos 0)) (expanded-empty (hall_list extent.width extent.depth) (extent, shape, refl) z members)

-- the quotients of the expansion are the logarithm
pub log_of-divided : (extent : Extent) (z : List Term) (e log : TensorValue) → IsShape extent → HasMembers extent z → AgreeOn extent (coefficient e) (expansion_of extent z)
    → ((word : List ℕ) → IsWord extent word → 1 ≤ length word → coefficient log word ≡ int_div (coefficient e word) (pos (length word)))
    → coefficient log [] ≡ pos 0 → AgreeOn extent (coefficient log) (log_of extent z)
log_of-divided extent z e log shape members is divided empty [] is_word = empty ∙ sym (log_of-empty extent z shape members)
log_of-divided extent z e log shape members is divided empty (a ∷ word) is_word =
    divided (a ∷ word) is_word (omega arith)
    ∙ ap (λ (x : ℤ). int_div x (pos (length (a ∷ word)))) (is (a ∷ word) is_word)
    ∙ sym (log_of-word extent z (a ∷ word))

-- the series unfolds from the logarithm
pub series_of-word : (extent : Extent) (z : List Term) (word : List ℕ) → series_of extent z word ≡ unfolded (log_of extent z) extent.depth word
unfolding series_of
series_of-word extent z word = refl

-- each level that is whole has the logarithm that it is unfolded from
pub logarithm-series : (extent : Extent) (z : List ℕ → ℤ) → EachBelow (IsWhole extent z) (suc extent.depth) → (word : List ℕ) → IsWord extent word → 1 ≤ length word
    → logarithm (unfolded z extent.depth) word ≡ z word
logarithm-series extent z whole [] is_word some = absurd (omega arith)
logarithm-series extent z whole (a ∷ word) is_word some =
    let n : ℕ = length word in
    let before : suc n - 1 ≡ n = omega arith in
    let none : int_rem (z (a ∷ word) -ℤ logarithm (unfolded z n) (a ∷ word)) (pos (lcm_to (suc n))) ≡ pos 0 =
    subst (λ (m : ℕ). int_rem (z (a ∷ word) -ℤ logarithm (unfolded z m) (a ∷ word)) (pos (lcm_to (suc n))) ≡ pos 0) before
    (whole (suc n) (omega arith) (omega (arith, is_word.short)) (a ∷ word) is_word refl) in
    logarithm-unfolded z n extent.depth (a ∷ word) refl is_word.short (whole-of_remainder z n (a ∷ word) refl none)

-- the tensor of the quotients has the logarithm
pub log-from : (extent : Extent) (z : List Term) (e log : TensorValue) → IsShape extent → HasMembers extent z → e.extent ≡ extent → AgreeOn extent (coefficient e) (expansion_of extent z)
    → ((word : List ℕ) → IsWord e.extent word → 1 ≤ length word → coefficient log word ≡ int_div (coefficient e word) (pos (length word)))
    → coefficient log [] ≡ pos 0 → AgreeOn extent (coefficient log) (log_of extent z)
log-from extent z e log shape members same is divided empty =
    log_of-divided extent z e log shape members is (λ word is_word some. divided word (subst (λ (x : Extent). IsWord x word) (sym same) is_word) some) empty

-- what is known after the last level is the series
pub series-from : (extent : Extent) (z : List Term) (weight : ℕ) (log t : TensorValue) → log.extent ≡ extent → AgreeOn extent (coefficient log) (log_of extent z)
    → IsKnown log.extent (coefficient log) weight log.extent.depth t → AgreeOn extent (coefficient t) (series_of extent z)
series-from extent z weight log t same agrees known word is_word =
    known.values word (subst (λ (x : Extent). IsWord x word) (sym same) is_word)
    ∙ ap (λ (x : Extent). unfolded (coefficient log) x.depth word) same
    ∙ unfolded-agree extent (coefficient log) (log_of extent z) agrees extent.depth word is_word
    ∙ sym (series_of-word extent z word)

-- and it has the logarithm
pub logarithm-from : (extent : Extent) (z : List Term) (weight : ℕ) (t : TensorValue) → CanUnfold extent z weight → AgreeOn extent (coefficient t) (series_of extent z)
    → (word : List ℕ) → IsWord extent word → 1 ≤ length word → logarithm (coefficient t) word ≡ log_of extent z word
logarithm-from extent z weight t can agrees word is_word some =
    logarithms-agree extent (coefficient t) (unfolded (log_of extent z) extent.depth) (λ w is. agrees w is ∙ series_of-word extent z w) word is_word
    ∙ logarithm-series extent (log_of extent z) (λ j least before. (can.levels j least before).0) word is_word some
