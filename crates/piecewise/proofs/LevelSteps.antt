-- One level more of a series with a given logarithm.
use Rattle.std.proofs.Common.{◌≡◌, ◌≢◌, inl, inr, ℕ, suc, ◌+◌, ◌-◌, ◌≤◌, ◌<◌, ◌^◌, refl, sym, ap, ap₂, ◌∙◌, subst, arith, ℤ, pos, ◌-ℤ◌, unsigned_abs, List, [], ◌∷◌, length}
use Rattle.std.specs.Prelude.{int_div, int_rem}
use Rattle.std.proofs.Math.Nat.{pow-zero}
use Rattle.std.proofs.lemmas.Bool.{cases_lt, cases_eq}
use Rattle.definitions.specs.Words.{Extent, IsWord}
use Rattle.definitions.specs.Products.{unit}
use Rattle.definitions.specs.Logarithm.{lcm_to, logarithm}
use Rattle.scaled_tensor.specs.Tensors.{TensorValue, coefficient}
use Rattle.tensor_product.proofs.SigLaws.{empty-word}
use Rattle.exp_log.proofs.PowerBounds.{logarithm-same}
use Rattle.exp_log.proofs.SeriesLaws.{words-closed}
use Rattle.exp_laws.specs.Unfolded.{unfolded}
use Rattle.exp_laws.proofs.UnfoldedLaws.{unfolded-level, unfolded-other, unfolded-same}
use Rattle.piecewise.specs.Faults.{EachBelow, AreMultiples, AreWithin, IsWhole, IsSized, Unfolds, IsLevelFault}
use Rattle.piecewise.specs.Levels.{IsKnown, IsFaultAt}
use Rattle.piecewise.specs.declared.fault.UnfoldFault.{UnfoldFault}
use Rattle.piecewise.specs.declared.fault.UnfoldFault.TheVariants.{Overflow, Expand, Split, Log, Whole, Size, Memory}

-- ---- levels below one
-- no level is below 1
pub each-none : (P : ℕ → Type 0) → EachBelow P 1
each-none P j least before = absurd (omega arith)

-- one level more
pub each-more : (P : ℕ → Type 0) (n : ℕ) → EachBelow P n → P n → EachBelow P (n + 1)
each-more P n each here j least before =
    elim (cases_lt j n) [
      | inl below ↦ each j least below
      | inr last ↦ (let e : n ≡ j = omega arith in subst P e here)
    ]

-- fewer levels
pub each-fewer : (P : ℕ → Type 0) (n m : ℕ) → m ≤ n → EachBelow P n → EachBelow P m
each-fewer P n m le each j least before = each j least (omega arith)

-- the same for what follows from it
pub each-weaker : (P Q : ℕ → Type 0) (n : ℕ) → ((j : ℕ) → 1 ≤ j → j < n → P j → Q j) → EachBelow P n → EachBelow Q n
each-weaker P Q n step each j least before = step j least before (each j least before)

-- ---- tests of a level, where two series agree there
-- multiples
pub multiples-same : (extent : Extent) (s t : List ℕ → ℤ) (k d e : ℕ) → ((word : List ℕ) → IsWord extent word → length word ≡ k → s word ≡ t word) → d ≡ e
    → AreMultiples extent s k d → AreMultiples extent t k e
multiples-same extent s t k d e same de are word is_word len = ap₂ (λ (z : ℤ) (n : ℕ). int_rem z (pos n)) (sym (same word is_word len)) (sym de) ∙ are word is_word len

-- bounds
pub within-same : (extent : Extent) (s t : List ℕ → ℤ) (k b c : ℕ) → ((word : List ℕ) → IsWord extent word → length word ≡ k → s word ≡ t word) → b ≡ c
    → AreWithin extent s k b → AreWithin extent t k c
within-same extent s t k b c same bc are word is_word len =
    subst (λ (n : ℕ). unsigned_abs (t word) ≤ n) bc (subst (λ (z : ℤ). unsigned_abs z ≤ b) (same word is_word len) (are word is_word len))

-- ---- series that agree at the words of an extent
abbrev pub AgreeOn : Extent → (List ℕ → ℤ) → (List ℕ → ℤ) → Type 0
AgreeOn extent s t = (word : List ℕ) → IsWord extent word → s word ≡ t word

-- they have the same logarithm
pub logarithms-agree : (extent : Extent) (s t : List ℕ → ℤ) → AgreeOn extent s t → AgreeOn extent (logarithm s) (logarithm t)
logarithms-agree extent s t same word is_word = logarithm-same (IsWord extent) s t (words-closed extent) same word is_word

-- and unfold to the same series
pub unfolded-agree : (extent : Extent) (z y : List ℕ → ℤ) → AgreeOn extent z y → (k : ℕ) → AgreeOn extent (unfolded z k) (unfolded y k)
unfolded-agree extent z y same k word is_word = unfolded-same (IsWord extent) z y (words-closed extent) same k word is_word

-- so the same levels leave no remainder
pub whole-same : (extent : Extent) (z y : List ℕ → ℤ) (k : ℕ) → AgreeOn extent z y → IsWhole extent z k → IsWhole extent y k
whole-same extent z y k same =
    multiples-same extent (λ w. z w -ℤ logarithm (unfolded z (k - 1)) w) (λ w. y w -ℤ logarithm (unfolded y (k - 1)) w) k (lcm_to k) (lcm_to k)
    (λ word is_word len. ap₂ ◌-ℤ◌ (same word is_word) (logarithms-agree extent (unfolded z (k - 1)) (unfolded y (k - 1)) (unfolded-agree extent z y same (k - 1)) word is_word)) refl

-- and the same ones are within the bounds of a weight
pub sized-same : (extent : Extent) (z y : List ℕ → ℤ) (weight k : ℕ) → AgreeOn extent z y → IsSized extent z weight k → IsSized extent y weight k
sized-same extent z y weight k same =
    within-same extent (unfolded z k) (unfolded y k) k (weight ^ k) (weight ^ k) (λ word is_word len. unfolded-agree extent z y same k word is_word) refl

-- and can be unfolded
pub unfolds-same : (extent : Extent) (z y : List ℕ → ℤ) (weight k : ℕ) → AgreeOn extent z y → Unfolds extent z weight k → Unfolds extent y weight k
unfolds-same extent z y weight k same h = (whole-same extent z y k same h.0, sized-same extent z y weight k same h.1)

-- in either direction
pub agree-back : (extent : Extent) (z y : List ℕ → ℤ) → AgreeOn extent z y → AgreeOn extent y z
agree-back extent z y same word is_word = sym (same word is_word)

-- so the refusals are the same
pub level_fault-same : (extent : Extent) (z y : List ℕ → ℤ) (weight : ℕ) (fault : UnfoldFault) → AgreeOn extent z y → IsLevelFault extent z weight fault → IsLevelFault extent y weight fault
level_fault-same extent z y weight (Overflow w) same h = h
level_fault-same extent z y weight (Expand k) same h = h
level_fault-same extent z y weight (Split k) same h = h
level_fault-same extent z y weight (Log k) same h = h
level_fault-same extent z y weight (Whole k) same h = (
  h.0,
  h.1,
  λ whole. h.2 (whole-same extent y z k (agree-back extent z y same) whole),
  λ j least before. unfolds-same extent z y weight j same (h.3 j least before),
)
level_fault-same extent z y weight (Size k) same h = (
  h.0,
  h.1,
  whole-same extent z y k same h.2,
  λ sized. h.3 (sized-same extent y z weight k (agree-back extent z y same) sized),
  λ j least before. unfolds-same extent z y weight j same (h.4 j least before),
)
level_fault-same extent z y weight Memory same h = h

-- ---- one level more
-- the refusal of a level is that of all levels, where those below can be unfolded
pub fault-at : (extent : Extent) (z : List ℕ → ℤ) (weight k : ℕ) (fault : UnfoldFault) → 1 ≤ k → k ≤ extent.depth → EachBelow (Unfolds extent z weight) k
    → IsFaultAt extent z weight k fault → IsLevelFault extent z weight fault
fault-at extent z weight k (Overflow w) least most before h = h
fault-at extent z weight k (Expand j) least most before h = h
fault-at extent z weight k (Split j) least most before h = h
fault-at extent z weight k (Log j) least most before h = h
fault-at extent z weight k (Whole j) least most before h =
    subst (λ (i : ℕ). (1 ≤ i) × (i ≤ extent.depth) × (IsWhole extent z i → ⊥) × EachBelow (Unfolds extent z weight) i) (sym h.0) (least, most, h.1, before)
fault-at extent z weight k (Size j) least most before h =
    subst (λ (i : ℕ). (1 ≤ i) × (i ≤ extent.depth) × IsWhole extent z i × (IsSized extent z weight i → ⊥) × EachBelow (Unfolds extent z weight) i) (sym h.0) (least, most, h.1, h.2, before)
fault-at extent z weight k Memory least most before h = h

-- the unit is within the bounds of any weight
pub unit-within : (weight : ℕ) (word : List ℕ) → unsigned_abs (unit word) ≤ weight ^ length word
unit-within weight [] = omega (arith, pow-zero weight)
unit-within weight (a ∷ word) = omega arith

-- the unit is what is known before the first level
pub known-none : (extent : Extent) (z : List ℕ → ℤ) (weight : ℕ) (t : TensorValue) → t.extent ≡ extent → AgreeOn extent (coefficient t) unit → IsKnown extent z weight 0 t
known-none extent z weight t same is = record {
  same_extent = same;
  starts = is [] (empty-word extent);
  values = is;
  bounded = record {
    bounded = λ word is_word. subst (λ (x : ℤ). unsigned_abs x ≤ weight ^ length word) (sym (is word (subst (λ (e : Extent). IsWord e word) same is_word))) (unit-within weight word);
  };
}

-- what is left of a logarithm, from what is known
pub left-known : (extent : Extent) (z : List ℕ → ℤ) (weight n : ℕ) (t : TensorValue) → IsKnown extent z weight n t
    → AgreeOn extent (λ word. z word -ℤ logarithm (coefficient t) word) (λ word. z word -ℤ logarithm (unfolded z n) word)
left-known extent z weight n t known word is_word = ap (λ (x : ℤ). z word -ℤ x) (logarithms-agree extent (coefficient t) (unfolded z n) known.values word is_word)

-- the quotients of what is left are the next level
pub level-value : (z : List ℕ → ℤ) (k n : ℕ) (word : List ℕ) → k ≡ suc n → length word ≡ k → unfolded z k word ≡ int_div (z word -ℤ logarithm (unfolded z n) word) (pos (lcm_to k))
level-value z k n word e len =
    subst (λ (m : ℕ). unfolded z m word ≡ int_div (z word -ℤ logarithm (unfolded z n) word) (pos (lcm_to m))) (sym e) (unfolded-level z n word (len ∙ e))

-- the other levels stay
pub level-other : (z : List ℕ → ℤ) (k n : ℕ) (word : List ℕ) → k ≡ suc n → length word ≢ k → unfolded z k word ≡ unfolded z n word
level-other z k n word e apart = subst (λ (m : ℕ). unfolded z m word ≡ unfolded z n word) (sym e) (unfolded-other z n word (λ l. apart (l ∙ sym e)))

-- so these are the values after a level is written
pub values-next : (extent : Extent) (z : List ℕ → ℤ) (weight k n : ℕ) (old new left : TensorValue) (d : ℕ) → k ≡ suc n → IsKnown extent z weight n old → d ≡ lcm_to k
    → ((word : List ℕ) → IsWord extent word → length word ≡ k → coefficient left word ≡ z word -ℤ logarithm (coefficient old) word)
    → ((word : List ℕ) → IsWord extent word → length word ≡ k → coefficient new word ≡ int_div (coefficient left word) (pos d))
    → ((word : List ℕ) → IsWord extent word → length word ≢ k → coefficient new word ≡ coefficient old word)
    → AgreeOn extent (coefficient new) (unfolded z k)
values-next extent z weight k n old new left d e known de lefts level others word is_word =
    elim (cases_eq (length word) k) [
      | inl len ↦
          level word is_word len
          ∙ ap₂ (λ (x : ℤ) (m : ℕ). int_div x (pos m)) (lefts word is_word len ∙ left-known extent z weight n old known word is_word) de
          ∙ sym (level-value z k n word e len)
      | inr apart ↦ others word is_word apart ∙ known.values word is_word ∙ sym (level-other z k n word e apart)
    ]

-- and what is known then, where the level is within the bounds
pub known-next : (extent : Extent) (z : List ℕ → ℤ) (weight k n : ℕ) (old new : TensorValue) → k ≡ suc n → new.extent ≡ extent → IsKnown extent z weight n old
    → AgreeOn extent (coefficient new) (unfolded z k)
    → ((word : List ℕ) → IsWord extent word → length word ≢ k → coefficient new word ≡ coefficient old word)
    → AreWithin extent (coefficient new) k (weight ^ k) → IsKnown extent z weight k new
known-next extent z weight k n old new e same known values others within = record {
  same_extent = same;
  starts = others [] (empty-word extent) (λ l. absurd (omega (arith, l, e))) ∙ known.starts;
  values = values;
  bounded = record {
    bounded = λ word is_new_word.
        let is_word : IsWord extent word = subst (λ (x : Extent). IsWord x word) same is_new_word in
        elim (cases_eq (length word) k) [
          | inl len ↦ subst (λ (i : ℕ). unsigned_abs (coefficient new word) ≤ weight ^ i) (sym len) (within word is_word len)
          | inr apart ↦ subst (λ (x : ℤ). unsigned_abs x ≤ weight ^ length word) (sym (others word is_word apart))
              (known.bounded.bounded word (subst (λ (x : Extent). IsWord x word) (sym known.same_extent) is_word))
        ];
  };
}
