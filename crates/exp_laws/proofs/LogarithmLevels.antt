-- Of a logarithm at a word, all but the coefficient there is determined by the coefficients at shorter words.
use Rattle.std.proofs.Common.{◌≡◌, inl, inr, ℕ, zero, suc, ◌/◌, ◌≤◌, ◌<◌, sym, ap, ap₂, ◌∙◌, arith, ℤ, pos, ◌+ℤ◌, ◌-ℤ◌, ◌*ℤ◌, List, [], ◌∷◌, length, take, drop, length-take, length-drop}
use Rattle.std.proofs.lemmas.Int.{ints}
use Rattle.std.proofs.lemmas.Bool.{cases_lt}
use Rattle.definitions.specs.Words.{binom}
use Rattle.definitions.specs.Sums.{sum_below}
use Rattle.definitions.specs.Products.{scaled_product, product_term}
use Rattle.definitions.specs.Logarithm.{lcm_to, sign, reduced, power, logarithm}
use Rattle.definitions.proofs.Integers.{one-mul_ℤ}
use Rattle.definitions.proofs.SumLaws.{sum_below-same, sum_below-first}
use Rattle.definitions.proofs.ProductLaws.{scaled_product-unit_right}
use Rattle.exp_log.proofs.PowerBounds.{IsClosed, log_term, reduced-same, power-same}
use Rattle.exp_log.proofs.LogarithmsOnShuffles.{power-none, zero-left, zero-right}

-- the two series agree at words of fewer than n letters
abbrev pub AgreeBelow : ℕ → (List ℕ → ℤ) → (List ℕ → ℤ) → Type 0
AgreeBelow n s t = (u : List ℕ) → length u < n → s u ≡ t u

-- words of fewer than n letters have fronts and rests of fewer than n letters
shorter-closed : (n : ℕ) → IsClosed (λ u. length u < n)
shorter-closed n = record { front = λ i u is. omega (arith, length-take i u); back = λ i u is. omega (arith, length-drop i u) }

none-right : (n : ℕ) (x y : ℤ) → y ≡ pos 0 → pos n *ℤ (x *ℤ y) ≡ pos 0
none-right n x y e = ap (λ (z : ℤ). pos n *ℤ (x *ℤ z)) e ∙ zero-right n x

-- one cut of a word in a nonempty part and two or more others
higher-cell : (s t : List ℕ → ℤ) (m : ℕ) (w : List ℕ) → AgreeBelow (length w) s t → (i : ℕ)
    → pos (binom (length w) i) *ℤ (reduced s (take i w) *ℤ power s (suc m) (drop i w)) ≡ pos (binom (length w) i) *ℤ (reduced t (take i w) *ℤ power t (suc m) (drop i w))
higher-cell s t m w same zero = zero-left (binom (length w) zero) (power s (suc m) (drop zero w)) ∙ sym (zero-left (binom (length w) zero) (power t (suc m) (drop zero w)))
higher-cell s t m w same (suc i) =
    let n : ℕ = binom (length w) (suc i) in
    let front : List ℕ = take (suc i) w in
    let rest : List ℕ = drop (suc i) w in
    elim (cases_lt (suc i) (length w)) [
      | inl within ↦
          ap₂ (λ (x y : ℤ). pos n *ℤ (x *ℤ y))
          (reduced-same (λ u. length u < length w) s t same front (omega (arith, within, length-take (suc i) w)))
          (power-same (λ u. length u < length w) s t (shorter-closed (length w)) same (suc m) rest (omega (arith, within, length-drop (suc i) w)))
      | inr past ↦
          none-right n (reduced s front) (power s (suc m) rest) (power-none s (suc m) rest (omega (arith, past, length-drop (suc i) w)))
          ∙ sym (none-right n (reduced t front) (power t (suc m) rest) (power-none t (suc m) rest (omega (arith, past, length-drop (suc i) w))))
    ]

-- powers with two factors or more read shorter words only
pub higher-power : (s t : List ℕ → ℤ) (m : ℕ) (w : List ℕ) → AgreeBelow (length w) s t → power s (suc (suc m)) w ≡ power t (suc (suc m)) w
unfolding scaled_product product_term
higher-power s t m w same =
    sum_below-same (suc (length w)) (λ i. pos (binom (length w) i) *ℤ (reduced s (take i w) *ℤ power s (suc m) (drop i w))) (λ i. pos (binom (length w) i) *ℤ (reduced t (take i w) *ℤ power t (suc m) (drop i w)))
    (λ i h. higher-cell s t m w same i)

-- the first term apart
logarithm-first : (s : List ℕ → ℤ) (a : ℕ) (w : List ℕ)
    → logarithm s (a ∷ w) ≡ (pos (lcm_to (length (a ∷ w))) *ℤ s (a ∷ w)) +ℤ sum_below (length w) (λ m. log_term s (a ∷ w) (suc m))
unfolding logarithm
logarithm-first s a w =
    let l : ℕ = lcm_to (length (a ∷ w)) in
    let whole : l / 1 ≡ l = omega arith in
    sum_below-first (length w) (log_term s (a ∷ w))
    ∙ ap (λ (x : ℤ). x +ℤ sum_below (length w) (λ m. log_term s (a ∷ w) (suc m)))
    (ap₂ ◌*ℤ◌ (one-mul_ℤ (pos (l / 1)) ∙ ap pos whole) (scaled_product-unit_right (reduced s) (a ∷ w)))

differences : (x y p q r : ℤ) → x ≡ p +ℤ r → y ≡ q +ℤ r → x -ℤ p ≡ y -ℤ q
differences x y p q r ex ey = omega (arith, ints, ex, ey)

-- what a logarithm has beside the coefficient itself
pub logarithm-rest : (s t : List ℕ → ℤ) (w : List ℕ) → 1 ≤ length w → AgreeBelow (length w) s t
    → logarithm s w -ℤ (pos (lcm_to (length w)) *ℤ s w) ≡ logarithm t w -ℤ (pos (lcm_to (length w)) *ℤ t w)
logarithm-rest s t [] some same = absurd (omega arith)
logarithm-rest s t (a ∷ w) some same =
    let k : ℕ = length (a ∷ w) in
    let rest : sum_below (length w) (λ m. log_term s (a ∷ w) (suc m)) ≡ sum_below (length w) (λ m. log_term t (a ∷ w) (suc m)) =
    sum_below-same (length w) (λ m. log_term s (a ∷ w) (suc m)) (λ m. log_term t (a ∷ w) (suc m))
    (λ m h. ap (λ (x : ℤ). (sign (suc m) *ℤ pos (lcm_to k / suc (suc m))) *ℤ x) (higher-power s t m (a ∷ w) same)) in
    differences (logarithm s (a ∷ w)) (logarithm t (a ∷ w)) (pos (lcm_to k) *ℤ s (a ∷ w)) (pos (lcm_to k) *ℤ t (a ∷ w)) (sum_below (length w) (λ m. log_term t (a ∷ w) (suc m)))
    (logarithm-first s a w ∙ ap (λ (x : ℤ). (pos (lcm_to k) *ℤ s (a ∷ w)) +ℤ x) rest)
    (logarithm-first t a w)
