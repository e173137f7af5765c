-- The partial sums towards a coefficient: how each comes from the one before, and that none leaves the limit.
use Rattle.std.proofs.Common.{◌≡◌, ℕ, suc, ◌+◌, ◌-◌, ◌≤◌, ◌<◌, ◌^◌, sym, ap, ap₂, ◌∙◌, arith, add-one, List, [], ◌∷◌, ◌++◌, length, take, drop, length-take, length-drop, take_all, get_or, ℤ, pos, ◌+ℤ◌, ◌*ℤ◌, unsigned_abs}
use Rattle.std.proofs.Math.Nat.{le_trans, pow-le-pow_right}
use Rattle.std.proofs.lemmas.Int.{ints}
use Rattle.std.proofs.lemmas.List.{take_more, drop_all, drop-append-le}
use Rattle.definitions.specs.Words.{binom}
use Rattle.definitions.specs.Sums.{sum_below}
use Rattle.definitions.specs.Products.{product_term, scaled_product}
use Rattle.definitions.specs.Moves.{along, greatest}
use Rattle.definitions.proofs.Integers.{mul_assoc_ℤ, mul-one_ℤ, one-mul_ℤ}
use Rattle.definitions.proofs.SumLaws.{sum_below-same, sum_below-mul_right, sum_below-next}
use Rattle.definitions.proofs.MoveLaws.{along-bound}
use Rattle.definitions.proofs.ProductBounds.{AreFactors}
use Rattle.tensor_product.specs.Extension.{partial_sum, entry_after}

along-push : (x : List ℤ) (word : List ℕ) (a : ℕ) → along x (word ++ a ∷ []) ≡ along x word *ℤ get_or x (a - 1) (pos 0)
along-push x [] a = mul-one_ℤ (get_or x (a - 1) (pos 0)) ∙ sym (one-mul_ℤ (get_or x (a - 1) (pos 0)))
along-push x (b ∷ word) a =
    ap (λ (z : ℤ). get_or x (b - 1) (pos 0) *ℤ z) (along-push x word a)
    ∙ sym (mul_assoc_ℤ (get_or x (b - 1) (pos 0)) (along x word) (get_or x (a - 1) (pos 0)))

-- what the cut after i letters adds to the sum for j letters
abbrev pub term : (ℕ → ℤ) → List ℤ → List ℕ → ℕ → ℕ → ℤ
term p x word j i = pos (binom (length word) i) *ℤ (p i *ℤ along x (drop i (take j word)))

term-longer : (p : ℕ → ℤ) (x : List ℤ) (word : List ℕ) (j i : ℕ) → j < length word → i ≤ j → term p x word (suc j) i ≡ term p x word j i *ℤ entry_after x word j
term-longer p x word j i here h =
    let e : ℤ = entry_after x word j in
    let count : length (take j word) ≡ j = omega (arith, length-take j word) in
    let cut : drop i (take (suc j) word) ≡ drop i (take j word) ++ get_or word j 0 ∷ [] =
    ap (λ (n : ℕ). drop i (take n word)) (sym (add-one j)) ∙ ap (drop i) (take_more word j 0 here) ∙ drop-append-le i (take j word) (get_or word j 0 ∷ []) (omega (arith, count)) in
    let rest : along x (drop i (take (suc j) word)) ≡ along x (drop i (take j word)) *ℤ e = ap (along x) cut ∙ along-push x (drop i (take j word)) (get_or word j 0) in
    ap (λ (z : ℤ). pos (binom (length word) i) *ℤ (p i *ℤ z)) rest
    ∙ ap (λ (z : ℤ). pos (binom (length word) i) *ℤ z) (sym (mul_assoc_ℤ (p i) (along x (drop i (take j word))) e))
    ∙ sym (mul_assoc_ℤ (pos (binom (length word) i)) (p i *ℤ along x (drop i (take j word))) e)

-- the cut after all j letters adds the binomial times the coefficient of the prefix
pub term-last : (p : ℕ → ℤ) (x : List ℤ) (word : List ℕ) (j : ℕ) → j ≤ length word → term p x word j j ≡ pos (binom (length word) j) *ℤ p j
term-last p x word j h =
    let none : drop j (take j word) ≡ [] = drop_all j (take j word) (omega (arith, length-take j word)) in
    ap (λ (u : List ℕ). pos (binom (length word) j) *ℤ (p j *ℤ along x u)) none ∙ ap (λ (z : ℤ). pos (binom (length word) j) *ℤ z) (mul-one_ℤ (p j))

-- the sum so far times the next entry
pub grown-is : (p : ℕ → ℤ) (x : List ℤ) (word : List ℕ) (j : ℕ) → j < length word → partial_sum p x word j *ℤ entry_after x word j ≡ sum_below (suc j) (term p x word (suc j))
unfolding partial_sum
grown-is p x word j here =
    sum_below-mul_right (suc j) (term p x word j) (entry_after x word j)
    ∙ sym (sum_below-same (suc j) (term p x word (suc j)) (λ i. term p x word j i *ℤ entry_after x word j) (λ i h. term-longer p x word j i here (omega arith)))

last-apart : (p : ℕ → ℤ) (x : List ℤ) (word : List ℕ) (j : ℕ) → partial_sum p x word (suc j) ≡ sum_below (suc j) (term p x word (suc j)) +ℤ term p x word (suc j) (suc j)
unfolding partial_sum
last-apart p x word j = sum_below-next (suc j) (term p x word (suc j))

-- the next sum from the numbers that the code has
pub partial_sum-next : (p : ℕ → ℤ) (x : List ℤ) (word : List ℕ) (j : ℕ) (sum entry prefix : ℤ) (ways : ℕ) → j < length word
    → sum ≡ partial_sum p x word j → entry ≡ entry_after x word j → ways ≡ binom (length word) (j + 1) → prefix ≡ p (j + 1)
    → sum *ℤ entry +ℤ pos ways *ℤ prefix ≡ partial_sum p x word (j + 1)
partial_sum-next p x word j sum entry prefix ways here es ee ew ep =
    let grown : sum *ℤ entry ≡ sum_below (suc j) (term p x word (suc j)) = ap₂ ◌*ℤ◌ es ee ∙ grown-is p x word j here in
    let added : pos ways *ℤ prefix ≡ term p x word (suc j) (suc j) =
    ap₂ (λ (n : ℕ) (z : ℤ). pos n *ℤ z) (ew ∙ ap (binom (length word)) (add-one j)) (ep ∙ ap p (add-one j)) ∙ sym (term-last p x word (suc j) here) in
    ap₂ ◌+ℤ◌ grown added ∙ sym (last-apart p x word j) ∙ ap (partial_sum p x word) (sym (add-one j))

-- the sum for no letters is the coefficient of the empty prefix
pub partial_sum-none : (p : ℕ → ℤ) (x : List ℤ) (word : List ℕ) → partial_sum p x word 0 ≡ p 0
unfolding partial_sum sum_below
partial_sum-none p x word = omega (arith, ints)

-- the sum for all letters is the product by the step
pub partial_sum-all : (a : List ℕ → ℤ) (x : List ℤ) (word : List ℕ) → partial_sum (λ i. a (take i word)) x word (length word) ≡ scaled_product a (along x) word
unfolding partial_sum scaled_product product_term
partial_sum-all a x word =
    ap (λ (u : List ℕ). sum_below (suc (length word)) (λ i. pos (binom (length word) i) *ℤ (a (take i word) *ℤ along x (drop i u)))) (take_all (length word) word (omega arith))

-- the sum depends on the coefficients of the prefixes alone
pub partial_sum-same : (p q : ℕ → ℤ) (x : List ℤ) (word : List ℕ) (j : ℕ) → ((i : ℕ) → i ≤ j → p i ≡ q i) → partial_sum p x word j ≡ partial_sum q x word j
unfolding partial_sum
partial_sum-same p q x word j same =
    sum_below-same (suc j) (term p x word j) (term q x word j) (λ i h. ap (λ (z : ℤ). pos (binom (length word) i) *ℤ (z *ℤ along x (drop i (take j word)))) (same i (omega arith)))

-- the step along no more than the rest of the word is bounded as along the rest
pub factors : (p : ℕ → ℤ) (x : List ℤ) (word : List ℕ) (v j : ℕ) → 1 ≤ greatest x → j ≤ length word → ((i : ℕ) → i ≤ length word → unsigned_abs (p i) ≤ v ^ i)
    → AreFactors v (greatest x) (length word) p (λ i. along x (drop i (take j word)))
factors p x word v j some h bounds = record {
  left = bounds;
  right = λ i l.
      let within : length (drop i (take j word)) ≤ length word - i = omega (arith, length-drop i (take j word), length-take j word) in
      le_trans (along-bound x (drop i (take j word))) (pow-le-pow_right some within);
}
