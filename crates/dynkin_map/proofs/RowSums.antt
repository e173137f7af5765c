-- Sums of rows, one row more.
use Rattle.std.proofs.Common.{◌≡◌, ℕ, suc, ◌+◌, ◌*◌, ◌<◌, ◌≤◌, refl, sym, ap, ap₂, add-one, ◌∙◌, arith, ℤ, pos, ◌+ℤ◌, ◌*ℤ◌, unsigned_abs}
use Rattle.std.proofs.Math.Nat.{le_trans, mul-le-mul_left}
use Rattle.std.proofs.lemmas.Int.{ints, unsigned_abs-mul}
use Rattle.definitions.specs.Signature.{limit}
use Rattle.definitions.specs.Sums.{sum_below, count_below}
use Rattle.definitions.proofs.Integers.{abs-add}
use Rattle.definitions.proofs.SumLaws.{count_below-le, count_below-part, abs-sum_below}

-- what is added is at most the sum of the sizes
pub abs-added : (n : ℕ) (f c : ℕ → ℤ) (s : ℕ → ℕ) → ((i : ℕ) → i < n → unsigned_abs (c i) ≤ s i) → unsigned_abs (sum_below n (λ i. f i *ℤ c i)) ≤ count_below n (λ i. unsigned_abs (f i) * s i)
abs-added n f c s within =
    le_trans (abs-sum_below n (λ i. f i *ℤ c i))
    (count_below-le n (λ i. unsigned_abs (f i *ℤ c i)) (λ i. unsigned_abs (f i) * s i) (λ i lt. omega (arith, unsigned_abs-mul (f i) (c i), mul-le-mul_left (unsigned_abs (f i)) (within i lt))))

-- there is room for the next row
pub added-room : (n i : ℕ) (old now : ℤ) (f c : ℕ → ℤ) (s : ℕ → ℕ) → i < n → ((j : ℕ) → j < n → unsigned_abs (c j) ≤ s j) → unsigned_abs old + count_below n (λ j. unsigned_abs (f j) * s j) ≤ limit
    → now ≡ old +ℤ sum_below i (λ j. f j *ℤ c j) → unsigned_abs now + unsigned_abs (f i) * s i ≤ limit
unfolding count_below
added-room n i old now f c s lt within room e =
    omega (
      arith,
      ap unsigned_abs e,
      abs-add old (sum_below i (λ j. f j *ℤ c j)),
      abs-added i f c s (λ j l. within j (omega arith)),
      count_below-part n (suc i) (λ j. unsigned_abs (f j) * s j) lt,
      room,
    )

-- one summand more is added
pub added-next : (i : ℕ) (old now new : ℤ) (f c : ℕ → ℤ) → now ≡ old +ℤ sum_below i (λ j. f j *ℤ c j) → new ≡ now +ℤ (f i *ℤ c i) → new ≡ old +ℤ sum_below (suc i) (λ j. f j *ℤ c j)
unfolding sum_below
added-next i old now new f c e step = omega (arith, ints, e, step)

-- before the first summand nothing is added
pub added-none : (old : ℤ) (f : ℕ → ℤ) → old ≡ old +ℤ sum_below 0 f
unfolding sum_below
added-none old f = omega (arith, ints)

-- what is added leaves the sum within the range of a coefficient, where the sizes do
pub added-range : (n : ℕ) (old new : ℤ) (f c : ℕ → ℤ) (s : ℕ → ℕ) → ((j : ℕ) → j < n → unsigned_abs (c j) ≤ s j) → unsigned_abs old + count_below n (λ j. unsigned_abs (f j) * s j) ≤ limit
    → new ≡ old +ℤ sum_below n (λ j. f j *ℤ c j) → unsigned_abs new ≤ limit
added-range n old new f c s within room e = omega (arith, ap unsigned_abs e, abs-add old (sum_below n (λ j. f j *ℤ c j)), abs-added n f c s within, room)

-- a sum of nothing is 0
pub sum-none : (f : ℕ → ℤ) → pos 0 ≡ sum_below 0 f
unfolding sum_below
sum-none f = refl

-- one term more of a sum
pub sum-more : (n : ℕ) (f : ℕ → ℤ) (old new x : ℤ) → old ≡ sum_below n f → new ≡ old +ℤ x → x ≡ f n → new ≡ sum_below (n + 1) f
unfolding sum_below
sum-more n f old new x eo en ex = en ∙ ap₂ ◌+ℤ◌ eo ex ∙ ap (λ (k : ℕ). sum_below k f) (sym (add-one n))
