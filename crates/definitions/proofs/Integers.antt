-- Laws of the integers that the kit lacks: the product is associative and distributes over sums, and what absolute values do.
use Rattle.std.proofs.Common.{◌≡◌, ℕ, ◌+◌, ◌*◌, ◌≤◌, ap, arith, ℤ, pos, ◌+ℤ◌, ◌*ℤ◌, unsigned_abs}
use Rattle.std.proofs.lemmas.Int.{ints}
use borrow.Author.Differences.{up, down, same_in, product_is, sum_is_lem}

-- the product distributes over a sum on its right
pub mul-add_ℤ : (a b c : ℤ) → a *ℤ (b +ℤ c) ≡ (a *ℤ b) +ℤ (a *ℤ c)
mul-add_ℤ a b c =
    same_in _ _ (omega (arith, ints, ap (λ (n : ℕ). up a * n) (sum_is_lem b c), ap (λ (n : ℕ). down a * n) (sum_is_lem b c)))

-- the product is associative
pub mul_assoc_ℤ : (a b c : ℤ) → (a *ℤ b) *ℤ c ≡ a *ℤ (b *ℤ c)
mul_assoc_ℤ a b c =
    same_in _ _
    (omega (
      arith,
      ints,
      ap (λ (n : ℕ). n * up c) (product_is a b).0,
      ap (λ (n : ℕ). n * down c) (product_is a b).0,
      ap (λ (n : ℕ). n * up c) (product_is a b).1,
      ap (λ (n : ℕ). n * down c) (product_is a b).1,
      ap (λ (n : ℕ). up a * n) (product_is b c).0,
      ap (λ (n : ℕ). down a * n) (product_is b c).0,
      ap (λ (n : ℕ). up a * n) (product_is b c).1,
      ap (λ (n : ℕ). down a * n) (product_is b c).1,
    ))

-- the absolute value of a sum is at most the sum of the absolute values
pub abs-add : (a b : ℤ) → unsigned_abs (a +ℤ b) ≤ unsigned_abs a + unsigned_abs b
abs-add a b = omega (arith, ints)

-- 1 is neutral on the left
pub one-mul_ℤ : (a : ℤ) → pos 1 *ℤ a ≡ a
one-mul_ℤ a = omega (arith, ints)

-- 1 is neutral on the right
pub mul-one_ℤ : (a : ℤ) → a *ℤ pos 1 ≡ a
mul-one_ℤ a = omega (arith, ints)

-- 0 times a number is 0
pub zero-mul_ℤ : (a : ℤ) → pos 0 *ℤ a ≡ pos 0
zero-mul_ℤ a = omega (arith, ints)
