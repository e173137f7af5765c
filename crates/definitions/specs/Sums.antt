-- Finite sums.
use Rattle.std.specs.Prelude.{ℕ, zero, suc, ◌+◌, ℤ, pos, ◌+ℤ◌}

-- f 0 + .. + f (n - 1)
unfoldable pub sum_below : ℕ → (ℕ → ℤ) → ℤ
sum_below zero f = pos 0
sum_below (suc n) f = sum_below n f +ℤ f n

-- f 0 + .. + f (n - 1), of naturals
unfoldable pub count_below : ℕ → (ℕ → ℕ) → ℕ
count_below zero f = 0
count_below (suc n) f = count_below n f + f n
