-- The logarithm of a series that is 1 at the empty word, and the numbers that bound that of a signature.
use Rattle.std.specs.Prelude.{ℕ, zero, suc, ◌-◌, ◌*◌, ◌/◌, ◌%◌, nat_eq, if◌then◌else◌, List, [], ◌∷◌, length, ℤ, pos, neg_ℤ, ◌*ℤ◌}
use Rattle.definitions.specs.Sums.{sum_below, count_below}
use Rattle.definitions.specs.Words.{binom}
use Rattle.definitions.specs.Products.{unit, scaled_product}

-- a series less its coefficient at the empty word
abbrev pub reduced : (List ℕ → ℤ) → List ℕ → ℤ
reduced s [] = pos 0
reduced s (a ∷ word) = s (a ∷ word)

-- the m-th power of the reduced series: a sum over the ways to cut the word in m parts, of which none is empty
abbrev pub power : (List ℕ → ℤ) → ℕ → List ℕ → ℤ
power s zero = unit
power s (suc m) = scaled_product (reduced s) (power s m)

-- the first of i m, (i + 1) m, .. that n divides, with so many tries at most
abbrev pub multiple_from : ℕ → ℕ → ℕ → ℕ → ℕ
multiple_from m n i zero = i * m
multiple_from m n i (suc tries) = if nat_eq (i * m % n) 0 then i * m else multiple_from m n (suc i) tries

-- the least common multiple of 1 .. k
abbrev pub lcm_to : ℕ → ℕ
lcm_to zero = 1
lcm_to (suc k) = multiple_from (lcm_to k) (suc k) 1 k

-- (-1) ^ m
abbrev pub sign : ℕ → ℤ
sign zero = pos 1
sign (suc m) = neg_ℤ (sign m)

-- the power series of log (1 + x) at the reduced series: at a word of k letters the numerator over k! lcm_to k
unfoldable pub logarithm : (List ℕ → ℤ) → List ℕ → ℤ
logarithm s word = sum_below (length word) (λ m. (sign m *ℤ pos (lcm_to (length word) / suc m)) *ℤ power s (suc m) word)

-- how many maps of k things onto m things there are: some i + 1 of them go to the first
abbrev pub surjections : ℕ → ℕ → ℕ
surjections zero zero = 1
surjections zero (suc k) = 0
surjections (suc m) k = count_below k (λ i. binom k (suc i) * surjections m (k - suc i))

-- the logarithm of a signature at a word of k letters is at most this times the k-th power of the weight
unfoldable pub log_bound : ℕ → ℕ
log_bound k = count_below k (λ m. lcm_to k / suc m * surjections (suc m) k)
