-- What fits the bounds of a table fits as a logarithm and as a signature.
use Rattle.std.proofs.Common.{ℕ, zero, suc, ◌*◌, ◌^◌, ◌<◌, ◌≤◌, ap₂, arith, max, map, add-one}
use Rattle.std.proofs.Math.Nat.{mul-le-mul_left}
use Rattle.definitions.specs.Words.{Extent, up_to}
use Rattle.definitions.specs.Signature.{Fits, limit}
use Rattle.definitions.specs.Logarithm.{log_bound}
use Rattle.dynkin_map.specs.Coordinates.{lie_bound, lie_bounds}
use Rattle.dynkin_map.proofs.Factors.{log_bound-some, length-factors_to, factors_to-at}

-- a weight fits the list of bounds where it fits at each degree
each-fits : (f : ℕ → ℕ) (n v : ℕ) → Fits (map f (up_to n)) v → (k : ℕ) → k < n → v ^ suc k * f (suc k) ≤ limit
each-fits f n v fits k h = omega (arith, fits k (omega (arith, length-factors_to f n)), ap₂ (λ (m x : ℕ). v ^ m * x) (add-one k) (factors_to-at f n k h))

-- and the other way round
fits-each : (f : ℕ → ℕ) (n v : ℕ) → ((k : ℕ) → k < n → v ^ suc k * f (suc k) ≤ limit) → Fits (map f (up_to n)) v
fits-each f n v each k h =
    let here : k < n = omega (arith, length-factors_to f n) in
    omega (arith, each k here, ap₂ (λ (m x : ℕ). v ^ m * x) (add-one k) (factors_to-at f n k here))

-- the bound of a table is no less than that of the logarithm
within-bound : (p b g : ℕ) → p * (b * max 1 g) ≤ limit → p * b ≤ limit
within-bound p b g h =
    let more : b * 1 ≤ b * max 1 g = mul-le-mul_left b (omega arith) in
    let whole : p * b ≤ p * (b * max 1 g) = mul-le-mul_left p (omega (arith, more)) in
    omega (arith, whole, h)

-- what fits the factors of a table fits the bound of a logarithm
pub fits-logarithm : (extent : Extent) (v : ℕ) → Fits (lie_bounds extent) v → Fits (map log_bound (up_to extent.depth)) v
fits-logarithm extent v fits =
    fits-each log_bound extent.depth v (λ k h. within-bound (v ^ suc k) (log_bound (suc k)) _ (each-fits (lie_bound extent) extent.depth v fits k h))

-- and has a signature
pub fits-signature : (extent : Extent) (v : ℕ) → 1 ≤ extent.depth → extent.depth ≤ 8 → Fits (lie_bounds extent) v → v ^ extent.depth ≤ limit
fits-signature extent v some small fits = at extent.depth some small (each-fits log_bound extent.depth v (fits-logarithm extent v fits))
  where
    at : (n : ℕ) → 1 ≤ n → n ≤ 8 → ((k : ℕ) → k < n → v ^ suc k * log_bound (suc k) ≤ limit) → v ^ n ≤ limit
    at zero least most each = absurd (omega arith)
    at (suc n) least most each =
        let positive : 1 ≤ log_bound (suc n) = log_bound-some n (omega arith) in
        let more : v ^ suc n * 1 ≤ v ^ suc n * log_bound (suc n) = mul-le-mul_left (v ^ suc n) positive in
        omega (arith, more, each n (omega arith))
