-- The factors that bound the coordinates, one for each degree.
use Rattle.std.proofs.Common.{◌≡◌, ℕ, zero, suc, ◌+◌, ◌*◌, ◌≤◌, ◌<◌, ◌^◌, refl, sym, ap, ◌∙◌, ap₂, arith, add-one, max, List, [], ◌∷◌, ◌++◌, length, length-set, get_or, get_or-set_same, take, set, All, map, inl, inr}
use Rattle.std.proofs.Math.Nat.{eq-or-lt_of_le, mul-le-mul, mul-le-mul_left}
use Rattle.std.proofs.Math.Seq.{get_or-append_seam}
use Rattle.std.proofs.lemmas.List.{map-append, get_or_append_left, length-append, take_more, take-set}
use Rattle.std.proofs.lemmas.List.Elements.{All-set}
use Rattle.definitions.specs.Words.{Extent, up_to}
use Rattle.definitions.specs.Sums.{count_below}
use Rattle.definitions.specs.Signature.{limit, Fits}
use Rattle.definitions.specs.Logarithm.{log_bound}
use Rattle.dynkin_map.specs.Coordinates.{lie_bound, lie_bounds}
use Rattle.dynkin_map.specs.Table.{growth_of}

-- no bound of a logarithm is 0, for degrees from 1 to 8
pub log_bound-some : (k : ℕ) → k < 8 → 1 ≤ log_bound (suc k)
unfolding log_bound count_below
log_bound-some zero h = omega arith
log_bound-some (suc zero) h = omega arith
log_bound-some (suc (suc zero)) h = omega arith
log_bound-some (suc (suc (suc zero))) h = omega arith
log_bound-some (suc (suc (suc (suc zero)))) h = omega arith
log_bound-some (suc (suc (suc (suc (suc zero))))) h = omega arith
log_bound-some (suc (suc (suc (suc (suc (suc zero)))))) h = omega arith
log_bound-some (suc (suc (suc (suc (suc (suc (suc zero))))))) h = omega arith
log_bound-some (suc (suc (suc (suc (suc (suc (suc (suc k)))))))) h = absurd (omega arith)

-- f 1 .. f n
abbrev pub factors_to : (ℕ → ℕ) → ℕ → List ℕ
factors_to f n = map f (up_to n)

factors_to-next : (f : ℕ → ℕ) (n : ℕ) → factors_to f (suc n) ≡ factors_to f n ++ f (suc n) ∷ []
factors_to-next f n = map-append f (up_to n) (suc n ∷ [])

-- there are n of them
pub length-factors_to : (f : ℕ → ℕ) (n : ℕ) → length (factors_to f n) ≡ n
length-factors_to f zero = refl
length-factors_to f (suc n) = ap length (factors_to-next f n) ∙ omega (arith, length-append (factors_to f n) (f (suc n) ∷ []), length-factors_to f n)

-- the factor at i is that of degree i + 1
pub factors_to-at : (f : ℕ → ℕ) (n i : ℕ) → i < n → get_or (factors_to f n) i 0 ≡ f (suc i)
factors_to-at f zero i h = absurd (omega arith)
factors_to-at f (suc n) i h =
    ap (λ (xs : List ℕ). get_or xs i 0) (factors_to-next f n)
    ∙ elim (eq-or-lt_of_le h) [
      | inl e ↦ let same : i ≡ length (factors_to f n) = omega (arith, length-factors_to f n) in rw same (get_or-append_seam (factors_to f n) (f (suc n)) [] 0 ∙ ap (λ (k : ℕ). f (suc k)) (sym (length-factors_to f n)))
      | inr l ↦ get_or_append_left (factors_to f n) (f (suc n) ∷ []) 0 i (omega (arith, length-factors_to f n)) ∙ factors_to-at f n i (omega arith)
    ]

-- one factor more is written
pub factors_to-step : (f : ℕ → ℕ) (factors : List ℕ) (k n : ℕ) → k < length factors → 1 ≤ n → take k factors ≡ factors_to f k → All (λ m. 1 ≤ m) factors → n ≡ f (suc k)
    → (take (k + 1) (set factors k n) ≡ factors_to f (k + 1)) × All (λ m. 1 ≤ m) (set factors k n)
factors_to-step f factors k n here least front some en = (
  take_more (set factors k n) k 0 (omega (arith, length-set {A = ℕ}))
      ∙ ap₂ (λ (xs : List ℕ) (m : ℕ). xs ++ m ∷ []) (take-set factors k n ∙ front) (get_or-set_same factors k n 0 here ∙ en)
      ∙ sym (ap (factors_to f) (add-one k) ∙ factors_to-next f k),
  All-set (λ m. 1 ≤ m) factors k n least some,
)

-- no factor is 0
pub lie_bound-some : (extent : Extent) (k : ℕ) → k < 8 → 1 ≤ lie_bound extent (suc k)
lie_bound-some extent k small =
    let some : 1 ≤ max 1 (growth_of extent (suc k)) = omega arith in
    let least : 1 * 1 ≤ log_bound (suc k) * max 1 (growth_of extent (suc k)) = mul-le-mul (log_bound-some k small) some in
    omega (arith, least)

-- where a weight fits, it bounds the coordinates of each degree
pub fits-growth : (extent : Extent) (v k : ℕ) → Fits (lie_bounds extent) v → 1 ≤ k → k ≤ extent.depth → v ^ k * log_bound k * growth_of extent k ≤ limit
fits-growth extent v zero fits least h = absurd (omega arith)
fits-growth extent v (suc k) fits least h =
    let here : v ^ suc k * lie_bound extent (suc k) ≤ limit =
    omega (arith, fits k (omega (arith, length-factors_to (lie_bound extent) extent.depth)), ap₂ (λ (m n : ℕ). v ^ m * n) (add-one k) (factors_to-at (lie_bound extent) extent.depth k h)) in
    let part : v ^ suc k * log_bound (suc k) * growth_of extent (suc k) ≤ v ^ suc k * log_bound (suc k) * max 1 (growth_of extent (suc k)) = mul-le-mul_left (v ^ suc k * log_bound (suc k)) (omega arith) in
    omega (arith, here, part)
