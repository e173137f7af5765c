-- What a weight that fits leaves room for.
use Rattle.std.proofs.Common.{◌≡◌, ℕ, zero, suc, ◌*◌, ◌≤◌, ◌<◌, ◌^◌, sym, ap, ap₂, arith, add-one, length, ℤ, ◌-ℤ◌, unsigned_abs, List}
use Rattle.std.proofs.Math.Nat.{mul-le-mul_left, le_trans, le_of_eq}
use Rattle.std.proofs.lemmas.Int.{ints}
use Rattle.definitions.specs.Words.{IsWord}
use Rattle.definitions.specs.Signature.{limit}
use Rattle.definitions.specs.Logarithm.{log_bound, logarithm}
use Rattle.scaled_tensor.specs.Tensors.{TensorValue, coefficient}
use Rattle.tensor_product.specs.Sigs.{IsBoundedBy}
use Rattle.exp_log.specs.Faults.{LogFits}
use Rattle.exp_log.proofs.PowerBounds.{partial_logarithm-bound, partial_logarithm-all}
use Rattle.exp_log.proofs.SeriesLaws.{words-closed}
use Rattle.dynkin_map.proofs.Factors.{log_bound-some, length-factors_to, factors_to-at}
use Rattle.piecewise.specs.Faults.{unfold_bound, UnfoldFits}

-- no factor is 0
pub unfold_bound-some : (k : ℕ) → k < 8 → 1 ≤ unfold_bound (suc k)
unfold_bound-some k small = omega (arith, log_bound-some k small)

-- twice the bound of a logarithm of this weight is in range
pub fits-twice : (weight depth k : ℕ) → UnfoldFits weight depth → 1 ≤ k → k ≤ depth → weight ^ k * unfold_bound k ≤ limit
fits-twice weight depth zero fits some h = absurd (omega arith)
fits-twice weight depth (suc k) fits some h =
    omega (arith, fits k (omega (arith, length-factors_to unfold_bound depth)), ap₂ (λ (m n : ℕ). weight ^ m * n) (add-one k) (factors_to-at unfold_bound depth k h))

doubled : (n b : ℕ) → n * (2 * b) ≡ 2 * (n * b)
doubled n b = omega arith

-- so is the bound of one
pub fits-log_at : (weight depth k : ℕ) → UnfoldFits weight depth → 1 ≤ k → k ≤ depth → 2 * (weight ^ k * log_bound k) ≤ limit
fits-log_at weight depth k fits some h = omega (arith, fits-twice weight depth k fits some h, doubled (weight ^ k) (log_bound k))

-- a logarithm of the weight fits
pub fits-log : (weight depth : ℕ) → UnfoldFits weight depth → LogFits weight depth
fits-log weight depth fits k here =
    let within : suc k ≤ depth = omega (arith, here, length-factors_to log_bound depth) in
    omega (arith, fits-log_at weight depth (suc k) fits (omega arith) within, ap₂ (λ (m n : ℕ). weight ^ m * n) (add-one k) (factors_to-at log_bound depth k within))

-- the powers of the weight are in range
pub fits-power : (weight depth k : ℕ) → UnfoldFits weight depth → 1 ≤ k → k ≤ depth → depth ≤ 8 → weight ^ k ≤ limit
fits-power weight depth zero fits some h small = absurd (omega arith)
fits-power weight depth (suc k) fits some h small =
    omega (arith, fits-log_at weight depth (suc k) fits some h, mul-le-mul_left (weight ^ suc k) (log_bound-some k (omega arith)))

-- the logarithm of a series that is bounded by a weight
pub logarithm-within : (t : TensorValue) (weight : ℕ) (word : List ℕ) → IsBoundedBy t weight → IsWord t.extent word
    → unsigned_abs (logarithm (coefficient t) word) ≤ weight ^ length word * log_bound (length word)
logarithm-within t weight word bounds is_word =
    le_trans (le_of_eq (ap unsigned_abs (sym (partial_logarithm-all (coefficient t) (length word) word (omega arith)))))
    (partial_logarithm-bound (IsWord t.extent) (coefficient t) weight (words-closed t.extent) bounds.bounded word (length word) is_word)

-- the difference of two numbers within half the range
pub difference-fits : (x y : ℤ) (n : ℕ) → unsigned_abs x ≤ n → unsigned_abs y ≤ n → 2 * n ≤ limit → unsigned_abs (x -ℤ y) ≤ limit
difference-fits x y n hx hy room = omega (arith, ints, hx, hy, room)
