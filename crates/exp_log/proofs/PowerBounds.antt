-- The bounds on the powers of a reduced series and on its logarithm, at words that meet a condition which their fronts and rests meet too.
use Rattle.std.proofs.Common.{◌≡◌, ℕ, zero, suc, ◌+◌, ◌*◌, ◌-◌, ◌/◌, ◌≤◌, ◌<◌, ◌^◌, min, refl, sym, ap, ◌∙◌, subst, arith, ℤ, pos, ◌+ℤ◌, ◌*ℤ◌, unsigned_abs, List, [], ◌∷◌, length, take, drop, length-take, length-drop}
use Rattle.std.specs.Prelude.{All}
use Rattle.std.proofs.Math.Nat.{pow-zero, mul-le-mul, mul-le-mul_left, le_trans, le_of_eq}
use Rattle.std.proofs.lemmas.Nat.{pow-add}
use Rattle.std.proofs.lemmas.Int.{ints, unsigned_abs-mul}
use Rattle.definitions.specs.Sums.{sum_below, count_below}
use Rattle.definitions.specs.Words.{Extent, IsWord, binom}
use Rattle.definitions.specs.Moves.{Parts, IsMove}
use Rattle.definitions.specs.Signature.{signature, weight}
use Rattle.definitions.specs.Products.{unit, scaled_product, product_term}
use Rattle.definitions.specs.Logarithm.{lcm_to, sign, power, reduced, logarithm, surjections, log_bound}
use Rattle.definitions.proofs.Integers.{zero-mul_ℤ}
use Rattle.definitions.proofs.SumLaws.{count_below-le, count_below-part, count_below-mul, abs-sum_below, sum_below-first, sum_below-same}
use Rattle.definitions.proofs.ProductLaws.{scaled_product-same}
use Rattle.definitions.proofs.SignatureLaws.{signature-bound}
use Rattle.lie_steps.proofs.StepLaws.{moves-StepsBounded}
use Rattle.definitions.proofs.ProductBounds.{abs-triple}

-- what the power after m others adds to the logarithm at a word
abbrev pub log_term : (List ℕ → ℤ) → List ℕ → ℕ → ℤ
log_term s word m = (sign m *ℤ pos (lcm_to (length word) / suc m)) *ℤ power s (suc m) word

-- the sum over the first n powers, without those of more parts than the word has letters
unfoldable pub partial_logarithm : (List ℕ → ℤ) → ℕ → List ℕ → ℤ
partial_logarithm s n word = sum_below (min n (length word)) (log_term s word)

-- the fronts and rests of a word meet it too
pub record IsClosed (P : List ℕ → Type 0) : Type 0 where
  -- the first n letters of a word that meets it do so
  pub front : (n : ℕ) (w : List ℕ) → P w → P (take n w)
  -- so do the letters after them
  pub back : (n : ℕ) (w : List ℕ) → P w → P (drop n w)

-- a coefficient at k letters is at most v ^ k
abbrev pub Within : (List ℕ → Type 0) → (List ℕ → ℤ) → ℕ → Type 0
Within P s v = (w : List ℕ) → P w → unsigned_abs (s w) ≤ v ^ length w

reduced-bound : (P : List ℕ → Type 0) (s : List ℕ → ℤ) (v : ℕ) → Within P s v → Within P (reduced s) v
reduced-bound P s v h [] is = omega arith
reduced-bound P s v h (a ∷ w) is = h (a ∷ w) is

unit-bound : (v : ℕ) (w : List ℕ) → unsigned_abs (unit w) ≤ surjections 0 (length w) * v ^ length w
unit-bound v [] = omega (arith, pow-zero v)
unit-bound v (a ∷ w) = omega arith

-- the m-th power at k letters is at most v ^ k for each map of the letters onto m parts
abbrev pub PowerWithin : (List ℕ → Type 0) → (List ℕ → ℤ) → ℕ → ℕ → Type 0
PowerWithin P s v m = (w : List ℕ) → P w → unsigned_abs (power s m w) ≤ surjections m (length w) * v ^ length w

-- the cut after i + 1 letters
pub cut-bound : (P : List ℕ → Type 0) (s : List ℕ → ℤ) (v m : ℕ) → IsClosed P → Within P s v → PowerWithin P s v m → (w : List ℕ) (i : ℕ) → P w → i < length w
    → unsigned_abs (product_term (reduced s) (power s m) w (suc i)) ≤ v ^ length w * (binom (length w) (suc i) * surjections m (length w - suc i))
unfolding product_term
cut-bound P s v m closed h before w i is lt =
    let k : ℕ = length w in
    let front : length (take (suc i) w) ≡ suc i = omega (arith, length-take (suc i) w) in
    let rest : length (drop (suc i) w) ≡ k - suc i = omega (arith, length-drop (suc i) w) in
    let x : ℕ = unsigned_abs (reduced s (take (suc i) w)) in
    let y : ℕ = unsigned_abs (power s m (drop (suc i) w)) in
    let hx : x ≤ v ^ suc i = subst (λ (n : ℕ). x ≤ v ^ n) front (reduced-bound P s v h (take (suc i) w) (closed.front (suc i) w is)) in
    let hy : y ≤ surjections m (k - suc i) * v ^ (k - suc i) = subst (λ (n : ℕ). y ≤ surjections m n * v ^ n) rest (before (drop (suc i) w) (closed.back (suc i) w is)) in
    let both : x * y ≤ v ^ suc i * (surjections m (k - suc i) * v ^ (k - suc i)) = mul-le-mul hx hy in
    let whole : v ^ suc i * v ^ (k - suc i) ≡ v ^ k = sym (pow-add v (suc i) (k - suc i)) ∙ (let e : suc i + (k - suc i) ≡ k = omega arith in ap (λ (n : ℕ). v ^ n) e) in
    le_trans (le_of_eq (abs-triple (binom k (suc i)) (reduced s (take (suc i) w)) (power s m (drop (suc i) w))))
    (le_trans (mul-le-mul_left (binom k (suc i)) both)
    (le_of_eq (omega (arith, ap (λ (n : ℕ). binom k (suc i) * (surjections m (k - suc i) * n)) whole))))

-- the cut before the first letter adds nothing
pub cut-none : (s : List ℕ → ℤ) (m : ℕ) (w : List ℕ) → product_term (reduced s) (power s m) w 0 ≡ pos 0
unfolding product_term
cut-none s m w = ap (λ (z : ℤ). pos 1 *ℤ z) (zero-mul_ℤ (power s m w))

-- the absolute values of the cuts after 1 to n letters
cuts-bound : (P : List ℕ → Type 0) (s : List ℕ → ℤ) (v m : ℕ) → IsClosed P → Within P s v → PowerWithin P s v m → (w : List ℕ) (n : ℕ) → P w → n ≤ length w
    → count_below n (λ i. unsigned_abs (product_term (reduced s) (power s m) w (suc i))) ≤ surjections (suc m) (length w) * v ^ length w
cuts-bound P s v m closed h before w n is le =
    let k : ℕ = length w in
    le_trans (count_below-le n (λ i. unsigned_abs (product_term (reduced s) (power s m) w (suc i))) (λ i. v ^ k * (binom k (suc i) * surjections m (k - suc i))) (λ i lt. cut-bound P s v m closed h before w i is (omega arith)))
    (le_trans (count_below-part k n (λ i. v ^ k * (binom k (suc i) * surjections m (k - suc i))) le)
    (le_of_eq (count_below-mul k (v ^ k) (λ i. binom k (suc i) * surjections m (k - suc i)) ∙ (let e : v ^ k * surjections (suc m) k ≡ surjections (suc m) k * v ^ k = omega arith in e))))

-- the sum over the cuts after at most n letters
pub cut-sum-bound : (P : List ℕ → Type 0) (s : List ℕ → ℤ) (v m : ℕ) → IsClosed P → Within P s v → PowerWithin P s v m → (w : List ℕ) (n : ℕ) → P w → n ≤ length w
    → unsigned_abs (sum_below (suc n) (product_term (reduced s) (power s m) w)) ≤ surjections (suc m) (length w) * v ^ length w
cut-sum-bound P s v m closed h before w n is le =
    let f : ℕ → ℤ = product_term (reduced s) (power s m) w in
    let e : sum_below (suc n) f ≡ sum_below n (λ i. f (suc i)) =
    sum_below-first n f ∙ ap (λ (z : ℤ). z +ℤ sum_below n (λ i. f (suc i))) (cut-none s m w) ∙ omega (arith, ints) in
    le_trans (le_of_eq (ap unsigned_abs e)) (le_trans (abs-sum_below n (λ i. f (suc i))) (cuts-bound P s v m closed h before w n is le))

-- if a coefficient at k letters is at most v ^ k, each power of the reduced series has its bound
pub power-bound : (P : List ℕ → Type 0) (s : List ℕ → ℤ) (v : ℕ) → IsClosed P → Within P s v → (m : ℕ) → PowerWithin P s v m
unfolding scaled_product
power-bound P s v closed h zero w is = unit-bound v w
power-bound P s v closed h (suc m) w is = cut-sum-bound P s v m closed h (power-bound P s v closed h m) w (length w) is (omega arith)

-- a sign has the absolute value 1
pub sign-abs : (m : ℕ) → unsigned_abs (sign m) ≡ 1
sign-abs zero = refl
sign-abs (suc m) = omega (arith, ints, sign-abs m)

term-bound : (P : List ℕ → Type 0) (s : List ℕ → ℤ) (v : ℕ) → IsClosed P → Within P s v → (w : List ℕ) (m : ℕ) → P w
    → unsigned_abs (log_term s w m) ≤ v ^ length w * (lcm_to (length w) / suc m * surjections (suc m) (length w))
term-bound P s v closed h w m is =
    let k : ℕ = length w in
    let c : ℕ = lcm_to k / suc m in
    let size : unsigned_abs (sign m *ℤ pos c) ≡ c = unsigned_abs-mul (sign m) (pos c) ∙ ap (λ (n : ℕ). n * c) (sign-abs m) ∙ (let e : 1 * c ≡ c = omega arith in e) in
    le_trans (le_of_eq (unsigned_abs-mul (sign m *ℤ pos c) (power s (suc m) w) ∙ ap (λ (n : ℕ). n * unsigned_abs (power s (suc m) w)) size))
    (le_trans (mul-le-mul_left c (power-bound P s v closed h (suc m) w is)) (le_of_eq (omega arith)))

-- the absolute values of the first n terms
terms-bound : (P : List ℕ → Type 0) (s : List ℕ → ℤ) (v : ℕ) → IsClosed P → Within P s v → (w : List ℕ) (n : ℕ) → P w → n ≤ length w
    → count_below n (λ m. unsigned_abs (log_term s w m)) ≤ v ^ length w * log_bound (length w)
unfolding log_bound
terms-bound P s v closed h w n is le =
    let k : ℕ = length w in
    le_trans (count_below-le n (λ m. unsigned_abs (log_term s w m)) (λ m. v ^ k * (lcm_to k / suc m * surjections (suc m) k)) (λ m lt. term-bound P s v closed h w m is))
    (le_trans (count_below-part k n (λ m. v ^ k * (lcm_to k / suc m * surjections (suc m) k)) le)
    (le_of_eq (count_below-mul k (v ^ k) (λ m. lcm_to k / suc m * surjections (suc m) k))))

-- at k letters the sum over the first n powers is at most v ^ k times the bound of a logarithm
pub partial_logarithm-bound : (P : List ℕ → Type 0) (s : List ℕ → ℤ) (v : ℕ) → IsClosed P → Within P s v → (w : List ℕ) (n : ℕ) → P w
    → unsigned_abs (partial_logarithm s n w) ≤ v ^ length w * log_bound (length w)
unfolding partial_logarithm
partial_logarithm-bound P s v closed h w n is =
    le_trans (abs-sum_below (min n (length w)) (log_term s w)) (terms-bound P s v closed h w (min n (length w)) is (omega arith))

-- all powers that a word has letters for
pub partial_logarithm-all : (s : List ℕ → ℤ) (n : ℕ) (w : List ℕ) → length w ≤ n → partial_logarithm s n w ≡ logarithm s w
unfolding partial_logarithm logarithm
partial_logarithm-all s n w h = let e : min n (length w) ≡ length w = omega arith in ap (λ (k : ℕ). sum_below k (log_term s w)) e

short-closed : (depth : ℕ) → IsClosed (λ u. length u ≤ depth)
short-closed depth = record { front = λ n u is. omega (arith, length-take n u); back = λ n u is. omega (arith, length-drop n u) }

-- each coefficient of the logarithm of a signature is at most the power of the weight times the bound
pub logarithm-bound : (extent : Extent) (moves : List Parts) (w : List ℕ) → All (IsMove extent) moves → IsWord extent w → unsigned_abs (logarithm (signature moves) w) ≤ weight moves ^ length w * log_bound (length w)
logarithm-bound extent moves w are is =
    subst (λ (z : ℤ). unsigned_abs z ≤ weight moves ^ length w * log_bound (length w)) (partial_logarithm-all (signature moves) (length w) w (omega arith))
    (partial_logarithm-bound (λ u. length u ≤ extent.depth) (signature moves) (weight moves) (short-closed extent.depth) (signature-bound extent.depth moves (moves-StepsBounded extent moves are)) w (length w) is.short)

-- series that agree at some words agree there without their coefficients at the empty word
pub reduced-same : (P : List ℕ → Type 0) (s t : List ℕ → ℤ) → ((w : List ℕ) → P w → s w ≡ t w) → (w : List ℕ) → P w → reduced s w ≡ reduced t w
reduced-same P s t same [] is = refl
reduced-same P s t same (a ∷ w) is = same (a ∷ w) is

-- and their powers
pub power-same : (P : List ℕ → Type 0) (s t : List ℕ → ℤ) → IsClosed P → ((w : List ℕ) → P w → s w ≡ t w) → (m : ℕ) (w : List ℕ) → P w → power s m w ≡ power t m w
power-same P s t closed same zero w is = refl
power-same P s t closed same (suc m) w is =
    scaled_product-same (reduced s) (reduced t) (power s m) (power t m) w
    (λ i h. reduced-same P s t same (take i w) (closed.front i w is))
    (λ i h. power-same P s t closed same m (drop i w) (closed.back i w is))

-- series that agree on the parts of a word have the same logarithm there
pub logarithm-same : (P : List ℕ → Type 0) (s t : List ℕ → ℤ) → IsClosed P → ((w : List ℕ) → P w → s w ≡ t w) → (w : List ℕ) → P w → logarithm s w ≡ logarithm t w
unfolding logarithm
logarithm-same P s t closed same w is =
    sum_below-same (length w) (log_term s w) (log_term t w)
    (λ m h. ap (λ (z : ℤ). (sign m *ℤ pos (lcm_to (length w) / suc m)) *ℤ z) (power-same P s t closed same (suc m) w is))
