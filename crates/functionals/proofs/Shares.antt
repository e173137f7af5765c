-- A weight that fits the factors of a functional bounds its values.
use Rattle.std.proofs.Common.{◌≡◌, ℕ, zero, suc, ◌+◌, ◌-◌, ◌*◌, ◌^◌, ◌≤◌, ◌<◌, refl, sym, ap, ap₂, ◌∙◌, arith, add-one, inl, inr, List, [], ◌∷◌, ◌++◌, length, length-set, get_or, get_or-set_same, take, set, map, max, unsigned_abs, Bool, cond, nat_eq}
use Rattle.std.specs.Prelude.{All}
use Rattle.std.proofs.Math.Nat.{eq-or-lt_of_le, mul-le-mul, mul-le-mul_left, le_of_mul-le-mul_left, pow-zero}
use Rattle.std.proofs.Math.Seq.{get_or-append_seam}
use Rattle.std.proofs.lemmas.Bool.{eq-eqb, ne_eqb}
use Rattle.std.proofs.lemmas.List.{map-append, get_or_append_left, length-append, take_more, take-set}
use Rattle.std.proofs.lemmas.List.Elements.{All-head, All-tail, All-set}
use Rattle.std.proofs.lemmas.List.Sums.{sum_by-cons}
use Rattle.definitions.specs.Words.{Extent, up_to}
use Rattle.definitions.specs.Sums.{count_below}
use Rattle.definitions.specs.Signature.{limit, Fits}
use Rattle.functionals.specs.declared.term.WordTerm.{WordTerm}
use Rattle.functionals.specs.Functionals.{mass, term_bound, value_bound, IsFunctional}
use Rattle.functionals.specs.Bounds.{eval_factor, eval_factors, IsSmall}
use Rattle.functionals.proofs.Bounds.{part-bounds}
use Rattle.functionals.proofs.Norms.{mass-le}
use Rattle.functionals.proofs.Values.{part_of}

-- ---- the factors
-- f 1 .. f n
abbrev pub factors_to : (ℕ → ℕ) → ℕ → List ℕ
factors_to f n = map f (up_to n)

factors_to-next : (f : ℕ → ℕ) (n : ℕ) → factors_to f (suc n) ≡ factors_to f n ++ f (suc n) ∷ []
factors_to-next f n = map-append f (up_to n) (suc n ∷ [])

length-factors_to : (f : ℕ → ℕ) (n : ℕ) → length (factors_to f n) ≡ n
length-factors_to f zero = refl
length-factors_to f (suc n) = ap length (factors_to-next f n) ∙ omega (arith, length-append (factors_to f n) (f (suc n) ∷ []), length-factors_to f n)

factors_to-at : (f : ℕ → ℕ) (n i : ℕ) → i < n → get_or (factors_to f n) i 0 ≡ f (suc i)
factors_to-at f zero i h = absurd (omega arith)
factors_to-at f (suc n) i h =
    ap (λ (xs : List ℕ). get_or xs i 0) (factors_to-next f n)
    ∙ elim (eq-or-lt_of_le h) [
      | inl e ↦ let same : i ≡ length (factors_to f n) = omega (arith, length-factors_to f n) in rw same (get_or-append_seam (factors_to f n) (f (suc n)) [] 0 ∙ ap (λ (k : ℕ). f (suc k)) (sym (length-factors_to f n)))
      | inr l ↦ get_or_append_left (factors_to f n) (f (suc n) ∷ []) 0 i (omega (arith, length-factors_to f n)) ∙ factors_to-at f n i (omega arith)
    ]

-- one factor more is written
pub factors_to-step : (f : ℕ → ℕ) (factors : List ℕ) (k n : ℕ) → k < length factors → 1 ≤ n → take k factors ≡ factors_to f k → All (λ m. 1 ≤ m) factors → n ≡ f (suc k)
    → (take (k + 1) (set factors k n) ≡ factors_to f (k + 1)) × All (λ m. 1 ≤ m) (set factors k n)
factors_to-step f factors k n here least front some en = (
  take_more (set factors k n) k 0 (omega (arith, length-set {A = ℕ}))
      ∙ ap₂ (λ (xs : List ℕ) (m : ℕ). xs ++ m ∷ []) (take-set factors k n ∙ front) (get_or-set_same factors k n 0 here ∙ en)
      ∙ sym (ap (factors_to f) (add-one k) ∙ factors_to-next f k),
  All-set (λ m. 1 ≤ m) factors k n least some,
)

-- a share of a factor is in range
pub share-small : (n k m : ℕ) (terms : List WordTerm) → n ≤ 8 → k ≤ n → IsSmall terms → m ≡ mass k terms → part_of n k * m ≤ 40320 * 2 ^ 47
share-small n k m terms small within few e =
    let mass-few : m ≤ 2 ^ 47 = omega (arith, e, mass-le k terms, few) in
    mul-le-mul (part-bounds n k small within).1 mass-few

-- so is the factor
pub factor-small : (n x : ℕ) → n ≤ 8 → x ≤ 40320 * 2 ^ 47 → (n + 1) * x ≤ 2 ^ 67
factor-small n x small few =
    let nine : n + 1 ≤ 9 = omega arith in
    let up : (n + 1) * x ≤ 9 * (40320 * 2 ^ 47) = mul-le-mul nine few in
    omega (arith, up)

-- ---- the bound, by the number of letters
-- what the words of k letters have at most
abbrev level : ℕ → ℕ → List WordTerm → ℕ → ℕ
level n w terms k = w ^ k * part_of n k * mass k terms

abbrev size_at : ℕ → WordTerm → ℕ
size_at k t = cond (nat_eq (length t.word) k) (unsigned_abs t.coefficient) 0

level-cons : (n w : ℕ) (t : WordTerm) (terms : List WordTerm) (k : ℕ) → level n w (t ∷ terms) k ≡ w ^ k * part_of n k * size_at k t + level n w terms k
level-cons n w t terms k =
    omega (arith, ap (λ (m : ℕ). w ^ k * part_of n k * m) (sum_by-cons (λ (x : WordTerm). cond (nat_eq (length x.word) k) (unsigned_abs x.coefficient) 0) t terms))

size-here : (t : WordTerm) (k : ℕ) → length t.word ≡ k → size_at k t ≡ unsigned_abs t.coefficient
size-here t k e = ap (λ (b : Bool). cond b (unsigned_abs t.coefficient) 0) (eq-eqb (length t.word) k e)

size-elsewhere : (t : WordTerm) (k : ℕ) → (length t.word ≡ k → ⊥) → size_at k t ≡ 0
size-elsewhere t k e = ap (λ (b : Bool). cond b (unsigned_abs t.coefficient) 0) (ne_eqb (length t.word) k e)

-- a term of more letters adds nothing
levels-longer : (n w : ℕ) (t : WordTerm) (terms : List WordTerm) (k : ℕ) → k ≤ length t.word → count_below k (level n w (t ∷ terms)) ≡ count_below k (level n w terms)
unfolding count_below
levels-longer n w t terms zero h = refl
levels-longer n w t terms (suc k) h =
    omega (arith, levels-longer n w t terms k (omega arith), level-cons n w t terms k, ap (λ (m : ℕ). w ^ k * part_of n k * m) (size-elsewhere t k (λ e. omega (arith, e))))

-- a term of fewer letters adds its bound
levels-cons : (n w : ℕ) (t : WordTerm) (terms : List WordTerm) (k : ℕ) → length t.word < k → count_below k (level n w (t ∷ terms)) ≡ term_bound n w t + count_below k (level n w terms)
unfolding count_below
levels-cons n w t terms zero h = absurd (omega arith)
levels-cons n w t terms (suc k) h =
    elim (eq-or-lt_of_le h) [
      | inl e ↦
          let same : length t.word ≡ k = omega (arith, e) in
          omega (
            arith,
            levels-longer n w t terms k (omega (arith, same)),
            level-cons n w t terms k,
            ap (λ (m : ℕ). w ^ k * part_of n k * m) (size-here t k same),
            ap (λ (j : ℕ). w ^ j * part_of n j * unsigned_abs t.coefficient) same,
          )
      | inr l ↦
          omega (
            arith,
            levels-cons n w t terms k (omega (arith, l)),
            level-cons n w t terms k,
            ap (λ (m : ℕ). w ^ k * part_of n k * m) (size-elsewhere t k (λ e. omega (arith, e, l))),
          )
    ]

levels-none : (n w k : ℕ) → count_below k (level n w []) ≡ 0
unfolding count_below
levels-none n w zero = refl
levels-none n w (suc k) = omega (arith, levels-none n w k)

-- the bound is the sum over the numbers of letters
bound-levels : (n w k : ℕ) (terms : List WordTerm) → All (λ t. length t.word < k) terms → value_bound n w terms ≡ count_below k (level n w terms)
bound-levels n w k [] short = sym (levels-none n w k)
bound-levels n w k (t ∷ terms) short =
    omega (
      arith,
      sum_by-cons (term_bound n w) t terms,
      bound-levels n w k terms (All-tail (λ r. length r.word < k) t terms short),
      levels-cons n w t terms k (All-head (λ r. length r.word < k) t terms short),
    )

-- ---- the shares
-- numbers of which each has a share of the limit
shares : (c m n : ℕ) (f : ℕ → ℕ) → ((i : ℕ) → i < n → c * f i ≤ m) → c * count_below n f ≤ n * m
unfolding count_below
shares c m zero f each = omega arith
shares c m (suc n) f each = omega (arith, shares c m n f (λ i h. each i (omega arith)), each n (omega arith))

-- a weight that fits has the factor of each number of letters in range
factor-fits : (extent : Extent) (w k : ℕ) (terms : List WordTerm) → Fits (eval_factors extent terms) w → k < extent.depth → w ^ suc k * eval_factor extent.depth terms (suc k) ≤ limit
factor-fits extent w k terms fits here =
    omega (
      arith,
      fits k (omega (arith, here, length-factors_to (eval_factor extent.depth terms) extent.depth)),
      ap₂ (λ (m n : ℕ). w ^ m * n) (add-one k) (factors_to-at (eval_factor extent.depth terms) extent.depth k here),
    )

level-share : (extent : Extent) (w : ℕ) (terms : List WordTerm) (k : ℕ) → extent.depth ≤ 8 → IsSmall terms → Fits (eval_factors extent terms) w → k < suc extent.depth
    → suc extent.depth * level extent.depth w terms k ≤ limit
level-share extent w terms zero small few fits here =
    omega (
      arith,
      factor-small extent.depth (part_of extent.depth 0 * mass 0 terms) small (share-small extent.depth 0 (mass 0 terms) terms small (omega arith) few refl),
      ap (λ (x : ℕ). suc extent.depth * (x * part_of extent.depth 0 * mass 0 terms)) (pow-zero w),
    )
level-share extent w terms (suc k) small few fits here =
    let share : ℕ = suc extent.depth * (part_of extent.depth (suc k) * mass (suc k) terms) in
    let up : w ^ suc k * share ≤ w ^ suc k * max 1 share = mul-le-mul_left (w ^ suc k) (omega arith) in
    omega (arith, up, factor-fits extent w k terms fits (omega arith))

-- the values at a signature of a weight that fits are in range
pub fitting-bound : (extent : Extent) (w : ℕ) (terms : List WordTerm) → IsFunctional extent terms → IsSmall terms → Fits (eval_factors extent terms) w → value_bound extent.depth w terms ≤ limit
fitting-bound extent w terms is few fits =
    let n : ℕ = extent.depth in
    let sum : suc n * count_below (suc n) (level n w terms) ≤ suc n * limit =
    shares (suc n) limit (suc n) (level n w terms) (λ k h. level-share extent w terms k is.shape.within_depth few fits h) in
    let all : count_below (suc n) (level n w terms) ≤ limit = le_of_mul-le-mul_left sum (omega arith) in
    let short : All (λ t. length t.word < suc n) terms = (λ i d h. let word = is.words i d h in omega (arith, word.short)) in
    omega (arith, all, bound-levels n w (suc n) terms short)

-- and the power of the depth is
pub fitting-power : (extent : Extent) (w : ℕ) (terms : List WordTerm) → 1 ≤ extent.depth → Fits (eval_factors extent terms) w → w ^ extent.depth ≤ limit
fitting-power extent w terms some fits =
    let k : ℕ = extent.depth - 1 in
    let depth : suc k ≡ extent.depth = omega arith in
    let least : w ^ suc k * 1 ≤ w ^ suc k * eval_factor extent.depth terms (suc k) = mul-le-mul_left (w ^ suc k) (omega arith) in
    omega (arith, least, factor-fits extent w k terms fits (omega (arith, depth)), ap (λ (n : ℕ). w ^ n) depth)
