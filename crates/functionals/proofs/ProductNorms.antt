-- The norm of a shuffle product.
use Rattle.std.proofs.Common.{◌≡◌, ℕ, zero, suc, ◌+◌, ◌*◌, ◌≤◌, refl, sym, ap, ap₂, ◌∙◌, arith, ℤ, pos, negsuc, ◌+ℤ◌, ◌*ℤ◌, List, [], ◌∷◌, ◌++◌, length, map, length-append, unsigned_abs, Bool, true, false, cond}
use Rattle.std.specs.Prelude.{nat_le, All}
use Rattle.std.specs.Str.{bytes_eq}
use Rattle.std.proofs.Math.Nat.{mul-le-mul_right, le-max_left, le-max_right}
use Rattle.std.proofs.lemmas.Int.{ints, unsigned_abs-mul}
use Rattle.std.proofs.lemmas.Bool.{leb-true}
use Rattle.std.proofs.lemmas.List.{length-map}
use Rattle.std.proofs.lemmas.List.Sums.{sum_by-cons, sum_by-append}
use Rattle.std.proofs.lemmas.List.Elements.{All-head, All-tail}
use Rattle.definitions.specs.Words.{Extent, IsWord, binom}
use Rattle.definitions.specs.Shuffles.{shuffles, sum_over}
use Rattle.definitions.proofs.Integers.{abs-add}
use Rattle.definitions.proofs.Binomials.{binom-all}
use Rattle.exp_log.proofs.LogarithmsOnShuffles.{all_below, all_below-at}
use Rattle.functionals.specs.declared.term.WordTerm.{WordTerm}
use Rattle.definitions.specs.AllWords.{words_below}
use Rattle.functionals.specs.Functionals.{norm, reach, coefficient_at, each_with, shuffled_by, shuffled, with_term, gathered, collected, shuffle_product, IsFunctional}
use Rattle.functionals.proofs.Collected.{at, IsOnce, below-one, shuffled-words}

-- ---- how many shuffles there are
shuffles-count : (u v : List ℕ) → length (shuffles u v) ≡ binom (length u + length v) (length u)
shuffles-count [] v = refl
shuffles-count (a ∷ u) [] = let e : length (a ∷ u) + 0 ≡ length (a ∷ u) = omega arith in sym (ap (λ (n : ℕ). binom n (length (a ∷ u))) e ∙ binom-all (length (a ∷ u)))
shuffles-count (a ∷ u) (b ∷ v) =
    let p : ℕ = length u in
    let q : ℕ = length v in
    let pascal : binom (suc p + suc q) (suc p) ≡ binom (p + suc q) p + binom (suc p + q) (suc p) =
    (let e : suc p + suc q ≡ suc (p + suc q) = omega arith in ap (λ (n : ℕ). binom n (suc p)) e)
    ∙ (let e : p + suc q ≡ suc p + q = omega arith in ap (λ (n : ℕ). binom (p + suc q) p + binom n (suc p)) e) in
    omega (
      arith,
      pascal,
      length-append (map (λ w. a ∷ w) (shuffles u (b ∷ v))) (map (λ w. b ∷ w) (shuffles (a ∷ u) v)),
      length-map (shuffles u (b ∷ v)) (λ w. a ∷ w),
      length-map (shuffles (a ∷ u) v) (λ w. b ∷ w),
      shuffles-count u (b ∷ v),
      shuffles-count (a ∷ u) v,
    )

binomials : all_below 9 (λ n. all_below 9 (λ k. nat_le (binom n k) 70)) ≡ true
binomials = refl

shuffles-few : (u v : List ℕ) → length u + length v ≤ 8 → length (shuffles u v) ≤ 70
shuffles-few u v h =
    let row : all_below 9 (λ k. nat_le (binom (length u + length v) k) 70) ≡ true = all_below-at 9 (λ n. all_below 9 (λ k. nat_le (binom n k) 70)) (length u + length v) binomials (omega arith) in
    let entry : nat_le (binom (length u + length v) (length u)) 70 ≡ true = all_below-at 9 (λ k. nat_le (binom (length u + length v) k) 70) (length u) row (omega arith) in
    omega (arith, shuffles-count u v, leb-true (binom (length u + length v) (length u)) 70 entry)

-- ---- the norm of the list of all shuffles
abbrev size_of : WordTerm → ℕ
size_of t = unsigned_abs t.coefficient

-- the norm of words with one coefficient
pub norm-each_with : (c : ℤ) (ws : List (List ℕ)) → norm (each_with c ws) ≡ length ws * unsigned_abs c
norm-each_with c [] = omega arith
norm-each_with c (w ∷ ws) = omega (arith, sum_by-cons size_of (record { word = w; coefficient = c }) (each_with c ws), norm-each_with c ws)

norm-shuffled_by : (t : WordTerm) (g : List WordTerm) → length t.word + reach g ≤ 8 → norm (shuffled_by t g) ≤ 70 * (unsigned_abs t.coefficient * norm g)
norm-shuffled_by t [] h = omega arith
norm-shuffled_by t (r ∷ g) h =
    let here : List WordTerm = each_with (t.coefficient *ℤ r.coefficient) (shuffles t.word r.word) in
    let few : length (shuffles t.word r.word) ≤ 70 = shuffles-few t.word r.word (omega (arith, le-max_left (length r.word) (reach g))) in
    let bound : length (shuffles t.word r.word) * (unsigned_abs t.coefficient * unsigned_abs r.coefficient) ≤ 70 * (unsigned_abs t.coefficient * unsigned_abs r.coefficient) =
    mul-le-mul_right (unsigned_abs t.coefficient * unsigned_abs r.coefficient) few in
    omega (
      arith,
      bound,
      sum_by-append size_of here (shuffled_by t g),
      norm-each_with (t.coefficient *ℤ r.coefficient) (shuffles t.word r.word),
      ap (λ (n : ℕ). length (shuffles t.word r.word) * n) (unsigned_abs-mul t.coefficient r.coefficient),
      norm-shuffled_by t g (omega (arith, le-max_right (length r.word) (reach g))),
      ap (λ (n : ℕ). unsigned_abs t.coefficient * n) (sum_by-cons size_of r g),
    )

-- the norm of the list of all shuffles is at most 70 times the product of the norms
pub norm-shuffled : (f g : List WordTerm) → reach f + reach g ≤ 8 → norm (shuffled f g) ≤ 70 * (norm f * norm g)
norm-shuffled [] g h = omega arith
norm-shuffled (t ∷ f) g h =
    omega (
      arith,
      sum_by-append size_of (shuffled_by t g) (shuffled f g),
      norm-shuffled_by t g (omega (arith, le-max_left (length t.word) (reach f))),
      norm-shuffled f g (omega (arith, le-max_right (length t.word) (reach f))),
      ap (λ (n : ℕ). n * norm g) (sum_by-cons size_of t f),
    )

-- ---- the coefficient of a word
-- the coefficient of a word in two lists of terms together is the sum of those in each
pub coefficient_at-append : (f g : List WordTerm) (w : List ℕ) → coefficient_at (f ++ g) w ≡ coefficient_at f w +ℤ coefficient_at g w
coefficient_at-append [] g w = omega (arith, ints)
coefficient_at-append (t ∷ f) g w = omega (arith, ints, coefficient_at-append f g w)

-- 1 where the words are equal
abbrev same : List ℕ → List ℕ → ℕ
same u w = cond (bytes_eq u w) 1 0

part-of : (b : Bool) (c : ℤ) → unsigned_abs (cond b c (pos 0)) ≡ unsigned_abs c * cond b 1 0
part-of true c = omega arith
part-of false c = omega arith

part-le : (b : Bool) (n : ℕ) → n * cond b 1 0 ≤ n
part-le true n = omega arith
part-le false n = omega arith

-- the coefficient of a word is at most the norm
pub coefficient_at-le : (terms : List WordTerm) (w : List ℕ) → unsigned_abs (coefficient_at terms w) ≤ norm terms
coefficient_at-le [] w = omega arith
coefficient_at-le (t ∷ terms) w =
    omega (
      arith,
      abs-add (cond (bytes_eq t.word w) t.coefficient (pos 0)) (coefficient_at terms w),
      part-of (bytes_eq t.word w) t.coefficient,
      part-le (bytes_eq t.word w) (unsigned_abs t.coefficient),
      coefficient_at-le terms w,
      sum_by-cons size_of t terms,
    )

-- ---- collecting makes the norm no greater
abbrev count_over : (List ℕ → ℕ) → List (List ℕ) → ℕ
count_over f [] = 0
count_over f (w ∷ ws) = f w + count_over f ws

with_term-norm : (w : List ℕ) (z : ℤ) (terms : List WordTerm) → norm (with_term w z terms) ≡ unsigned_abs z + norm terms
with_term-norm w (pos zero) terms = omega arith
with_term-norm w (pos (suc n)) terms = sum_by-cons size_of (record { word = w; coefficient = pos (suc n) }) terms
with_term-norm w (negsuc n) terms = sum_by-cons size_of (record { word = w; coefficient = negsuc n }) terms

gathered-norm : (ws : List (List ℕ)) (terms : List WordTerm) → norm (gathered ws terms) ≡ count_over (λ w. unsigned_abs (coefficient_at terms w)) ws
gathered-norm [] terms = refl
gathered-norm (w ∷ ws) terms = omega (arith, with_term-norm w (coefficient_at terms w) (gathered ws terms), gathered-norm ws terms)

count-part : (c : ℤ) (u : List ℕ) (terms : List WordTerm) (ws : List (List ℕ))
    → count_over (λ w. unsigned_abs (cond (bytes_eq u w) c (pos 0) +ℤ coefficient_at terms w)) ws ≤ unsigned_abs c * count_over (same u) ws + count_over (λ w. unsigned_abs (coefficient_at terms w)) ws
count-part c u terms [] = omega arith
count-part c u terms (w ∷ ws) =
    omega (
      arith,
      abs-add (cond (bytes_eq u w) c (pos 0)) (coefficient_at terms w),
      part-of (bytes_eq u w) c,
      count-part c u terms ws,
    )

at-same : (b : Bool) → cond b (pos 1) (pos 0) ≡ pos (cond b 1 0)
at-same true = refl
at-same false = refl

count-at : (u : List ℕ) (ws : List (List ℕ)) → sum_over (at u) ws ≡ pos (count_over (same u) ws)
count-at u [] = refl
count-at u (w ∷ ws) = ap₂ ◌+ℤ◌ (at-same (bytes_eq u w)) (count-at u ws)

once : (u : List ℕ) (ws : List (List ℕ)) → IsOnce ws u → count_over (same u) ws ≡ 1
once u ws h = let e : pos (count_over (same u) ws) ≡ pos 1 = sym (count-at u ws) ∙ h in omega (arith, ints, e)

zeros : (ws : List (List ℕ)) → count_over (λ w. 0) ws ≡ 0
zeros [] = refl
zeros (w ∷ ws) = omega (arith, zeros ws)

terms-norm : (ws : List (List ℕ)) (terms : List WordTerm) → All (λ t. IsOnce ws t.word) terms → count_over (λ w. unsigned_abs (coefficient_at terms w)) ws ≤ norm terms
terms-norm ws [] h = omega (arith, zeros ws)
terms-norm ws (t ∷ terms) h =
    omega (
      arith,
      count-part t.coefficient t.word terms ws,
      ap (λ (n : ℕ). unsigned_abs t.coefficient * n) (once t.word ws (All-head (λ r. IsOnce ws r.word) t terms h)),
      terms-norm ws terms (All-tail (λ r. IsOnce ws r.word) t terms h),
      sum_by-cons size_of t terms,
    )

collected-norm : (extent : Extent) (terms : List WordTerm) → All (λ t. IsWord extent t.word) terms → norm (collected extent terms) ≤ norm terms
unfolding collected
collected-norm extent terms words =
    omega (
      arith,
      gathered-norm (words_below extent.width (suc extent.depth)) terms,
      terms-norm (words_below extent.width (suc extent.depth)) terms
          (λ i d h. let is = words i d h in below-one extent.width (suc extent.depth) _ is.letters (omega (arith, is.short))),
    )

-- the norm of the shuffle product is at most 70 times the product of the norms
pub shuffle_product-norm : (extent : Extent) (f g : List WordTerm) → IsFunctional extent f → IsFunctional extent g → reach f + reach g ≤ extent.depth → norm (shuffle_product extent f g) ≤ 70 * (norm f * norm g)
shuffle_product-norm extent f g isf isg within =
    omega (
      arith,
      collected-norm extent (shuffled f g) (shuffled-words extent f g isf.words isg.words within),
      norm-shuffled f g (omega (arith, isf.shape.within_depth, within)),
    )
