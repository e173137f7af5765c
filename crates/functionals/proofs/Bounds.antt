-- Bounds on the values of terms, and the value of the first terms of a list.
use Rattle.std.proofs.Common.{◌≡◌, ℕ, zero, suc, ◌+◌, ◌*◌, ◌^◌, ◌≤◌, ◌<◌, refl, sym, ap, ap₂, ◌∙◌, subst, arith, ℤ, pos, ◌+ℤ◌, ◌*ℤ◌, List, [], ◌∷◌, length, take, get_or, unsigned_abs, Bool, true, ◌&&◌}
use Rattle.std.specs.Prelude.{nat_le, All}
use Rattle.std.proofs.Math.Nat.{mul-le-mul_right, pow-le-pow_right, pow-zero, pow-suc}
use Rattle.std.proofs.lemmas.Int.{ints, unsigned_abs-mul}
use Rattle.std.proofs.lemmas.Bool.{le-leb, leb-true, and_parts}
use Rattle.std.proofs.lemmas.List.{take_more}
use Rattle.std.proofs.lemmas.List.Sums.{sum_by-cons, sum_by-take-le}
use Rattle.std.proofs.lemmas.List.Elements.{All-head, All-tail}
use Rattle.definitions.specs.Words.{factorial}
use Rattle.definitions.specs.Signature.{limit}
use Rattle.definitions.proofs.Integers.{abs-add}
use Rattle.exp_log.proofs.LogarithmsOnShuffles.{guarded, all_below, all_below-at}
use Rattle.functionals.specs.declared.term.WordTerm.{WordTerm}
use Rattle.functionals.specs.Functionals.{term_value, value, term_size, size, term_bound, value_bound}
use Rattle.functionals.proofs.Values.{part_of, value-append}

-- ---- the parts of factorials
abbrev small_part : ℕ → ℕ → Bool
small_part n k = guarded (nat_le k n) (λ x. nat_le 1 (part_of n k) && nat_le (part_of n k) 40320)

parts : all_below 9 (λ n. all_below 9 (λ k. small_part n k)) ≡ true
parts = refl

-- the quotient of two factorials up to 8! is from 1 to 40320
pub part-bounds : (n k : ℕ) → n ≤ 8 → k ≤ n → (1 ≤ part_of n k) × (part_of n k ≤ 40320)
part-bounds n k small within =
    let row : all_below 9 (λ j. small_part n j) ≡ true = all_below-at 9 (λ m. all_below 9 (λ j. small_part m j)) n parts (omega arith) in
    let entry : small_part n k ≡ true = all_below-at 9 (λ j. small_part n j) k row (omega arith) in
    let both : (nat_le 1 (part_of n k) && nat_le (part_of n k) 40320) ≡ true =
    sym (ap (λ (w : Bool). guarded w (λ x. nat_le 1 (part_of n k) && nat_le (part_of n k) 40320)) (le-leb k n within)) ∙ entry in
    let halves = and_parts (nat_le 1 (part_of n k)) (nat_le (part_of n k) 40320) both in
    (leb-true 1 (part_of n k) halves.0, leb-true (part_of n k) 40320 halves.1)

-- a factorial is at least 1
pub factorial-some : (k : ℕ) → 1 ≤ factorial k
factorial-some zero = omega arith
factorial-some (suc k) = omega (arith, factorial-some k)

zero-power : (k : ℕ) → 0 ^ k ≤ 1
zero-power zero = omega (arith, pow-zero 0)
zero-power (suc k) = omega (arith, pow-suc 0 k)

-- a lower power of a weight is in range too
pub power-small : (w k n : ℕ) → k ≤ n → w ^ n ≤ limit → w ^ k ≤ limit
power-small zero k n h fits = omega (arith, zero-power k)
power-small (suc w) k n h fits =
    let up : suc w ^ k ≤ suc w ^ n = pow-le-pow_right (omega arith) h in
    omega (arith, up, fits)

-- ---- the value of the first terms
value-take_more : (n : ℕ) (s : List ℕ → ℤ) (terms : List WordTerm) (i : ℕ) (d : WordTerm) → i < length terms
    → value n s (take (i + 1) terms) ≡ value n s (take i terms) +ℤ term_value n s (get_or terms i d)
value-take_more n s terms i d here =
    ap (value n s) (take_more terms i d here) ∙ value-append n s (take i terms) (get_or terms i d ∷ []) ∙ omega (arith, ints)

abs-term : (n : ℕ) (s : List ℕ → ℤ) (t : WordTerm) → unsigned_abs (term_value n s t) ≡ term_size n s t
abs-term n s t =
    omega (
      arith,
      unsigned_abs-mul t.coefficient (s t.word *ℤ pos (part_of n (length t.word))),
      ap (λ (m : ℕ). unsigned_abs t.coefficient * m) (unsigned_abs-mul (s t.word) (pos (part_of n (length t.word)))),
    )

abs-value : (n : ℕ) (s : List ℕ → ℤ) (terms : List WordTerm) → unsigned_abs (value n s terms) ≤ size n s terms
abs-value n s [] = omega arith
abs-value n s (t ∷ terms) =
    omega (arith, abs-add (term_value n s t) (value n s terms), abs-term n s t, abs-value n s terms, sum_by-cons (term_size n s) t terms)

-- where the numbers of a series are at most those powers of the weight, the values of the terms are at most their bounds
pub size-le : (n w : ℕ) (s : List ℕ → ℤ) (terms : List WordTerm) → All (λ t. unsigned_abs (s t.word) ≤ w ^ length t.word) terms → size n s terms ≤ value_bound n w terms
size-le n w s [] h = omega arith
size-le n w s (t ∷ terms) h =
    let here : unsigned_abs (s t.word) ≤ w ^ length t.word = All-head (λ r. unsigned_abs (s r.word) ≤ w ^ length r.word) t terms h in
    let c : ℕ = unsigned_abs t.coefficient in
    let p : ℕ = part_of n (length t.word) in
    let up : unsigned_abs (s t.word) * (c * p) ≤ w ^ length t.word * (c * p) = mul-le-mul_right (c * p) here in
    omega (
      arith,
      up,
      sum_by-cons (term_size n s) t terms,
      sum_by-cons (term_bound n w) t terms,
      size-le n w s terms (All-tail (λ r. unsigned_abs (s r.word) ≤ w ^ length r.word) t terms h),
    )

-- the value depends on the numbers at the words of the terms alone
pub value-same : (n : ℕ) (s r : List ℕ → ℤ) (terms : List WordTerm) → All (λ t. s t.word ≡ r t.word) terms → value n s terms ≡ value n r terms
value-same n s r [] same = refl
value-same n s r (t ∷ terms) same =
    ap₂ (λ (x y : ℤ). (t.coefficient *ℤ (x *ℤ pos (part_of n (length t.word)))) +ℤ y) (All-head (λ u. s u.word ≡ r u.word) t terms same) (value-same n s r terms (All-tail (λ u. s u.word ≡ r u.word) t terms same))

-- one value more
pub record IsNextSum (n : ℕ) (s : List ℕ → ℤ) (terms : List WordTerm) (i : ℕ) (z : ℤ) : Type 0 where
  -- z is the value of the first i + 1 terms
  pub value_is : z ≡ value n s (take (i + 1) terms)
  -- it is in range
  pub bounded : unsigned_abs z ≤ limit

-- the value of one term more, which is in range where the sum of all absolute values is
pub sum-step : (n : ℕ) (s : List ℕ → ℤ) (terms items : List WordTerm) (i : ℕ) (t : WordTerm) (r x : ℤ) → items ≡ terms → i < length items → t ≡ get_or items i t
    → r ≡ value n s (take i terms) → x ≡ term_value n s t → size n s terms ≤ limit → IsNextSum n s terms i (r +ℤ x)
sum-step n s terms items i t r x e here at before is room =
    let here' : i < length terms = omega (arith, ap (λ (xs : List WordTerm). length xs) e) in
    let same : t ≡ get_or terms i t = at ∙ ap (λ (xs : List WordTerm). get_or xs i t) e in
    let sum : r +ℤ x ≡ value n s (take (i + 1) terms) =
    ap₂ ◌+ℤ◌ before (is ∙ ap (term_value n s) same) ∙ sym (value-take_more n s terms i t here') in
    let small : unsigned_abs (value n s (take (i + 1) terms)) ≤ limit = omega (arith, abs-value n s (take (i + 1) terms), sum_by-take-le (term_size n s) terms (i + 1), room) in
    record { value_is = sum; bounded = subst (λ (z : ℤ). unsigned_abs z ≤ limit) (sym sum) small }
