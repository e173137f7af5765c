-- What is unfolded from a logarithm is the series that it was taken of, and what is unfolded without a remainder has the logarithm that it was unfolded from.
use Rattle.std.proofs.Common.{◌≡◌, inl, inr, ℕ, zero, suc, ◌*◌, ◌%◌, ◌≤◌, ◌<◌, refl, sym, ap, ap₂, ◌∙◌, arith, Bool, true, false, ℤ, pos, ◌+ℤ◌, ◌-ℤ◌, ◌*ℤ◌, unsigned_abs, List, [], ◌∷◌, length}
use Rattle.std.specs.Prelude.{nat_eq, if◌then◌else◌, int_div, int_rem}
use Rattle.std.proofs.Math.Nat.{mul-le-mul_left}
use Rattle.std.proofs.Math.IntN.{*ℤ_comm, *ℤ-zero}
use Rattle.std.proofs.lemmas.Int.{ints, quot-rem, rem_below, unsigned_abs-mul}
use Rattle.std.proofs.lemmas.Bool.{cases_lt, cases_eq, cases_Bool, eqb-true, eqb-false}
use Rattle.definitions.specs.Logarithm.{lcm_to, multiple_from, logarithm}
use Rattle.definitions.proofs.Integers.{mul-add_ℤ}
use Rattle.lie_steps.proofs.Concatenations.{unit-longer}
use Rattle.exp_log.proofs.PowerBounds.{IsClosed, logarithm-same}
use Rattle.exp_laws.specs.Unfolded.{unfolded}
use Rattle.exp_laws.proofs.LogarithmLevels.{AgreeBelow, logarithm-rest}

-- ---- the divisor
either-some : (b : Bool) (x y : ℕ) → 1 ≤ x → 1 ≤ y → 1 ≤ (if b then x else y)
either-some true x y hx hy = hx
either-some false x y hx hy = hy

multiple-some : (m n : ℕ) → 1 ≤ m → (tries i : ℕ) → 1 ≤ i → 1 ≤ multiple_from m n i tries
multiple-some m n some zero i h = omega (arith, mul-le-mul_left i some)
multiple-some m n some (suc tries) i h = either-some (nat_eq (i * m % n) 0) (i * m) (multiple_from m n (suc i) tries) (omega (arith, mul-le-mul_left i some)) (multiple-some m n some tries (suc i) (omega arith))

-- a least common multiple is at least 1
pub lcm-some : (k : ℕ) → 1 ≤ lcm_to k
lcm-some zero = omega arith
lcm-some (suc k) = multiple-some (lcm_to k) (suc k) (lcm-some k) k 1 (omega arith)

small-none : (l d : ℕ) → l * d < l → d ≡ 0
small-none l zero h = refl
small-none l (suc d) h = absurd (omega (arith, mul-le-mul_left l (let e : 1 ≤ suc d = omega arith in e)))

-- a quotient without a remainder
pub exact-quotient : (l : ℕ) (x : ℤ) → 1 ≤ l → int_div (pos l *ℤ x) (pos l) ≡ x
exact-quotient l x some =
    let q : ℤ = int_div (pos l *ℤ x) (pos l) in
    let r : ℤ = int_rem (pos l *ℤ x) (pos l) in
    let whole : q *ℤ pos l +ℤ r ≡ pos l *ℤ x = quot-rem (pos l *ℤ x) (pos l) in
    let below : unsigned_abs r < l = rem_below (pos l *ℤ x) (pos l) some in
    let parts : (pos l *ℤ (x -ℤ q)) +ℤ (pos l *ℤ q) ≡ pos l *ℤ x = sym (mul-add_ℤ (pos l) (x -ℤ q) q) ∙ ap (λ (y : ℤ). pos l *ℤ y) (let e : (x -ℤ q) +ℤ q ≡ x = omega (arith, ints) in e) in
    let left : pos l *ℤ (x -ℤ q) ≡ r = omega (arith, ints, whole, parts, *ℤ_comm (pos l) q) in
    let size : l * unsigned_abs (x -ℤ q) ≡ unsigned_abs r = sym (unsigned_abs-mul (pos l) (x -ℤ q)) ∙ ap unsigned_abs left in
    let none : unsigned_abs (x -ℤ q) ≡ 0 = small-none l (unsigned_abs (x -ℤ q)) (omega (arith, size, below)) in
    omega (arith, ints, none)

-- ---- the levels
then-is : (b : Bool) (x y : ℤ) → b ≡ true → (if b then x else y) ≡ x
then-is true x y e = refl
then-is false x y e = cc

else-is : (b : Bool) (x y : ℤ) → b ≡ false → (if b then x else y) ≡ y
else-is true x y e = cc
else-is false x y e = refl

-- the level that is made last
pub unfolded-level : (z : List ℕ → ℤ) (n : ℕ) (w : List ℕ) → length w ≡ suc n
    → unfolded z (suc n) w ≡ int_div (z w -ℤ logarithm (unfolded z n) w) (pos (lcm_to (suc n)))
unfolded-level z n w e =
    let b : Bool = nat_eq (length w) (suc n) in
    elim (cases_Bool b) [
      | inl is ↦ then-is b (int_div (z w -ℤ logarithm (unfolded z n) w) (pos (lcm_to (suc n)))) (unfolded z n w) is
      | inr not_is ↦ absurd (eqb-false (length w) (suc n) not_is e)
    ]

-- the others stay
pub unfolded-other : (z : List ℕ → ℤ) (n : ℕ) (w : List ℕ) → ¬ (length w ≡ suc n) → unfolded z (suc n) w ≡ unfolded z n w
unfolded-other z n w other =
    let b : Bool = nat_eq (length w) (suc n) in
    elim (cases_Bool b) [
      | inl is ↦ absurd (other (eqb-true (length w) (suc n) is))
      | inr not_is ↦ else-is b (int_div (z w -ℤ logarithm (unfolded z n) w) (pos (lcm_to (suc n)))) (unfolded z n w) not_is
    ]

-- longer words have 0
pub unfolded-longer : (z : List ℕ → ℤ) (n : ℕ) (w : List ℕ) → n < length w → unfolded z n w ≡ pos 0
unfolded-longer z zero w h = unit-longer w h
unfolded-longer z (suc n) w h = unfolded-other z n w (λ e. omega (arith, e, h)) ∙ unfolded-longer z n w (omega arith)

-- a level stays as it was made
pub unfolded-kept : (z : List ℕ → ℤ) (k n : ℕ) (w : List ℕ) → length w ≤ k → k ≤ n → unfolded z n w ≡ unfolded z k w
unfolded-kept z k zero w h le = (let e : zero ≡ k = omega arith in ap (λ (i : ℕ). unfolded z i w) e)
unfolded-kept z k (suc n) w h le =
    elim (cases_lt n k) [
      | inl last ↦ (let e : suc n ≡ k = omega arith in ap (λ (i : ℕ). unfolded z i w) e)
      | inr more ↦ unfolded-other z n w (λ e. omega (arith, e, h, more)) ∙ unfolded-kept z k n w h more
    ]

-- ---- from the logarithm back to the series
rest-is : (x y c t : ℤ) (l : ℕ) → x -ℤ c ≡ y -ℤ (pos l *ℤ t) → t ≡ pos 0 → x -ℤ y ≡ c
rest-is x y c t l e none =
    let gone : pos l *ℤ t ≡ pos 0 = ap (λ (u : ℤ). pos l *ℤ u) none ∙ *ℤ-zero (pos l) in
    omega (arith, ints, e, gone)

-- what the levels below leave of a logarithm
pub level-left : (s t : List ℕ → ℤ) (n : ℕ) (w : List ℕ) → length w ≡ suc n → AgreeBelow (suc n) s t → t w ≡ pos 0
    → logarithm s w -ℤ logarithm t w ≡ pos (lcm_to (suc n)) *ℤ s w
level-left s t n w e same none =
    let l : ℕ = lcm_to (suc n) in
    let rest : logarithm s w -ℤ (pos l *ℤ s w) ≡ logarithm t w -ℤ (pos l *ℤ t w) =
    sym (ap (λ (k : ℕ). logarithm s w -ℤ (pos (lcm_to k) *ℤ s w)) e)
    ∙ logarithm-rest s t w (omega (arith, e)) (λ u h. same u (omega (arith, h, e)))
    ∙ ap (λ (k : ℕ). logarithm t w -ℤ (pos (lcm_to k) *ℤ t w)) e in
    rest-is (logarithm s w) (logarithm t w) (pos l *ℤ s w) (t w) l rest none

-- what is unfolded from the logarithm of a series that is 1 at the empty word is that series, at words of at most n letters
pub unfolded-logarithm : (s : List ℕ → ℤ) → s [] ≡ pos 1 → (n : ℕ) (w : List ℕ) → length w ≤ n → unfolded (logarithm s) n w ≡ s w
unfolded-logarithm s starts zero [] h = sym starts
unfolded-logarithm s starts zero (a ∷ w) h = absurd (omega arith)
unfolded-logarithm s starts (suc n) w h =
    let l : ℕ = lcm_to (suc n) in
    elim (cases_lt (length w) (suc n)) [
      | inl below ↦ unfolded-other (logarithm s) n w (λ e. omega (arith, e, below)) ∙ unfolded-logarithm s starts n w (omega arith)
      | inr last ↦
          let e : length w ≡ suc n = omega (arith, h, last) in
          unfolded-level (logarithm s) n w e
          ∙ ap (λ (x : ℤ). int_div x (pos l))
          (level-left s (unfolded (logarithm s) n) n w e (λ u lt. sym (unfolded-logarithm s starts n u (omega (arith, lt)))) (unfolded-longer (logarithm s) n w (omega (arith, e))))
          ∙ exact-quotient l (s w) (lcm-some (suc n))
    ]

-- so each division on the way has no remainder
pub unfolded-left : (s : List ℕ → ℤ) → s [] ≡ pos 1 → (n : ℕ) (w : List ℕ) → length w ≡ suc n
    → logarithm s w -ℤ logarithm (unfolded (logarithm s) n) w ≡ pos (lcm_to (suc n)) *ℤ s w
unfolded-left s starts n w e =
    level-left s (unfolded (logarithm s) n) n w e (λ u lt. sym (unfolded-logarithm s starts n u (omega (arith, lt)))) (unfolded-longer (logarithm s) n w (omega (arith, e)))

-- ---- only words of the same kind are read
pub unfolded-same : (P : List ℕ → Type 0) (z y : List ℕ → ℤ) → IsClosed P → ((w : List ℕ) → P w → z w ≡ y w) → (n : ℕ) (w : List ℕ) → P w → unfolded z n w ≡ unfolded y n w
unfolded-same P z y closed same zero w is = refl
unfolded-same P z y closed same (suc n) w is =
    elim (cases_eq (length w) (suc n)) [
      | inl e ↦
          unfolded-level z n w e
          ∙ ap₂ (λ (x l : ℤ). int_div (x -ℤ l) (pos (lcm_to (suc n)))) (same w is) (logarithm-same P (unfolded z n) (unfolded y n) closed (unfolded-same P z y closed same n) w is)
          ∙ sym (unfolded-level y n w e)
      | inr other ↦ unfolded-other z n w other ∙ unfolded-same P z y closed same n w is ∙ sym (unfolded-other y n w other)
    ]

-- ---- from what was unfolded to its logarithm
-- the last level has no remainder at this word
abbrev pub IsWholeAt : (List ℕ → ℤ) → ℕ → List ℕ → Type 0
IsWholeAt z k w = pos (lcm_to (suc k)) *ℤ unfolded z (suc k) w ≡ z w -ℤ logarithm (unfolded z k) w

-- what has no remainder is a multiple
pub whole-of_remainder : (z : List ℕ → ℤ) (k : ℕ) (w : List ℕ) → length w ≡ suc k → int_rem (z w -ℤ logarithm (unfolded z k) w) (pos (lcm_to (suc k))) ≡ pos 0 → IsWholeAt z k w
whole-of_remainder z k w e none =
    let l : ℤ = pos (lcm_to (suc k)) in
    let left : ℤ = z w -ℤ logarithm (unfolded z k) w in
    let parts : (int_div left l *ℤ l) +ℤ int_rem left l ≡ left = quot-rem left l in
    let whole : int_div left l *ℤ l ≡ left = omega (arith, ints, parts, none) in
    ap (λ (x : ℤ). l *ℤ x) (unfolded-level z k w e) ∙ *ℤ_comm l (int_div left l) ∙ whole

moved-back : (x y p q : ℤ) → x -ℤ y ≡ p → p ≡ q -ℤ y → x ≡ q
moved-back x y p q e f = omega (arith, ints, e, f)

-- the logarithm of what was unfolded without a remainder is what it was unfolded from
pub logarithm-unfolded : (z : List ℕ → ℤ) (k n : ℕ) (w : List ℕ) → length w ≡ suc k → suc k ≤ n → IsWholeAt z k w → logarithm (unfolded z n) w ≡ z w
logarithm-unfolded z k n w e le whole =
    let l : ℤ = pos (lcm_to (suc k)) in
    let left : logarithm (unfolded z n) w -ℤ logarithm (unfolded z k) w ≡ l *ℤ unfolded z n w =
    level-left (unfolded z n) (unfolded z k) k w e (λ u lt. unfolded-kept z k n u (omega (arith, lt)) (omega (arith, le))) (unfolded-longer z k w (omega (arith, e))) in
    moved-back (logarithm (unfolded z n) w) (logarithm (unfolded z k) w) (l *ℤ unfolded z n w) (z w) left
    (ap (λ (x : ℤ). l *ℤ x) (unfolded-kept z (suc k) n w (omega (arith, e)) le) ∙ whole)

-- ---- where only some words are looked at, as those of a shape
-- a multiple has no remainder
pub exact-remainder : (l : ℕ) (x y : ℤ) → 1 ≤ l → y ≡ pos l *ℤ x → int_rem y (pos l) ≡ pos 0
exact-remainder l x y some e =
    let parts : (int_div (pos l *ℤ x) (pos l) *ℤ pos l) +ℤ int_rem (pos l *ℤ x) (pos l) ≡ pos l *ℤ x = quot-rem (pos l *ℤ x) (pos l) in
    let front : int_div (pos l *ℤ x) (pos l) *ℤ pos l ≡ pos l *ℤ x = ap (λ (q : ℤ). q *ℤ pos l) (exact-quotient l x some) ∙ *ℤ_comm x (pos l) in
    let none : int_rem (pos l *ℤ x) (pos l) ≡ pos 0 = omega (arith, ints, parts, front) in
    ap (λ (u : ℤ). int_rem u (pos l)) e ∙ none

-- a series that is the logarithm of s at these words unfolds to s there
pub unfolded-of_logarithm : (P : List ℕ → Type 0) (z s : List ℕ → ℤ) → IsClosed P → s [] ≡ pos 1 → ((w : List ℕ) → P w → z w ≡ logarithm s w)
    → (n : ℕ) (w : List ℕ) → P w → length w ≤ n → unfolded z n w ≡ s w
unfolded-of_logarithm P z s closed starts is n w at h = unfolded-same P z (logarithm s) closed is n w at ∙ unfolded-logarithm s starts n w h

-- without a remainder
pub remainder-of_logarithm : (P : List ℕ → Type 0) (z s : List ℕ → ℤ) → IsClosed P → s [] ≡ pos 1 → ((w : List ℕ) → P w → z w ≡ logarithm s w)
    → (n : ℕ) (w : List ℕ) → P w → length w ≡ suc n → int_rem (z w -ℤ logarithm (unfolded z n) w) (pos (lcm_to (suc n))) ≡ pos 0
remainder-of_logarithm P z s closed starts is n w at e =
    exact-remainder (lcm_to (suc n)) (s w) (z w -ℤ logarithm (unfolded z n) w) (lcm-some (suc n))
    (ap₂ ◌-ℤ◌ (is w at) (logarithm-same P (unfolded z n) (unfolded (logarithm s) n) closed (unfolded-same P z (logarithm s) closed is n) w at) ∙ unfolded-left s starts n w e)
