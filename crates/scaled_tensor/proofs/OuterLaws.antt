-- How runs of numbers are added to, number by number and run by run.
use Rattle.std.proofs.Common.{◌≡◌, ℕ, suc, ◌+◌, ◌*◌, ◌≤◌, ◌<◌, ◌⊎◌, ap, ap₂, ◌∙◌, arith, List, length, get_or, set, ℤ, pos, ◌+ℤ◌, ◌*ℤ◌, get_or-set_same, get_or-set_other, inl, inr}
use Rattle.std.proofs.Math.Nat.{mul-le-mul_right}
use Rattle.std.proofs.lemmas.Bool.{cases_lt}

-- the first n numbers of a run are added to, and the others are as they were
pub record IsRun (from count n : ℕ) (factor : ℤ) (right old now : List ℤ) : Type 0 where
  -- to each of the first n the factor times the number of the right list is added
  pub run : (i : ℕ) → i < n → get_or now (from + i) (pos 0) ≡ get_or old (from + i) (pos 0) +ℤ factor *ℤ get_or right i (pos 0)
  -- the numbers after these are as they were
  pub rest : (i : ℕ) → n ≤ i → get_or now (from + i) (pos 0) ≡ get_or old (from + i) (pos 0)
  -- so are those before the run and after it
  pub others : (i : ℕ) → (i < from) ⊎ (from + count ≤ i) → get_or now i (pos 0) ≡ get_or old i (pos 0)

-- one number more of the run
pub run-step : (from count n : ℕ) (factor : ℤ) (right old now : List ℤ) (z : ℤ)
    → ((i : ℕ) → i < n → get_or now (from + i) (pos 0) ≡ get_or old (from + i) (pos 0) +ℤ factor *ℤ get_or right i (pos 0))
    → ((i : ℕ) → n ≤ i → get_or now (from + i) (pos 0) ≡ get_or old (from + i) (pos 0))
    → ((i : ℕ) → (i < from) ⊎ (from + count ≤ i) → get_or now i (pos 0) ≡ get_or old i (pos 0))
    → n < count → from + count ≤ length now
    → z ≡ get_or now (from + n) (pos 0) +ℤ factor *ℤ get_or right n (pos 0) → IsRun from count (n + 1) factor right old (set now (from + n) z)
run-step from count n factor right old now z run rest others here room ez = record {
  run = λ i h.
      elim (cases_lt i n) [
        | inl before ↦ get_or-set_other now (from + n) (from + i) z (pos 0) (λ same. omega arith) ∙ run i before
        | inr after ↦
            let same : i ≡ n = omega arith in
            rw same (get_or-set_same now (from + n) z (pos 0) (omega arith) ∙ ez ∙ ap (λ (y : ℤ). y +ℤ factor *ℤ get_or right n (pos 0)) (rest n (omega arith)))
      ];
  rest = λ i h. get_or-set_other now (from + n) (from + i) z (pos 0) (λ same. omega arith) ∙ rest i (omega arith);
  others = λ i h.
      get_or-set_other now (from + n) i z (pos 0) (λ same. elim h [ inl before ↦ omega arith | inr after ↦ omega arith ]) ∙ others i h;
}

-- the first n runs of an outer product are added, each of m numbers
pub record IsOuter (from at n m : ℕ) (left right old now : List ℤ) : Type 0 where
  -- at is the place where these runs end
  pub at_is : at ≡ from + n * m
  -- in run i, to number r is added the left number at i times the right one at r
  pub run : (i r : ℕ) → i < n → r < m → get_or now (from + (i * m + r)) (pos 0) ≡ get_or old (from + (i * m + r)) (pos 0) +ℤ get_or left i (pos 0) *ℤ get_or right r (pos 0)
  -- the numbers before these runs and after them are as they were
  pub others : (i : ℕ) → (i < from) ⊎ (at ≤ i) → get_or now i (pos 0) ≡ get_or old i (pos 0)

-- one run more of the outer product
pub outer-step : (from at n m : ℕ) (factor : ℤ) (left right old now new : List ℤ) → factor ≡ get_or left n (pos 0)
    → at ≡ from + n * m
    → ((i r : ℕ) → i < n → r < m → get_or now (from + (i * m + r)) (pos 0) ≡ get_or old (from + (i * m + r)) (pos 0) +ℤ get_or left i (pos 0) *ℤ get_or right r (pos 0))
    → ((i : ℕ) → (i < from) ⊎ (at ≤ i) → get_or now i (pos 0) ≡ get_or old i (pos 0))
    → ((r : ℕ) → r < m → get_or new (at + r) (pos 0) ≡ get_or now (at + r) (pos 0) +ℤ factor *ℤ get_or right r (pos 0))
    → ((i : ℕ) → (i < at) ⊎ (at + m ≤ i) → get_or new i (pos 0) ≡ get_or now i (pos 0))
    → IsOuter from (at + m) (n + 1) m left right old new
outer-step from at n m factor left right old now new ef ea run others added kept = record {
  at_is = omega arith;
  run = λ i r hi hr.
      elim (cases_lt i n) [
        | inl before ↦
            let earlier : suc i * m ≤ n * m = mul-le-mul_right m before in
            kept (from + (i * m + r)) (inl (omega (arith, earlier))) ∙ run i r before hr
        | inr after ↦
            let same : i ≡ n = omega arith in
            let here : from + (n * m + r) ≡ at + r = omega arith in
            rw (same, here) (added r hr ∙ ap₂ (λ (y f : ℤ). y +ℤ f *ℤ get_or right r (pos 0)) (others (at + r) (inr (omega arith))) ef)
      ];
  others = λ i h.
      elim h [
        | inl before ↦ kept i (inl (omega arith)) ∙ others i (inl before)
        | inr after ↦ kept i (inr after) ∙ others i (inr (omega arith))
      ];
}
