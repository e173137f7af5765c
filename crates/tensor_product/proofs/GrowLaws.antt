-- How the sums of one letter more are written over those that they are made of, in lists of numbers.
use Rattle.std.proofs.Common.{◌≡◌, ℕ, suc, ◌+◌, ◌*◌, ◌≤◌, ◌<◌, ◌⊎◌, ap, ◌∙◌, arith, List, length, get_or, set, ℤ, pos, ◌+ℤ◌, ◌*ℤ◌, get_or-set_same, get_or-set_other, inl, inr}
use Rattle.std.proofs.Math.Nat.{mul-le-mul_right, mul-le-mul_left}
use Rattle.std.proofs.lemmas.Bool.{cases_lt}

-- n numbers from a place on are those of a function, and the others are as they were
pub record IsWritten (at n : ℕ) (f : ℕ → ℤ) (old now : List ℤ) : Type 0 where
  -- the n numbers from the place on are those of the function
  pub run : (i : ℕ) → i < n → get_or now (at + i) (pos 0) ≡ f i
  -- the numbers before these and after them are as they were
  pub others : (i : ℕ) → (i < at) ⊎ (at + n ≤ i) → get_or now i (pos 0) ≡ get_or old i (pos 0)

-- one sum more of the run
pub write-step : (at n : ℕ) (f : ℕ → ℤ) (old now : List ℤ) (z : ℤ) → ((i : ℕ) → i < n → get_or now (at + i) (pos 0) ≡ f i)
    → ((i : ℕ) → (i < at) ⊎ (at + n ≤ i) → get_or now i (pos 0) ≡ get_or old i (pos 0)) → at + n < length now → z ≡ f n → IsWritten at (n + 1) f old (set now (at + n) z)
write-step at n f old now z run others room ez = record {
  run = λ i h.
      elim (cases_lt i n) [
        | inl before ↦ get_or-set_other now (at + n) (at + i) z (pos 0) (λ same. omega arith) ∙ run i before
        | inr after ↦ let same : i ≡ n = omega arith in rw same (get_or-set_same now (at + n) z (pos 0) room ∙ ez)
      ];
  others = λ i h.
      elim h [
        | inl before ↦ get_or-set_other now (at + n) i z (pos 0) (λ same. omega arith) ∙ others i (inl before)
        | inr after ↦ get_or-set_other now (at + n) i z (pos 0) (λ same. omega arith) ∙ others i (inr (omega arith))
      ];
}

-- the sum for the letter of place a after the prefix of number q
abbrev pub grown : List ℤ → List ℤ → ℕ → List ℤ → ℕ → ℕ → ℤ
grown sums x ways level q a = get_or sums q (pos 0) *ℤ get_or x a (pos 0) +ℤ pos ways *ℤ get_or level (q * length x + a) (pos 0)

-- the prefixes from number q on are done, and the sums of the others are as they were
pub record IsGrown (q at count ways : ℕ) (x level old now : List ℤ) : Type 0 where
  -- at is the place of the sums that come from prefix q
  pub at_is : at ≡ q * length x
  -- the sums of the prefixes below q are as they were
  pub rest : (i : ℕ) → i < q → get_or now i (pos 0) ≡ get_or old i (pos 0)
  -- each prefix from q on has its sum for each next letter
  pub run : (i a : ℕ) → q ≤ i → i < count → a < length x → get_or now (i * length x + a) (pos 0) ≡ grown old x ways level i a

-- the sums that come from one sum more
pub grow-step : (q p at next count ways : ℕ) (sum : ℤ) (x level old now new : List ℤ) → 1 ≤ length x → q ≡ suc p → at ≡ next + length x → at ≡ q * length x
    → sum ≡ get_or now p (pos 0)
    → ((i : ℕ) → i < q → get_or now i (pos 0) ≡ get_or old i (pos 0))
    → ((i a : ℕ) → q ≤ i → i < count → a < length x → get_or now (i * length x + a) (pos 0) ≡ grown old x ways level i a)
    → ((a : ℕ) → a < length x → get_or new (next + a) (pos 0) ≡ sum *ℤ get_or x a (pos 0) +ℤ pos ways *ℤ get_or level (next + a) (pos 0))
    → ((i : ℕ) → (i < next) ⊎ (next + length x ≤ i) → get_or new i (pos 0) ≡ get_or now i (pos 0))
    → IsGrown p next count ways x level old new
grow-step q p at next count ways sum x level old now new some eq ea et es rest run written kept =
    let here : next ≡ p * length x = omega (arith, ap (λ (n : ℕ). n * length x) eq) in
    record {
      at_is = here;
      rest = λ i h.
          let long : p * 1 ≤ p * length x = mul-le-mul_left p some in
          kept i (inl (omega (arith, here, long))) ∙ rest i (omega arith);
      run = λ i a low high ha.
          elim (cases_lt p i) [
            | inl above ↦
                let later : suc p * length x ≤ i * length x = mul-le-mul_right (length x) above in
                kept (i * length x + a) (inr (omega (arith, later, here))) ∙ run i a (omega arith) high ha
            | inr upto ↦
                let same : i ≡ p = omega arith in
                let was : sum ≡ get_or old p (pos 0) = es ∙ rest p (omega arith) in
                rw (same, ← here, ← was) (written a ha)
          ];
    }
