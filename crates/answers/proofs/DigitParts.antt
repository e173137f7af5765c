-- A number in decimal, by its parts above and below a power of ten.
use Rattle.std.proofs.Common.{get_or, add-one, ◌≡◌, ℕ, zero, suc, ◌+◌, ◌*◌, ◌-◌, ◌/◌, ◌%◌, ◌^◌, ◌<◌, ◌≤◌, sym, ap, ap₂, ◌∙◌, arith, List, [], ◌∷◌, ◌++◌, length, append_assoc, inl, inr}
use Rattle.std.specs.Prelude.{replicate}
use Rattle.std.specs.Fmt.{decimal}
use Rattle.std.proofs.Math.Nat.{mul-pos, pow-suc, pow-zero}
use Rattle.std.proofs.lemmas.Bool.{cases_lt}
use Rattle.std.proofs.lemmas.Fmt.{decimal_digit, decimal_step_wide}
use Rattle.std.proofs.lemmas.List.{replicate_more, length_push}
use Rattle.answers.specs.Padded.{padded}

-- zeros before digits
zeros-before : (n m : ℕ) (digits others : List ℕ) → n ≡ m → digits ≡ others → replicate n 48 ++ digits ≡ replicate m 48 ++ others
zeros-before n m digits others same e = ap₂ (λ (k : ℕ) (ds : List ℕ). replicate k 48 ++ ds) same e

padded-zero : (k : ℕ) → padded (suc k) 0 ≡ replicate (suc k) 48
padded-zero k =
    let naught : decimal 0 ≡ 48 ∷ [] = decimal_digit 0 (omega arith) in
    zeros-before (suc k - length (decimal 0)) k (decimal 0) (48 ∷ []) (omega (arith, ap length naught)) naught
    ∙ replicate_more k 48
    ∙ ap (λ (n : ℕ). replicate n 48) (add-one k)

-- the last digit after the others, of a number of one digit
padded-digit : (k r : ℕ) → r < 10 → padded (suc (suc k)) r ≡ padded (suc k) (r / 10) ++ (48 + r % 10) ∷ []
padded-digit k r h =
    let none : 0 ≡ r / 10 = omega arith in
    let last : r ≡ r % 10 = omega arith in
    let digit : decimal r ≡ (48 + r) ∷ [] = decimal_digit r h in
    zeros-before (suc (suc k) - length (decimal r)) (suc k) (decimal r) ((48 + r) ∷ []) (omega (arith, ap length digit)) digit
    ∙ ap (λ (front : List ℕ). front ++ (48 + r) ∷ []) (sym (padded-zero k))
    ∙ ap₂ (λ (front back : ℕ). padded (suc k) front ++ (48 + back) ∷ []) none last

-- and of a greater one
padded-more : (k r : ℕ) → 10 ≤ r → r < 10 ^ 64 → padded (suc (suc k)) r ≡ padded (suc k) (r / 10) ++ (48 + r % 10) ∷ []
padded-more k r h wide =
    let step : decimal r ≡ decimal (r / 10) ++ (48 + r % 10) ∷ [] = decimal_step_wide r h wide in
    let fewer : suc (suc k) - length (decimal r) ≡ suc k - length (decimal (r / 10)) = omega (arith, ap length step, length_push (decimal (r / 10)) (48 + r % 10)) in
    zeros-before (suc (suc k) - length (decimal r)) (suc k - length (decimal (r / 10))) (decimal r) (decimal (r / 10) ++ (48 + r % 10) ∷ []) fewer step
    ∙ sym (append_assoc (replicate (suc k - length (decimal (r / 10))) 48) (decimal (r / 10)) ((48 + r % 10) ∷ []))

padded-step : (k r : ℕ) → r < 10 ^ 64 → padded (suc (suc k)) r ≡ padded (suc k) (r / 10) ++ (48 + r % 10) ∷ []
padded-step k r wide = elim (cases_lt r 10) [
  | inl h ↦ padded-digit k r h
  | inr h ↦ padded-more k r h wide
]

power-some : (k : ℕ) → 0 < 10 ^ k
power-some zero = omega (arith, pow-zero 10)
power-some (suc k) = omega (arith, pow-suc 10 k, power-some k)

tenfold : (q p r : ℕ) → q * (p * 10) + r ≡ 10 * (q * p) + r
tenfold q p r = grind arith

-- the digits of a number are those above a power of ten and those below, where the number isn't less than it
pub decimal-parts : (k q r : ℕ) → 0 < q → r < 10 ^ suc k → q * 10 ^ suc k + r < 10 ^ 64 → decimal (q * 10 ^ suc k + r) ≡ decimal q ++ padded (suc k) r
decimal-parts zero q r some below wide =
    let n : q * 10 ^ 1 + r ≡ q * 10 + r = omega arith in
    let front : (q * 10 ^ 1 + r) / 10 ≡ q = omega arith in
    let last : (q * 10 ^ 1 + r) % 10 ≡ r = omega arith in
    let digit : decimal r ≡ (48 + r) ∷ [] = decimal_digit r (omega arith) in
    let alone : padded 1 r ≡ (48 + r) ∷ [] = zeros-before (1 - length (decimal r)) 0 (decimal r) ((48 + r) ∷ []) (omega (arith, ap length digit)) digit in
    decimal_step_wide (q * 10 ^ 1 + r) (omega arith) wide
    ∙ ap₂ (λ (x y : ℕ). decimal x ++ (48 + y) ∷ []) front last
    ∙ ap (λ (digits : List ℕ). decimal q ++ digits) (sym alone)
decimal-parts (suc k) q r some below wide =
    let power : 10 ^ suc (suc k) ≡ 10 ^ suc k * 10 = pow-suc 10 (suc k) in
    let number : q * 10 ^ suc (suc k) + r ≡ 10 * (q * 10 ^ suc k) + r = ap (λ (p : ℕ). q * p + r) power ∙ tenfold q (10 ^ suc k) r in
    let front : (q * 10 ^ suc (suc k) + r) / 10 ≡ q * 10 ^ suc k + r / 10 = omega (arith, number) in
    let last : (q * 10 ^ suc (suc k) + r) % 10 ≡ r % 10 = omega (arith, number) in
    let great : 0 < q * 10 ^ suc k = mul-pos some (power-some (suc k)) in
    decimal_step_wide (q * 10 ^ suc (suc k) + r) (omega arith) wide
    ∙ ap₂ (λ (x y : ℕ). decimal x ++ (48 + y) ∷ []) front last
    ∙ ap (λ (digits : List ℕ). digits ++ (48 + r % 10) ∷ []) (decimal-parts k q (r / 10) some (omega arith) (omega arith))
    ∙ append_assoc (decimal q) (padded (suc k) (r / 10)) ((48 + r % 10) ∷ [])
    ∙ ap (λ (digits : List ℕ). decimal q ++ digits) (sym (padded-step k r (omega arith)))

-- so many zeros
pub zeros-low : (n i : ℕ) → get_or (replicate n 48) i 0 < 128
zeros-low zero i = omega arith
zeros-low (suc n) zero = omega arith
zeros-low (suc n) (suc i) = zeros-low n i
