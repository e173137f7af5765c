-- The test of a bound, and what allows signatures.
use Rattle.std.proofs.Common.{◌≡◌, ℕ, zero, suc, ◌+◌, ◌*◌, ◌^◌, ◌<◌, ◌≤◌, refl, ap, subst, arith, true, cond, Some, None, List, [], ◌∷◌, length, get_or, inl, inr}
use Rattle.std.specs.Prelude.{nat_le}
use Rattle.std.proofs.lemmas.Bool.{cases_Bool, and_parts, and_from}
use Rattle.std.proofs.lemmas.Bool.Decides.{nat_tests}
use Rattle.definitions.specs.Signature.{limit, Fits}
use Rattle.book.specs.declared.step.LookReply.TheVariants.{Overflow}
use Rattle.book.specs.Play.{fits_from, weighed}

-- each factor from the k-th power on
abbrev FitsFrom : ℕ → List ℕ → ℕ → Type 0
FitsFrom k factors v = (i : ℕ) → i < length factors → v ^ (i + k) * get_or factors i 0 ≤ limit

fits-tested : (k : ℕ) (factors : List ℕ) (v : ℕ) → FitsFrom k factors v → fits_from k factors v ≡ true
fits-tested k [] v fits = refl
fits-tested k (factor ∷ factors) v fits =
    let head : v ^ k * factor ≤ limit = subst (λ (n : ℕ). v ^ n * factor ≤ limit) (omega arith) (fits 0 (omega arith)) in
    let first : nat_le (v ^ k * factor) limit ≡ true = grind (arith, nat_tests) in
    let rest : fits_from (suc k) factors v ≡ true =
    fits-tested (suc k) factors v (λ i within. subst (λ (n : ℕ). v ^ n * get_or factors i 0 ≤ limit) (omega arith) (fits (suc i) (omega arith))) in
    and_from (nat_le (v ^ k * factor) limit) (fits_from (suc k) factors v) first rest

tested-fits : (k : ℕ) (factors : List ℕ) (v : ℕ) → fits_from k factors v ≡ true → FitsFrom k factors v
tested-fits k [] v test i within = absurd (omega arith)
tested-fits k (factor ∷ factors) v test zero within =
    let head : nat_le (v ^ k * factor) limit ≡ true = (and_parts (nat_le (v ^ k * factor) limit) (fits_from (suc k) factors v) test).0 in
    let first : v ^ k * factor ≤ limit = grind (arith, nat_tests) in
    subst (λ (n : ℕ). v ^ n * factor ≤ limit) (omega arith) first
tested-fits k (factor ∷ factors) v test (suc i) within =
    let rest : fits_from (suc k) factors v ≡ true = (and_parts (nat_le (v ^ k * factor) limit) (fits_from (suc k) factors v) test).1 in
    subst (λ (n : ℕ). v ^ n * get_or factors i 0 ≤ limit) (omega arith) (tested-fits (suc k) factors v rest i (omega arith))

-- a weight that fits all factors is not refused
pub weighed-fits : (factors : List ℕ) (v : ℕ) → Fits factors v → weighed factors v ≡ None
weighed-fits factors v fits = ap (λ t. cond t None (Some (Overflow v))) (fits-tested 1 factors v fits)

-- one that doesn't is refused, with that weight
pub weighed-over : (factors : List ℕ) (v : ℕ) → ¬ Fits factors v → weighed factors v ≡ Some (Overflow v)
weighed-over factors v over =
    elim (cases_Bool (fits_from 1 factors v)) [
      | inl fits ↦ absurd (over (tested-fits 1 factors v fits))
      | inr fails ↦ ap (λ t. cond t None (Some (Overflow v))) fails
    ]
