use Rattle.std.proofs.Common.{◌≡◌, ℕ, zero, suc, ◌+◌, ◌*◌, ◌^◌, ◌≤◌, arith, refl, subst, sym, T, Bool, true, false, List}
use native.Mathlib.Nat.{pow-zero}
use Rattle.std.specs.Prelude.{nat_le, replicate, ◌&&◌}
use Rattle.std.proofs.lemmas.Bool.Decides.{nat_tests}
use Rattle.definitions.specs.Signature.{limit}
use Rattle.book.specs.Play.{fits_from}
use Rattle.book.proofs.tests.sig.Goals as goal

both-true : (a b : Bool) → (a && b) ≡ true → (a ≡ true) × (b ≡ true)
both-true true b is = (refl, is)
both-true false b is = absurd (subst T (sym is) tt)

-- what fits the factors 1 fits at the last power
flat-fits : (n k v : ℕ) → fits_from (suc k) (replicate n 1) v ≡ true → v ^ k ≤ limit → v ^ (k + n) ≤ limit
flat-fits zero k v fits before = subst (λ (e : ℕ). v ^ e ≤ limit) (omega arith) before
flat-fits (suc n) k v fits before =
    let both = both-true (nat_le (v ^ suc k * 1) limit) (fits_from (suc (suc k)) (replicate n 1) v) fits in
    let first : nat_le (v ^ suc k * 1) limit ≡ true = both.0 in
    let next : v ^ suc k * 1 ≤ limit = grind (arith, nat_tests) in
    subst (λ (e : ℕ). v ^ e ≤ limit) (omega arith) (flat-fits n (suc k) v both.1 (omega (arith, next)))

pub returns-clause-allowed : goal.returns-clause-allowed
returns-clause-allowed c = λ v fits.
    let flat : fits_from 1 (replicate c.args.shape.depth 1) v ≡ true = subst (λ (factors : List ℕ). fits_from 1 factors v ≡ true) c.flat.ensures fits in
    subst (λ (e : ℕ). v ^ e ≤ limit) (omega arith) (flat-fits c.args.shape.depth 0 v flat (omega (arith, pow-zero v)))
