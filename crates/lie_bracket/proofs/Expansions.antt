-- The expansion of members and the commutator of parts, word by word.
use Rattle.std.proofs.Common.{◌≡◌, ℕ, zero, suc, ◌+◌, ◌≤◌, refl, ap, ap₂, ◌∙◌, arith, ℤ, pos, ◌+ℤ◌, ◌-ℤ◌, ◌*ℤ◌, List, [], ◌∷◌, length, take, drop}
use Rattle.std.proofs.lemmas.Int.{ints}
use Rattle.definitions.proofs.Integers.{zero-mul_ℤ}
use Rattle.definitions.specs.Commutators.{commutator}
use Rattle.definitions.specs.Hall.{expansion}
use Rattle.definitions.specs.declared.member.Member.{Member}
use Rattle.shuffle.proofs.ShuffleSums.{cut}
use Rattle.shuffle.proofs.DualLaws.{cut-none}
use Rattle.hall_set.proofs.GrownLists.{IsHall}
use Rattle.hall_set.proofs.Folds.{expansion-pair}
use Rattle.lie_steps.proofs.Concatenations.{joined}
use Rattle.lie_steps.proofs.Primitives.{commutator-joined}
use Rattle.lie_steps.proofs.Expansions.{IsPart}
use Rattle.lie_bracket.proofs.BracketExpansion.{Expansions}

-- of the cuts of a word the one with a front of n letters
cut-at : (n : ℕ) (g : List ℕ → List ℕ → ℤ) (w : List ℕ) → n ≤ length w → ((p q : List ℕ) → (length p ≡ n → ⊥) → g p q ≡ pos 0) → cut g w ≡ g (take n w) (drop n w)
cut-at zero g [] le only = refl
cut-at zero g (x ∷ w) le only =
    ap (λ (z : ℤ). g [] (x ∷ w) +ℤ z) (cut-none (λ p q. g (x ∷ p) q) w (λ p q. only (x ∷ p) q (λ e. omega arith))) ∙ omega (arith, ints)
cut-at (suc n) g [] le only = absurd (omega arith)
cut-at (suc n) g (x ∷ w) le only =
    ap₂ ◌+ℤ◌ (only [] (x ∷ w) (λ e. omega arith)) (cut-at n (λ p q. g (x ∷ p) q) w (omega arith) (λ p q ne. only (x ∷ p) q (λ e. ne (omega arith))))
    ∙ omega (arith, ints)

-- a product is that of the values at the front of n letters and at the rest, where the left factor has words of n letters alone
pub joined-at : (n m : ℕ) (s t : List ℕ → ℤ) → IsPart n m s → (w : List ℕ) → n ≤ length w → joined s t w ≡ s (take n w) *ℤ t (drop n w)
joined-at n m s t hs w le = cut-at n (λ p q. s p *ℤ t q) w le (λ p q ne. ap (λ (z : ℤ). z *ℤ t q) (hs.only p ne) ∙ zero-mul_ℤ (t q))

-- the commutator of two parts at a word of both degrees together
pub commutator-at : (n m k j : ℕ) (s t : List ℕ → ℤ) → IsPart n m s → IsPart k j t → (w : List ℕ) → length w ≡ n + k
    → commutator s t w ≡ (s (take n w) *ℤ t (drop n w)) -ℤ (t (take k w) *ℤ s (drop k w))
commutator-at n m k j s t hs ht w len =
    commutator-joined s t w ∙ ap₂ ◌-ℤ◌ (joined-at n m s t hs w (omega arith)) (joined-at k j t s ht w (omega arith))

-- the expansions of the members of a Hall list are commutators at pairs
pub expansion-Expansions : (depth : ℕ) (hall : List Member) → IsHall depth hall → Expansions hall (expansion hall)
expansion-Expansions depth hall ok h n l r inside e w = ap (λ (f : List ℕ → ℤ). f w) (expansion-pair depth hall ok h n l r inside e)
