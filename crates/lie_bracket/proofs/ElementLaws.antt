-- Lists of terms that are Lie elements: their greatest factor, and their order.
use Rattle.std.proofs.Common.{◌≡◌, ◌≢◌, pos, get_or, inl, inr, ℕ, zero, suc, ◌+◌, ◌-◌, ◌*◌, ◌^◌, ◌<◌, ◌≤◌, sym, ap, ◌∙◌, subst, arith, max, List, [], ◌∷◌, length, take, unsigned_abs}
use Rattle.std.specs.Prelude.{All, AllPairs, EachIndex}
use Rattle.std.proofs.Math.Nat.{le_trans, mul-le-mul_right}
use Rattle.std.proofs.lemmas.Bool.{cases_eq}
use Rattle.std.proofs.lemmas.List.Elements.{All-from_get_or}
use Rattle.std.proofs.lemmas.List.{get_or_default}
use Rattle.definitions.specs.Signature.{limit}
use Rattle.definitions.specs.Hall.{InHall}
use Rattle.definitions.specs.declared.member.Member.{Member}
use Rattle.lie_bracket.specs.declared.term.Term.{Term}
use Rattle.lie_bracket.specs.Brackets.{term}
use Rattle.lie_bracket.specs.Entries.{sizes, Numbers}
use Rattle.lie_bracket.specs.Elements.{IsElement, top, term_at, IsGoodAt}

-- one term more
pub top-next : (terms : List Term) (i : ℕ) → i < length terms → top (take (i + 1) terms) ≡ max (top (take i terms)) (unsigned_abs (term_at terms i).factor)
top-next [] i lt = absurd (omega arith)
top-next (t ∷ terms) zero lt = omega arith
top-next (t ∷ terms) (suc i) lt =
    let one : suc i + 1 ≡ suc (i + 1) = omega arith in
    ap (λ (n : ℕ). top (take n (t ∷ terms))) one ∙ (let rest : top (take (i + 1) terms) ≡ max (top (take i terms)) (unsigned_abs (term_at terms i).factor) = top-next terms i (omega arith) in omega arith)

-- where each number is above the one before, the numbers rise
rises : (n : ℕ) (terms : List Term) → EachIndex terms (IsGoodAt n terms) → (i j : ℕ) → i < j → j < length terms → (term_at terms i).number < (term_at terms j).number
rises n terms good i zero lt len = absurd (omega arith)
rises n terms good i (suc j) lt len =
    let next : (term_at terms j).number < (term_at terms (suc j)).number = (good (suc j) len).above in
    elim (cases_eq i j) [
      | inl same ↦ subst (λ (k : ℕ). (term_at terms k).number < (term_at terms (suc j)).number) (sym same) next
      | inr apart ↦ omega (arith, next, rises n terms good i j (omega arith) (omega arith))
    ]

-- a list of terms that are good at their places is a Lie element
pub good-IsElement : (n : ℕ) (terms : List Term) → EachIndex terms (IsGoodAt n terms) → IsElement terms
good-IsElement n terms good =
    let d : Term = term (pos 0) 0 in
    record {
      rising = λ i j e lt len.
          subst (λ (s : Term). s.number < (get_or terms j e).number) (get_or_default terms i d e (omega arith))
          (subst (λ (t : Term). (term_at terms i).number < t.number) (get_or_default terms j d e len) (rises n terms good i j lt len));
      numbers = All-from_get_or (λ t. 1 ≤ t.number) terms d (λ i lt. omega (arith, (good i lt).above));
      some = All-from_get_or (λ t. t.factor ≢ pos 0) terms d (λ i lt. (good i lt).some);
      in_range = All-from_get_or (λ t. unsigned_abs t.factor ≤ limit) terms d (λ i lt. (good i lt).in_range);
    }

-- and all its numbers are those of members
pub good-members : (hall : List Member) (terms : List Term) → EachIndex terms (IsGoodAt (length hall) terms) → All (λ t. InHall hall t.number) terms
good-members hall terms good =
    All-from_get_or (λ t. InHall hall t.number) terms (term (pos 0) 0) (λ i lt. record { least = omega (arith, (good i lt).above); most = (good i lt).within })

-- ---- the size of an element
sizes-top : (m : ℕ) (terms : List Term) → top terms ≤ m → sizes terms ≤ length terms * m
sizes-top m [] le = omega arith
sizes-top m (t ∷ terms) le = omega (arith, sizes-top m terms (omega arith))

-- an element has a term for each of n members at most
rises-past : (n : ℕ) (terms : List Term) → AllPairs (λ s t. s.number < t.number) terms → Numbers n terms → (i : ℕ) → i < length terms → i < (term_at terms i).number
rises-past n terms rising all zero lt = omega (arith, (all zero (term (pos 0) 0) lt).0)
rises-past n terms rising all (suc i) lt = omega (arith, rising i (suc i) (term (pos 0) 0) (omega arith) lt, rises-past n terms rising all i (omega arith))

length-within : (n : ℕ) (terms : List Term) → AllPairs (λ s t. s.number < t.number) terms → Numbers n terms → length terms ≤ n
length-within n terms rising all =
    elim (cases_eq (length terms) 0) [
      | inl none ↦ omega arith
      | inr some ↦ omega (arith, rises-past n terms rising all (length terms - 1) (omega arith), (all (length terms - 1) (term (pos 0) 0) (omega arith)).1)
    ]

-- an element over at most 1024 members has at most 2 ^ 10 times its greatest factor in all
pub sizes-within : (n : ℕ) (terms : List Term) → n ≤ 1024 → IsElement terms → Numbers n terms → sizes terms ≤ 2 ^ 10 * top terms
sizes-within n terms few element all =
    le_trans (sizes-top (top terms) terms (omega arith)) (mul-le-mul_right (top terms) (le_trans (length-within n terms element.rising all) few))
