-- The expansion of a member of a Hall list: it vanishes on the shuffles of nonempty words, it has words of its degree alone, and how large it is there.
use Rattle.std.proofs.Common.{◌≡◌, inl, inr, ℕ, zero, suc, ◌+◌, ◌*◌, ◌-◌, ◌≤◌, ◌<◌, ◌^◌, refl, sym, ap, ap₂, ◌∙◌, arith, ℤ, pos, ◌-ℤ◌, ◌*ℤ◌, unsigned_abs, List, [], ◌∷◌, length, eqb, cond}
use Rattle.std.specs.Prelude.{Bool, true, false}
use Rattle.std.proofs.Math.Nat.{mul-le-mul, le_trans, le_of_eq, pow-suc, pow-zero}
use Rattle.std.proofs.lemmas.Nat.{pow-add}
use Rattle.std.proofs.Math.IntN.{*ℤ-zero}
use Rattle.std.proofs.lemmas.Int.{ints, unsigned_abs-mul}
use Rattle.std.proofs.lemmas.Bool.{cases_eq}
use Rattle.definitions.proofs.Integers.{zero-mul_ℤ}
use Rattle.definitions.specs.Commutators.{letter, commutator}
use Rattle.definitions.specs.Hall.{InHall, member, degree, degree_of, folded, folded_with, expansion}
use Rattle.definitions.specs.declared.member.Member.{Member}
use Rattle.definitions.specs.declared.member.Member.TheVariants.{Letter, Pair}
use Rattle.hall_set.proofs.GrownLists.{IsPairOf, IsHall}
use Rattle.hall_set.proofs.Folds.{expansion-letter, expansion-pair}
use Rattle.shuffle.proofs.ShuffleSums.{cut, cut-same-length}
use Rattle.shuffle.proofs.DualLaws.{cut-none}
use Rattle.lie_steps.proofs.Concatenations.{joined}
use Rattle.lie_steps.proofs.Primitives.{IsPrimitive, letter-primitive, commutator-primitive, commutator-joined}

-- ---- on shuffles
with-primitive : (f : ℕ → List ℕ → ℤ) → ((h : ℕ) → IsPrimitive (f h)) → (h : ℕ) (m : Member) → IsPrimitive (folded_with letter commutator f h m)
with-primitive f each h Letter = letter-primitive h
with-primitive f each h (Pair n i j) = commutator-primitive (f i) (f j) (each i) (each j)

folded-primitive : (hall : List Member) (steps h : ℕ) → IsPrimitive (folded letter commutator hall steps h)
folded-primitive hall zero h = letter-primitive h
folded-primitive hall (suc steps) h = with-primitive (folded letter commutator hall steps) (folded-primitive hall steps) h (member hall h)

-- the expansion of each member vanishes on the shuffles of nonempty words
pub expansion-primitive : (hall : List Member) (h : ℕ) → IsPrimitive (expansion hall h)
unfolding expansion
expansion-primitive hall h = folded-primitive hall (degree hall h) h

-- ---- degrees and sizes
-- a tensor with words of n letters alone, each of size at most m
pub record IsPart (n m : ℕ) (s : List ℕ → ℤ) : Type 0 where
  -- at words of other lengths it is 0
  pub only : (w : List ℕ) → (length w ≡ n → ⊥) → s w ≡ pos 0
  -- no coefficient is larger than m
  pub within : (w : List ℕ) → unsigned_abs (s w) ≤ m

letter-only : (a : ℕ) (w : List ℕ) → (length w ≡ 1 → ⊥) → letter a w ≡ pos 0
letter-only a [] ne = refl
letter-only a (b ∷ []) ne = absurd (ne refl)
letter-only a (b ∷ c ∷ w) ne = refl

-- 1 or 0 is at most 1
cond-one : (b : Bool) → unsigned_abs (cond b (pos 1) (pos 0)) ≤ 1
cond-one true = omega arith
cond-one false = omega arith

letter-within : (a : ℕ) (w : List ℕ) → unsigned_abs (letter a w) ≤ 1
letter-within a [] = omega arith
letter-within a (b ∷ []) = cond-one (eqb a b)
letter-within a (b ∷ c ∷ w) = omega arith

-- a letter has words of one letter alone, each of size at most 1
pub letter-IsPart : (a : ℕ) → IsPart 1 1 (letter a)
letter-IsPart a = record { only = letter-only a; within = letter-within a }

-- of the cuts of a word one has a front of n letters
cut-one : (n m : ℕ) (g : List ℕ → List ℕ → ℤ) (w : List ℕ) → ((p q : List ℕ) → (length p ≡ n → ⊥) → g p q ≡ pos 0) → ((p q : List ℕ) → unsigned_abs (g p q) ≤ m) → unsigned_abs (cut g w) ≤ m
cut-one n m g [] only within = within [] []
cut-one zero m g (x ∷ w) only within =
    omega (arith, ints, within [] (x ∷ w), cut-none (λ p q. g (x ∷ p) q) w (λ p q. only (x ∷ p) q (λ e. omega arith)))
cut-one (suc n) m g (x ∷ w) only within =
    omega (arith, ints, only [] (x ∷ w) (λ e. omega arith), cut-one n m (λ p q. g (x ∷ p) q) w (λ p q ne. only (x ∷ p) q (λ e. ne (omega arith))) (λ p q. within (x ∷ p) q))

-- the bound of a product, where the degrees of its factors leave one cut alone
pub joined-within : (n m k j : ℕ) (s t : List ℕ → ℤ) → IsPart n m s → IsPart k j t → (w : List ℕ) → unsigned_abs (joined s t w) ≤ m * j
joined-within n m k j s t hs ht w =
    cut-one n (m * j) (λ p q. s p *ℤ t q) w
    (λ p q ne. ap (λ (z : ℤ). z *ℤ t q) (hs.only p ne) ∙ zero-mul_ℤ (t q))
    (λ p q. le_trans (le_of_eq (unsigned_abs-mul (s p) (t q))) (mul-le-mul (hs.within p) (ht.within q)))

-- a product has words of both degrees together alone
pub joined-only : (n m k j : ℕ) (s t : List ℕ → ℤ) → IsPart n m s → IsPart k j t → (w : List ℕ) → (length w ≡ n + k → ⊥) → joined s t w ≡ pos 0
joined-only n m k j s t hs ht w ne =
    cut-same-length (λ p q. s p *ℤ t q) (λ p q. pos 0) w
    (λ p q e. elim (cases_eq (length p) n) [
      | inl front ↦ ap (λ (z : ℤ). s p *ℤ z) (ht.only q (λ back. ne (omega arith))) ∙ *ℤ-zero (s p)
      | inr other ↦ ap (λ (z : ℤ). z *ℤ t q) (hs.only p other) ∙ zero-mul_ℤ (t q)
    ])
    ∙ cut-none (λ p q. pos 0) w (λ p q. refl)

-- a commutator has words of both degrees together, and twice the bound of the product
pub commutator-IsPart : (n m k j : ℕ) (s t : List ℕ → ℤ) → IsPart n m s → IsPart k j t → IsPart (n + k) (2 * (m * j)) (commutator s t)
commutator-IsPart n m k j s t hs ht =
    record {
      only = λ w ne. commutator-joined s t w ∙ ap₂ ◌-ℤ◌ (joined-only n m k j s t hs ht w ne) (joined-only k j n m t s ht hs w (λ e. ne (omega arith)));
      within = λ w.
          let left : unsigned_abs (joined s t w) ≤ m * j = joined-within n m k j s t hs ht w in
          let right : unsigned_abs (joined t s w) ≤ j * m = joined-within k j n m t s ht hs w in
          let e : unsigned_abs (commutator s t w) ≡ unsigned_abs (joined s t w -ℤ joined t s w) = ap unsigned_abs (commutator-joined s t w) in
          let both : unsigned_abs (joined s t w -ℤ joined t s w) ≤ unsigned_abs (joined s t w) + unsigned_abs (joined t s w) = omega (arith, ints) in
          omega (arith, e, both, left, right);
    }

-- by induction on a bound of the number
expansion-part : (depth : ℕ) (hall : List Member) → IsHall depth hall → (top h : ℕ) → h ≤ top → InHall hall h → (m : Member) → member hall h ≡ m → IsPart (degree hall h) (2 ^ (degree hall h - 1)) (expansion hall h)
expansion-part depth hall ok zero h le inside m em = absurd (omega (arith, inside.least))
expansion-part depth hall ok (suc top) h le inside Letter em =
    let d : degree hall h ≡ 1 = ap degree_of em in
    let p : IsPart 1 1 (letter h) = letter-IsPart h in
    let is : (w : List ℕ) → expansion hall h w ≡ letter h w = λ w. ap (λ (f : List ℕ → ℤ). f w) (expansion-letter hall h em) in
    record {
      only = λ w ne. is w ∙ p.only w (λ l. ne (omega arith));
      within = λ w. omega (arith, ap unsigned_abs (is w), p.within w, ap (λ (n : ℕ). 2 ^ (n - 1)) d, pow-zero 2);
    }
expansion-part depth hall ok (suc top) h le inside (Pair n l r) em =
    let e : ℕ → List ℕ → ℤ = expansion hall in
    let p : IsPairOf hall h n l r = ok.pairs h n l r inside em in
    let d : degree hall h ≡ degree hall l + degree hall r = ap degree_of em ∙ p.sum in
    let dl : 1 ≤ degree hall l = ok.positive l p.left_in in
    let dr : 1 ≤ degree hall r = ok.positive r p.right_in in
    let before : r < h = p.earlier in
    let order : l < r = p.in_order in
    let part : IsPart (degree hall l + degree hall r) (2 * (2 ^ (degree hall l - 1) * 2 ^ (degree hall r - 1))) (commutator (e l) (e r)) =
    commutator-IsPart (degree hall l) (2 ^ (degree hall l - 1)) (degree hall r) (2 ^ (degree hall r - 1)) (e l) (e r)
    (expansion-part depth hall ok top l (omega arith) p.left_in (member hall l) refl)
    (expansion-part depth hall ok top r (omega arith) p.right_in (member hall r) refl) in
    let power : 2 * (2 ^ (degree hall l - 1) * 2 ^ (degree hall r - 1)) ≡ 2 ^ (degree hall h - 1) =
    (let x : 2 * (2 ^ (degree hall l - 1) * 2 ^ (degree hall r - 1)) ≡ 2 ^ (degree hall l - 1 + (degree hall r - 1)) * 2 = omega (arith, pow-add 2 (degree hall l - 1) (degree hall r - 1)) in x)
    ∙ sym (pow-suc 2 (degree hall l - 1 + (degree hall r - 1)))
    ∙ (let y : suc (degree hall l - 1 + (degree hall r - 1)) ≡ degree hall h - 1 = omega arith in ap (λ (n : ℕ). 2 ^ n) y) in
    let is : (w : List ℕ) → e h w ≡ commutator (e l) (e r) w = λ w. ap (λ (f : List ℕ → ℤ). f w) (expansion-pair depth hall ok h n l r inside em) in
    record {
      only = λ w ne. is w ∙ part.only w (λ s. ne (omega arith));
      within = λ w. omega (arith, ap unsigned_abs (is w), part.within w, power);
    }

-- the expansion of a member of degree n has words of n letters alone, of size at most 2 ^ (n - 1)
pub expansion-IsPart : (depth : ℕ) (hall : List Member) → IsHall depth hall → (h : ℕ) → InHall hall h → IsPart (degree hall h) (2 ^ (degree hall h - 1)) (expansion hall h)
expansion-IsPart depth hall ok h inside = expansion-part depth hall ok h h (omega arith) inside (member hall h) refl
