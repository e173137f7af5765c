-- The number of a pair: where it stands, or 0 where it doesn't.
use Rattle.std.proofs.Common.{◌≡◌, inl, inr, ℕ, suc, ◌+◌, ◌≤◌, ◌<◌, refl, sym, ap, ap₂, ◌∙◌, arith, List, [], ◌∷◌, length, get_or, cond}
use Rattle.std.specs.Prelude.{All, Bool, true, false, not, eqb, ltb, Option, Some, None, position}
use Rattle.std.specs.List.{position_or_len}
use Rattle.std.proofs.lemmas.Bool.{eqb-true, ltb-false, le-ltb, cases_Bool, and_parts}
use Rattle.std.proofs.lemmas.List.Elements.{All-nil, All-cons, All-head, All-tail}
use Rattle.std.proofs.lemmas.List.Quantifiers.{position-Some}
use Rattle.definitions.specs.Hall.{InHall, member, is_pair, number_at, number_of}
use Rattle.definitions.specs.declared.member.Member.{Member}
use Rattle.definitions.specs.declared.member.Member.TheVariants.{Letter, Pair}

-- ---- a test that nothing passes
none-passes : {X : Type 0} (p : X → Bool) (xs : List X) → length xs ≤ position_or_len p xs → All (λ x. p x ≡ false) xs
none-passes p [] h = All-nil (λ z. p z ≡ false)
none-passes p (x ∷ xs) h =
    elim (cases_Bool (p x)) [
      | inl here ↦ absurd (omega (arith, h, ap (λ (b : Bool). cond (not b) (1 + position_or_len p xs) 0) here))
      | inr other ↦
          All-cons (λ z. p z ≡ false) x xs other (none-passes p xs (omega (arith, h, ap (λ (b : Bool). cond (not b) (1 + position_or_len p xs) 0) other)))
    ]

-- where no element passes, the search ends at the length
past-all : {X : Type 0} (p : X → Bool) (xs : List X) → All (λ x. p x ≡ false) xs → position_or_len p xs ≡ length xs
past-all p [] h = refl
past-all p (x ∷ xs) h =
    ap (λ (b : Bool). cond (not b) (1 + position_or_len p xs) 0) (All-head (λ z. p z ≡ false) x xs h)
    ∙ (let rest : position_or_len p xs ≡ length xs = past-all p xs (All-tail (λ z. p z ≡ false) x xs h) in omega arith)

position-none : {X : Type 0} (p : X → Bool) (xs : List X) → position p xs ≡ None → All (λ x. p x ≡ false) xs
position-none p xs e =
    elim (cases_Bool (ltb (position_or_len p xs) (length xs))) [
      | inl some ↦ absurd (let s : Some (position_or_len p xs) ≡ None = sym (ap (λ (b : Bool). cond b (Some (position_or_len p xs)) None) some) ∙ e in cc)
      | inr none ↦ none-passes p xs (ltb-false (position_or_len p xs) (length xs) none)
    ]

none-position : {X : Type 0} (p : X → Bool) (xs : List X) → All (λ x. p x ≡ false) xs → position p xs ≡ None
none-position p xs h =
    ap (λ (b : Bool). cond b (Some (position_or_len p xs)) None) (le-ltb (position_or_len p xs) (length xs) (omega (arith, past-all p xs h)))

-- ---- the number
no-number : (o : Option ℕ) → number_at o ≡ 0 → o ≡ None
no-number None e = refl
no-number (Some k) e = absurd (omega arith)

-- a number from 1 is that of the place before it
some-number : (o : Option ℕ) (n : ℕ) → number_at o ≡ suc n → o ≡ Some n
some-number None n e = absurd (omega arith)
some-number (Some k) n e = ap Some (omega arith)

-- no member is the pair
abbrev pub IsMissing : List Member → ℕ → ℕ → Type 0
IsMissing hall i j = All (λ m. is_pair i j m ≡ false) hall

-- number 0 says that no member is the pair
pub number_of-missing : (hall : List Member) (i j : ℕ) → number_of hall i j ≡ 0 → IsMissing hall i j
unfolding number_of
number_of-missing hall i j e = position-none (is_pair i j) hall (no-number (position (is_pair i j) hall) e)

-- a pair that no member is has the number 0
pub missing-number_of : (hall : List Member) (i j : ℕ) → IsMissing hall i j → number_of hall i j ≡ 0
unfolding number_of
missing-number_of hall i j h = ap number_at (none-position (is_pair i j) hall h)

is_pair-true : (i j : ℕ) (m : Member) → is_pair i j m ≡ true → (n : ℕ) × (m ≡ Pair n i j)
is_pair-true i j Letter h = cc
is_pair-true i j (Pair n l r) h =
    let both : (eqb i l ≡ true) × (eqb j r ≡ true) = and_parts (eqb i l) (eqb j r) h in
    (n, ap₂ (Pair n) (sym (eqb-true i l both.0)) (sym (eqb-true j r both.1)))

-- the pair stands at the number h
pub record IsFound (hall : List Member) (i j h : ℕ) : Type 0 where
  -- h is the number of a member
  pub inside : InHall hall h
  -- the degree that the pair tells
  pub of_degree : ℕ
  -- and the member is the pair (i, j)
  pub is : member hall h ≡ Pair of_degree i j

-- another number than 0 is that of the pair
pub number_of-found : (hall : List Member) (i j n : ℕ) → number_of hall i j ≡ suc n → IsFound hall i j (suc n)
unfolding number_of
number_of-found hall i j n e =
    let at : (n < length hall) × (is_pair i j (get_or hall n (Pair 0 0 0)) ≡ true) × ((k : ℕ) → k < n → is_pair i j (get_or hall k (Pair 0 0 0)) ≡ false) =
    position-Some (is_pair i j) hall n (Pair 0 0 0) (some-number (position (is_pair i j) hall) n e) in
    let within : n < length hall = at.0 in
    let pair : (p : ℕ) × (get_or hall n (Pair 0 0 0) ≡ Pair p i j) = is_pair-true i j (get_or hall n (Pair 0 0 0)) at.1 in
    record { inside = record { least = omega arith; most = omega arith }; of_degree = pair.0; is = pair.1 }
