-- The Lie element of a move: it vanishes on the shuffles of nonempty words, and how large it is at the words of one degree.
use Rattle.std.proofs.Common.{◌≡◌, inl, inr, ℕ, zero, suc, ◌+◌, ◌*◌, ◌-◌, ◌≤◌, ◌<◌, ◌^◌, refl, sym, ap, ap₂, ◌∙◌, subst, arith, ℤ, pos, ◌+ℤ◌, ◌*ℤ◌, unsigned_abs, List, [], ◌∷◌, length, eqb, cond}
use Rattle.std.specs.Prelude.{slice_index_or, All, AllPairs, Bool, true}
use Rattle.std.proofs.Math.Nat.{mul-le-mul_left}
use Rattle.std.proofs.Math.IntN.{*ℤ-zero}
use Rattle.std.proofs.lemmas.Int.{ints, unsigned_abs-mul}
use Rattle.std.proofs.lemmas.Bool.{cases_eq, eqb-true, eq-eqb, ne_eqb}
use Rattle.std.proofs.lemmas.List.Elements.{All-head, All-tail}
use Rattle.definitions.specs.Words.{up_to}
use Rattle.definitions.specs.Sums.{count_below}
use Rattle.definitions.specs.Moves.{Parts, first_part, greatest}
use Rattle.definitions.specs.Commutators.{letter}
use Rattle.definitions.proofs.Integers.{abs-add, mul-one_ℤ}
use Rattle.definitions.proofs.SumLaws.{count_below-first}
use Rattle.definitions.specs.Hall.{InHall, member, degree, degree_of, of_degree, hall_list, expansion}
use Rattle.definitions.specs.declared.member.Member.{Member}
use Rattle.definitions.specs.declared.member.Member.TheVariants.{Letter, Pair}
use Rattle.hall_set.proofs.Lists.{All-kept, All-up_to, AllPairs-head, AllPairs-tail}
use Rattle.hall_set.proofs.GrownLists.{IsHall, IsPairOf, hall_list-IsHall, of_degree-rises}
use Rattle.hall_set.proofs.Folds.{expansion-letter}
use Rattle.definitions.specs.Moves.{part_series, parts_series, lie_series, root, total, sizes_from, sizes_of, weight_from, move_weight}
use Rattle.lie_steps.proofs.Primitives.{IsPrimitive, primitive-zero, primitive-add, primitive-mul, primitive-empty}
use Rattle.lie_steps.proofs.Expansions.{IsPart, expansion-primitive, expansion-IsPart}
use Rattle.lie_steps.proofs.ExponentialBounds.{IsClosed, all-IsClosed, IsSized}
use Rattle.definitions.proofs.Roots.{root-above}

-- ---- on shuffles
part-primitive : (hall : List Member) (hs : List ℕ) (xs : List ℤ) → IsPrimitive (part_series hall hs xs)
part-primitive hall [] xs = primitive-zero
part-primitive hall (h ∷ hs) [] = primitive-zero
part-primitive hall (h ∷ hs) (x ∷ xs) =
    primitive-add (λ w. x *ℤ expansion hall h w) (part_series hall hs xs) (primitive-mul x (expansion hall h) (expansion-primitive hall h)) (part-primitive hall hs xs)

-- the parts of a move from any degree on, expanded, vanish on the shuffles of nonempty words
pub parts-primitive : (hall : List Member) (j : ℕ) (parts : Parts) → IsPrimitive (parts_series hall j parts)
parts-primitive hall j [] = primitive-zero
parts-primitive hall j (part ∷ parts) =
    primitive-add (part_series hall (of_degree hall j) part) (parts_series hall (suc j) parts) (part-primitive hall (of_degree hall j) part) (parts-primitive hall (suc j) parts)

-- so does the Lie element of a move
pub lie_series-primitive : (parts : Parts) → IsPrimitive (lie_series parts)
unfolding lie_series
lie_series-primitive parts = parts-primitive (hall_list (length (first_part parts)) (length parts)) 1 parts

-- ---- one part
-- numbers of members of one degree
abbrev pub OfDegree : List Member → ℕ → ℕ → Type 0
OfDegree hall n h = InHall hall h × (degree hall h ≡ n)

-- the members that are picked by their degree have it
pub of_degree-OfDegree : (hall : List Member) (n : ℕ) → All (OfDegree hall n) (of_degree hall n)
of_degree-OfDegree hall n =
    All-kept (OfDegree hall n) (λ h. eqb (degree hall h) n) (up_to (length hall))
    (All-up_to (λ h. eqb (degree hall h) n ≡ true → OfDegree hall n h) (length hall) (λ h l m e. (record { least = l; most = m }, eqb-true (degree hall h) n e)))

-- a part of degree n has no words of other lengths
part-other : (depth : ℕ) (hall : List Member) → IsHall depth hall → (n : ℕ) (hs : List ℕ) (xs : List ℤ) (w : List ℕ) → All (OfDegree hall n) hs → (length w ≡ n → ⊥) → part_series hall hs xs w ≡ pos 0
part-other depth hall ok n [] xs w all ne = refl
part-other depth hall ok n (h ∷ hs) [] w all ne = refl
part-other depth hall ok n (h ∷ hs) (x ∷ xs) w all ne =
    let of : OfDegree hall n h = All-head (OfDegree hall n) h hs all in
    let is : IsPart (degree hall h) (2 ^ (degree hall h - 1)) (expansion hall h) = expansion-IsPart depth hall ok h of.0 in
    let none : expansion hall h w ≡ pos 0 = is.only w (λ e. ne (e ∙ of.1)) in
    let rest : part_series hall hs xs w ≡ pos 0 = part-other depth hall ok n hs xs w (All-tail (OfDegree hall n) h hs all) ne in
    ap₂ (λ (y z : ℤ). (x *ℤ y) +ℤ z) none rest ∙ omega (arith, ints, *ℤ-zero x)

-- its coefficients are at most 2 ^ (n - 1) times the sum of its absolute entries
part-within : (depth : ℕ) (hall : List Member) → IsHall depth hall → (n : ℕ) (hs : List ℕ) (xs : List ℤ) (w : List ℕ) → All (OfDegree hall n) hs → unsigned_abs (part_series hall hs xs w) ≤ 2 ^ (n - 1) * total xs
part-within depth hall ok n [] xs w all = omega arith
part-within depth hall ok n (h ∷ hs) [] w all = omega arith
part-within depth hall ok n (h ∷ hs) (x ∷ xs) w all =
    let of : OfDegree hall n h = All-head (OfDegree hall n) h hs all in
    let is : IsPart (degree hall h) (2 ^ (degree hall h - 1)) (expansion hall h) = expansion-IsPart depth hall ok h of.0 in
    let one : unsigned_abs (expansion hall h w) ≤ 2 ^ (n - 1) = subst (λ (i : ℕ). unsigned_abs (expansion hall h w) ≤ 2 ^ (i - 1)) of.1 (is.within w) in
    let rest : unsigned_abs (part_series hall hs xs w) ≤ 2 ^ (n - 1) * total xs = part-within depth hall ok n hs xs w (All-tail (OfDegree hall n) h hs all) in
    omega (
      arith,
      abs-add (x *ℤ expansion hall h w) (part_series hall hs xs w),
      unsigned_abs-mul x (expansion hall h w),
      mul-le-mul_left (unsigned_abs x) one,
      rest,
    )

-- ---- letters
-- a member of degree 1 is a letter
letter-of : (depth : ℕ) (hall : List Member) → IsHall depth hall → (h : ℕ) → InHall hall h → (m : Member) → member hall h ≡ m → degree hall h ≡ 1 → member hall h ≡ Letter
letter-of depth hall ok h inside Letter e one = e
letter-of depth hall ok h inside (Pair n i j) e one =
    let p : IsPairOf hall h n i j = ok.pairs h n i j inside e in
    absurd (omega (arith, ap degree_of e, p.sum, one, ok.positive i p.left_in, ok.positive j p.right_in))

-- a member of degree 1 expands to its letter
pub expansion-of_letter : (depth : ℕ) (hall : List Member) → IsHall depth hall → (h : ℕ) → OfDegree hall 1 h → expansion hall h ≡ letter h
expansion-of_letter depth hall ok h of = expansion-letter hall h (letter-of depth hall ok h of.0 (member hall h) refl of.1)

-- all numbers are above a
abbrev pub Above : ℕ → List ℕ → Type 0
Above a hs = All (λ h. a < h) hs

-- members above a have nothing at the word of the letter a
pub letters-none : (depth : ℕ) (hall : List Member) → IsHall depth hall → (hs : List ℕ) (xs : List ℤ) (a : ℕ) → All (OfDegree hall 1) hs → Above a hs → part_series hall hs xs (a ∷ []) ≡ pos 0
letters-none depth hall ok [] xs a all above = refl
letters-none depth hall ok (h ∷ hs) [] a all above = refl
letters-none depth hall ok (h ∷ hs) (x ∷ xs) a all above =
    let later : a < h = All-head (λ i. a < i) h hs above in
    let none : expansion hall h (a ∷ []) ≡ pos 0 =
    ap (λ (f : List ℕ → ℤ). f (a ∷ [])) (expansion-of_letter depth hall ok h (All-head (OfDegree hall 1) h hs all))
    ∙ ap (λ (b : Bool). cond b (pos 1) (pos 0)) (ne_eqb h a (λ e. omega arith)) in
    ap₂ (λ (y z : ℤ). (x *ℤ y) +ℤ z) none (letters-none depth hall ok hs xs a (All-tail (OfDegree hall 1) h hs all) (All-tail (λ i. a < i) h hs above))
    ∙ omega (arith, ints, *ℤ-zero x)

letters-within : (depth : ℕ) (hall : List Member) → IsHall depth hall → (hs : List ℕ) (xs : List ℤ) (a : ℕ) → All (OfDegree hall 1) hs → AllPairs (λ i j. i < j) hs
    → unsigned_abs (part_series hall hs xs (a ∷ [])) ≤ greatest xs
letters-within depth hall ok [] xs a all rising = omega arith
letters-within depth hall ok (h ∷ hs) [] a all rising = omega arith
letters-within depth hall ok (h ∷ hs) (x ∷ xs) a all rising =
    let is : expansion hall h (a ∷ []) ≡ cond (eqb h a) (pos 1) (pos 0) = ap (λ (f : List ℕ → ℤ). f (a ∷ [])) (expansion-of_letter depth hall ok h (All-head (OfDegree hall 1) h hs all)) in
    let rest_all : All (OfDegree hall 1) hs = All-tail (OfDegree hall 1) h hs all in
    elim (cases_eq h a) [
      | inl same ↦
          let one : expansion hall h (a ∷ []) ≡ pos 1 = is ∙ ap (λ (b : Bool). cond b (pos 1) (pos 0)) (eq-eqb h a same) in
          let none : part_series hall hs xs (a ∷ []) ≡ pos 0 = letters-none depth hall ok hs xs a rest_all (subst (λ (n : ℕ). Above n hs) same (AllPairs-head (λ i j. i < j) h hs rising)) in
          let value : (x *ℤ expansion hall h (a ∷ [])) +ℤ part_series hall hs xs (a ∷ []) ≡ x = ap₂ (λ (y z : ℤ). (x *ℤ y) +ℤ z) one none ∙ omega (arith, ints, mul-one_ℤ x) in
          omega (arith, ap unsigned_abs value)
      | inr other ↦
          let none : expansion hall h (a ∷ []) ≡ pos 0 = is ∙ ap (λ (b : Bool). cond b (pos 1) (pos 0)) (ne_eqb h a other) in
          let rest : unsigned_abs (part_series hall hs xs (a ∷ [])) ≤ greatest xs = letters-within depth hall ok hs xs a rest_all (AllPairs-tail (λ i j. i < j) h hs rising) in
          let value : (x *ℤ expansion hall h (a ∷ [])) +ℤ part_series hall hs xs (a ∷ []) ≡ part_series hall hs xs (a ∷ []) =
          ap (λ (y : ℤ). (x *ℤ y) +ℤ part_series hall hs xs (a ∷ [])) none ∙ omega (arith, ints, *ℤ-zero x) in
          omega (arith, ap unsigned_abs value, rest)
    ]

-- ---- all parts
-- the parts from degree j on have no words of fewer than j letters
pub parts-shorter : (depth : ℕ) (hall : List Member) → IsHall depth hall → (j : ℕ) (parts : Parts) (w : List ℕ) → length w < j → parts_series hall j parts w ≡ pos 0
parts-shorter depth hall ok j [] w h = refl
parts-shorter depth hall ok j (part ∷ parts) w h =
    ap₂ ◌+ℤ◌ (part-other depth hall ok j (of_degree hall j) part w (of_degree-OfDegree hall j) (λ e. omega arith)) (parts-shorter depth hall ok (suc j) parts w (omega arith))

parts-within : (depth : ℕ) (hall : List Member) → IsHall depth hall → (j : ℕ) (parts : Parts) (k : ℕ) (w : List ℕ) → length w ≡ j + k → unsigned_abs (parts_series hall j parts w) ≤ slice_index_or (sizes_from j parts) k 0
parts-within depth hall ok j [] k w len = omega arith
parts-within depth hall ok j (part ∷ parts) zero w len =
    let first : unsigned_abs (part_series hall (of_degree hall j) part w) ≤ 2 ^ (j - 1) * total part = part-within depth hall ok j (of_degree hall j) part w (of_degree-OfDegree hall j) in
    let rest : parts_series hall (suc j) parts w ≡ pos 0 = parts-shorter depth hall ok (suc j) parts w (omega arith) in
    omega (arith, ints, first, rest, abs-add (part_series hall (of_degree hall j) part w) (parts_series hall (suc j) parts w))
parts-within depth hall ok j (part ∷ parts) (suc k) w len =
    let first : part_series hall (of_degree hall j) part w ≡ pos 0 = part-other depth hall ok j (of_degree hall j) part w (of_degree-OfDegree hall j) (λ e. omega arith) in
    let rest : unsigned_abs (parts_series hall (suc j) parts w) ≤ slice_index_or (sizes_from (suc j) parts) k 0 = parts-within depth hall ok (suc j) parts k w (omega arith) in
    omega (arith, ints, ap unsigned_abs first, rest, abs-add (part_series hall (of_degree hall j) part w) (parts_series hall (suc j) parts w))

-- a word of one letter is that of a letter
one-letter : (hall : List Member) (hs : List ℕ) (xs : List ℤ) (n : ℕ) (w : List ℕ) → length w ≡ 1 → ((a : ℕ) → unsigned_abs (part_series hall hs xs (a ∷ [])) ≤ n) → unsigned_abs (part_series hall hs xs w) ≤ n
one-letter hall hs xs n [] len each = absurd (omega arith)
one-letter hall hs xs n (a ∷ []) len each = each a
one-letter hall hs xs n (a ∷ b ∷ w) len each = absurd (omega arith)

-- at words of k + 1 letters the Lie element is at most the bound of the part of degree k + 1
pub series-within : (depth : ℕ) (hall : List Member) → IsHall depth hall → (parts : Parts) (k : ℕ) (w : List ℕ) → length w ≡ suc k → unsigned_abs (parts_series hall 1 parts w) ≤ slice_index_or (sizes_of parts) k 0
series-within depth hall ok [] k w len = omega arith
series-within depth hall ok (part ∷ parts) zero w len =
    let hs : List ℕ = of_degree hall 1 in
    let first : unsigned_abs (part_series hall hs part w) ≤ greatest part =
    one-letter hall hs part (greatest part) w len (λ a. letters-within depth hall ok hs part a (of_degree-OfDegree hall 1) (of_degree-rises hall 1)) in
    let rest : parts_series hall 2 parts w ≡ pos 0 = parts-shorter depth hall ok 2 parts w (omega arith) in
    omega (arith, ints, first, rest, abs-add (part_series hall hs part w) (parts_series hall 2 parts w))
series-within depth hall ok (part ∷ parts) (suc k) w len =
    let first : part_series hall (of_degree hall 1) part w ≡ pos 0 = part-other depth hall ok 1 (of_degree hall 1) part w (of_degree-OfDegree hall 1) (λ e. omega arith) in
    let rest : unsigned_abs (parts_series hall 2 parts w) ≤ slice_index_or (sizes_from 2 parts) k 0 = parts-within depth hall ok 2 parts k w (omega arith) in
    omega (arith, ints, ap unsigned_abs first, rest, abs-add (part_series hall (of_degree hall 1) part w) (parts_series hall 2 parts w))

-- ---- weights
-- the root of degree j + k
abbrev pub root_at : ℕ → ℕ → List ℕ → ℕ → ℕ
root_at depth j [] k = 0
root_at depth j (p ∷ ps) zero = root j (depth ^ (j - 1) * p)
root_at depth j (p ∷ ps) (suc k) = root_at depth (suc j) ps k

-- the roots of however many degrees add up to at most the weight
pub roots-summed : (depth j : ℕ) (ps : List ℕ) (n : ℕ) → count_below n (root_at depth j ps) ≤ weight_from depth j ps
unfolding count_below
roots-summed depth j ps zero = omega arith
roots-summed depth j [] (suc n) = omega (arith, roots-summed depth j [] n)
roots-summed depth j (p ∷ ps) (suc n) =
    omega (arith, count_below-first n (root_at depth j (p ∷ ps)), roots-summed depth (suc j) ps n)

-- the root's power is at least the scaled bound of its degree
pub size-root : (depth j : ℕ) (ps : List ℕ) (k : ℕ) → 1 ≤ j → depth ^ (j + k - 1) * slice_index_or ps k 0 ≤ root_at depth j ps k ^ (j + k)
size-root depth j [] k h = omega arith
size-root depth j (p ∷ ps) zero h =
    let e : j + 0 ≡ j = omega arith in
    subst (λ (i : ℕ). depth ^ (i - 1) * p ≤ root j (depth ^ (j - 1) * p) ^ i) (sym e) (root-above j (depth ^ (j - 1) * p) h)
size-root depth j (p ∷ ps) (suc k) h =
    let e : j + suc k ≡ suc j + k = omega arith in
    subst (λ (i : ℕ). depth ^ (i - 1) * slice_index_or ps k 0 ≤ root_at depth (suc j) ps k ^ i) (sym e) (size-root depth (suc j) ps k (omega arith))

-- a series whose coefficients of each degree are within these sizes
pub sizes-IsSized : (P : List ℕ → Type 0) (depth : ℕ) (ps : List ℕ) (z : List ℕ → ℤ) → IsClosed P → z [] ≡ pos 0 → ((k : ℕ) (w : List ℕ) → P w → length w ≡ suc k → unsigned_abs (z w) ≤ slice_index_or ps k 0)
    → IsSized P depth (root_at depth 1 ps) (weight_from depth 1 ps) z
sizes-IsSized P depth ps z closed empty within =
    record {
      closed = closed;
      empty = empty;
      sized = λ k w is len.
          let e : 1 + k - 1 ≡ k = omega arith in
          let e' : 1 + k ≡ suc k = omega arith in
          let above : depth ^ (1 + k - 1) * slice_index_or ps k 0 ≤ root_at depth 1 ps k ^ (1 + k) = size-root depth 1 ps k (omega arith) in
          omega (
            arith,
            above,
            ap (λ (i : ℕ). depth ^ i * slice_index_or ps k 0) e,
            ap (λ (i : ℕ). root_at depth 1 ps k ^ i) e',
            mul-le-mul_left (depth ^ k) (within k w is len),
          );
      summed = roots-summed depth 1 ps;
    }

-- the Lie element of a move is bounded, degree by degree, by roots that add up to the weight of the move
pub lie_series-IsSized : (parts : Parts) → 1 ≤ length parts → IsSized (λ w. Unit {0}) (length parts) (root_at (length parts) 1 (sizes_of parts)) (move_weight parts) (lie_series parts)
unfolding lie_series move_weight
lie_series-IsSized parts some =
    let hall : List Member = hall_list (length (first_part parts)) (length parts) in
    let z : List ℕ → ℤ = λ w. parts_series hall 1 parts w in
    sizes-IsSized (λ w. Unit {0}) (length parts) (sizes_of parts) z all-IsClosed (primitive-empty z (parts-primitive hall 1 parts))
    (λ k w is len. series-within (length parts) hall (hall_list-IsHall (length (first_part parts)) (length parts) some) parts k w len)
