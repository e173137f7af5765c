-- A search by the order of the list finds the number of a pair.
use Rattle.std.proofs.Common.{◌≡◌, ◌⊎◌, inl, inr, ℕ, zero, suc, ◌+◌, ◌-◌, ◌≤◌, ◌<◌, refl, sym, ap, ap₂, ◌∙◌, subst, arith, List, length, get_or}
use Rattle.std.specs.Prelude.{true, false, ◌&&◌, ◌||◌, eqb, ltb}
use Rattle.std.specs.List.Sorted.{IsPartitionedBy}
use Rattle.std.proofs.lemmas.Bool.{eqb-true, eq-eqb, ltb-true, lt-ltb, le-ltb, and_parts, and_from, or_cases, or_left, or_right, or_from, and_right, both_ways, cases_order, cases_eq}
use Rattle.std.proofs.lemmas.List.{get_or_default}
use Rattle.definitions.specs.Words.{Extent, IsShape}
use Rattle.definitions.specs.Hall.{InHall, IsHallList, degree, degree_of, hall_list, is_pair, number_of}
use Rattle.definitions.specs.Order.{precedes, IsPlace}
use Rattle.definitions.specs.declared.member.Member.{Member}
use Rattle.definitions.specs.declared.member.Member.TheVariants.{Letter, Pair}
use Rattle.hall_set.proofs.Numbers.{number_of-missing, IsFound, number_of-found}
use Rattle.hall_set.proofs.GrownLists.{Comes, IsPairOf, IsHall, hall_list-IsHall, member-read}
use Rattle.hall_set.proofs.Sizes.{hall_list-short}

-- ---- the Hall list of a shape
-- a Hall list has the properties of one, to the depth of its shape
pub list-IsHall : (hall : List Member) (list : IsHallList hall) → IsHall (list.0.depth) hall
list-IsHall hall list = subst (IsHall (list.0.depth)) (sym list.2) (hall_list-IsHall list.0.width list.0.depth list.1.some_depth)

-- no Hall list has more than 1024 members
pub list-short : (hall : List Member) → IsHallList hall → length hall ≤ 1024
list-short hall list = subst (λ (ms : List Member). length ms ≤ 1024) (sym list.2) (hall_list-short list.0 list.1)

-- no member has a degree above 8
pub list-degree : (hall : List Member) → IsHallList hall → (h : ℕ) → InHall hall h → degree hall h ≤ 8
list-degree hall list h inside = omega (arith, (list-IsHall hall list).topped h inside, list.1.within_depth)

-- ---- pairs in order
abbrev IsBefore : (n i j m l r : ℕ) → Type 0
IsBefore n i j m l r = (m < n) ⊎ ((m ≡ n) × ((l < i) ⊎ ((l ≡ i) × (r < j))))

-- what the test of the order says, as a case
precedes-true : (n i j m l r : ℕ) → precedes n i j (Pair m l r) ≡ true → IsBefore n i j m l r
precedes-true n i j m l r h =
    elim (or_cases (ltb m n) (eqb m n && (ltb l i || eqb l i && ltb r j)) h) [
      | inl degree ↦ inl (ltb-true m n degree)
      | inr rest ↦
          let same : (eqb m n ≡ true) × ((ltb l i || eqb l i && ltb r j) ≡ true) = and_parts (eqb m n) (ltb l i || eqb l i && ltb r j) rest in
          inr ((
            eqb-true m n same.0,
            elim (or_cases (ltb l i) (eqb l i && ltb r j) same.1) [
              | inl left ↦ inl (ltb-true l i left)
              | inr right ↦ (let both : (eqb l i ≡ true) × (ltb r j ≡ true) = and_parts (eqb l i) (ltb r j) right in inr ((eqb-true l i both.0, ltb-true r j both.1)))
            ],
          ))
    ]

-- and back
before-precedes : (n i j m l r : ℕ) → IsBefore n i j m l r → precedes n i j (Pair m l r) ≡ true
before-precedes n i j m l r (inl lt) = or_left (ltb m n) (eqb m n && (ltb l i || eqb l i && ltb r j)) (lt-ltb m n lt)
before-precedes n i j m l r (inr (e, inl lt)) =
    or_right (ltb m n) (eqb m n && (ltb l i || eqb l i && ltb r j)) (and_from (eqb m n) (ltb l i || eqb l i && ltb r j) (eq-eqb m n e) (or_left (ltb l i) (eqb l i && ltb r j) (lt-ltb l i lt)))
before-precedes n i j m l r (inr (e, inr (f, lt))) =
    or_right (ltb m n) (eqb m n && (ltb l i || eqb l i && ltb r j))
    (and_from (eqb m n) (ltb l i || eqb l i && ltb r j) (eq-eqb m n e) (or_right (ltb l i) (eqb l i && ltb r j) (and_from (eqb l i) (ltb r j) (eq-eqb l i f) (lt-ltb r j lt))))

-- the order is transitive
before-before : (n i j m l r k a b : ℕ) → IsBefore m l r k a b → IsBefore n i j m l r → IsBefore n i j k a b
before-before n i j m l r k a b (inl p) (inl q) = inl (omega arith)
before-before n i j m l r k a b (inl p) (inr (e, q)) = inl (omega arith)
before-before n i j m l r k a b (inr (d, p)) (inl q) = inl (omega arith)
before-before n i j m l r k a b (inr (d, inl p)) (inr (e, inl q)) = inr ((omega arith, inl (omega arith)))
before-before n i j m l r k a b (inr (d, inl p)) (inr (e, inr (f, q))) = inr ((omega arith, inl (omega arith)))
before-before n i j m l r k a b (inr (d, inr (g, p))) (inr (e, inl q)) = inr ((omega arith, inl (omega arith)))
before-before n i j m l r k a b (inr (d, inr (g, p))) (inr (e, inr (f, q))) = inr ((omega arith, inr ((omega arith, omega arith))))

-- what comes before a member that precedes the pair precedes it too
comes-precedes : (n i j : ℕ) (x z : Member) → Comes x z → precedes n i j z ≡ true → precedes n i j x ≡ true
comes-precedes n i j Letter z comes h = refl
comes-precedes n i j (Pair k a b) Letter comes h = cc
comes-precedes n i j (Pair k a b) (Pair m l r) comes h =
    before-precedes n i j k a b (before-before n i j m l r k a b (precedes-true m l r k a b comes) (precedes-true n i j m l r h))

precedes-itself : (n i j : ℕ) → precedes n i j (Pair n i j) ≡ false
precedes-itself n i j =
    or_from (ltb n n) (eqb n n && (ltb i i || eqb i i && ltb j j)) (le-ltb n n (omega arith))
    (and_right (eqb n n) (ltb i i || eqb i i && ltb j j)
    (or_from (ltb i i) (eqb i i && ltb j j) (le-ltb i i (omega arith)) (and_right (eqb i i) (ltb j j) (le-ltb j j (omega arith)))))

-- the members that precede a pair are the first ones of the list
pub precedes-partitions : (depth : ℕ) (hall : List Member) → IsHall depth hall → (n i j : ℕ) → IsPartitionedBy (precedes n i j) hall
precedes-partitions depth hall ok n i j = λ a b d le len h.
    elim (cases_eq a b) [
      | inl same ↦ subst (λ (k : ℕ). precedes n i j (get_or hall k d) ≡ true) (sym same) h
      | inr apart ↦ comes-precedes n i j (get_or hall a d) (get_or hall b d) (ok.ordered a b d (omega arith) len) h
    ]

-- ---- where the pair stands
-- a pair that is in the list stands at its place in the order
pub found-place : (depth : ℕ) (hall : List Member) → IsHall depth hall → (n i j at x : ℕ) → n ≡ degree hall i + degree hall j → IsPlace n i j hall at → number_of hall i j ≡ suc x → x ≡ at
found-place depth hall ok n i j at x sum place e =
    let f : IsFound hall i j (suc x) = number_of-found hall i j x e in
    let p : IsPairOf hall (suc x) f.of_degree i j = ok.pairs (suc x) f.of_degree i j f.inside f.is in
    let here : get_or hall x (Pair 0 0 0) ≡ Pair n i j = f.is ∙ ap (λ (m : ℕ). Pair m i j) (p.sum ∙ sym sum) in
    let within : x < length hall = omega (arith, f.inside.most) in
    elim (cases_order x at) [
      | inl same ↦ same
      | inr apart ↦ elim apart [
        | inl below ↦
            absurd
            (both_ways (precedes n i j (Pair n i j)) (precedes-itself n i j) (subst (λ (m : Member). precedes n i j m ≡ true) here (place.0 x (Pair 0 0 0) (omega arith) below)))
        | inr above ↦
            absurd
            (both_ways (precedes n i j (get_or hall at (Pair 0 0 0))) (place.1 at (Pair 0 0 0) (omega arith) (omega arith))
            (subst (Comes (get_or hall at (Pair 0 0 0))) here (ok.ordered at x (Pair 0 0 0) above within)))
      ]
    ]

-- a number is 0, or one from 1
number-cases : (n : ℕ) → (n ≡ 0) ⊎ ((x : ℕ) × (n ≡ suc x))
number-cases zero = inl refl
number-cases (suc x) = inr ((x, refl))

is_pair-itself : (n i j : ℕ) → is_pair i j (Pair n i j) ≡ true
is_pair-itself n i j = ap₂ ◌&&◌ (eq-eqb i i refl) (eq-eqb j j refl)

-- the pair stands at its place or nowhere
pub number-at_place : (depth : ℕ) (hall : List Member) → IsHall depth hall → (n i j at : ℕ) (m : Member) → n ≡ degree hall i + degree hall j → IsPlace n i j hall at → at < length hall → m ≡ get_or hall at m → is_pair i j m ≡ true
    → InHall hall (at + 1) × (at + 1 ≡ number_of hall i j)
number-at_place depth hall ok n i j at m sum place within read h = (
  record { least = omega arith; most = omega arith },
  elim (number-cases (number_of hall i j)) [
    | inl none ↦ absurd (both_ways (is_pair i j m) (subst (λ (k : Member). is_pair i j k ≡ false) (sym read) (number_of-missing hall i j none at m within)) h)
    | inr some ↦ omega (arith, found-place depth hall ok n i j at some.0 sum place some.1, some.1)
  ],
)

-- a pair isn't in the list where another member stands at its place
pub no-number-at_place : (depth : ℕ) (hall : List Member) → IsHall depth hall → (n i j at : ℕ) (m : Member) → n ≡ degree hall i + degree hall j → IsPlace n i j hall at → m ≡ get_or hall at m → is_pair i j m ≡ false → number_of hall i j ≡ 0
no-number-at_place depth hall ok n i j at m sum place read h =
    elim (number-cases (number_of hall i j)) [
      | inl none ↦ none
      | inr some ↦
          let f : IsFound hall i j (suc some.0) = number_of-found hall i j some.0 some.1 in
          let same : some.0 ≡ at = found-place depth hall ok n i j at some.0 sum place some.1 in
          let here : m ≡ Pair f.of_degree i j =
          read ∙ ap (λ (k : ℕ). get_or hall k m) (sym same) ∙ get_or_default hall some.0 m (Pair 0 0 0) (omega (arith, f.inside.most)) ∙ f.is in
          absurd (both_ways (is_pair i j m) h (ap (is_pair i j) here ∙ is_pair-itself f.of_degree i j))
    ]

-- nor where its place is the end of the list
pub no-number-past : (depth : ℕ) (hall : List Member) → IsHall depth hall → (n i j at : ℕ) → n ≡ degree hall i + degree hall j → IsPlace n i j hall at → length hall ≤ at → number_of hall i j ≡ 0
no-number-past depth hall ok n i j at sum place past =
    elim (number-cases (number_of hall i j)) [
      | inl none ↦ none
      | inr some ↦ absurd (omega (arith, found-place depth hall ok n i j at some.0 sum place some.1, (number_of-found hall i j some.0 some.1).inside.most))
    ]

-- the parents of a pair are members
pub no-number-left : (depth : ℕ) (hall : List Member) → IsHall depth hall → (i j : ℕ) → (InHall hall i → ⊥) → number_of hall i j ≡ 0
no-number-left depth hall ok i j outside =
    elim (number-cases (number_of hall i j)) [
      | inl none ↦ none
      | inr some ↦
          let f : IsFound hall i j (suc some.0) = number_of-found hall i j some.0 some.1 in
          absurd (outside (ok.pairs (suc some.0) f.of_degree i j f.inside f.is).left_in)
    ]

-- nor where its right parent is no member
pub no-number-right : (depth : ℕ) (hall : List Member) → IsHall depth hall → (i j : ℕ) → (InHall hall j → ⊥) → number_of hall i j ≡ 0
no-number-right depth hall ok i j outside =
    elim (number-cases (number_of hall i j)) [
      | inl none ↦ none
      | inr some ↦
          let f : IsFound hall i j (suc some.0) = number_of-found hall i j some.0 some.1 in
          absurd (outside (ok.pairs (suc some.0) f.of_degree i j f.inside f.is).right_in)
    ]

-- the degree of a member that is read
pub degree-within : (extent : Extent) (hall : List Member) (h : ℕ) (m : Member) → IsShape extent → hall ≡ hall_list extent.width extent.depth → InHall (hall_list extent.width extent.depth) h → m ≡ get_or hall (h - 1) m
    → (1 ≤ degree_of m) × (degree_of m ≤ extent.depth)
degree-within extent hall h m shape is inside read =
    let ok : IsHall extent.depth (hall_list extent.width extent.depth) = hall_list-IsHall extent.width extent.depth shape.some_depth in
    let here : degree (hall_list extent.width extent.depth) h ≡ degree_of m =
    ap degree_of (member-read (hall_list extent.width extent.depth) h m m inside (ap (λ (ms : List Member). get_or ms (h - 1) m) (sym is) ∙ sym read)) in
    (omega (arith, here, ok.positive h inside), omega (arith, here, ok.topped h inside))
