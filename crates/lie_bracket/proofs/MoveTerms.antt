-- The terms of a move are a Lie element, which expands to the move's Lie element.
use Rattle.std.proofs.Common.{◌≡◌, ◌≢◌, inl, inr, ℕ, zero, suc, ◌+◌, ◌*◌, ◌≤◌, ◌<◌, ◌^◌, refl, sym, ap, ap₂, ◌∙◌, subst, arith, ℤ, pos, negsuc, ◌+ℤ◌, ◌*ℤ◌, unsigned_abs, List, [], ◌∷◌, ◌++◌, length, cond, eqb, append_assoc}
use Rattle.std.specs.Prelude.{filter, All, AllPairs, Bool, true, false}
use Rattle.std.proofs.Math.IntN.{*ℤ-zero}
use Rattle.std.proofs.lemmas.Int.{ints}
use Rattle.std.proofs.lemmas.Bool.{cases_Bool, cases_eq, eq-eqb, ne_eqb}
use Rattle.std.proofs.lemmas.List.Elements.{filter-append, All-nil, All-cons, All-head, All-tail, All-append, All-weaker}
use Rattle.std.proofs.lemmas.List.Kept.{AllPairs-cons}
use Rattle.definitions.proofs.Integers.{zero-mul_ℤ}
use Rattle.definitions.specs.Words.{up_to}
use Rattle.definitions.specs.Moves.{Parts, total, part_series, parts_series}
use Rattle.definitions.specs.Hall.{InHall, degree, of_degree, expansion}
use Rattle.definitions.specs.declared.member.Member.{Member}
use Rattle.hall_set.proofs.Lists.{AllPairs-nil, AllPairs-append, AllPairs-head, AllPairs-tail}
use Rattle.hall_set.proofs.GrownLists.{IsHall, of_degree-rises}
use Rattle.lie_steps.proofs.LieSeries.{OfDegree, of_degree-OfDegree}
use Rattle.lie_bracket.specs.declared.term.Term.{Term}
use Rattle.lie_bracket.specs.Brackets.{term, expanded}
use Rattle.lie_bracket.specs.Tables.{is_zero}
use Rattle.lie_bracket.specs.Expanding.{level_size}
use Rattle.lie_bracket.specs.Elements.{term_at, number_before, IsGood, IsGoodAt}
use Rattle.lie_bracket.specs.MoveTerms.{part_terms, parts_terms, entry_terms}
use Rattle.lie_bracket.proofs.TermSums.{expanded-append}
use Rattle.lie_bracket.proofs.NonzeroLaws.{is_zero-true}

-- ---- what they expand to
-- one term, or none where its factor is 0, expands to the factor times the member's expansion
pub expanded-one : (e : ℕ → List ℕ → ℤ) (x : ℤ) (h : ℕ) (w : List ℕ) → expanded e (cond (is_zero x) [] (term x h ∷ [])) w ≡ x *ℤ e h w
expanded-one e x h w =
    elim (cases_Bool (is_zero x)) [
      | inl none ↦
          ap (λ (b : Bool). expanded e (cond b [] (term x h ∷ [])) w) none
          ∙ sym (ap (λ (y : ℤ). y *ℤ e h w) (is_zero-true x none) ∙ zero-mul_ℤ (e h w))
      | inr some ↦ ap (λ (b : Bool). expanded e (cond b [] (term x h ∷ [])) w) some ∙ (let v : (x *ℤ e h w) +ℤ pos 0 ≡ x *ℤ e h w = omega (arith, ints) in v)
    ]

part-expanded : (hall : List Member) (hs : List ℕ) (xs : List ℤ) (w : List ℕ) → expanded (expansion hall) (part_terms hs xs) w ≡ part_series hall hs xs w
part-expanded hall [] xs w = refl
part-expanded hall (h ∷ hs) [] w = refl
part-expanded hall (h ∷ hs) (x ∷ xs) w =
    expanded-append (expansion hall) (cond (is_zero x) [] (term x h ∷ [])) (part_terms hs xs) w
    ∙ ap₂ ◌+ℤ◌ (expanded-one (expansion hall) x h w) (part-expanded hall hs xs w)

-- the terms of the parts from degree j on expand to the series of these parts
pub parts-expanded : (hall : List Member) (j : ℕ) (parts : Parts) (w : List ℕ) → expanded (expansion hall) (parts_terms hall j parts) w ≡ parts_series hall j parts w
parts-expanded hall j [] w = refl
parts-expanded hall j (part ∷ parts) w =
    expanded-append (expansion hall) (part_terms (of_degree hall j) part) (parts_terms hall (suc j) parts) w
    ∙ ap₂ ◌+ℤ◌ (part-expanded hall (of_degree hall j) part w) (parts-expanded hall (suc j) parts w)

-- ---- their numbers
part-each : (P : ℕ → Type 0) (hs : List ℕ) (xs : List ℤ) → All P hs → All (λ t. P t.number) (part_terms hs xs)
part-each P [] xs all = All-nil (λ t. P t.number)
part-each P (h ∷ hs) [] all = All-nil (λ t. P t.number)
part-each P (h ∷ hs) (x ∷ xs) all =
    let rest : All (λ t. P t.number) (part_terms hs xs) = part-each P hs xs (All-tail P h hs all) in
    elim (cases_Bool (is_zero x)) [
      | inl none ↦ subst (λ (b : Bool). All (λ t. P t.number) (cond b [] (term x h ∷ []) ++ part_terms hs xs)) (sym none) rest
      | inr some ↦ subst (λ (b : Bool). All (λ t. P t.number) (cond b [] (term x h ∷ []) ++ part_terms hs xs)) (sym some) (All-cons (λ t. P t.number) (term x h) (part_terms hs xs) (All-head P h hs all) rest)
    ]

-- the number rises
abbrev Rise : Term → Term → Type 0
Rise s t = s.number < t.number

part-rises : (hs : List ℕ) (xs : List ℤ) → AllPairs (λ i j. i < j) hs → AllPairs Rise (part_terms hs xs)
part-rises [] xs rising = AllPairs-nil Rise
part-rises (h ∷ hs) [] rising = AllPairs-nil Rise
part-rises (h ∷ hs) (x ∷ xs) rising =
    let rest : AllPairs Rise (part_terms hs xs) = part-rises hs xs (AllPairs-tail (λ i j. i < j) h hs rising) in
    let later : All (λ t. h < t.number) (part_terms hs xs) = part-each (λ i. h < i) hs xs (AllPairs-head (λ i j. i < j) h hs rising) in
    elim (cases_Bool (is_zero x)) [
      | inl none ↦ subst (λ (b : Bool). AllPairs Rise (cond b [] (term x h ∷ []) ++ part_terms hs xs)) (sym none) rest
      | inr some ↦ subst (λ (b : Bool). AllPairs Rise (cond b [] (term x h ∷ []) ++ part_terms hs xs)) (sym some) (AllPairs-cons Rise (term x h) (part_terms hs xs) later rest)
    ]

-- members of this degree at least
abbrev FromDegree : List Member → ℕ → Term → Type 0
FromDegree hall j t = InHall hall t.number × (j ≤ degree hall t.number)

-- their numbers are those of members of degree j at least
pub parts-members : (hall : List Member) (j : ℕ) (parts : Parts) → All (FromDegree hall j) (parts_terms hall j parts)
parts-members hall j [] = All-nil (FromDegree hall j)
parts-members hall j (part ∷ parts) =
    All-append (FromDegree hall j) (part_terms (of_degree hall j) part) (parts_terms hall (suc j) parts)
    (All-weaker (λ t. OfDegree hall j t.number) (FromDegree hall j) (λ t of. (of.0, omega (arith, of.1))) (part_terms (of_degree hall j) part)
    (part-each (OfDegree hall j) (of_degree hall j) part (of_degree-OfDegree hall j)))
    (All-weaker (FromDegree hall (suc j)) (FromDegree hall j) (λ t from. (from.0, omega (arith, from.1))) (parts_terms hall (suc j) parts) (parts-members hall (suc j) parts))

-- their numbers rise
pub parts-rise : (depth : ℕ) (hall : List Member) → IsHall depth hall → (j : ℕ) (parts : Parts) → AllPairs Rise (parts_terms hall j parts)
parts-rise depth hall ok j [] = AllPairs-nil Rise
parts-rise depth hall ok j (part ∷ parts) =
    AllPairs-append Rise (part_terms (of_degree hall j) part) (parts_terms hall (suc j) parts)
    (part-rises (of_degree hall j) part (of_degree-rises hall j)) (parts-rise depth hall ok (suc j) parts)
    (All-weaker (λ t. OfDegree hall j t.number) (λ s. All (Rise s) (parts_terms hall (suc j) parts))
    (λ s of. All-weaker (FromDegree hall (suc j)) (Rise s) (λ t from. ok.ranked s.number t.number of.0 from.0 (omega (arith, of.1, from.1))) (parts_terms hall (suc j) parts) (parts-members hall (suc j) parts))
    (part_terms (of_degree hall j) part) (part-each (OfDegree hall j) (of_degree hall j) part (of_degree-OfDegree hall j)))

-- ---- their factors
is_zero-not : (x : ℤ) → is_zero x ≡ false → x ≢ pos 0
is_zero-not x some e = (let both : true ≡ false = sym (ap is_zero e) ∙ some in cc)

part-factors : (P : ℤ → Type 0) (hs : List ℕ) (xs : List ℤ) → All P xs → All (λ t. P t.factor × (t.factor ≢ pos 0)) (part_terms hs xs)
part-factors P [] xs all = All-nil (λ t. P t.factor × (t.factor ≢ pos 0))
part-factors P (h ∷ hs) [] all = All-nil (λ t. P t.factor × (t.factor ≢ pos 0))
part-factors P (h ∷ hs) (x ∷ xs) all =
    let rest : All (λ t. P t.factor × (t.factor ≢ pos 0)) (part_terms hs xs) = part-factors P hs xs (All-tail P x xs all) in
    elim (cases_Bool (is_zero x)) [
      | inl none ↦ subst (λ (b : Bool). All (λ t. P t.factor × (t.factor ≢ pos 0)) (cond b [] (term x h ∷ []) ++ part_terms hs xs)) (sym none) rest
      | inr some ↦ subst (λ (b : Bool). All (λ t. P t.factor × (t.factor ≢ pos 0)) (cond b [] (term x h ∷ []) ++ part_terms hs xs)) (sym some)
          (All-cons (λ t. P t.factor × (t.factor ≢ pos 0)) (term x h) (part_terms hs xs) (All-head P x xs all, is_zero-not x some) rest)
    ]

-- what holds of all entries holds of all factors, and none is 0
pub parts-factors : (P : ℤ → Type 0) (hall : List Member) (j : ℕ) (parts : Parts) → All (λ part. All P part) parts → All (λ t. P t.factor × (t.factor ≢ pos 0)) (parts_terms hall j parts)
parts-factors P hall j [] all = All-nil (λ t. P t.factor × (t.factor ≢ pos 0))
parts-factors P hall j (part ∷ parts) all =
    All-append (λ t. P t.factor × (t.factor ≢ pos 0)) (part_terms (of_degree hall j) part) (parts_terms hall (suc j) parts)
    (part-factors P (of_degree hall j) part (All-head (λ p. All P p) part parts all))
    (parts-factors P hall (suc j) parts (All-tail (λ p. All P p) part parts all))

-- ---- how large they are
level-append : (hall : List Member) (k : ℕ) (xs ys : List Term) → level_size hall k (xs ++ ys) ≡ level_size hall k xs + level_size hall k ys
level-append hall k [] ys = omega arith
level-append hall k (t ∷ xs) ys = omega (arith, level-append hall k xs ys)

one-level : (hall : List Member) (k h : ℕ) (x : ℤ) → level_size hall k (cond (is_zero x) [] (term x h ∷ [])) ≤ cond (eqb (degree hall h) k) (unsigned_abs x) 0
one-level hall k h x =
    elim (cases_Bool (is_zero x)) [
      | inl none ↦ (let e : level_size hall k (cond (is_zero x) [] (term x h ∷ [])) ≡ 0 = ap (λ (b : Bool). level_size hall k (cond b [] (term x h ∷ []))) none in omega (arith, e))
      | inr some ↦
          (let e : level_size hall k (cond (is_zero x) [] (term x h ∷ [])) ≡ cond (eqb (degree hall h) k) (unsigned_abs x) 0 + 0 = ap (λ (b : Bool). level_size hall k (cond b [] (term x h ∷ []))) some in
          omega (arith, e))
    ]

part-level : (hall : List Member) (k : ℕ) (hs : List ℕ) (xs : List ℤ) → All (OfDegree hall k) hs → level_size hall k (part_terms hs xs) ≤ total xs
part-level hall k [] xs all = omega arith
part-level hall k (h ∷ hs) [] all = omega arith
part-level hall k (h ∷ hs) (x ∷ xs) all =
    let of : OfDegree hall k h = All-head (OfDegree hall k) h hs all in
    let size : cond (eqb (degree hall h) k) (unsigned_abs x) 0 ≡ unsigned_abs x = ap (λ (b : Bool). cond b (unsigned_abs x) 0) (eq-eqb (degree hall h) k of.1) in
    omega (
      arith,
      level-append hall k (cond (is_zero x) [] (term x h ∷ [])) (part_terms hs xs),
      one-level hall k h x,
      size,
      part-level hall k hs xs (All-tail (OfDegree hall k) h hs all),
    )

other-level : (hall : List Member) (k n : ℕ) (hs : List ℕ) (xs : List ℤ) → All (OfDegree hall n) hs → (n ≡ k → ⊥) → level_size hall k (part_terms hs xs) ≡ 0
other-level hall k n [] xs all ne = refl
other-level hall k n (h ∷ hs) [] all ne = refl
other-level hall k n (h ∷ hs) (x ∷ xs) all ne =
    let of : OfDegree hall n h = All-head (OfDegree hall n) h hs all in
    let size : cond (eqb (degree hall h) k) (unsigned_abs x) 0 ≡ 0 = ap (λ (b : Bool). cond b (unsigned_abs x) 0) (ne_eqb (degree hall h) k (λ e. ne (sym of.1 ∙ e))) in
    omega (
      arith,
      level-append hall k (cond (is_zero x) [] (term x h ∷ [])) (part_terms hs xs),
      one-level hall k h x,
      size,
      other-level hall k n hs xs (All-tail (OfDegree hall n) h hs all) ne,
    )

levels-none : (hall : List Member) (k j : ℕ) (parts : Parts) → k < j → level_size hall k (parts_terms hall j parts) ≡ 0
levels-none hall k j [] h = refl
levels-none hall k j (part ∷ parts) h =
    omega (
      arith,
      level-append hall k (part_terms (of_degree hall j) part) (parts_terms hall (suc j) parts),
      other-level hall k j (of_degree hall j) part (of_degree-OfDegree hall j) (λ e. omega arith),
      levels-none hall k (suc j) parts (omega arith),
    )

-- the terms of degree k have a size of at most m, where no part has a greater total
pub parts-level : (hall : List Member) (k j m : ℕ) (parts : Parts) → All (λ part. total part ≤ m) parts → level_size hall k (parts_terms hall j parts) ≤ m
parts-level hall k j m [] all = omega arith
parts-level hall k j m (part ∷ parts) all =
    let split : level_size hall k (part_terms (of_degree hall j) part ++ parts_terms hall (suc j) parts) ≡ level_size hall k (part_terms (of_degree hall j) part) + level_size hall k (parts_terms hall (suc j) parts) =
    level-append hall k (part_terms (of_degree hall j) part) (parts_terms hall (suc j) parts) in
    elim (cases_eq j k) [
      | inl same ↦
          let here : level_size hall k (part_terms (of_degree hall j) part) ≤ total part =
          subst (λ (n : ℕ). level_size hall k (part_terms (of_degree hall n) part) ≤ total part) (sym same) (part-level hall k (of_degree hall k) part (of_degree-OfDegree hall k)) in
          omega (arith, split, here, All-head (λ p. total p ≤ m) part parts all, levels-none hall k (suc j) parts (omega arith))
      | inr other ↦
          omega (arith, split, other-level hall k j (of_degree hall j) part (of_degree-OfDegree hall j) other, parts-level hall k (suc j) m parts (All-tail (λ p. total p ≤ m) part parts all))
    ]

-- each entry is within the total
entry-total : (m : ℕ) (xs : List ℤ) → total xs ≤ m → All (λ x. unsigned_abs x ≤ m) xs
entry-total m [] h = All-nil (λ x. unsigned_abs x ≤ m)
entry-total m (x ∷ xs) h = All-cons (λ x. unsigned_abs x ≤ m) x xs (omega arith) (entry-total m xs (omega arith))

-- ---- they are good terms
-- each term is good at its place
pub move_terms-good : (depth : ℕ) (hall : List Member) → IsHall depth hall → (parts : Parts) → All (λ part. total part ≤ 2 ^ 95) parts → (i : ℕ) → i < length (parts_terms hall 1 parts) → IsGoodAt (length hall) (parts_terms hall 1 parts) i
move_terms-good depth hall ok parts small i h =
    let terms : List Term = parts_terms hall 1 parts in
    let d : Term = term (pos 0) 0 in
    let factors : All (λ t. (unsigned_abs t.factor ≤ 2 ^ 95) × (t.factor ≢ pos 0)) terms =
    parts-factors (λ x. unsigned_abs x ≤ 2 ^ 95) hall 1 parts (All-weaker (λ p. total p ≤ 2 ^ 95) (λ p. All (λ x. unsigned_abs x ≤ 2 ^ 95) p) (λ p l. entry-total (2 ^ 95) p l) parts small) in
    let members : FromDegree hall 1 (term_at terms i) = parts-members hall 1 parts i d h in
    let factor : (unsigned_abs (term_at terms i).factor ≤ 2 ^ 95) × ((term_at terms i).factor ≢ pos 0) = factors i d h in
    record {
      above = before terms (parts-rise depth hall ok 1 parts) i h members.0.least;
      within = members.0.most;
      some = factor.1;
      in_range = omega (arith, factor.0);
    }
  where
    before : (ts : List Term) → AllPairs Rise ts → (n : ℕ) → n < length ts → 1 ≤ (term_at ts n).number → number_before ts n < (term_at ts n).number
    before ts rise zero l some = some
    before ts rise (suc n) l some = rise n (suc n) (term (pos 0) 0) (omega arith) l

-- ---- one member more
append-nil : (ts : List Term) → ts ++ [] ≡ ts
append-nil [] = refl
append-nil (t ∷ ts) = ap (λ (us : List Term). t ∷ us) (append-nil ts)

-- one member more has the term of its entry
pub part-push : (hs : List ℕ) (h : ℕ) (xs : List ℤ) → part_terms (hs ++ h ∷ []) xs ≡ part_terms hs xs ++ entry_terms h xs (length hs)
part-push [] h [] = refl
part-push [] h (x ∷ xs) = append-nil (cond (is_zero x) [] (term x h ∷ []))
part-push (k ∷ hs) h [] = refl
part-push (k ∷ hs) h (x ∷ xs) =
    ap (λ (ts : List Term). cond (is_zero x) [] (term x k ∷ []) ++ ts) (part-push hs h xs)
    ∙ sym (simp append_assoc)

-- the members of degree n among the first so many
abbrev pub first_of_degree : List Member → ℕ → ℕ → List ℕ
first_of_degree hall n at = filter (λ h. eqb (degree hall h) n) (up_to at)

-- if the next member is of degree n, it is added at the end
pub first-more : (hall : List Member) (n at : ℕ) → degree hall (suc at) ≡ n → first_of_degree hall n (suc at) ≡ first_of_degree hall n at ++ suc at ∷ []
first-more hall n at e =
    filter-append (λ h. eqb (degree hall h) n) (up_to at) (suc at ∷ [])
    ∙ ap (λ (b : Bool). first_of_degree hall n at ++ cond b (suc at ∷ []) []) (eq-eqb (degree hall (suc at)) n e)

-- a member of another degree isn't
pub first-same : (hall : List Member) (n at : ℕ) → (degree hall (suc at) ≡ n → ⊥) → first_of_degree hall n (suc at) ≡ first_of_degree hall n at
first-same hall n at ne =
    filter-append (λ h. eqb (degree hall h) n) (up_to at) (suc at ∷ [])
    ∙ ap (λ (b : Bool). first_of_degree hall n at ++ cond b (suc at ∷ []) []) (ne_eqb (degree hall (suc at)) n ne)
    ∙ append-none (first_of_degree hall n at)
  where
    append-none : (xs : List ℕ) → xs ++ [] ≡ xs
    append-none [] = refl
    append-none (x ∷ xs) = ap (λ (ys : List ℕ). x ∷ ys) (append-none xs)
