-- The pairs in their order: which there are, and which come earlier.
use Rattle.std.proofs.Common.{◌≡◌, inl, inr, ℕ, zero, suc, ◌+◌, ◌-◌, ◌<◌, ◌≤◌, refl, sym, ap, ap₂, ◌∙◌, subst, arith, List, [], ◌∷◌, ◌++◌, length, get_or, map, eqb, ltb, cond}
use Rattle.std.specs.Prelude.{All, AllPairs, Bool, true, false, ◌&&◌, filter, flat_map, find, Some, None}
use Rattle.std.proofs.lemmas.Bool.{eqb-true, eq-eqb, ltb-true, lt-ltb, and_parts, cases_eq, cases_order, cond-true, cond-false}
use Rattle.std.proofs.lemmas.List.{append_assoc, append-nil, map-append, get_or_default}
use Rattle.std.proofs.lemmas.List.Elements.{All-nil, All-cons, All-head, All-tail, All-map, All-weaker, filter_passes, filter-append}
use Rattle.std.proofs.lemmas.List.Kept.{AllPairs-cons, AllPairs-filter}
use Rattle.definitions.specs.Words.{up_to}
use Rattle.definitions.specs.Hall.{InHall, degree}
use Rattle.definitions.specs.declared.member.Member.{Member}
use Rattle.hall_set.proofs.Lists.{All-flat_map, All-from_flat_map, All-from_map, All-kept, All-from_kept, All-up_to, up_to-each, AllPairs-nil, AllPairs-map, AllPairs-flat_map, All-crossed, up_to-rises}
use Rattle.hall_set.proofs.GrownLists.{IsHall}
use Rattle.lie_bracket.specs.Tables.{down_from, pairs_at, pairs_in_order, is_heavy, heavy_pair}
use Rattle.lie_bracket.specs.Entries.{IsPair, IsEarlier}

-- ---- the numbers from n down
All-down_from : (P : ℕ → Type 0) (n : ℕ) → ((h : ℕ) → 1 ≤ h → h ≤ n → P h) → All P (down_from n)
All-down_from P zero each = All-nil P
All-down_from P (suc n) each = All-cons P (suc n) (down_from n) (each (suc n) (omega arith) (omega arith)) (All-down_from P n (λ h l m. each h l (omega arith)))

down_from-each : (P : ℕ → Type 0) (n : ℕ) → All P (down_from n) → (h : ℕ) → 1 ≤ h → h ≤ n → P h
down_from-each P zero all h least most = absurd (omega arith)
down_from-each P (suc n) all h least most =
    elim (cases_eq h (suc n)) [
      | inl e ↦ subst P (sym e) (All-head P (suc n) (down_from n) all)
      | inr ne ↦ down_from-each P n (All-tail P (suc n) (down_from n) all) h least (omega arith)
    ]

down_from-falls : (n : ℕ) → AllPairs (λ a b. b < a) (down_from n)
down_from-falls zero = AllPairs-nil (λ (a b : ℕ). b < a)
down_from-falls (suc n) = AllPairs-cons (λ a b. b < a) (suc n) (down_from n) (All-down_from (λ b. b < suc n) n (λ h l m. omega arith)) (down_from-falls n)

-- ---- what the list has
-- a pair whose degrees add up to the sum, with this number on the left
record IsAt (hall : List Member) (sum a : ℕ) (pair : ℕ × ℕ) : Type 0 where
  left : pair.0 ≡ a
  right : InHall hall (pair.1)
  in_order : a < pair.1
  total : degree hall a + degree hall (pair.1) ≡ sum

-- a comes before b, and their degrees add up to the sum
abbrev pub is_fit : List Member → ℕ → ℕ → ℕ → Bool
is_fit hall sum a b = ltb a b && eqb (degree hall a + degree hall b) sum

pairs_at-all : (hall : List Member) (sum a : ℕ) → All (IsAt hall sum a) (pairs_at hall sum a)
pairs_at-all hall sum a =
    All-map (IsAt hall sum a) (λ b. (a, b)) (filter (is_fit hall sum a) (up_to (length hall)))
    (All-kept (λ b. IsAt hall sum a (a, b)) (is_fit hall sum a) (up_to (length hall))
    (All-up_to (λ b. is_fit hall sum a b ≡ true → IsAt hall sum a (a, b)) (length hall)
    (λ b least most fits.
    let both : (ltb a b ≡ true) × (eqb (degree hall a + degree hall b) sum ≡ true) = and_parts (ltb a b) (eqb (degree hall a + degree hall b) sum) fits in
    record { left = refl; right = record { least = least; most = most }; in_order = ltb-true a b both.0; total = eqb-true (degree hall a + degree hall b) sum both.1 })))

-- the same with any number on the left
abbrev IsOfSum : List Member → ℕ → ℕ × ℕ → Type 0
IsOfSum hall sum pair = InHall hall (pair.0) × IsAt hall sum (pair.0) pair

at-of_sum : (hall : List Member) (sum a : ℕ) → InHall hall a → (pair : ℕ × ℕ) → IsAt hall sum a pair → IsOfSum hall sum pair
at-of_sum hall sum a inside pair is =
    (subst (InHall hall) (sym is.left) inside, subst (λ (x : ℕ). IsAt hall sum x pair) (sym is.left) is)

pairs_of_sum-all : (hall : List Member) (sum : ℕ) → All (IsOfSum hall sum) (flat_map (pairs_at hall sum) (down_from (length hall)))
pairs_of_sum-all hall sum =
    All-flat_map (IsOfSum hall sum) (pairs_at hall sum) (down_from (length hall))
    (All-down_from (λ a. All (IsOfSum hall sum) (pairs_at hall sum a)) (length hall)
    (λ a least most. All-weaker (IsAt hall sum a) (IsOfSum hall sum) (at-of_sum hall sum a (record { least = least; most = most })) (pairs_at hall sum a) (pairs_at-all hall sum a)))

-- the pair is one of members whose degrees add up to at most the depth
abbrev pub IsPairAt : ℕ → List Member → ℕ × ℕ → Type 0
IsPairAt depth hall pair = IsPair depth hall (pair.0) (pair.1)

-- each pair of the list is one
pub pairs-valid : (depth : ℕ) (hall : List Member) → All (IsPairAt depth hall) (pairs_in_order depth hall)
pairs-valid depth hall =
    All-flat_map (IsPairAt depth hall) (λ sum. flat_map (pairs_at hall sum) (down_from (length hall))) (up_to depth)
    (All-up_to (λ sum. All (IsPairAt depth hall) (flat_map (pairs_at hall sum) (down_from (length hall)))) depth
    (λ sum least most.
    All-weaker (IsOfSum hall sum) (IsPairAt depth hall) (λ pair is. record { left = is.0; right = is.1.right; in_order = is.1.in_order; deep = omega (arith, is.1.total) })
    (flat_map (pairs_at hall sum) (down_from (length hall))) (pairs_of_sum-all hall sum)))

-- what holds of all in the list holds of each pair
pub pairs-each : (P : ℕ × ℕ → Type 0) (depth : ℕ) (hall : List Member) → IsHall depth hall → All P (pairs_in_order depth hall) → (a b : ℕ) → IsPair depth hall a b → P (a, b)
pairs-each P depth hall ok all a b pair =
    let sum : ℕ = degree hall a + degree hall b in
    let at_sum : All P (flat_map (pairs_at hall sum) (down_from (length hall))) =
    up_to-each (λ s. All P (flat_map (pairs_at hall s) (down_from (length hall)))) depth (All-from_flat_map P (λ s. flat_map (pairs_at hall s) (down_from (length hall))) (up_to depth) all) sum
    (omega (arith, ok.positive a pair.left)) pair.deep in
    let at_a : All P (pairs_at hall sum a) = down_from-each (λ x. All P (pairs_at hall sum x)) (length hall) (All-from_flat_map P (pairs_at hall sum) (down_from (length hall)) at_sum) a pair.left.least pair.left.most in
    up_to-each (λ x. is_fit hall sum a x ≡ true → P (a, x)) (length hall)
    (All-from_kept (λ x. P (a, x)) (is_fit hall sum a) (up_to (length hall)) (All-from_map P (λ x. (a, x)) (filter (is_fit hall sum a) (up_to (length hall))) at_a))
    b pair.right.least pair.right.most (ap₂ ◌&&◌ (lt-ltb a b pair.in_order) (eq-eqb sum sum refl))

-- ---- their order
-- the pair p comes before q
abbrev pub Comes : List Member → ℕ × ℕ → ℕ × ℕ → Type 0
Comes hall p q = IsEarlier hall (p.0) (p.1) (q.0) (q.1)

same-left : (hall : List Member) (sum a : ℕ) (b d : ℕ) → is_fit hall sum a b ≡ true → is_fit hall sum a d ≡ true → b < d → Comes hall (a, b) (a, d)
same-left hall sum a b d fb fd lt =
    let eb : degree hall a + degree hall b ≡ sum = eqb-true (degree hall a + degree hall b) sum (and_parts (ltb a b) (eqb (degree hall a + degree hall b) sum) fb).1 in
    let ed : degree hall a + degree hall d ≡ sum = eqb-true (degree hall a + degree hall d) sum (and_parts (ltb a d) (eqb (degree hall a + degree hall d) sum) fd).1 in
    inr ((omega arith, inr ((refl, lt))))

pairs_at-ordered : (hall : List Member) (sum a : ℕ) → AllPairs (Comes hall) (pairs_at hall sum a)
pairs_at-ordered hall sum a =
    AllPairs-map (Comes hall) (λ b. (a, b)) (filter (is_fit hall sum a) (up_to (length hall)))
    (λ i j d lt len.
    let kept : All (λ b. is_fit hall sum a b ≡ true) (filter (is_fit hall sum a) (up_to (length hall))) = filter_passes (is_fit hall sum a) (up_to (length hall)) in
    same-left hall sum a _ _ (kept i d (omega arith)) (kept j d len) (AllPairs-filter (λ x y. x < y) (is_fit hall sum a) (up_to (length hall)) (up_to-rises (length hall)) i j d lt len))

falling-left : (hall : List Member) (sum a c : ℕ) (p q : ℕ × ℕ) → c < a → IsAt hall sum a p → IsAt hall sum c q → Comes hall p q
falling-left hall sum a c p q lt hp hq =
    let total : degree hall (p.0) + degree hall (p.1) ≡ degree hall (q.0) + degree hall (q.1) =
    ap (λ (x : ℕ). degree hall x + degree hall (p.1)) hp.left ∙ hp.total ∙ sym (ap (λ (x : ℕ). degree hall x + degree hall (q.1)) hq.left ∙ hq.total) in
    inr ((total, inl (omega (arith, hp.left, hq.left))))

pairs_of_sum-ordered : (hall : List Member) (sum : ℕ) → AllPairs (Comes hall) (flat_map (pairs_at hall sum) (down_from (length hall)))
pairs_of_sum-ordered hall sum =
    AllPairs-flat_map (λ a c. c < a) (Comes hall) (pairs_at hall sum) (down_from (length hall)) (λ k d lt. pairs_at-ordered hall sum _)
    (λ a c lt. All-crossed (IsAt hall sum a) (IsAt hall sum c) (Comes hall) (pairs_at hall sum a) (pairs_at hall sum c) (pairs_at-all hall sum a) (pairs_at-all hall sum c) (λ p q hp hq. falling-left hall sum a c p q lt hp hq))
    (down_from-falls (length hall))

-- each pair of the list comes before the later ones
pub pairs-ordered : (depth : ℕ) (hall : List Member) → AllPairs (Comes hall) (pairs_in_order depth hall)
pairs-ordered depth hall =
    AllPairs-flat_map (λ s t. s < t) (Comes hall) (λ sum. flat_map (pairs_at hall sum) (down_from (length hall))) (up_to depth) (λ k d lt. pairs_of_sum-ordered hall _)
    (λ s t lt.
    All-crossed (IsOfSum hall s) (IsOfSum hall t) (Comes hall) (flat_map (pairs_at hall s) (down_from (length hall))) (flat_map (pairs_at hall t) (down_from (length hall))) (pairs_of_sum-all hall s) (pairs_of_sum-all hall t)
    (λ p q hp hq. inl (omega (arith, hp.1.total, hq.1.total))))
    (up_to-rises depth)

-- no two come before one another
pub not-both : (hall : List Member) (a b c d : ℕ) → IsEarlier hall a b c d → IsEarlier hall c d a b → ⊥
not-both hall a b c d (inl p) (inl q) = omega arith
not-both hall a b c d (inl p) (inr (e, q)) = omega arith
not-both hall a b c d (inr (e, p)) (inl q) = omega arith
not-both hall a b c d (inr (e, inl p)) (inr (f, inl q)) = omega arith
not-both hall a b c d (inr (e, inl p)) (inr (f, inr (g, q))) = omega arith
not-both hall a b c d (inr (e, inr (g, p))) (inr (f, inl q)) = omega arith
not-both hall a b c d (inr (e, inr (g, p))) (inr (f, inr (h, q))) = omega arith

-- what holds of the first k pairs holds of each that is earlier than the next one
pub earlier-each : (P : ℕ → ℕ → Type 0) (depth : ℕ) (hall : List Member) → IsHall depth hall → (k : ℕ) (d : ℕ × ℕ) → k < length (pairs_in_order depth hall)
    → ((i : ℕ) → i < k → P ((get_or (pairs_in_order depth hall) i d).0) ((get_or (pairs_in_order depth hall) i d).1))
    → (x y : ℕ) → IsPair depth hall x y → IsEarlier hall x y ((get_or (pairs_in_order depth hall) k d).0) ((get_or (pairs_in_order depth hall) k d).1) → P x y
earlier-each P depth hall ok k d within before x y pair early =
    let pairs : List (ℕ × ℕ) = pairs_in_order depth hall in
    let here : ℕ × ℕ = get_or pairs k d in
    pairs-each (λ q. Comes hall q here → P (q.0) (q.1)) depth hall ok
    (λ i e lt come.
    let q : ℕ × ℕ = get_or pairs i d in
    let is : get_or pairs i e ≡ q = get_or_default pairs i e d lt in
    subst (λ (z : ℕ × ℕ). P (z.0) (z.1)) (sym is)
    (elim (cases_order i k) [
      | inl same ↦
          let come' : Comes hall here here = subst (λ (z : ℕ × ℕ). Comes hall z here) (is ∙ ap (λ (j : ℕ). get_or pairs j d) same) come in
          absurd (not-both hall (here.0) (here.1) (here.0) (here.1) come' come')
      | inr apart ↦ elim apart [
        | inl below ↦ before i below
        | inr above ↦
            absurd
            (not-both hall (here.0) (here.1) (q.0) (q.1) (pairs-ordered depth hall k i d above lt) (subst (λ (z : ℕ × ℕ). Comes hall z here) is come))
      ]
    ]))
    x y pair early

-- ---- the first that is heavy
find-none : {X : Type 0} (p : X → Bool) (xs : List X) → All (λ x. p x ≡ false) xs → find p xs ≡ None
find-none p [] h = refl
find-none p (x ∷ xs) h = cond-false (p x) (Some x) (find p xs) (All-head (λ z. p z ≡ false) x xs h) ∙ find-none p xs (All-tail (λ z. p z ≡ false) x xs h)

-- the first that passes is the one that is found
find-first : {X : Type 0} (p : X → Bool) (xs : List X) (d : X) (k : ℕ) → k < length xs → ((i : ℕ) → i < k → p (get_or xs i d) ≡ false) → p (get_or xs k d) ≡ true → find p xs ≡ Some (get_or xs k d)
find-first p [] d k lt before here = absurd (omega arith)
find-first p (x ∷ xs) d zero lt before here = cond-true (p x) (Some x) (find p xs) here
find-first p (x ∷ xs) d (suc k) lt before here =
    cond-false (p x) (Some x) (find p xs) (before 0 (omega arith)) ∙ find-first p xs d k (omega arith) (λ i l. before (suc i) (omega arith)) here

-- where no pair is heavy, none is found
pub no-heavy_pair : (depth : ℕ) (hall : List Member) → All (λ pair. is_heavy depth hall pair ≡ false) (pairs_in_order depth hall) → heavy_pair depth hall ≡ None
unfolding heavy_pair
no-heavy_pair depth hall light = find-none (is_heavy depth hall) (pairs_in_order depth hall) light

-- the first heavy pair is found
pub first-heavy_pair : (depth : ℕ) (hall : List Member) (d : ℕ × ℕ) (k : ℕ) → k < length (pairs_in_order depth hall) → ((i : ℕ) → i < k → is_heavy depth hall (get_or (pairs_in_order depth hall) i d) ≡ false)
    → is_heavy depth hall (get_or (pairs_in_order depth hall) k d) ≡ true → heavy_pair depth hall ≡ Some (get_or (pairs_in_order depth hall) k d)
unfolding heavy_pair
first-heavy_pair depth hall d k lt before here = find-first (is_heavy depth hall) (pairs_in_order depth hall) d k lt before here

-- ---- the loop down
-- of the numbers that fall to 1, one more is done
pub down-more : (f : ℕ → List (ℕ × ℕ)) (len done : ℕ) (items more whole : List (ℕ × ℕ)) → done < len → items ++ flat_map f (down_from (len - done)) ≡ whole → more ≡ items ++ f (len - done)
    → more ++ flat_map f (down_from (len - (done + 1))) ≡ whole
down-more f len done items more whole lt before next =
    let rest : List (ℕ × ℕ) = flat_map f (down_from (len - (done + 1))) in
    let step : len - done ≡ suc (len - (done + 1)) = omega arith in
    ap (λ (x : List (ℕ × ℕ)). x ++ rest) next
    ∙ append_assoc items (f (len - done)) rest
    ∙ ap (λ (n : ℕ). items ++ (f n ++ rest)) step
    ∙ sym (ap (λ (n : ℕ). items ++ flat_map f (down_from n)) step)
    ∙ before

-- ---- the loop over b
-- the pair of two numbers
abbrev pub paired : ℕ → ℕ → ℕ × ℕ
paired a b = (a, b)

-- the pairs of a with the numbers up to k
abbrev pub pairs_below : List Member → ℕ → ℕ → ℕ → List (ℕ × ℕ)
pairs_below hall sum a k = map (paired a) (filter (is_fit hall sum a) (up_to k))

mapped-cond : (t : Bool) (a b : ℕ) → map (paired a) (cond t (b ∷ []) []) ≡ cond t ((a, b) ∷ []) []
mapped-cond true a b = refl
mapped-cond false a b = refl

pairs_below-next : (hall : List Member) (sum a k : ℕ) (t : Bool) → is_fit hall sum a (k + 1) ≡ t → pairs_below hall sum a (k + 1) ≡ pairs_below hall sum a k ++ cond t ((a, k + 1) ∷ []) []
pairs_below-next hall sum a k t fits =
    let one : k + 1 ≡ suc k = omega arith in
    ap (pairs_below hall sum a) one
    ∙ ap (map (paired a)) (filter-append (is_fit hall sum a) (up_to k) (suc k ∷ []))
    ∙ map-append (paired a) (filter (is_fit hall sum a) (up_to k)) (cond (is_fit hall sum a (suc k)) (suc k ∷ []) [])
    ∙ ap (λ (x : List (ℕ × ℕ)). pairs_below hall sum a k ++ x)
    (mapped-cond (is_fit hall sum a (suc k)) a (suc k)
    ∙ ap₂ (λ (u : Bool) (n : ℕ). cond u ((a, n) ∷ []) []) (ap (is_fit hall sum a) (sym one) ∙ fits) (sym one))

-- the number k + 1 makes a pair with a, which is added
pub pair-kept : (hall : List Member) (sum a k : ℕ) (t : Bool) (start items more : List (ℕ × ℕ)) → t ≡ is_fit hall sum a (k + 1) → t ≡ true → items ≡ start ++ pairs_below hall sum a k → more ≡ items ++ (a, k + 1) ∷ []
    → more ≡ start ++ pairs_below hall sum a (k + 1)
pair-kept hall sum a k t start items more is yes' before next =
    next
    ∙ ap (λ (x : List (ℕ × ℕ)). x ++ (a, k + 1) ∷ []) before
    ∙ append_assoc start (pairs_below hall sum a k) ((a, k + 1) ∷ [])
    ∙ ap (λ (x : List (ℕ × ℕ)). start ++ x) (sym (pairs_below-next hall sum a k true (sym is ∙ yes')))

-- it makes none
pub pair-passed : (hall : List Member) (sum a k : ℕ) (t : Bool) (start items : List (ℕ × ℕ)) → t ≡ is_fit hall sum a (k + 1) → t ≡ false → items ≡ start ++ pairs_below hall sum a k → items ≡ start ++ pairs_below hall sum a (k + 1)
pair-passed hall sum a k t start items is no' before =
    before ∙ ap (λ (x : List (ℕ × ℕ)). start ++ x) (sym (pairs_below-next hall sum a k false (sym is ∙ no') ∙ append-nil (pairs_below hall sum a k)))
