-- What a list that is grown degree after degree has: the degrees of pairs, which pairs are there, and their order.
use Rattle.std.proofs.Common.{◌≡◌, ◌⊎◌, inl, inr, ℕ, zero, suc, ◌+◌, ◌/◌, ◌-◌, ◌≤◌, ◌<◌, refl, sym, ap, ap₂, ◌∙◌, subst, arith, List, ◌++◌, length, get_or, replicate, length-append}
use Rattle.std.specs.Prelude.{All, AllPairs, Bool, true, false, ◌&&◌, ◌||◌, eqb, ltb, filter}
use Rattle.std.proofs.lemmas.Bool.{eqb-true, eq-eqb, ltb-true, lt-ltb, leb-false, cases_lt, cases_Bool, and_parts, both_ways}
use Rattle.std.proofs.lemmas.List.{get_or_append_left, get_or-append_right, get_or-replicate, length-replicate, get_or_default}
use Rattle.std.proofs.lemmas.List.Elements.{All-weaker, All-get_or, All-replicate, All-map}
use Rattle.std.proofs.lemmas.List.Kept.{AllPairs-cons, AllPairs-filter}
use Rattle.definitions.specs.Words.{up_to}
use Rattle.definitions.specs.Hall.{InHall, member, degree, degree_of, of_degree, follows, is_taken, pairs_with, pairs_from, pairs_of, grown, hall_list, is_pair, number_of}
use Rattle.definitions.specs.Order.{precedes}
use Rattle.definitions.specs.declared.member.Member.{Member}
use Rattle.definitions.specs.declared.member.Member.TheVariants.{Letter, Pair}
use Rattle.hall_set.proofs.Lists.{All-left, All-right, All-flat_map, All-from_flat_map, All-from_map, All-kept, All-from_kept, All-up_to, up_to-each, AllPairs-nil, AllPairs-append, AllPairs-map, AllPairs-flat_map, All-crossed, up_to-rises}
use Rattle.hall_set.proofs.Numbers.{IsMissing, number_of-missing, missing-number_of}

-- ---- the members of one degree
of_degree-all : (P : ℕ → Type 0) (hall : List Member) (n : ℕ) → ((h : ℕ) → InHall hall h → degree hall h ≡ n → P h) → All P (of_degree hall n)
of_degree-all P hall n each =
    All-kept P (λ h. eqb (degree hall h) n) (up_to (length hall))
    (All-up_to (λ h. eqb (degree hall h) n ≡ true → P h) (length hall) (λ h l m e. each h (record { least = l; most = m }) (eqb-true (degree hall h) n e)))

of_degree-each : (P : ℕ → Type 0) (hall : List Member) (n : ℕ) → All P (of_degree hall n) → (h : ℕ) → InHall hall h → degree hall h ≡ n → P h
of_degree-each P hall n all h inside e =
    up_to-each (λ x. eqb (degree hall x) n ≡ true → P x) (length hall) (All-from_kept P (λ x. eqb (degree hall x) n) (up_to (length hall)) all) h inside.least inside.most (eq-eqb (degree hall h) n e)

-- the numbers of the members of one degree rise
pub of_degree-rises : (hall : List Member) (n : ℕ) → AllPairs (λ a b. a < b) (of_degree hall n)
of_degree-rises hall n = AllPairs-filter (λ a b. a < b) (λ h. eqb (degree hall h) n) (up_to (length hall)) (up_to-rises (length hall))

-- ---- the pairs of one degree
-- a pair of degree n that a list grows by, whose left parent has degree e
pub record IsNew (hall : List Member) (n e : ℕ) (m : Member) : Type 0 where
  -- the number of its left parent
  pub left : ℕ
  -- the number of its right parent
  pub right : ℕ
  -- it is the pair of these two
  pub is : m ≡ Pair n left right
  -- the left parent is a member of the list
  pub left_in : InHall hall left
  -- so is the right one
  pub right_in : InHall hall right
  -- the left parent comes before the right one
  pub in_order : left < right
  -- the left parent has degree e
  pub left_degree : degree hall left ≡ e
  -- the degrees of both add up to n
  pub sum : n ≡ degree hall left + degree hall right

pairs_with-new : (hall : List Member) (n e i : ℕ) → e ≤ n → InHall hall i → degree hall i ≡ e → All (IsNew hall n e) (pairs_with hall n (n - e) i)
pairs_with-new hall n e i le hi di =
    All-map (IsNew hall n e) (Pair n i) (filter (is_taken hall i) (of_degree hall (n - e)))
    (All-kept (λ j. IsNew hall n e (Pair n i j)) (is_taken hall i) (of_degree hall (n - e))
    (of_degree-all (λ j. is_taken hall i j ≡ true → IsNew hall n e (Pair n i j)) hall (n - e)
    (λ j hj dj taken.
    let order : i < j = ltb-true i j (and_parts (ltb i j) (follows i (member hall j)) taken).0 in
    record { left = i; right = j; is = refl; left_in = hi; right_in = hj; in_order = order; left_degree = di; sum = omega arith })))

pairs_from-new : (hall : List Member) (n e : ℕ) → e ≤ n → All (IsNew hall n e) (pairs_from hall n e)
pairs_from-new hall n e le =
    All-flat_map (IsNew hall n e) (pairs_with hall n (n - e)) (of_degree hall e)
    (of_degree-all (λ i. All (IsNew hall n e) (pairs_with hall n (n - e) i)) hall e (λ i hi di. pairs_with-new hall n e i le hi di))

-- a pair of earlier members whose degrees add up to n
abbrev pub IsNewPair : List Member → ℕ → Member → Type 0
IsNewPair hall n m = (e : ℕ) × IsNew hall n e m

pairs_of-new : (hall : List Member) (n : ℕ) → All (IsNewPair hall n) (pairs_of hall n)
pairs_of-new hall n =
    All-flat_map (IsNewPair hall n) (pairs_from hall n) (up_to (n / 2))
    (All-up_to (λ e. All (IsNewPair hall n) (pairs_from hall n e)) (n / 2)
    (λ e least most. All-weaker (IsNew hall n e) (IsNewPair hall n) (λ m new. (e, new)) (pairs_from hall n e) (pairs_from-new hall n e (omega arith))))

-- a pair whose left parent comes after a
abbrev pub IsLate : ℕ → Member → Type 0
IsLate a Letter = ⊥
IsLate a (Pair n l r) = a < l

follows-false : (a : ℕ) (m : Member) → follows a m ≡ false → IsLate a m
follows-false a Letter h = cc
follows-false a (Pair n l r) h = leb-false l a h

-- a pair that is not among them isn't to be taken
pairs_of-missing : (hall : List Member) (n a b : ℕ) → InHall hall a → InHall hall b → a < b → 1 ≤ degree hall a → degree hall a ≤ degree hall b → degree hall a + degree hall b ≡ n
    → IsMissing (pairs_of hall n) a b → IsLate a (member hall b)
pairs_of-missing hall n a b ha hb lt da le sum none =
    let P : Member → Type 0 = λ m. is_pair a b m ≡ false in
    let e : ℕ = degree hall a in
    let from_e : All P (pairs_from hall n e) = up_to-each (λ x. All P (pairs_from hall n x)) (n / 2) (All-from_flat_map P (pairs_from hall n) (up_to (n / 2)) none) e da (omega arith) in
    let with_a : All P (pairs_with hall n (n - e) a) =
    of_degree-each (λ i. All P (pairs_with hall n (n - e) i)) hall e (All-from_flat_map P (pairs_with hall n (n - e)) (of_degree hall e) from_e) a ha refl in
    let with_b : is_taken hall a b ≡ true → P (Pair n a b) =
    of_degree-each (λ j. is_taken hall a j ≡ true → P (Pair n a j)) hall (n - e)
    (All-from_kept (λ j. P (Pair n a j)) (is_taken hall a) (of_degree hall (n - e)) (All-from_map P (Pair n a) (filter (is_taken hall a) (of_degree hall (n - e))) with_a))
    b hb (omega arith) in
    elim (cases_Bool (follows a (member hall b))) [
      | inl yes' ↦
          absurd
          (both_ways (is_pair a b (Pair n a b)) (with_b (ap₂ ◌&&◌ (lt-ltb a b lt) yes')) (ap₂ ◌&&◌ (eq-eqb a a refl) (eq-eqb b b refl)))
      | inr no' ↦ follows-false a (member hall b) no'
    ]

-- ---- the order: letters come first, and each pair is preceded by all before it
-- whether m may stand before another member: before a letter only letters, before a pair what precedes it
abbrev pub Comes : Member → Member → Type 0
Comes m Letter = m ≡ Letter
Comes m (Pair n i j) = precedes n i j m ≡ true

-- either of two, where one is true
or_true : (x : Bool) → (x || true) ≡ true
or_true true = refl
or_true false = refl

-- the order of pairs of one degree
before-left : (n i j l r : ℕ) → i < l → Comes (Pair n i j) (Pair n l r)
before-left n i j l r lt = ap₂ (λ (x y : Bool). ltb n n || x && (y || eqb i l && ltb j r)) (eq-eqb n n refl) (lt-ltb i l lt) ∙ or_true (ltb n n)

-- of two pairs with one left parent the one with the smaller right parent comes first
before-right : (n i j r : ℕ) → j < r → Comes (Pair n i j) (Pair n i r)
before-right n i j r lt =
    ap₂ (λ (x y : Bool). ltb n n || x && (ltb i i || y && ltb j r)) (eq-eqb n n refl) (eq-eqb i i refl)
    ∙ ap (λ (x : Bool). ltb n n || (ltb i i || x)) (lt-ltb j r lt)
    ∙ ap (λ (x : Bool). ltb n n || x) (or_true (ltb i i)) ∙ or_true (ltb n n)

-- a member of lower degree comes before a pair
before-degree : (m : Member) (n i j : ℕ) → degree_of m < n → Comes m (Pair n i j)
before-degree Letter n i j lt = refl
before-degree (Pair k l r) n i j lt = ap (λ (x : Bool). x || eqb k n && (ltb l i || eqb l i && ltb r j)) (lt-ltb k n lt)

pairs_with-ordered : (hall : List Member) (n e i : ℕ) → AllPairs Comes (pairs_with hall n e i)
pairs_with-ordered hall n e i =
    AllPairs-map Comes (Pair n i) (filter (is_taken hall i) (of_degree hall e))
    (λ x y d lt len. before-right n i _ _ (AllPairs-filter (λ a b. a < b) (is_taken hall i) (of_degree hall e) (of_degree-rises hall e) x y d lt len))

-- pairs with this member on the left
abbrev HasLeft : ℕ → ℕ → Member → Type 0
HasLeft n i m = (r : ℕ) × (m ≡ Pair n i r)

pairs_with-left : (hall : List Member) (n e i : ℕ) → All (HasLeft n i) (pairs_with hall n e i)
pairs_with-left hall n e i = All-map (HasLeft n i) (Pair n i) (filter (is_taken hall i) (of_degree hall e)) (λ k d lt. (_, refl))

left-ordered : (n i l : ℕ) (m z : Member) → i < l → HasLeft n i m → HasLeft n l z → Comes m z
left-ordered n i l m z lt hm hz = subst (λ (y : Member). Comes m y) (sym hz.1) (subst (λ (x : Member). Comes x (Pair n l hz.0)) (sym hm.1) (before-left n i hm.0 l hz.0 lt))

pairs_from-ordered : (hall : List Member) (n e : ℕ) → AllPairs Comes (pairs_from hall n e)
pairs_from-ordered hall n e =
    AllPairs-flat_map (λ a b. a < b) Comes (pairs_with hall n (n - e)) (of_degree hall e) (λ k d lt. pairs_with-ordered hall n (n - e) _)
    (λ i l lt.
    All-crossed (HasLeft n i) (HasLeft n l) Comes (pairs_with hall n (n - e) i) (pairs_with hall n (n - e) l) (pairs_with-left hall n (n - e) i) (pairs_with-left hall n (n - e) l)
    (λ m z hm hz. left-ordered n i l m z lt hm hz))
    (of_degree-rises hall e)

-- members of higher degrees have higher numbers
abbrev pub IsRanked : List Member → Type 0
IsRanked hall = (a b : ℕ) → InHall hall a → InHall hall b → degree hall a < degree hall b → a < b

new-ordered : (hall : List Member) (n e d : ℕ) (m z : Member) → IsRanked hall → e < d → IsNew hall n e m → IsNew hall n d z → Comes m z
new-ordered hall n e d m z ranked lt hm hz =
    left-ordered n hm.left hz.left m z (ranked hm.left hz.left hm.left_in hz.left_in (omega (arith, hm.left_degree, hz.left_degree))) (hm.right, hm.is) (hz.right, hz.is)

-- the same where there are no more than half the degree
pairs_of-ordered : (hall : List Member) (n : ℕ) → IsRanked hall → AllPairs Comes (pairs_of hall n)
pairs_of-ordered hall n ranked =
    AllPairs-flat_map (λ a b. (a < b) × (b ≤ n)) Comes (pairs_from hall n) (up_to (n / 2)) (λ k d lt. pairs_from-ordered hall n _)
    (λ e d lt.
    All-crossed (IsNew hall n e) (IsNew hall n d) Comes (pairs_from hall n e) (pairs_from hall n d) (pairs_from-new hall n e (omega arith)) (pairs_from-new hall n d lt.1)
    (λ m z hm hz. new-ordered hall n e d m z ranked lt.0 hm hz))
    (λ i j d lt len. (up_to-rises (n / 2) i j d lt len, (let most : get_or (up_to (n / 2)) j d ≤ n / 2 = All-up_to (λ x. x ≤ n / 2) (n / 2) (λ h l m. m) j d len in omega arith)))

-- ---- a list that is grown
-- what holds of the parents l and r of the pair of degree n at h: both are earlier members, in order, and their degrees add up to n
pub record IsPairOf (hall : List Member) (h n l r : ℕ) : Type 0 where
  -- the left parent is a member
  pub left_in : InHall hall l
  -- so is the right one
  pub right_in : InHall hall r
  -- the left parent comes before the right one
  pub in_order : l < r
  -- the right parent comes before the pair
  pub earlier : r < h
  -- the degrees of both add up to n
  pub sum : n ≡ degree hall l + degree hall r

-- what brackets, expansions and searches need of a Hall list whose members have at most this degree
pub record IsHall (depth : ℕ) (hall : List Member) : Type 0 where
  -- each degree is at least 1
  pub positive : (h : ℕ) → InHall hall h → 1 ≤ degree hall h
  -- and at most the depth
  pub topped : (h : ℕ) → InHall hall h → degree hall h ≤ depth
  -- degrees never fall along the list
  pub ranked : IsRanked hall
  -- the parents of a pair are earlier members, and their degrees add up to its own
  pub pairs : (h n l r : ℕ) → InHall hall h → member hall h ≡ Pair n l r → IsPairOf hall h n l r
  -- a pair a < b within the depth that isn't in the list has a right parent whose own left parent is after a
  pub complete : (a b : ℕ) → InHall hall a → InHall hall b → a < b → degree hall a + degree hall b ≤ depth → number_of hall a b ≡ 0 → IsLate a (member hall b)
  -- members stand in the order of letters, degrees, left parents and right parents
  pub ordered : AllPairs Comes hall

-- ---- members by their places
-- what stands at the place h - 1 is the member h, whatever default it is read with
pub member-read : (hall : List Member) (h : ℕ) (d m : Member) → InHall hall h → get_or hall (h - 1) d ≡ m → member hall h ≡ m
member-read hall zero d m inside e = absurd (omega (arith, inside.least))
member-read hall (suc k) d m inside e =
    get_or_default hall k (Pair 0 0 0) d (omega (arith, inside.most)) ∙ (let one : k ≡ suc k - 1 = omega arith in ap (λ (i : ℕ). get_or hall i d) one) ∙ e

-- members keep their numbers when a list grows at its end
pub member-old : (hall new : List Member) (h : ℕ) → InHall hall h → member (hall ++ new) h ≡ member hall h
member-old hall new zero inside = absurd (omega (arith, inside.least))
member-old hall new (suc i) inside = get_or_append_left hall new (Pair 0 0 0) i (omega (arith, inside.most))

member-new : (hall new : List Member) (h : ℕ) → length hall < h → member (hall ++ new) h ≡ get_or new (h - suc (length hall)) (Pair 0 0 0)
member-new hall new zero late = absurd (omega arith)
member-new hall new (suc i) late =
    get_or-append_right hall new (length hall) i (Pair 0 0 0) refl (omega arith)
    ∙ (let e : i - length hall ≡ suc i - suc (length hall) = omega arith in ap (λ (x : ℕ). get_or new x (Pair 0 0 0)) e)

letters-only : (width h : ℕ) → InHall (replicate width Letter) h → member (replicate width Letter) h ≡ Letter
letters-only width zero inside = absurd (omega (arith, inside.least))
letters-only width (suc i) inside = get_or-replicate width i Letter (Pair 0 0 0) (omega (arith, inside.most, length-replicate width Letter))

letters-ordered : (width : ℕ) → AllPairs Comes (replicate width Letter)
letters-ordered zero = AllPairs-nil Comes
letters-ordered (suc width) = AllPairs-cons Comes Letter (replicate width Letter) (All-replicate (Comes Letter) width Letter refl) (letters-ordered width)

letters-IsHall : (width : ℕ) → IsHall 1 (replicate width Letter)
letters-IsHall width =
    let hall : List Member = replicate width Letter in
    let one : (h : ℕ) → InHall hall h → degree hall h ≡ 1 = λ h inside. ap degree_of (letters-only width h inside) in
    record {
      positive = λ h inside. omega (arith, one h inside);
      topped = λ h inside. omega (arith, one h inside);
      ranked = λ a b ha hb lt. absurd (omega (arith, one a ha, one b hb));
      pairs = λ h n l r inside e. absurd (let s : Letter ≡ Pair n l r = sym (letters-only width h inside) ∙ e in cc);
      complete = λ a b ha hb lt sum none. absurd (omega (arith, one a ha, one b hb));
      ordered = letters-ordered width;
    }

-- a member that the list grew by, as a pair of the old list
record IsLater (hall : List Member) (n : ℕ) (all : List Member) (h : ℕ) : Type 0 where
  after : length hall < h
  of_degree : ℕ
  new : IsNew hall n of_degree (member all h)

-- a member of the grown list is old or new
abbrev Side : List Member → ℕ → List Member → ℕ → Type 0
Side hall n all h = InHall hall h ⊎ IsLater hall n all h

side-of : (hall : List Member) (n h : ℕ) → InHall (hall ++ pairs_of hall n) h → Side hall n (hall ++ pairs_of hall n) h
side-of hall n h inside =
    elim (cases_lt (length hall) h) [
      | inl after ↦
          let new : List Member = pairs_of hall n in
          let at : IsNewPair hall n (get_or new (h - suc (length hall)) (Pair 0 0 0)) =
          All-get_or (IsNewPair hall n) new (h - suc (length hall)) (Pair 0 0 0) (omega (arith, inside.most, length-append hall new)) (pairs_of-new hall n) in
          inr (record { after = after; of_degree = at.0; new = subst (IsNew hall n at.0) (sym (member-new hall new h after)) at.1 })
      | inr before ↦ inl (record { least = inside.least; most = before })
    ]

in-longer : (hall new : List Member) (h : ℕ) → InHall hall h → InHall (hall ++ new) h
in-longer hall new h inside = record { least = inside.least; most = omega (arith, inside.most, length-append hall new) }

degree-old : (hall new : List Member) (h : ℕ) → InHall hall h → degree (hall ++ new) h ≡ degree hall h
degree-old hall new h inside = ap degree_of (member-old hall new h inside)

degree-later : (hall all : List Member) (n h : ℕ) → IsLater hall n all h → degree all h ≡ n
degree-later hall all n h later = ap degree_of later.new.is

pair-longer : (hall new : List Member) (h n l r : ℕ) → IsPairOf hall h n l r → IsPairOf (hall ++ new) h n l r
pair-longer hall new h n l r p =
    record {
      left_in = in-longer hall new l p.left_in;
      right_in = in-longer hall new r p.right_in;
      in_order = p.in_order;
      earlier = p.earlier;
      sum = p.sum ∙ sym (ap₂ ◌+◌ (degree-old hall new l p.left_in) (degree-old hall new r p.right_in));
    }

pair-later : (hall new : List Member) (k h n l r : ℕ) → IsLater hall k (hall ++ new) h → member (hall ++ new) h ≡ Pair n l r → IsPairOf (hall ++ new) h n l r
pair-later hall new k h n l r later e =
    let is : member (hall ++ new) h ≡ Pair k later.new.left later.new.right = later.new.is in
    let en : n ≡ k = cc in
    let el : later.new.left ≡ l = cc in
    let er : later.new.right ≡ r = cc in
    let left_in : InHall hall l = subst (InHall hall) el later.new.left_in in
    let right_in : InHall hall r = subst (InHall hall) er later.new.right_in in
    let order : later.new.left < later.new.right = later.new.in_order in
    let after : length hall < h = later.after in
    record {
      left_in = in-longer hall new l left_in;
      right_in = in-longer hall new r right_in;
      in_order = omega arith;
      earlier = omega (arith, right_in.most);
      sum = en ∙ later.new.sum ∙ ap₂ (λ (x y : ℕ). degree hall x + degree hall y) el er ∙ sym (ap₂ ◌+◌ (degree-old hall new l left_in) (degree-old hall new r right_in));
    }

-- new pairs come after all old members
new-after : (hall : List Member) (top : ℕ) (m z : Member) → degree_of m ≤ top → IsNewPair hall (suc top) z → Comes m z
new-after hall top m z le hz = subst (Comes m) (sym hz.1.is) (before-degree m (suc top) hz.1.left hz.1.right (omega arith))

degrees-within : (hall : List Member) (top : ℕ) → ((h : ℕ) → InHall hall h → degree hall h ≤ top) → All (λ m. degree_of m ≤ top) hall
degrees-within hall top topped = λ k d lt. subst (λ (m : Member). degree_of m ≤ top) (get_or_default hall k (Pair 0 0 0) d lt) (topped (suc k) (record { least = omega arith; most = omega arith }))

grown-next : (top : ℕ) (hall : List Member) → IsHall top hall → IsHall (suc top) (hall ++ pairs_of hall (suc top))
grown-next top hall ok =
    let new : List Member = pairs_of hall (suc top) in
    let all : List Member = hall ++ new in
    let side : (h : ℕ) → InHall all h → Side hall (suc top) all h = λ h inside. side-of hall (suc top) h inside in
    let old : (h : ℕ) → InHall hall h → degree all h ≡ degree hall h = λ h inside. degree-old hall new h inside in
    let later : (h : ℕ) → IsLater hall (suc top) all h → degree all h ≡ suc top = λ h l. degree-later hall all (suc top) h l in
    let positive : (h : ℕ) → InHall all h → 1 ≤ degree all h =
    λ h inside. elim (side h inside) [ inl i ↦ omega (arith, old h i, ok.positive h i) | inr l ↦ omega (arith, later h l) ] in
    record {
      positive = positive;
      topped = λ h inside. elim (side h inside) [ inl i ↦ omega (arith, old h i, ok.topped h i) | inr l ↦ omega (arith, later h l) ];
      ranked = λ a b ha hb lt.
          elim (side a ha) [
            | inl ia ↦ elim (side b hb) [ inl ib ↦ ok.ranked a b ia ib (omega (arith, old a ia, old b ib)) | inr lb ↦ omega (arith, ia.most, lb.after) ]
            | inr la ↦ elim (side b hb) [
              | inl ib ↦ absurd (omega (arith, later a la, old b ib, ok.topped b ib))
              | inr lb ↦ absurd (omega (arith, later a la, later b lb))
            ]
          ];
      pairs = λ h n l r inside e.
          elim (side h inside) [
            | inl i ↦ pair-longer hall new h n l r (ok.pairs h n l r i (sym (member-old hall new h i) ∙ e))
            | inr late ↦ pair-later hall new (suc top) h n l r late e
          ];
      complete = λ a b ha hb lt sum none.
          elim (side a ha) [
            | inr la ↦ absurd (omega (arith, later a la, positive b hb))
            | inl ia ↦ elim (side b hb) [
              | inr lb ↦ absurd (omega (arith, later b lb, positive a ha))
              | inl ib ↦
                  let missing : IsMissing all a b = number_of-missing all a b none in
                  subst (IsLate a) (sym (member-old hall new b ib))
                  (elim (cases_lt top (degree hall a + degree hall b)) [
                    | inl more ↦
                        let le : degree hall a ≤ degree hall b =
                        elim (cases_lt (degree hall b) (degree hall a)) [ inl less ↦ absurd (omega (arith, ok.ranked b a ib ia less)) | inr le ↦ le ] in
                        pairs_of-missing hall (suc top) a b ia ib lt (ok.positive a ia) le (omega (arith, old a ia, old b ib)) (All-right (λ m. is_pair a b m ≡ false) hall new missing)
                    | inr less ↦ ok.complete a b ia ib lt less (missing-number_of hall a b (All-left (λ m. is_pair a b m ≡ false) hall new missing))
                  ])
            ]
          ];
      ordered =
          AllPairs-append Comes hall new ok.ordered (pairs_of-ordered hall (suc top) ok.ranked)
          (All-crossed (λ m. degree_of m ≤ top) (IsNewPair hall (suc top)) Comes hall new (degrees-within hall top ok.topped) (pairs_of-new hall (suc top)) (λ m z hm hz. new-after hall top m z hm hz));
    }

grown-IsHall : (width n : ℕ) → IsHall (suc n) (grown width n)
grown-IsHall width zero = letters-IsHall width
grown-IsHall width (suc n) = grown-next (suc n) (grown width n) (grown-IsHall width n)

-- each Hall list has these properties
pub hall_list-IsHall : (width depth : ℕ) → 1 ≤ depth → IsHall depth (hall_list width depth)
hall_list-IsHall width depth some = let e : suc (depth - 1) ≡ depth = omega arith in subst (λ (n : ℕ). IsHall n (hall_list width depth)) e (grown-IsHall width (depth - 1))
