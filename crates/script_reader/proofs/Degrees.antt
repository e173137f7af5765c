-- How many coordinates there are up to each degree, and the parts that entries are cut into.
use Rattle.std.proofs.Common.{◌≡◌, inl, inr, ℕ, zero, suc, ◌+◌, ◌-◌, ◌^◌, ◌<◌, ◌≤◌, Bool, true, false, refl, sym, ap, ap₂, ◌∙◌, add-one, arith, List, [], ◌∷◌, ◌++◌, length, length-append, length-drop, length-take, map, take, drop, get_or, replicate, cond, Option, Some, None, ℤ, All}
use Rattle.std.specs.Prelude.{◌==◌, nat_le, filter, flat_map, option_map, is_some, unwrap_or, IfSome, MatchOption}
use Rattle.std.specs.List.{position}
use Rattle.std.proofs.lemmas.Bool.{cases_Bool, cases_lt, eqb-true, leb-true, le-leb, lt-leb}
use Rattle.std.proofs.lemmas.List.{get_or_append_left, get_or-append_right, get_or-take, length-take-le, map_push}
use Rattle.std.proofs.lemmas.List.Sums.{length-filter, count_by-le-length}
use Rattle.std.proofs.lemmas.List.Quantifiers.{position-Some}
use Rattle.std.proofs.lemmas.List.Elements.{All-nil, All-cons, All-weaker, filter-append}
use Rattle.definitions.specs.Words.{Extent, IsShape, up_to}
use Rattle.definitions.specs.Hall.{degree_of, pairs_with, pairs_from, pairs_of, grown, hall_list}
use Rattle.definitions.specs.Moves.{Parts, AreParts, first_part, padded}
use Rattle.definitions.specs.declared.member.Member.{Member}
use Rattle.definitions.specs.declared.member.Member.TheVariants.{Letter, Pair}
use Rattle.hall_set.proofs.Sizes.{hall_list-short}
use Rattle.script_reader.specs.Coordinates.{members_to, degree_counts, degree_with, is_count, cut_from, parts_to, lie_move, AreEnds}

-- ---- members up to a degree
-- a test that follows from another passes at least as many
filter-weaker : {X : Type 0} (p q : X → Bool) → ((x : X) → p x ≡ true → q x ≡ true) → (xs : List X) → length (filter p xs) ≤ length (filter q xs)
filter-weaker p q h [] = omega arith
filter-weaker p q h (x ∷ xs) =
    let rest = filter-weaker p q h xs in
    elim (cases_Bool (p x)) [
      | inl passes ↦ rw (passes, h x passes) (omega arith)
      | inr fails ↦
          elim (cases_Bool (q x)) [
            | inl more ↦ rw (fails, more) (omega arith)
            | inr less ↦ rw (fails, less) rest
          ]
    ]

-- a higher degree has no fewer
pub members_to-rises : (extent : Extent) (a b : ℕ) → a ≤ b → members_to extent a ≤ members_to extent b
unfolding members_to
members_to-rises extent a b le =
    filter-weaker (λ m. nat_le (degree_of m) a) (λ m. nat_le (degree_of m) b) (λ m h. le-leb (degree_of m) b (omega (arith, leb-true (degree_of m) a h))) (hall_list extent.width extent.depth)

-- no more than there are members
members_to-few : (extent : Extent) → IsShape extent → (q : ℕ) → members_to extent q ≤ 1024
unfolding members_to
members_to-few extent shape q =
    let hall : List Member = hall_list extent.width extent.depth in
    omega (arith, length-filter (λ m. nat_le (degree_of m) q) hall, count_by-le-length (λ m. nat_le (degree_of m) q) hall, hall_list-short extent shape)

-- whether a member is a letter
abbrev is_first : Member → Bool
is_first m = nat_le (degree_of m) 1

-- pairs of degree n + 2 are none of degree 1
pairs-none : (n i : ℕ) (js : List ℕ) → filter is_first (map (Pair (suc (suc n)) i) js) ≡ []
pairs-none n i [] = refl
pairs-none n i (j ∷ js) =
    ap (λ t. cond t (Pair (suc (suc n)) i j ∷ filter is_first (map (Pair (suc (suc n)) i) js)) (filter is_first (map (Pair (suc (suc n)) i) js))) (lt-leb (suc (suc n)) 1 (omega arith)) ∙ pairs-none n i js

-- lists without a letter, joined
joined-none : {X : Type 0} (f : X → List Member) → ((x : X) → filter is_first (f x) ≡ []) → (xs : List X) → filter is_first (flat_map f xs) ≡ []
joined-none f h [] = refl
joined-none f h (x ∷ xs) = filter-append is_first (f x) (flat_map f xs) ∙ ap (λ ms. ms ++ filter is_first (flat_map f xs)) (h x) ∙ joined-none f h xs

letters-all : (width : ℕ) → length (filter is_first (replicate width Letter)) ≡ width
letters-all zero = refl
letters-all (suc width) = ap suc (letters-all width)

-- those of degree 1 are the letters
grown-letters : (width n : ℕ) → length (filter is_first (grown width n)) ≡ width
grown-letters width zero = letters-all width
grown-letters width (suc n) =
    let hall : List Member = grown width n in
    let none : filter is_first (pairs_of hall (suc (suc n))) ≡ [] =
    joined-none (pairs_from hall (suc (suc n))) (λ e. joined-none (pairs_with hall (suc (suc n)) (suc (suc n) - e)) (λ i. pairs-none n i _) _) _ in
    ap length (filter-append is_first hall (pairs_of hall (suc (suc n))))
    ∙ length-append (filter is_first hall) (filter is_first (pairs_of hall (suc (suc n))))
    ∙ omega (arith, ap length none, grown-letters width n)

members_to-letters : (extent : Extent) → members_to extent 1 ≡ extent.width
unfolding members_to
members_to-letters extent = grown-letters extent.width (extent.depth - 1)

-- ---- the counts
-- as many values as degrees
valued-length : (f : ℕ → ℕ) (n : ℕ) → length (map f (up_to n)) ≡ n
valued-length f zero = refl
valued-length f (suc n) = ap length (map_push f (up_to n) (suc n)) ∙ length-append (map f (up_to n)) (f (suc n) ∷ []) ∙ omega (arith, valued-length f n)

-- the value of the degree i + 1
valued-at : (f : ℕ → ℕ) (n i : ℕ) → i < n → get_or (map f (up_to n)) i 0 ≡ f (suc i)
valued-at f zero i h = absurd (omega arith)
valued-at f (suc n) i h =
    ap (λ xs. get_or xs i 0) (map_push f (up_to n) (suc n))
    ∙ elim (cases_lt i n) [
      | inl before ↦ get_or_append_left (map f (up_to n)) (f (suc n) ∷ []) 0 i (omega (arith, valued-length f n)) ∙ valued-at f n i before
      | inr last ↦
          let here : i - n ≡ 0 = omega (arith, last, h) in
          let same : suc n ≡ suc i = omega (arith, last, h) in
          get_or-append_right (map f (up_to n)) (f (suc n) ∷ []) n i 0 (valued-length f n) last ∙ ap (λ k. get_or (f (suc n) ∷ []) k 0) here ∙ ap f same
    ]

-- the counts up to one degree more
pub counts-next : (extent : Extent) (n : ℕ) (hall : List Member) (before after : List ℕ) (count : ℕ) → before ≡ map (members_to extent) (up_to n) → hall ≡ hall_list extent.width extent.depth
    → count ≡ length (filter (λ m. nat_le (degree_of m) (n + 1)) hall) → after ≡ before ++ count ∷ [] → after ≡ map (members_to extent) (up_to (n + 1))
unfolding members_to
counts-next extent n hall before after count e is counted pushed =
    let value : count ≡ members_to extent (suc n) = counted ∙ ap (λ ms. length (filter (λ m. nat_le (degree_of m) (n + 1)) ms)) is ∙ ap (members_to extent) (add-one n) in
    pushed ∙ ap₂ (λ xs x. xs ++ x ∷ []) e value ∙ sym (map_push (members_to extent) (up_to n) (suc n)) ∙ ap (λ k. map (members_to extent) (up_to k)) (sym (add-one n))

-- the counts up to the depth
pub counts-all : (extent : Extent) (n : ℕ) (counts : List ℕ) → counts ≡ map (members_to extent) (up_to n) → n ≡ extent.depth → counts ≡ degree_counts extent
unfolding degree_counts
counts-all extent n counts e is = e ∙ ap (λ k. map (members_to extent) (up_to k)) is

-- there is a count for each degree up to the depth
pub degree_counts-length : (extent : Extent) → length (degree_counts extent) ≡ extent.depth
unfolding degree_counts
degree_counts-length extent = valued-length (members_to extent) extent.depth

degree_counts-at : (extent : Extent) (i : ℕ) → i < extent.depth → get_or (degree_counts extent) i 0 ≡ members_to extent (suc i)
unfolding degree_counts
degree_counts-at extent i h = valued-at (members_to extent) extent.depth i h

-- a degree up to which there are n members
pub record IsDegree (extent : Extent) (n q : ℕ) : Type 0 where
  -- it is at least 1
  pub some : 1 ≤ q
  -- it is at most the depth
  pub within : q ≤ extent.depth
  -- n members have at most this degree
  pub count : members_to extent q ≡ n

-- a number that comes after another
after-Some : (place : Option ℕ) (q : ℕ) → option_map suc place ≡ Some q → (k : ℕ) × ((place ≡ Some k) × (q ≡ suc k))
after-Some None q e = cc
after-Some (Some k) q e = (k, (refl, cc))

-- the degree that is found for n coordinates is one up to which there are n members
pub degree_with-Some : (extent : Extent) (n q : ℕ) → degree_with extent n ≡ Some q → IsDegree extent n q
unfolding degree_with
degree_with-Some extent n q e =
    let at = after-Some (position (λ count. count == n) (degree_counts extent)) q e in
    let k : ℕ = at.0 in
    let found = position-Some (λ count. count == n) (degree_counts extent) k 0 at.1.0 in
    let within : k < extent.depth = omega (arith, found.0, degree_counts-length extent) in
    let after : q ≡ suc k = at.1.1 in
    record {
      some = omega (arith, after);
      within = omega (arith, after, within);
      count = ap (members_to extent) after ∙ sym (degree_counts-at extent k within) ∙ eqb-true (get_or (degree_counts extent) k 0) n found.1;
    }

-- a shape has a coordinate for each letter, and so at least one
pub degree-some : (extent : Extent) (n q : ℕ) → IsShape extent → IsDegree extent n q → extent.width ≤ n
degree-some extent n q shape d = omega (arith, members_to-letters extent, members_to-rises extent 1 q d.some, d.count)

-- ---- places
-- places that rise
ends-from : (places : List ℕ) (from n : ℕ) → ((i : ℕ) → i < length places → (from ≤ get_or places i 0) × (get_or places i 0 ≤ n))
    → ((i j : ℕ) → i < j → j < length places → get_or places i 0 ≤ get_or places j 0) → AreEnds from places n
ends-from [] from n each rise = tt
ends-from (place ∷ places) from n each rise =
    let first = each 0 (omega arith) in (
      first.0,
      first.1,
      ends-from places place n (λ i h. (rise 0 (suc i) (omega arith) (omega arith), (each (suc i) (omega arith)).1)) (λ i j lt h. rise (suc i) (suc j) (omega arith) (omega arith)),
    )

-- the first counts
counts-taken : (extent : Extent) (n q i : ℕ) → IsDegree extent n q → i < q → get_or (take q (degree_counts extent)) i 0 ≡ members_to extent (suc i)
counts-taken extent n q i d h = get_or-take q (degree_counts extent) i 0 h ∙ degree_counts-at extent i (omega (arith, h, d.within))

taken-length : (extent : Extent) (n q : ℕ) → IsDegree extent n q → length (take q (degree_counts extent)) ≡ q
taken-length extent n q d = length-take-le q (degree_counts extent) (omega (arith, degree_counts-length extent, d.within))

-- the parts up to a degree end at the counts
pub degree-ends : (extent : Extent) (n q : ℕ) → IsDegree extent n q → AreEnds 0 (take q (degree_counts extent)) n
degree-ends extent n q d =
    let long = taken-length extent n q d in
    ends-from (take q (degree_counts extent)) 0 n
    (λ i h.
    let here = counts-taken extent n q i d (omega (arith, h, long)) in
    (omega arith, omega (arith, here, members_to-rises extent (suc i) q (omega (arith, h, long)), d.count)))
    (λ i j lt h.
    omega (arith, counts-taken extent n q i d (omega (arith, lt, h, long)), counts-taken extent n q j d (omega (arith, h, long)), members_to-rises extent (suc i) (suc j) (omega (arith, lt))))

-- ---- parts
cut_from-length : (from : ℕ) (places : List ℕ) (entries : List ℤ) → length (cut_from from places entries) ≡ length places
cut_from-length from [] entries = refl
cut_from-length from (place ∷ places) entries = ap suc (cut_from-length place places (drop (place - from) entries))

-- no part is longer than the whole
cut_from-short : (from : ℕ) (places : List ℕ) (entries : List ℤ) (n : ℕ) → length entries ≤ n → All (λ part. length part ≤ n) (cut_from from places entries)
cut_from-short from [] entries n h = All-nil (λ part. length part ≤ n)
cut_from-short from (place ∷ places) entries n h =
    All-cons (λ part. length part ≤ n) (take (place - from) entries) (cut_from place places (drop (place - from) entries))
    (omega (arith, length-take (place - from) entries, h))
    (cut_from-short place places (drop (place - from) entries) n (omega (arith, length-drop (place - from) entries, h)))

cut_from-first : (places : List ℕ) (entries : List ℤ) → 1 ≤ length places → first_part (cut_from 0 places entries) ≡ take (get_or places 0 0) entries
cut_from-first [] entries h = absurd (omega arith)
cut_from-first (place ∷ places) entries h =
    let whole : place - 0 ≡ place = omega arith in
    ap (λ k. take k entries) whole

-- the parts up to a degree make a move
pub parts-make : (extent : Extent) (q : ℕ) (entries : List ℤ) → IsShape extent → IsDegree extent (length entries) q → AreParts extent (parts_to extent q entries)
parts-make extent q entries shape d =
    let places : List ℕ = take q (degree_counts extent) in
    let n : ℕ = length entries in
    let long : length places ≡ q = taken-length extent n q d in
    let parts : Parts = parts_to extent q entries in
    let many : length parts ≡ q = cut_from-length 0 places entries ∙ long in
    let first : get_or places 0 0 ≡ extent.width = counts-taken extent n q 0 d (omega (arith, d.some)) ∙ members_to-letters extent in
    let room : extent.width ≤ n = degree-some extent n q shape d in
    let few : n ≤ 1024 = omega (arith, members_to-few extent shape q, d.count) in
    record {
      some = omega (arith, many, d.some);
      few = omega (arith, many, d.within);
      letters = ap length (cut_from-first places entries (omega (arith, long, d.some)) ∙ ap (λ k. take k entries) first) ∙ length-take-le extent.width entries room;
      short = All-weaker (λ part. length part ≤ n) (λ part. length part < 2 ^ 32) (λ part h. omega (arith, h, few)) parts (cut_from-short 0 places entries n (omega arith));
    }

-- where a degree is found there is a coordinate
pub found-some : (extent : Extent) (counts : List ℕ) (n k : ℕ) → IsShape extent → counts ≡ degree_counts extent → position (λ count. count == n) counts ≡ Some k → 1 ≤ n
unfolding degree_with
found-some extent counts n k shape is e =
    let due : degree_with extent n ≡ Some (suc k) = ap (λ cs. option_map suc (position (λ count. count == n) cs)) (sym is) ∙ ap (option_map suc) e in
    omega (arith, shape.some_width, degree-some extent n (suc k) shape (degree_with-Some extent n (suc k) due))

-- the move that the parts up to the least degree make
pub lie_move-of : (extent : Extent) (counts : List ℕ) (entries : List ℤ) (q : ℕ) (parts x : Parts) → counts ≡ degree_counts extent → degree_with extent (length entries) ≡ Some q → parts ≡ cut_from 0 (take q counts) entries
    → x ≡ padded extent.depth parts → x ≡ lie_move extent entries
unfolding lie_move
lie_move-of extent counts entries q parts x is due cut padding =
    padding
    ∙ ap (padded extent.depth) (cut ∙ ap (λ cs. cut_from 0 (take q cs) entries) is ∙ ap (λ o. parts_to extent (unwrap_or o 0) entries) (sym due))

-- a degree for words from a place on, where there are so many
pub degree_at : (extent : Extent) (place words n : ℕ) (degree : Option ℕ) → n ≡ words - place → degree ≡ degree_with extent n → IfSome degree (λ _. 1 ≤ n)
    → MatchOption degree (is_count extent (words - place) ≡ false) (λ q. (is_count extent (words - place) ≡ true) × (degree_with extent (words - place) ≡ Some q) × (place < words))
degree_at extent place words n None same is some = ap (λ k. is_some (degree_with extent k)) (sym same) ∙ ap is_some (sym is)
degree_at extent place words n (Some q) same is some =
    let here : degree_with extent (words - place) ≡ Some q = ap (degree_with extent) (sym same) ∙ sym is in
    (ap is_some here, here, omega (arith, some, same))
