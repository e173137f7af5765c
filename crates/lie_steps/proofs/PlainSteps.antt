-- The step of a move of letters alone is the product of its entries along the letters of the word, and its weight the greatest of them.
use Rattle.std.proofs.Common.{◌≡◌, inl, inr, ℕ, zero, suc, ◌+◌, ◌*◌, ◌-◌, ◌/◌, ◌≤◌, ◌<◌, ◌^◌, refl, sym, ap, ap₂, ◌∙◌, subst, arith, ℤ, pos, ◌+ℤ◌, ◌*ℤ◌, unsigned_abs, List, [], ◌∷◌, ◌++◌, length, get_or, eqb, cond, replicate, length-append}
use Rattle.std.specs.Prelude.{All, Bool, true, false, filter, slice_index_or}
use Rattle.std.proofs.Math.Nat.{mul-zero}
use Rattle.std.proofs.Math.IntN.{*ℤ-zero}
use Rattle.std.proofs.lemmas.Int.{ints}
use Rattle.std.proofs.lemmas.Bool.{cases_eq, cases_lt, eq-eqb, ne_eqb}
use Rattle.std.proofs.lemmas.List.{get_or-append_right, get_or_append_left, get_or-replicate, length-replicate}
use Rattle.std.proofs.lemmas.List.Elements.{All-nil, All-cons, All-head, All-tail, All-map, All-get_or, filter-append}
use Rattle.definitions.specs.Words.{up_to, factorial}
use Rattle.definitions.specs.Sums.{sum_below}
use Rattle.definitions.proofs.Integers.{zero-mul_ℤ, mul-one_ℤ, one-mul_ℤ}
use Rattle.definitions.proofs.SumLaws.{sum_below-next, sum_below-zero}
use Rattle.definitions.specs.Hall.{degree, degree_of, of_degree, pairs_with, pairs_from, pairs_of, is_taken, grown, hall_list, expansion}
use Rattle.definitions.specs.declared.member.Member.{Member}
use Rattle.definitions.specs.declared.member.Member.TheVariants.{Letter, Pair}
use Rattle.hall_set.proofs.Lists.{All-flat_map}
use Rattle.hall_set.proofs.GrownLists.{IsHall, hall_list-IsHall}
use Rattle.shuffle.proofs.ShuffleSums.{cut}
use Rattle.shuffle.proofs.DualLaws.{cut-none}
use Rattle.definitions.specs.Exponentials.{plain_power, exponential}
use Rattle.definitions.specs.Moves.{Parts, first_part, plain, along, part_series, parts_series, lie_series, step, total, sizes_from, sizes_of, IsPlain}
use Rattle.lie_steps.proofs.Quotients.{quotient-rising}
use Rattle.lie_steps.proofs.Primitives.{primitive-empty}
use Rattle.lie_steps.proofs.Exponentials.{power-next}
use Rattle.definitions.proofs.MoveWeights.{plain-IsPlain}
use Rattle.lie_steps.proofs.LieSeries.{OfDegree, Above, of_degree-OfDegree, expansion-of_letter, letters-none, series-within, parts-primitive, parts-shorter}

-- ---- the letters of a Hall list
new-degree : (hall : List Member) (n : ℕ) → All (λ m. degree_of m ≡ n) (pairs_of hall n)
new-degree hall n =
    All-flat_map (λ m. degree_of m ≡ n) (pairs_from hall n) (up_to (n / 2))
    (λ k d lt. All-flat_map (λ m. degree_of m ≡ n) (pairs_with hall n (n - get_or (up_to (n / 2)) k d)) (of_degree hall (get_or (up_to (n / 2)) k d))
    (λ i e le. All-map (λ m. degree_of m ≡ n) (Pair n (get_or (of_degree hall (get_or (up_to (n / 2)) k d)) i e)) (filter (is_taken hall (get_or (of_degree hall (get_or (up_to (n / 2)) k d)) i e)) (of_degree hall (n - get_or (up_to (n / 2)) k d)))
    (λ j b l. refl)))

-- the letters are the first members, and all others have a degree of 2 or more
record HasLetters (width : ℕ) (hall : List Member) : Type 0 where
  long : width ≤ length hall
  letters : (h : ℕ) → 1 ≤ h → h ≤ width → degree hall h ≡ 1
  others : (h : ℕ) → width < h → h ≤ length hall → 2 ≤ degree hall h

degree-before : (hall new : List Member) (h : ℕ) → 1 ≤ h → h ≤ length hall → degree (hall ++ new) h ≡ degree hall h
degree-before hall new zero some le = absurd (omega arith)
degree-before hall new (suc i) some le = ap degree_of (get_or_append_left hall new (Pair 0 0 0) i (omega arith))

degree-after : (hall new : List Member) (n h : ℕ) → All (λ m. degree_of m ≡ n) new → length hall < h → h ≤ length (hall ++ new) → degree (hall ++ new) h ≡ n
degree-after hall new n zero all late le = absurd (omega arith)
degree-after hall new n (suc i) all late le =
    ap degree_of (get_or-append_right hall new (length hall) i (Pair 0 0 0) refl (omega arith))
    ∙ All-get_or (λ m. degree_of m ≡ n) new (i - length hall) (Pair 0 0 0) (omega (arith, length-append hall new)) all

letter-degree : (width h : ℕ) → 1 ≤ h → h ≤ width → degree (replicate width Letter) h ≡ 1
letter-degree width zero some le = absurd (omega arith)
letter-degree width (suc i) some le = ap degree_of (get_or-replicate width i Letter (Pair 0 0 0) (omega arith))

grown-letters : (width n : ℕ) → HasLetters width (grown width n)
grown-letters width zero =
    record {
      long = omega (arith, length-replicate width Letter);
      letters = letter-degree width;
      others = λ h late le. absurd (omega (arith, length-replicate width Letter));
    }
grown-letters width (suc n) =
    let hall : List Member = grown width n in
    let new : List Member = pairs_of hall (suc (suc n)) in
    let before : HasLetters width hall = grown-letters width n in
    let long : width ≤ length hall = before.long in
    record {
      long = omega (arith, length-append hall new);
      letters = λ h some le. degree-before hall new h some (omega arith) ∙ before.letters h some le;
      others = λ h late le.
          elim (cases_lt (length hall) h) [
            | inl after ↦ omega (arith, degree-after hall new (suc (suc n)) h (new-degree hall (suc (suc n))) after le)
            | inr old ↦ omega (arith, degree-before hall new h (omega arith) old, before.others h late old)
          ];
    }

-- the numbers that pass
filter-up_to : (p : ℕ → Bool) (w n : ℕ) → w ≤ n → ((h : ℕ) → 1 ≤ h → h ≤ w → p h ≡ true) → ((h : ℕ) → w < h → h ≤ n → p h ≡ false) → filter p (up_to n) ≡ up_to w
filter-up_to p w zero le yes' no' = (let e : zero ≡ w = omega arith in ap up_to e)
filter-up_to p w (suc n) le yes' no' =
    filter-append p (up_to n) (suc n ∷ [])
    ∙ elim (cases_lt n w) [
      | inl all ↦
          let e : suc n ≡ w = omega arith in
          ap₂ (λ (xs : List ℕ) (b : Bool). xs ++ cond b (suc n ∷ []) [])
          (filter-up_to p n n (omega arith) (λ h some l. yes' h some (omega arith)) (λ h late l. absurd (omega arith)))
          (yes' (suc n) (omega arith) (omega arith))
          ∙ ap up_to e
      | inr some ↦
          ap₂ (λ (xs : List ℕ) (b : Bool). xs ++ cond b (suc n ∷ []) [])
          (filter-up_to p w n some yes' (λ h late l. no' h late (omega arith)))
          (no' (suc n) (omega arith) (omega arith))
          ∙ append-nil (up_to w)
    ]
  where
    append-nil : (xs : List ℕ) → xs ++ [] ≡ xs
    append-nil [] = refl
    append-nil (x ∷ xs) = ap (λ (ys : List ℕ). x ∷ ys) (append-nil xs)

letters-numbers : (width depth : ℕ) → of_degree (hall_list width depth) 1 ≡ up_to width
letters-numbers width depth =
    let hall : List Member = hall_list width depth in
    let has : HasLetters width hall = grown-letters width (depth - 1) in
    filter-up_to (λ h. eqb (degree hall h) 1) width (length hall) has.long
    (λ h some le. eq-eqb (degree hall h) 1 (has.letters h some le))
    (λ h late le. ne_eqb (degree hall h) 1 (λ e. omega (arith, has.others h late le)))

-- k, k + 1, .. : n numbers
abbrev from_ : ℕ → ℕ → List ℕ
from_ k zero = []
from_ k (suc n) = k ∷ from_ (suc k) n

from-last : (k n : ℕ) → from_ k (suc n) ≡ from_ k n ++ ((k + n) ∷ [])
from-last k zero = (let e : k ≡ k + 0 = omega arith in ap (λ (x : ℕ). x ∷ []) e)
from-last k (suc n) = ap (λ (xs : List ℕ). k ∷ xs) (from-last (suc k) n ∙ (let e : suc k + n ≡ k + suc n = omega arith in ap (λ (x : ℕ). from_ (suc k) n ++ (x ∷ [])) e))

up_to-from : (n : ℕ) → up_to n ≡ from_ 1 n
up_to-from zero = refl
up_to-from (suc n) = ap (λ (xs : List ℕ). xs ++ suc n ∷ []) (up_to-from n) ∙ (let e : suc n ≡ 1 + n = omega arith in ap (λ (x : ℕ). from_ 1 n ++ (x ∷ [])) e) ∙ sym (from-last 1 n)

from-above : (a k n : ℕ) → a < k → Above a (from_ k n)
from-above a k zero h = All-nil (λ i. a < i)
from-above a k (suc n) h = All-cons (λ i. a < i) k (from_ (suc k) n) h (from-above a (suc k) n (omega arith))

-- the entry of a letter
letter-entry : (depth : ℕ) (hall : List Member) → IsHall depth hall → (k n : ℕ) (xs : List ℤ) (a : ℕ) → All (OfDegree hall 1) (from_ k n) → length xs ≤ n → k ≤ a
    → part_series hall (from_ k n) xs (a ∷ []) ≡ slice_index_or xs (a - k) (pos 0)
letter-entry depth hall ok k zero [] a all long le = refl
letter-entry depth hall ok k zero (x ∷ xs) a all long le = absurd (omega arith)
letter-entry depth hall ok k (suc n) [] a all long le = refl
letter-entry depth hall ok k (suc n) (x ∷ xs) a all long le =
    let is : expansion hall k (a ∷ []) ≡ cond (eqb k a) (pos 1) (pos 0) = ap (λ (f : List ℕ → ℤ). f (a ∷ [])) (expansion-of_letter depth hall ok k (All-head (OfDegree hall 1) k (from_ (suc k) n) all)) in
    let rest_all : All (OfDegree hall 1) (from_ (suc k) n) = All-tail (OfDegree hall 1) k (from_ (suc k) n) all in
    elim (cases_eq k a) [
      | inl same ↦
          let one : expansion hall k (a ∷ []) ≡ pos 1 = is ∙ ap (λ (b : Bool). cond b (pos 1) (pos 0)) (eq-eqb k a same) in
          let e : 0 ≡ a - k = omega arith in
          ap₂ (λ (y z : ℤ). (x *ℤ y) +ℤ z) one (letters-none depth hall ok (from_ (suc k) n) xs a rest_all (from-above a (suc k) n (omega arith)))
          ∙ (let v : (x *ℤ pos 1) +ℤ pos 0 ≡ x = omega (arith, ints, mul-one_ℤ x) in v)
          ∙ ap (λ (i : ℕ). slice_index_or (x ∷ xs) i (pos 0)) e
      | inr other ↦
          let none : expansion hall k (a ∷ []) ≡ pos 0 = is ∙ ap (λ (b : Bool). cond b (pos 1) (pos 0)) (ne_eqb k a other) in
          let e : suc (a - suc k) ≡ a - k = omega arith in
          ap₂ (λ (y z : ℤ). (x *ℤ y) +ℤ z) none (letter-entry depth hall ok (suc k) n xs a rest_all (omega arith) (omega arith))
          ∙ (let v : (x *ℤ pos 0) +ℤ slice_index_or xs (a - suc k) (pos 0) ≡ slice_index_or xs (a - suc k) (pos 0) = omega (arith, ints, *ℤ-zero x) in v)
          ∙ ap (λ (i : ℕ). slice_index_or (x ∷ xs) i (pos 0)) e
    ]

-- ---- series of letters alone
-- a series with words of one letter alone
pub record IsOfLetters (z : List ℕ → ℤ) : Type 0 where
  -- it is 0 at the empty word
  pub empty : z [] ≡ pos 0
  -- and at each word of two letters or more
  pub longer : (a b : ℕ) (w : List ℕ) → z (a ∷ b ∷ w) ≡ pos 0

-- where each cut but the first adds 0
cut-first : (g : List ℕ → List ℕ → ℤ) (w : List ℕ) → ((x : ℕ) (p q : List ℕ) → g (x ∷ p) q ≡ pos 0) → cut g w ≡ g [] w
cut-first g [] none = refl
cut-first g (x ∷ w) none = ap (λ (y : ℤ). g [] (x ∷ w) +ℤ y) (cut-none (λ p q. g (x ∷ p) q) w (λ p q. none x p q)) ∙ omega (arith, ints)

-- a power of a series of letters takes the first letter off
letters-power : (z : List ℕ → ℤ) → IsOfLetters z → (m a : ℕ) (w : List ℕ) → plain_power z (suc m) (a ∷ w) ≡ z (a ∷ []) *ℤ plain_power z m w
letters-power z ok m a w =
    power-next z m (a ∷ w)
    ∙ ap₂ ◌+ℤ◌ (ap (λ (y : ℤ). y *ℤ plain_power z m (a ∷ w)) ok.empty ∙ zero-mul_ℤ (plain_power z m (a ∷ w)))
    (cut-first (λ p q. z (a ∷ p) *ℤ plain_power z m q) w (λ b p q. ap (λ (y : ℤ). y *ℤ plain_power z m q) (ok.longer a b p) ∙ zero-mul_ℤ (plain_power z m q)))
    ∙ omega (arith, ints)

-- fewer factors than letters
letters-fewer : (z : List ℕ → ℤ) → IsOfLetters z → (m : ℕ) (w : List ℕ) → m < length w → plain_power z m w ≡ pos 0
letters-fewer z ok m [] h = absurd (omega arith)
letters-fewer z ok zero (a ∷ w) h = refl
letters-fewer z ok (suc m) (a ∷ w) h =
    letters-power z ok m a w ∙ ap (λ (y : ℤ). z (a ∷ []) *ℤ y) (letters-fewer z ok m w (omega arith)) ∙ *ℤ-zero (z (a ∷ []))

letters-along : (z : List ℕ → ℤ) (entries : List ℤ) → IsOfLetters z → (w : List ℕ) → All (λ a. z (a ∷ []) ≡ slice_index_or entries (a - 1) (pos 0)) w → plain_power z (length w) w ≡ along entries w
letters-along z entries ok [] all = refl
letters-along z entries ok (a ∷ w) all =
    letters-power z ok (length w) a w
    ∙ ap₂ ◌*ℤ◌ (All-head (λ b. z (b ∷ []) ≡ slice_index_or entries (b - 1) (pos 0)) a w all)
    (letters-along z entries ok w (All-tail (λ b. z (b ∷ []) ≡ slice_index_or entries (b - 1) (pos 0)) a w all))

-- the exponential of such a series is the product of its entries along the letters
pub letters-exponential : (z : List ℕ → ℤ) (entries : List ℤ) → IsOfLetters z → (w : List ℕ) → All (λ a. z (a ∷ []) ≡ slice_index_or entries (a - 1) (pos 0)) w → exponential z w ≡ along entries w
unfolding exponential
letters-exponential z entries ok w all =
    let k : ℕ = length w in
    let f : ℕ → ℤ = λ m. pos (factorial k / factorial m) *ℤ plain_power z m w in
    let none : sum_below k f ≡ pos 0 = sum_below-zero k f (λ m h. ap (λ (y : ℤ). pos (factorial k / factorial m) *ℤ y) (letters-fewer z ok m w h) ∙ *ℤ-zero (pos (factorial k / factorial m))) in
    let one : factorial k / factorial k ≡ 1 = (let e : k ≡ k + 0 = omega arith in ap (λ (n : ℕ). factorial n / factorial k) e) ∙ quotient-rising k 0 in
    let last : f k ≡ along entries w = ap (λ (n : ℕ). pos n *ℤ plain_power z k w) one ∙ one-mul_ℤ (plain_power z k w) ∙ letters-along z entries ok w all in
    sum_below-next k f ∙ omega (arith, ints, none, last)

-- ---- moves of letters alone
sizes-at : (j : ℕ) (parts : Parts) (k : ℕ) → total (slice_index_or parts k []) ≡ 0 → slice_index_or (sizes_from j parts) k 0 ≡ 0
sizes-at j [] k h = refl
sizes-at j (part ∷ parts) zero h = ap (λ (n : ℕ). 2 ^ (j - 1) * n) h ∙ mul-zero (2 ^ (j - 1))
sizes-at j (part ∷ parts) (suc k) h = sizes-at (suc j) parts k h

plain-sizes : (parts : Parts) → IsPlain parts → (k : ℕ) → slice_index_or (sizes_of parts) (suc k) 0 ≡ 0
plain-sizes [] ok k = refl
plain-sizes (part ∷ parts) ok k = sizes-at 2 parts k (ok.others k)

no-size : (x : ℤ) → unsigned_abs x ≤ 0 → x ≡ pos 0
no-size x h = omega (arith, ints)

series-letters : (depth : ℕ) (hall : List Member) → IsHall depth hall → (parts : Parts) → IsPlain parts → IsOfLetters (parts_series hall 1 parts)
series-letters depth hall ok parts is =
    record {
      empty = primitive-empty (parts_series hall 1 parts) (parts-primitive hall 1 parts);
      longer = λ a b w. no-size (parts_series hall 1 parts (a ∷ b ∷ w)) (omega (arith, series-within depth hall ok parts (suc (length w)) (a ∷ b ∷ w) (omega arith), plain-sizes parts is (length w)));
    }

series-entry : (width depth : ℕ) → 1 ≤ depth → (parts : Parts) → length (first_part parts) ≤ width → (a : ℕ) → 1 ≤ a → parts_series (hall_list width depth) 1 parts (a ∷ []) ≡ slice_index_or (first_part parts) (a - 1) (pos 0)
series-entry width depth some [] long a h = refl
series-entry width depth some (part ∷ parts) long a h =
    let hall : List Member = hall_list width depth in
    let ok : IsHall depth hall = hall_list-IsHall width depth some in
    let numbers : of_degree hall 1 ≡ from_ 1 width = letters-numbers width depth ∙ up_to-from width in
    ap₂ ◌+ℤ◌
    (ap (λ (hs : List ℕ). part_series hall hs part (a ∷ [])) numbers
    ∙ letter-entry depth hall ok 1 width part a (subst (λ (hs : List ℕ). All (OfDegree hall 1) hs) numbers (of_degree-OfDegree hall 1)) long h)
    (parts-shorter depth hall ok 2 parts (a ∷ []) (omega arith))
    ∙ omega (arith, ints)

-- the step of a move whose later parts are 0 is the product of its first entries along the letters
pub step-of_plain : (parts : Parts) → 1 ≤ length parts → IsPlain parts → (word : List ℕ) → All (λ a. 1 ≤ a) word → step parts word ≡ along (first_part parts) word
unfolding step lie_series
step-of_plain parts some is word letters =
    let width : ℕ = length (first_part parts) in
    let depth : ℕ = length parts in
    letters-exponential (λ w. parts_series (hall_list width depth) 1 parts w) (first_part parts)
    (series-letters depth (hall_list width depth) (hall_list-IsHall width depth some) parts is) word
    (λ k d lt. series-entry width depth some parts (omega arith) (get_or word k d) (letters k d lt))

-- ---- as moves of one part are written
-- the step of a move of one part is the product of the entries along the letters
pub step-plain : (depth : ℕ) (entries : List ℤ) (word : List ℕ) → All (λ a. 1 ≤ a) word → step (plain depth entries) word ≡ along entries word
step-plain depth entries word letters = step-of_plain (plain depth entries) (omega arith) (plain-IsPlain depth entries) word letters
