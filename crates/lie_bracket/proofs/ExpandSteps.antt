-- Sums of expansions term by term: their bound, and the cut of a word where the degrees of a pair's parents meet.
use Rattle.std.proofs.Common.{lit≤, ◌≡◌, inl, inr, ℕ, zero, suc, ◌+◌, ◌*◌, ◌/◌, ◌-◌, ◌≤◌, ◌<◌, ◌^◌, min, refl, sym, ap, ap₂, ◌∙◌, arith, ℤ, pos, ◌+ℤ◌, ◌-ℤ◌, ◌*ℤ◌, unsigned_abs, List, [], ◌∷◌, length, get_or, take, drop, cond, eqb}
use Rattle.std.specs.Prelude.{All, Bool, true, leb}
use Rattle.std.proofs.Math.Nat.{mul-le-mul_left, mul-le-mul_right, mul-le-mul, le_trans, pow-suc, le-div_iff_mul-le}
use Rattle.std.proofs.Math.Pow.{pow_mono}
use Rattle.std.proofs.lemmas.Nat.{pow-add, pow_pos, shr_le}
use Rattle.std.proofs.Math.IntN.{*ℤ-zero}
use Rattle.std.proofs.lemmas.Int.{ints, unsigned_abs-mul}
use Rattle.std.proofs.lemmas.Bool.{cases_eq, eq-eqb, ne_eqb, leb-true, le-leb}
use Rattle.std.proofs.lemmas.List.Elements.{All-head, All-tail, All-get_or, All-take}
use Rattle.definitions.proofs.Integers.{abs-add}
use Rattle.definitions.specs.Signature.{limit}
use Rattle.definitions.specs.Commutators.{letter}
use Rattle.definitions.specs.Hall.{InHall, IsHallList, member, degree, degree_of, expansion}
use Rattle.definitions.specs.declared.member.Member.{Member}
use Rattle.definitions.specs.declared.member.Member.TheVariants.{Letter, Pair}
use Rattle.hall_set.proofs.GrownLists.{IsHall, IsPairOf, member-read}
use Rattle.hall_set.proofs.Searches.{list-IsHall, list-degree}
use Rattle.hall_set.proofs.Folds.{expansion-letter}
use Rattle.lie_bracket.specs.declared.term.Term.{Term}
use Rattle.lie_bracket.specs.Brackets.{expanded}
use Rattle.lie_bracket.specs.Elements.{term_at}
use Rattle.lie_bracket.specs.Expanding.{level_size, FitsLevel}
use Rattle.lie_steps.proofs.Expansions.{IsPart, expansion-IsPart}
use Rattle.lie_bracket.proofs.Expansions.{commutator-at, expansion-Expansions}

-- the bound on an expanded sum
pub abs-expanded : (depth : ℕ) (hall : List Member) → IsHall depth hall → (ts : List Term) → All (λ t. InHall hall t.number) ts → (w : List ℕ)
    → unsigned_abs (expanded (expansion hall) ts w) ≤ level_size hall (length w) ts * 2 ^ (length w - 1)
abs-expanded depth hall ok [] all w = omega arith
abs-expanded depth hall ok (t ∷ ts) all w =
    let e : ℕ → List ℕ → ℤ = expansion hall in
    let k : ℕ = length w in
    let p : IsPart (degree hall t.number) (2 ^ (degree hall t.number - 1)) (e t.number) = expansion-IsPart depth hall ok t.number (All-head (λ x. InHall hall x.number) t ts all) in
    let rest : unsigned_abs (expanded e ts w) ≤ level_size hall k ts * 2 ^ (k - 1) = abs-expanded depth hall ok ts (All-tail (λ x. InHall hall x.number) t ts all) w in
    let both : unsigned_abs ((t.factor *ℤ e t.number w) +ℤ expanded e ts w) ≤ unsigned_abs (t.factor *ℤ e t.number w) + unsigned_abs (expanded e ts w) = abs-add (t.factor *ℤ e t.number w) (expanded e ts w) in
    elim (cases_eq (degree hall t.number) k) [
      | inl same ↦
          let here : unsigned_abs t.factor * unsigned_abs (e t.number w) ≤ unsigned_abs t.factor * 2 ^ (k - 1) =
          mul-le-mul_left (unsigned_abs t.factor) (omega (arith, p.within w, ap (λ (n : ℕ). 2 ^ (n - 1)) same)) in
          omega (arith, both, rest, unsigned_abs-mul t.factor (e t.number w), here, ap (λ (b : Bool). (cond b (unsigned_abs t.factor) 0 + level_size hall k ts) * 2 ^ (k - 1)) (eq-eqb (degree hall t.number) k same))
      | inr other ↦
          let none : t.factor *ℤ e t.number w ≡ pos 0 = ap (λ (z : ℤ). t.factor *ℤ z) (p.only w (λ s. other (sym s))) ∙ *ℤ-zero t.factor in
          omega (arith, both, rest, ap unsigned_abs none, ap (λ (b : Bool). (cond b (unsigned_abs t.factor) 0 + level_size hall k ts) * 2 ^ (k - 1)) (ne_eqb (degree hall t.number) k other))
    ]

-- ---- one term more
-- one term more adds its factor times the series of its number
pub expanded-next : (e : ℕ → List ℕ → ℤ) (ts : List Term) (i : ℕ) (w : List ℕ) → i < length ts
    → expanded e (take (i + 1) ts) w ≡ expanded e (take i ts) w +ℤ ((term_at ts i).factor *ℤ e (term_at ts i).number w)
expanded-next e [] i w lt = absurd (omega arith)
expanded-next e (t ∷ ts) zero w lt = omega (arith, ints)
expanded-next e (t ∷ ts) (suc i) w lt =
    let one : suc i + 1 ≡ suc (i + 1) = omega arith in
    ap (λ (n : ℕ). expanded e (take n (t ∷ ts)) w) one ∙ omega (arith, ints, expanded-next e ts i w (omega arith))

-- one term more adds its factor to the size of a level, where its degree is that of the level
pub level_size-next : (hall : List Member) (k : ℕ) (ts : List Term) (i : ℕ) → i < length ts
    → level_size hall k (take (i + 1) ts) ≡ level_size hall k (take i ts) + cond (eqb (degree hall (term_at ts i).number) k) (unsigned_abs (term_at ts i).factor) 0
level_size-next hall k [] i lt = absurd (omega arith)
level_size-next hall k (t ∷ ts) zero lt = omega arith
level_size-next hall k (t ∷ ts) (suc i) lt =
    let one : suc i + 1 ≡ suc (i + 1) = omega arith in
    ap (λ (n : ℕ). level_size hall k (take n (t ∷ ts))) one ∙ omega (arith, level_size-next hall k ts i (omega arith))

-- the first terms of a sum are no larger than all of them
pub level_size-part : (hall : List Member) (k : ℕ) (ts : List Term) (i : ℕ) → level_size hall k (take i ts) ≤ level_size hall k ts
level_size-part hall k [] zero = omega arith
level_size-part hall k [] (suc i) = omega arith
level_size-part hall k (t ∷ ts) zero = omega arith
level_size-part hall k (t ∷ ts) (suc i) = omega (arith, level_size-part hall k ts i)

-- ---- the coefficient of a pair, from those of its parents
-- the coefficient of a pair [l, r]: l at the front times r at the rest, minus r at the front times l at the rest, each cut where the front's degree ends
pub pair-coefficient : (depth : ℕ) (hall : List Member) → IsHall depth hall → (h n l r : ℕ) → InHall hall h → member hall h ≡ Pair n l r → (w : List ℕ) → length w ≡ degree hall h
    → (expansion hall l (take (degree hall l) w) *ℤ expansion hall r (drop (degree hall l) w)) -ℤ (expansion hall r (take (degree hall r) w) *ℤ expansion hall l (drop (degree hall r) w)) ≡ expansion hall h w
pair-coefficient depth hall ok h n l r inside e w len =
    let p : IsPairOf hall h n l r = ok.pairs h n l r inside e in
    sym
    (expansion-Expansions depth hall ok h n l r inside e w
    ∙ commutator-at (degree hall l) (2 ^ (degree hall l - 1)) (degree hall r) (2 ^ (degree hall r - 1)) (expansion hall l) (expansion hall r) (expansion-IsPart depth hall ok l p.left_in)
    (expansion-IsPart depth hall ok r p.right_in) w (len ∙ ap degree_of e ∙ p.sum))

-- ---- powers of two
-- powers of 2 up to the 16-th are within the range of a coefficient
pub power-small : (n : ℕ) → n ≤ 16 → 2 ^ n ≤ limit
power-small n small = le_trans (pow_mono small) (lit≤ tt)

-- the product of coefficients of degrees i and j
pub abs-product : (i j k : ℕ) (a b : ℤ) → 1 ≤ i → 1 ≤ j → k ≡ i + j → unsigned_abs a ≤ 2 ^ (i - 1) → unsigned_abs b ≤ 2 ^ (j - 1) → unsigned_abs (a *ℤ b) ≤ 2 ^ (k - 2)
abs-product i j k a b si sj e ha hb =
    let sum : i - 1 + (j - 1) ≡ k - 2 = omega arith in
    omega (arith, unsigned_abs-mul a b, mul-le-mul ha hb, pow-add 2 (i - 1) (j - 1), ap (λ (n : ℕ). 2 ^ n) sum)

-- the difference of two products, of degree k
pub abs-difference : (k : ℕ) (a b : ℤ) → 2 ≤ k → unsigned_abs a ≤ 2 ^ (k - 2) → unsigned_abs b ≤ 2 ^ (k - 2) → unsigned_abs (a -ℤ b) ≤ 2 ^ (k - 1)
abs-difference k a b some ha hb =
    let next : k - 1 ≡ suc (k - 2) = omega arith in
    omega (arith, ints, ha, hb, ap (λ (n : ℕ). 2 ^ n) next, pow-suc 2 (k - 2))

-- the parents of a pair that is read
pub record AreParents (hall : List Member) (h l r : ℕ) : Type 0 where
  -- the left parent is a member
  pub left_in : InHall hall l
  -- so is the right one
  pub right_in : InHall hall r
  -- the left one comes earlier
  pub left_earlier : l < h
  -- so does the right one
  pub right_earlier : r < h
  -- the left one has some degree
  pub left_some : 1 ≤ degree hall l
  -- so has the right one
  pub right_some : 1 ≤ degree hall r
  -- no degree is above 8
  pub small : degree hall h ≤ 8
  -- both degrees add up to that of the pair
  pub sum : degree hall h ≡ degree hall l + degree hall r

-- what is read of a pair of a Hall list
pub parents-read : (hall : List Member) → IsHallList hall → (h n l r : ℕ) → InHall hall h → get_or hall (h - 1) Letter ≡ Pair n l r → AreParents hall h l r
parents-read hall list h n l r inside e =
    let ok : IsHall (list.0.depth) hall = list-IsHall hall list in
    let is : member hall h ≡ Pair n l r = member-read hall h Letter (Pair n l r) inside e in
    let p : IsPairOf hall h n l r = ok.pairs h n l r inside is in
    record {
      left_in = p.left_in;
      right_in = p.right_in;
      left_earlier = omega (arith, p.in_order, p.earlier);
      right_earlier = p.earlier;
      left_some = ok.positive l p.left_in;
      right_some = ok.positive r p.right_in;
      small = list-degree hall list h inside;
      sum = ap degree_of is ∙ p.sum;
    }

-- the coefficient of a pair that is read, by those of its parents
pub pair-read : (hall : List Member) (list : IsHallList hall) (h n l r : ℕ) → InHall hall h → get_or hall (h - 1) Letter ≡ Pair n l r → (w : List ℕ) → length w ≡ degree hall h
    → (expansion hall l (take (degree hall l) w) *ℤ expansion hall r (drop (degree hall l) w)) -ℤ (expansion hall r (take (degree hall r) w) *ℤ expansion hall l (drop (degree hall r) w)) ≡ expansion hall h w
pair-read hall list h n l r inside e w len =
    pair-coefficient (list.0.depth) hall (list-IsHall hall list) h n l r inside (member-read hall h Letter (Pair n l r) inside e) w len

letter-at : (h : ℕ) (w : List ℕ) → length w ≡ 1 → letter h w ≡ cond (eqb h (get_or w 0 0)) (pos 1) (pos 0)
letter-at h [] len = absurd (omega arith)
letter-at h (a ∷ []) len = refl
letter-at h (a ∷ b ∷ w) len = absurd (omega arith)

-- the coefficient of a letter that is read
pub letter-read : (hall : List Member) (h : ℕ) → InHall hall h → get_or hall (h - 1) Letter ≡ Letter → (w : List ℕ) → length w ≡ degree hall h → expansion hall h w ≡ cond (eqb h (get_or w 0 0)) (pos 1) (pos 0)
letter-read hall h inside e w len =
    let is : member hall h ≡ Letter = member-read hall h Letter Letter inside e in
    ap (λ (f : List ℕ → ℤ). f w) (expansion-letter hall h is) ∙ letter-at h w (len ∙ ap degree_of is)

-- the degree of a member that is read
pub degree-read : (hall : List Member) (h k : ℕ) → InHall hall h → k ≡ degree_of (get_or hall (h - 1) Letter) → k ≡ degree hall h
degree-read hall h k inside e = e ∙ sym (ap degree_of (member-read hall h Letter (get_or hall (h - 1) Letter) inside refl))

-- a letter has the coefficient 1 at its own word
pub letter-here : (hall : List Member) (h : ℕ) → InHall hall h → get_or hall (h - 1) Letter ≡ Letter → (w : List ℕ) → length w ≡ degree hall h → get_or w 0 0 ≡ h → pos 1 ≡ expansion hall h w
letter-here hall h inside e w len here = sym (letter-read hall h inside e w len ∙ ap (λ (b : Bool). cond b (pos 1) (pos 0)) (eq-eqb h (get_or w 0 0) (sym here)))

-- and 0 at the word of another letter
pub letter-elsewhere : (hall : List Member) (h : ℕ) → InHall hall h → get_or hall (h - 1) Letter ≡ Letter → (w : List ℕ) → length w ≡ degree hall h → (get_or w 0 0 ≡ h → ⊥) → pos 0 ≡ expansion hall h w
letter-elsewhere hall h inside e w len other = sym (letter-read hall h inside e w len ∙ ap (λ (b : Bool). cond b (pos 1) (pos 0)) (ne_eqb h (get_or w 0 0) (λ here. other (sym here))))

-- the product of two coefficients that are read
pub record IsProduct (hall : List Member) (i j : ℕ) (w : List ℕ) (a b : ℤ) : Type 0 where
  -- the product is that of the expansions at the two parts of the word
  pub value : a *ℤ b ≡ expansion hall i (take (degree hall i) w) *ℤ expansion hall j (drop (degree hall i) w)
  -- it is at most 2 ^ (k - 2) for a word of k letters
  pub bound : unsigned_abs (a *ℤ b) ≤ 2 ^ (length w - 2)
  -- so it is within the range of a coefficient
  pub in_range : unsigned_abs (a *ℤ b) ≤ limit

-- two coefficients that are read at the front and the rest of a word give such a product
pub product-read : (hall : List Member) → IsHallList hall → (i j : ℕ) → InHall hall i → InHall hall j → (w front back : List ℕ) (middle : ℕ) (a b : ℤ) → middle ≡ degree_of (get_or hall (i - 1) Letter)
    → length w ≡ degree hall i + degree hall j → front ≡ take middle w → back ≡ drop middle w → length front ≡ middle → length back + middle ≡ length w
    → a ≡ expansion hall i front → b ≡ expansion hall j back → unsigned_abs a ≤ 2 ^ (length front - 1) → unsigned_abs b ≤ 2 ^ (length back - 1) → IsProduct hall i j w a b
product-read hall list i j hi hj w front back middle a b em len ef eb lf lb va vb ba bb =
    let ok : IsHall (list.0.depth) hall = list-IsHall hall list in
    let m : middle ≡ degree hall i = degree-read hall i middle hi em in
    let small : length w ≤ 16 = omega (arith, list-degree hall list i hi, list-degree hall list j hj) in
    let bound : unsigned_abs (a *ℤ b) ≤ 2 ^ (length w - 2) =
    abs-product (length front) (length back) (length w) a b (omega (arith, ok.positive i hi)) (omega (arith, ok.positive j hj)) (omega arith) ba bb in
    record {
      value = ap₂ ◌*ℤ◌ (va ∙ ap (expansion hall i) (ef ∙ ap (λ (n : ℕ). take n w) m)) (vb ∙ ap (expansion hall j) (eb ∙ ap (λ (n : ℕ). drop n w) m));
      bound = bound;
      in_range = le_trans bound (power-small (length w - 2) (omega arith));
    }

-- ---- the loop over the terms at one word
-- the sum of however many first terms is within the range, where the level of the word's length fits
pub sum-bound : (hall : List Member) → IsHallList hall → (ts : List Term) → All (λ t. InHall hall t.number) ts → (w : List ℕ) → FitsLevel hall ts (length w) → (n : ℕ) → unsigned_abs (expanded (expansion hall) (take n ts) w) ≤ limit
sum-bound hall list ts all w fits n =
    le_trans (abs-expanded (list.0.depth) hall (list-IsHall hall list) (take n ts) (All-take (λ t. InHall hall t.number) n ts all) w)
    (le_trans (mul-le-mul_right (2 ^ (length w - 1)) (level_size-part hall (length w) ts n)) fits)

-- so is one term's factor times its coefficient
pub term-bound : (hall : List Member) (ts : List Term) (i k : ℕ) (c : ℤ) → i < length ts → degree hall (term_at ts i).number ≡ k → unsigned_abs c ≤ 2 ^ (k - 1) → FitsLevel hall ts k → unsigned_abs ((term_at ts i).factor *ℤ c) ≤ limit
term-bound hall ts i k c lt dk bc fits =
    let f : ℕ = unsigned_abs (term_at ts i).factor in
    let part : f ≤ level_size hall k ts =
    omega (arith, level_size-next hall k ts i lt, ap (λ (b : Bool). cond b f 0) (eq-eqb (degree hall (term_at ts i).number) k dk), level_size-part hall k ts (i + 1)) in
    omega (arith, unsigned_abs-mul (term_at ts i).factor c, mul-le-mul part bc, fits)

-- a term of the word's degree is added
pub sum-take : (hall : List Member) (ts : List Term) (i : ℕ) (w : List ℕ) (sum part more c : ℤ) → i < length ts → sum ≡ expanded (expansion hall) (take i ts) w → c ≡ expansion hall (term_at ts i).number w
    → part ≡ (term_at ts i).factor *ℤ c → more ≡ sum +ℤ part → more ≡ expanded (expansion hall) (take (i + 1) ts) w
sum-take hall ts i w sum part more c lt es ec ep em =
    em ∙ ap₂ ◌+ℤ◌ es (ep ∙ ap (λ (z : ℤ). (term_at ts i).factor *ℤ z) ec) ∙ sym (expanded-next (expansion hall) ts i w lt)

-- a term of another degree adds nothing
pub sum-pass : (hall : List Member) → IsHallList hall → (ts : List Term) → All (λ t. InHall hall t.number) ts → (i : ℕ) (w : List ℕ) (sum : ℤ) → i < length ts → sum ≡ expanded (expansion hall) (take i ts) w
    → (degree hall (term_at ts i).number ≡ length w → ⊥) → sum ≡ expanded (expansion hall) (take (i + 1) ts) w
sum-pass hall list ts all i w sum lt es other =
    let inside : InHall hall (term_at ts i).number = All-get_or (λ t. InHall hall t.number) ts i _ lt all in
    let p : IsPart (degree hall (term_at ts i).number) (2 ^ (degree hall (term_at ts i).number - 1)) (expansion hall (term_at ts i).number) = expansion-IsPart (list.0.depth) hall (list-IsHall hall list) (term_at ts i).number inside in
    let none : (term_at ts i).factor *ℤ expansion hall (term_at ts i).number w ≡ pos 0 = ap (λ (z : ℤ). (term_at ts i).factor *ℤ z) (p.only w (λ s. other (sym s))) ∙ *ℤ-zero (term_at ts i).factor in
    omega (arith, ints, es, none, expanded-next (expansion hall) ts i w lt)

-- nothing stands at the empty word
pub expanded-empty : (hall : List Member) → IsHallList hall → (ts : List Term) → All (λ t. InHall hall t.number) ts → expanded (expansion hall) ts [] ≡ pos 0
expanded-empty hall list [] all = refl
expanded-empty hall list (t ∷ ts) all =
    let ok : IsHall (list.0.depth) hall = list-IsHall hall list in
    let inside : InHall hall t.number = All-head (λ x. InHall hall x.number) t ts all in
    let p : IsPart (degree hall t.number) (2 ^ (degree hall t.number - 1)) (expansion hall t.number) = expansion-IsPart (list.0.depth) hall ok t.number inside in
    let none : t.factor *ℤ expansion hall t.number [] ≡ pos 0 = ap (λ (z : ℤ). t.factor *ℤ z) (p.only [] (λ s. omega (arith, s, ok.positive t.number inside))) ∙ *ℤ-zero t.factor in
    omega (arith, ints, none, expanded-empty hall list ts (All-tail (λ x. InHall hall x.number) t ts all))

-- ---- whether a level fits
-- a term of degree k adds its factor to the size that is counted, which stops at 2 ^ 128 - 1
pub size-take : (hall : List Member) (k : ℕ) (ts : List Term) (i size : ℕ) → i < length ts → size ≡ min (level_size hall k (take i ts)) (2 ^ 128 - 1) → degree hall (term_at ts i).number ≡ k
    → min (size + unsigned_abs (term_at ts i).factor) (2 ^ 128 - 1) ≡ min (level_size hall k (take (i + 1) ts)) (2 ^ 128 - 1)
size-take hall k ts i size lt es dk =
    let f : ℕ = unsigned_abs (term_at ts i).factor in
    omega (arith, es, level_size-next hall k ts i lt, ap (λ (b : Bool). cond b f 0) (eq-eqb (degree hall (term_at ts i).number) k dk))

-- a term of another degree leaves it
pub size-pass : (hall : List Member) (k : ℕ) (ts : List Term) (i size : ℕ) → i < length ts → size ≡ min (level_size hall k (take i ts)) (2 ^ 128 - 1) → (degree hall (term_at ts i).number ≡ k → ⊥)
    → size ≡ min (level_size hall k (take (i + 1) ts)) (2 ^ 128 - 1)
size-pass hall k ts i size lt es other =
    let f : ℕ = unsigned_abs (term_at ts i).factor in
    omega (arith, es, level_size-next hall k ts i lt, ap (λ (b : Bool). cond b f 0) (ne_eqb (degree hall (term_at ts i).number) k other))

-- the size as it is counted tells whether the level fits
pub fits-decided : (n size room k : ℕ) → size ≡ min n (2 ^ 128 - 1) → room ≡ limit / 2 ^ k → (leb size room ≡ true → n * 2 ^ k ≤ limit) × (n * 2 ^ k ≤ limit → leb size room ≡ true)
fits-decided n size room k es er =
    let some : 0 < 2 ^ k = pow_pos k in
    let most : limit / 2 ^ k ≤ limit = shr_le limit k in (
      λ t. (le-div_iff_mul-le some).0 (let le : n ≤ limit / 2 ^ k = omega (arith, leb-true size room t) in le),
      λ le. le-leb size room (omega (arith, (le-div_iff_mul-le {y = limit} some).1 le)),
    )
