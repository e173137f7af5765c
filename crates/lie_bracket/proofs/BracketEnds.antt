-- The rewriting of brackets ends, so that the bracket has the rule's equations.
use Rattle.std.proofs.Common.{◌≡◌, inl, inr, ℕ, zero, suc, ◌+◌, ◌*◌, ◌-◌, ◌≤◌, ◌<◌, refl, ap, ap₂, ◌∙◌, subst, arith, ℤ, pos, neg_ℤ, ◌*ℤ◌, List, [], ◌∷◌, ◌++◌, length, eqb, ltb}
use Rattle.std.specs.Prelude.{All, Bool, true, false, ◌||◌}
use Rattle.std.proofs.Math.Nat.{mul-le-mul_right}
use Rattle.std.proofs.lemmas.Bool.{eqb-false, eq-eqb, ne_eqb, ltb-true, ltb-false, lt-ltb, le-ltb, or_parts, or_left, or_right, cases_lt}
use Rattle.std.proofs.lemmas.List.Elements.{All-head, All-tail, All-weaker}
use Rattle.definitions.specs.Hall.{InHall, member, degree, degree_of, number_of}
use Rattle.definitions.specs.declared.member.Member.{Member}
use Rattle.definitions.specs.declared.member.Member.TheVariants.{Letter, Pair}
use Rattle.hall_set.proofs.GrownLists.{IsPairOf, IsLate, IsHall}
use Rattle.lie_bracket.specs.declared.term.Term.{Term}
use Rattle.lie_bracket.specs.Brackets.{term, scaled, over_terms, by_parents, by_number, by_degree, bracket_within, enough, bracket, majorant}
use Rattle.lie_bracket.specs.Rewriting.{IsBracket}
use Rattle.lie_bracket.proofs.BracketTerms.{IsTermOf, Homogeneous, bracket_within-terms}

-- ---- the bracket ends: what is left of the fuel
-- enough for the bracket of a and b: first by the degrees, then by the smaller number, then by the order
pub record HasFuel (hall : List Member) (fuel a b : ℕ) : Type 0 where
  -- where a is first
  pub upward : a ≤ b → 2 * ((degree hall a + degree hall b) * suc (length hall) + (length hall - a)) + 1 ≤ fuel
  -- the other order takes one bracket more
  pub downward : b < a → 2 * ((degree hall a + degree hall b) * suc (length hall) + (length hall - b)) + 2 ≤ fuel

-- a bracket of lower degree has fuel left
pub fuel-lower : (hall : List Member) (fuel a b c d : ℕ) → a < b → degree hall c + degree hall d < degree hall a + degree hall b → InHall hall c → InHall hall d → HasFuel hall (suc fuel) a b → HasFuel hall fuel c d
fuel-lower hall fuel a b c d lt below hc hd h =
    let n : ℕ = length hall in
    let room : suc (degree hall c + degree hall d) * suc n ≤ (degree hall a + degree hall b) * suc n = mul-le-mul_right (suc n) below in
    let had : 2 * ((degree hall a + degree hall b) * suc n + (n - a)) + 1 ≤ suc fuel = h.upward (omega arith) in
    record { upward = λ l. omega (arith, room, had, hc.least, hd.least); downward = λ l. omega (arith, room, had, hc.least, hd.least) }

-- a bracket of the same degree with a greater smaller number has fuel left
pub fuel-later : (hall : List Member) (fuel a b c d : ℕ) → a < b → degree hall c + degree hall d ≡ degree hall a + degree hall b → a < c → a < d → InHall hall c → InHall hall d → HasFuel hall (suc fuel) a b → HasFuel hall fuel c d
fuel-later hall fuel a b c d lt same lc ld hc hd h =
    let n : ℕ = length hall in
    let room : (degree hall c + degree hall d) * suc n ≡ (degree hall a + degree hall b) * suc n = ap (λ (k : ℕ). k * suc n) same in
    let had : 2 * ((degree hall a + degree hall b) * suc n + (n - a)) + 1 ≤ suc fuel = h.upward (omega arith) in
    record { upward = λ l. omega (arith, room, had, hc.most, hd.most); downward = λ l. omega (arith, room, had, hc.most, hd.most) }

-- sums over the same terms agree where what is summed does at each number
pub over_terms-same : (ts : List Term) (f g : ℕ → List Term) → All (λ t. f t.number ≡ g t.number) ts → over_terms ts f ≡ over_terms ts g
over_terms-same [] f g same = refl
over_terms-same (t ∷ ts) f g same =
    ap₂ (λ (x y : List Term). scaled (λ k. t.factor *ℤ k) x ++ y) (All-head (λ x. f x.number ≡ g x.number) t ts same) (over_terms-same ts f g (All-tail (λ x. f x.number ≡ g x.number) t ts same))

-- brackets with so much fuel, and with other fuel
abbrev pub Agree : List Member → ℕ → ℕ → (ℕ → ℕ → List Term) → (ℕ → ℕ → List Term) → Type 0
Agree hall fuel fuel' rest rest' = (a b : ℕ) → InHall hall a → InHall hall b → HasFuel hall fuel a b → HasFuel hall fuel' a b → rest a b ≡ rest' a b

by_parents-agree : (depth : ℕ) (hall : List Member) (minus : ℤ → ℤ) (fuel fuel' : ℕ) (rest rest' : ℕ → ℕ → List Term) → IsHall depth hall → Homogeneous hall rest → Agree hall fuel fuel' rest rest'
    → (a b : ℕ) (m : Member) → InHall hall a → InHall hall b → a < b → HasFuel hall (suc fuel) a b → HasFuel hall (suc fuel') a b → member hall b ≡ m → IsLate a m
    → by_parents minus rest a m ≡ by_parents minus rest' a m
by_parents-agree depth hall minus fuel fuel' rest rest' ok terms agree a b Letter ha hb lt has has' em late = absurd late
by_parents-agree depth hall minus fuel fuel' rest rest' ok terms agree a b (Pair n l r) ha hb lt has has' em late =
    let p : IsPairOf hall b n l r = ok.pairs b n l r hb em in
    let d : degree hall b ≡ degree hall l + degree hall r = ap degree_of em ∙ p.sum in
    let dl : 1 ≤ degree hall l = ok.positive l p.left_in in
    let dr : 1 ≤ degree hall r = ok.positive r p.right_in in
    let order : l < r = p.in_order in
    let side : (x y : ℕ) → InHall hall x → InHall hall y → a < y → degree hall x + degree hall y ≡ degree hall b → 1 ≤ degree hall x → 1 ≤ degree hall y
    → over_terms (rest a x) (λ c. rest c y) ≡ over_terms (rest' a x) (λ c. rest' c y) =
    λ x y hx hy ly dxy px py.
    let inner : rest a x ≡ rest' a x = agree a x ha hx (fuel-lower hall fuel a b a x lt (omega arith) ha hx has) (fuel-lower hall fuel' a b a x lt (omega arith) ha hx has') in
    over_terms-same (rest a x) (λ c. rest c y) (λ c. rest' c y)
    (All-weaker (IsTermOf hall (degree hall a + degree hall x)) (λ t. rest t.number y ≡ rest' t.number y)
    (λ t ht.
    let dt : degree hall t.number ≡ degree hall a + degree hall x = ht.degree_is in
    let later : a < t.number = ok.ranked a t.number ha ht.inside (omega arith) in
    agree t.number y ht.inside hy (fuel-later hall fuel a b t.number y lt (omega arith) later ly ht.inside hy has) (fuel-later hall fuel' a b t.number y lt (omega arith) later ly ht.inside hy has'))
    (rest a x) (terms a x ha hx))
    ∙ ap (λ (ts : List Term). over_terms ts (λ c. rest' c y)) inner in
    ap₂ (λ (x y : List Term). x ++ scaled minus y) (side l r p.left_in p.right_in (omega arith) (omega arith) dl dr) (side r l p.right_in p.left_in late (omega arith) dr dl)

by_number-agree : (depth : ℕ) (hall : List Member) (minus : ℤ → ℤ) (fuel fuel' : ℕ) (rest rest' : ℕ → ℕ → List Term) → IsHall depth hall → Homogeneous hall rest → Agree hall fuel fuel' rest rest'
    → (a b n : ℕ) → InHall hall a → InHall hall b → a < b → degree hall a + degree hall b ≤ depth → HasFuel hall (suc fuel) a b → HasFuel hall (suc fuel') a b → number_of hall a b ≡ n
    → by_number minus rest a (member hall b) n ≡ by_number minus rest' a (member hall b) n
by_number-agree depth hall minus fuel fuel' rest rest' ok terms agree a b zero ha hb lt deep has has' en =
    by_parents-agree depth hall minus fuel fuel' rest rest' ok terms agree a b (member hall b) ha hb lt has has' refl (ok.complete a b ha hb lt deep en)
by_number-agree depth hall minus fuel fuel' rest rest' ok terms agree a b (suc n) ha hb lt deep has has' en = refl

-- the other order has fuel left
pub fuel-down : (hall : List Member) (fuel a b : ℕ) → b < a → HasFuel hall (suc fuel) a b → HasFuel hall fuel b a
fuel-down hall fuel a b lt has =
    let had : 2 * ((degree hall a + degree hall b) * suc (length hall) + (length hall - b)) + 2 ≤ suc fuel = has.downward lt in
    record {
      upward = λ l. omega (arith, had, ap (λ (k : ℕ). k * suc (length hall)) (let s : degree hall b + degree hall a ≡ degree hall a + degree hall b = omega arith in s));
      downward = λ l. absurd (omega arith);
    }

by_degree-agree : (depth : ℕ) (hall : List Member) (minus : ℤ → ℤ) (fuel fuel' : ℕ) (rest rest' : ℕ → ℕ → List Term) → IsHall depth hall → Homogeneous hall rest → Agree hall fuel fuel' rest rest'
    → (a b : ℕ) (above none : Bool) → InHall hall a → InHall hall b → HasFuel hall (suc fuel) a b → HasFuel hall (suc fuel') a b
    → ltb b a ≡ above → (eqb a b || ltb depth (degree hall a + degree hall b)) ≡ none
    → by_degree minus rest a b (member hall b) (number_of hall a b) above none ≡ by_degree minus rest' a b (member hall b) (number_of hall a b) above none
by_degree-agree depth hall minus fuel fuel' rest rest' ok terms agree a b above true ha hb has has' ea en = refl
by_degree-agree depth hall minus fuel fuel' rest rest' ok terms agree a b true false ha hb has has' ea en =
    let lt : b < a = ltb-true b a ea in
    ap (scaled minus) (agree b a hb ha (fuel-down hall fuel a b lt has) (fuel-down hall fuel' a b lt has'))
by_degree-agree depth hall minus fuel fuel' rest rest' ok terms agree a b false false ha hb has has' ea en =
    let le : a ≤ b = ltb-false b a ea in
    let ne : a ≡ b → ⊥ = eqb-false a b ((or_parts (eqb a b) (ltb depth (degree hall a + degree hall b)) en).0) in
    let deep : degree hall a + degree hall b ≤ depth = ltb-false depth (degree hall a + degree hall b) ((or_parts (eqb a b) (ltb depth (degree hall a + degree hall b)) en).1) in
    by_number-agree depth hall minus fuel fuel' rest rest' ok terms agree a b (number_of hall a b) ha hb (omega arith) deep has has' refl

no-fuel : (hall : List Member) (a b : ℕ) → HasFuel hall 0 a b → ⊥
no-fuel hall a b has = elim (cases_lt b a) [ inl lt ↦ omega (arith, has.downward lt) | inr le ↦ omega (arith, has.upward le) ]

-- more fuel than enough changes nothing
pub bracket_within-agree : (depth : ℕ) (hall : List Member) (minus : ℤ → ℤ) → IsHall depth hall → (fuel fuel' : ℕ) → Agree hall fuel fuel' (bracket_within minus depth hall fuel) (bracket_within minus depth hall fuel')
bracket_within-agree depth hall minus ok zero fuel' a b ha hb has has' = absurd (no-fuel hall a b has)
bracket_within-agree depth hall minus ok (suc fuel) zero a b ha hb has has' = absurd (no-fuel hall a b has')
bracket_within-agree depth hall minus ok (suc fuel) (suc fuel') a b ha hb has has' =
    by_degree-agree depth hall minus fuel fuel' (bracket_within minus depth hall fuel) (bracket_within minus depth hall fuel') ok (bracket_within-terms depth hall minus ok fuel) (bracket_within-agree depth hall minus ok fuel fuel')
    a b (ltb b a) (eqb a b || ltb depth (degree hall a + degree hall b)) ha hb has has' refl refl

-- all brackets at so much fuel are those with enough
at-step : (minus : ℤ → ℤ) (depth : ℕ) (hall : List Member) (fuel a b : ℕ) (above none : Bool) → ltb b a ≡ above → (eqb a b || ltb depth (degree hall a + degree hall b)) ≡ none
    → bracket_within minus depth hall (suc fuel) a b ≡ by_degree minus (bracket_within minus depth hall fuel) a b (member hall b) (number_of hall a b) above none
at-step minus depth hall fuel a b above none ea en =
    ap₂ (λ (x y : Bool). by_degree minus (bracket_within minus depth hall fuel) a b (member hall b) (number_of hall a b) x y) ea en

-- the two reasons for an empty bracket fail together
none-false : (depth : ℕ) (hall : List Member) (a b : ℕ) → (a ≡ b → ⊥) → degree hall a + degree hall b ≤ depth → (eqb a b || ltb depth (degree hall a + degree hall b)) ≡ false
none-false depth hall a b ne deep = ap₂ ◌||◌ (ne_eqb a b ne) (le-ltb depth (degree hall a + degree hall b) deep)

-- there is fuel for all brackets of the shape
abbrev pub AllFuel : ℕ → List Member → ℕ → Type 0
AllFuel depth hall fuel = (a b : ℕ) → InHall hall a → InHall hall b → degree hall a + degree hall b ≤ depth → HasFuel hall fuel a b

enough-for-all : (depth : ℕ) (hall : List Member) (fuel : ℕ) → suc fuel ≡ enough depth hall → AllFuel depth hall (suc fuel)
enough-for-all depth hall fuel ef a b ha hb deep =
    let room : (degree hall a + degree hall b) * suc (length hall) ≤ depth * suc (length hall) = mul-le-mul_right (suc (length hall)) deep in
    record { upward = λ l. omega (arith, room, ha.least); downward = λ l. omega (arith, room, hb.least) }

more-fuel : (hall : List Member) (fuel a b : ℕ) → HasFuel hall fuel a b → HasFuel hall (suc fuel) a b
more-fuel hall fuel a b has = record { upward = λ l. omega (arith, has.upward l); downward = λ l. omega (arith, has.downward l) }

-- brackets with enough fuel for all pairs meet the equations
pub bracket_within-IsBracket : (minus : ℤ → ℤ) (depth : ℕ) (hall : List Member) → IsHall depth hall → (fuel : ℕ) → AllFuel depth hall (suc fuel) → IsBracket minus depth hall (bracket_within minus depth hall (suc fuel))
bracket_within-IsBracket minus depth hall ok fuel all =
    let rest : ℕ → ℕ → List Term = bracket_within minus depth hall fuel in
    let br : ℕ → ℕ → List Term = bracket_within minus depth hall (suc fuel) in
    let agree : Agree hall fuel (suc fuel) rest br = bracket_within-agree depth hall minus ok fuel (suc fuel) in
    record {
      same = λ a. at-step minus depth hall fuel a a (ltb a a) true refl (or_left (eqb a a) (ltb depth (degree hall a + degree hall a)) (eq-eqb a a refl));
      deep = λ a b h. at-step minus depth hall fuel a b (ltb b a) true refl (or_right (eqb a b) (ltb depth (degree hall a + degree hall b)) (lt-ltb depth (degree hall a + degree hall b) h));
      swapped = λ a b ha hb lt h.
          at-step minus depth hall fuel a b true false (lt-ltb b a lt) (none-false depth hall a b (λ e. omega arith) h)
          ∙ ap (scaled minus) (agree b a hb ha (fuel-down hall fuel a b lt (all a b ha hb h)) (all b a hb ha (omega arith)));
      found = λ a b n ha hb lt h e.
          at-step minus depth hall fuel a b false false (le-ltb b a (omega arith)) (none-false depth hall a b (λ s. omega arith) h)
          ∙ ap (by_number minus rest a (member hall b)) e;
      split = λ a b n l r ha hb lt h e em.
          at-step minus depth hall fuel a b false false (le-ltb b a (omega arith)) (none-false depth hall a b (λ s. omega arith) h)
          ∙ ap (by_number minus rest a (member hall b)) e
          ∙ ap (by_parents minus rest a) em
          ∙ by_parents-agree depth hall minus fuel (suc fuel) rest br ok (bracket_within-terms depth hall minus ok fuel) agree a b (Pair n l r) ha hb lt (all a b ha hb h)
          (more-fuel hall (suc fuel) a b (all a b ha hb h)) em (subst (IsLate a) em (ok.complete a b ha hb lt h e));
    }

some-fuel : (depth : ℕ) (hall : List Member) → suc (enough depth hall - 1) ≡ enough depth hall
some-fuel depth hall = omega arith

-- the bracket meets the equations
pub bracket-IsBracket : (depth : ℕ) (hall : List Member) → IsHall depth hall → IsBracket neg_ℤ depth hall (bracket depth hall)
unfolding bracket
bracket-IsBracket depth hall ok =
    subst (λ (n : ℕ). IsBracket neg_ℤ depth hall (λ a b. bracket_within neg_ℤ depth hall n a b)) (some-fuel depth hall)
    (bracket_within-IsBracket neg_ℤ depth hall ok (enough depth hall - 1)
    (enough-for-all depth hall (enough depth hall - 1) (some-fuel depth hall)))

-- the majorant meets them with every sign plus
pub majorant-IsBracket : (depth : ℕ) (hall : List Member) → IsHall depth hall → IsBracket (λ k. k) depth hall (majorant depth hall)
unfolding majorant
majorant-IsBracket depth hall ok =
    subst (λ (n : ℕ). IsBracket (λ k. k) depth hall (λ a b. bracket_within (λ k. k) depth hall n a b)) (some-fuel depth hall)
    (bracket_within-IsBracket (λ k. k) depth hall ok (enough depth hall - 1)
    (enough-for-all depth hall (enough depth hall - 1) (some-fuel depth hall)))
