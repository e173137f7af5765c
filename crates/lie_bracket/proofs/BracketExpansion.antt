-- The bracket of two members expands to the commutator of their expansions.
use Rattle.std.proofs.Common.{◌≡◌, inl, inr, ℕ, zero, suc, ◌+◌, ◌*◌, ◌-◌, ◌≤◌, ◌<◌, refl, sym, ap, ap₂, ◌∙◌, arith, ℤ, pos, neg_ℤ, ◌+ℤ◌, List, length, eqb, ltb}
use Rattle.std.specs.Prelude.{All, Bool, true, false, ◌||◌}
use Rattle.std.proofs.Math.Nat.{mul-le-mul_right}
use Rattle.std.proofs.lemmas.Int.{ints}
use Rattle.std.proofs.lemmas.Bool.{eqb-true, eqb-false, ltb-true, ltb-false, or_cases, or_parts, cases_lt}
use Rattle.std.proofs.lemmas.List.Elements.{All-weaker}
use Rattle.definitions.proofs.Integers.{one-mul_ℤ}
use Rattle.definitions.specs.Commutators.{commutator}
use Rattle.definitions.specs.Hall.{InHall, member, degree, degree_of, number_of}
use Rattle.definitions.specs.declared.member.Member.{Member}
use Rattle.definitions.specs.declared.member.Member.TheVariants.{Letter, Pair}
use Rattle.hall_set.proofs.GrownLists.{IsPairOf, IsLate, IsHall}
use Rattle.hall_set.proofs.Numbers.{IsFound, number_of-found}
use Rattle.lie_bracket.specs.declared.term.Term.{Term}
use Rattle.lie_bracket.specs.Brackets.{scaled, over_terms, expanded, by_parents, by_number, by_degree, bracket_within, enough, bracket}
use Rattle.lie_bracket.proofs.CommutatorLaws.{commutator-same, commutator-itself, commutator-swapped, jacobi}
use Rattle.lie_bracket.proofs.TermSums.{expanded-append, expanded-neg, expanded-over, SameAt, expanded-same, commutator-expanded_left}
use Rattle.lie_bracket.proofs.BracketTerms.{IsTermOf, Homogeneous, bracket_within-terms}
use Rattle.lie_bracket.proofs.BracketEnds.{HasFuel, fuel-lower, fuel-later}

-- the bracket of a and b expands to the commutator of what a and b expand to
abbrev pub Expands : List Member → (ℕ → List ℕ → ℤ) → (ℕ → ℕ → List Term) → ℕ → ℕ → Type 0
Expands hall e rest a b = (w : List ℕ) → expanded e (rest a b) w ≡ commutator (e a) (e b) w

-- what is known of brackets with less fuel
abbrev pub Before : ℕ → List Member → (ℕ → List ℕ → ℤ) → ℕ → (ℕ → ℕ → List Term) → Type 0
Before depth hall e fuel rest = (a b : ℕ) → InHall hall a → InHall hall b → degree hall a + degree hall b ≤ depth → HasFuel hall fuel a b → Expands hall e rest a b

-- the expansions of pairs are commutators
abbrev pub Expansions : List Member → (ℕ → List ℕ → ℤ) → Type 0
Expansions hall e = (h n l r : ℕ) → InHall hall h → member hall h ≡ Pair n l r → (w : List ℕ) → e h w ≡ commutator (e l) (e r) w

by_parents-expands : (depth : ℕ) (hall : List Member) (e : ℕ → List ℕ → ℤ) (fuel : ℕ) (rest : ℕ → ℕ → List Term) → IsHall depth hall → Expansions hall e → Homogeneous hall rest → Before depth hall e fuel rest
    → (a b : ℕ) (m : Member) → InHall hall a → InHall hall b → a < b → degree hall a + degree hall b ≤ depth → HasFuel hall (suc fuel) a b → member hall b ≡ m → IsLate a m
    → (w : List ℕ) → expanded e (by_parents neg_ℤ rest a m) w ≡ commutator (e a) (e b) w
by_parents-expands depth hall e fuel rest ok ex terms before a b Letter ha hb lt deep has em late w = absurd late
by_parents-expands depth hall e fuel rest ok ex terms before a b (Pair n l r) ha hb lt deep has em late w =
    let p : IsPairOf hall b n l r = ok.pairs b n l r hb em in
    let d : degree hall b ≡ degree hall l + degree hall r = ap degree_of em ∙ p.sum in
    let dl : 1 ≤ degree hall l = ok.positive l p.left_in in
    let dr : 1 ≤ degree hall r = ok.positive r p.right_in in
    let order : l < r = p.in_order in
    let side : (x y : ℕ) → InHall hall x → InHall hall y → a < y → degree hall x + degree hall y ≡ degree hall b → 1 ≤ degree hall x → 1 ≤ degree hall y
    → (v : List ℕ) → expanded e (over_terms (rest a x) (λ c. rest c y)) v ≡ commutator (commutator (e a) (e x)) (e y) v =
    λ x y hx hy ly dxy px py v.
    let inner : Expands hall e rest a x = before a x ha hx (omega arith) (fuel-lower hall fuel a b a x lt (omega arith) ha hx has) in
    let each : All (SameAt (λ c. expanded e (rest c y)) (λ c. commutator (e c) (e y))) (rest a x) =
    All-weaker (IsTermOf hall (degree hall a + degree hall x)) (SameAt (λ c. expanded e (rest c y)) (λ c. commutator (e c) (e y)))
    (λ t ht.
    let dt : degree hall t.number ≡ degree hall a + degree hall x = ht.degree_is in
    let later : a < t.number = ok.ranked a t.number ha ht.inside (omega arith) in
    before t.number y ht.inside hy (omega arith) (fuel-later hall fuel a b t.number y lt (omega arith) later ly ht.inside hy has))
    (rest a x) (terms a x ha hx) in
    expanded-over e (rest a x) (λ c. rest c y) v
    ∙ expanded-same (λ c. expanded e (rest c y)) (λ c. commutator (e c) (e y)) (rest a x) v each
    ∙ sym (commutator-expanded_left e (rest a x) (e y) v)
    ∙ commutator-same (expanded e (rest a x)) (commutator (e a) (e x)) (e y) (e y) v inner (λ u. refl) in
    expanded-append e (over_terms (rest a l) (λ c. rest c r)) (scaled neg_ℤ (over_terms (rest a r) (λ c. rest c l))) w
    ∙ ap₂ ◌+ℤ◌ (side l r p.left_in p.right_in (omega arith) (omega arith) dl dr w)
    (expanded-neg e (over_terms (rest a r) (λ c. rest c l)) w ∙ ap neg_ℤ (side r l p.right_in p.left_in late (omega arith) dr dl w))
    ∙ jacobi (e a) (e l) (e r) w
    ∙ commutator-same (e a) (e a) (commutator (e l) (e r)) (e b) w (λ u. refl) (λ u. sym (ex b n l r hb em u))

by_number-expands : (depth : ℕ) (hall : List Member) (e : ℕ → List ℕ → ℤ) (fuel : ℕ) (rest : ℕ → ℕ → List Term) → IsHall depth hall → Expansions hall e → Homogeneous hall rest → Before depth hall e fuel rest
    → (a b n : ℕ) → InHall hall a → InHall hall b → a < b → degree hall a + degree hall b ≤ depth → HasFuel hall (suc fuel) a b → number_of hall a b ≡ n
    → (w : List ℕ) → expanded e (by_number neg_ℤ rest a (member hall b) n) w ≡ commutator (e a) (e b) w
by_number-expands depth hall e fuel rest ok ex terms before a b zero ha hb lt deep has en w =
    by_parents-expands depth hall e fuel rest ok ex terms before a b (member hall b) ha hb lt deep has refl (ok.complete a b ha hb lt deep en) w
by_number-expands depth hall e fuel rest ok ex terms before a b (suc n) ha hb lt deep has en w =
    let f : IsFound hall a b (suc n) = number_of-found hall a b n en in
    ap (λ (z : ℤ). z +ℤ pos 0) (one-mul_ℤ (e (suc n) w)) ∙ (let z : e (suc n) w +ℤ pos 0 ≡ e (suc n) w = omega (arith, ints) in z) ∙ ex (suc n) f.of_degree a b f.inside f.is w

by_degree-expands : (depth : ℕ) (hall : List Member) (e : ℕ → List ℕ → ℤ) (fuel : ℕ) (rest : ℕ → ℕ → List Term) → IsHall depth hall → Expansions hall e → Homogeneous hall rest → Before depth hall e fuel rest
    → (a b : ℕ) (above none : Bool) → InHall hall a → InHall hall b → degree hall a + degree hall b ≤ depth → HasFuel hall (suc fuel) a b
    → ltb b a ≡ above → (eqb a b || ltb depth (degree hall a + degree hall b)) ≡ none
    → (w : List ℕ) → expanded e (by_degree neg_ℤ rest a b (member hall b) (number_of hall a b) above none) w ≡ commutator (e a) (e b) w
by_degree-expands depth hall e fuel rest ok ex terms before a b above true ha hb deep has ea en w =
    elim (or_cases (eqb a b) (ltb depth (degree hall a + degree hall b)) en) [
      | inl same ↦ sym (ap (λ (x : ℕ). commutator (e a) (e x) w) (sym (eqb-true a b same)) ∙ commutator-itself (e a) w)
      | inr more ↦ absurd (omega (arith, ltb-true depth (degree hall a + degree hall b) more))
    ]
by_degree-expands depth hall e fuel rest ok ex terms before a b true false ha hb deep has ea en w =
    let lt : b < a = ltb-true b a ea in
    let had : 2 * ((degree hall a + degree hall b) * suc (length hall) + (length hall - b)) + 2 ≤ suc fuel = has.downward lt in
    let left : HasFuel hall fuel b a = record { upward = λ l. omega (arith, had, ap (λ (k : ℕ). k * suc (length hall)) (let s : degree hall b + degree hall a ≡ degree hall a + degree hall b = omega arith in s)); downward = λ l. absurd (omega arith) } in
    expanded-neg e (rest b a) w ∙ ap neg_ℤ (before b a hb ha (omega arith) left w) ∙ sym (commutator-swapped (e a) (e b) w)
by_degree-expands depth hall e fuel rest ok ex terms before a b false false ha hb deep has ea en w =
    let parts : eqb a b ≡ false = (or_parts (eqb a b) (ltb depth (degree hall a + degree hall b)) en).0 in
    let le : a ≤ b = ltb-false b a ea in
    let ne : a ≡ b → ⊥ = eqb-false a b parts in
    by_number-expands depth hall e fuel rest ok ex terms before a b (number_of hall a b) ha hb (omega arith) deep has refl w

-- so does each bracket that had enough fuel
pub bracket_within-expands : (depth : ℕ) (hall : List Member) (e : ℕ → List ℕ → ℤ) → IsHall depth hall → Expansions hall e → (fuel : ℕ) → Before depth hall e fuel (bracket_within neg_ℤ depth hall fuel)
bracket_within-expands depth hall e ok ex zero a b ha hb deep has w =
    elim (cases_lt b a) [ inl lt ↦ absurd (omega (arith, has.downward lt)) | inr le ↦ absurd (omega (arith, has.upward le)) ]
bracket_within-expands depth hall e ok ex (suc fuel) a b ha hb deep has w =
    by_degree-expands depth hall e fuel (bracket_within neg_ℤ depth hall fuel) ok ex (bracket_within-terms depth hall neg_ℤ ok fuel) (bracket_within-expands depth hall e ok ex fuel)
    a b (ltb b a) (eqb a b || ltb depth (degree hall a + degree hall b)) ha hb deep has refl refl w

-- the bracket of two members expands to the commutator of their expansions
pub bracket-expands : (depth : ℕ) (hall : List Member) (e : ℕ → List ℕ → ℤ) → IsHall depth hall → Expansions hall e
    → (a b : ℕ) → InHall hall a → InHall hall b → degree hall a + degree hall b ≤ depth → (w : List ℕ) → expanded e (bracket depth hall a b) w ≡ commutator (e a) (e b) w
unfolding bracket
bracket-expands depth hall e ok ex a b ha hb deep w =
    let room : (degree hall a + degree hall b) * suc (length hall) ≤ depth * suc (length hall) = mul-le-mul_right (suc (length hall)) deep in
    bracket_within-expands depth hall e ok ex (enough depth hall) a b ha hb deep
    (record { upward = λ l. omega (arith, room, ha.least); downward = λ l. omega (arith, room, hb.least) }) w
