-- The degrees of a bracket's terms.
use Rattle.std.proofs.Common.{◌≡◌, ℕ, zero, suc, ◌+◌, refl, ap, ◌∙◌, subst, arith, ℤ, pos, neg_ℤ, ◌*ℤ◌, List, [], ◌∷◌, eqb, ltb}
use Rattle.std.specs.Prelude.{All, Bool, true, false, ◌||◌}
use Rattle.std.proofs.lemmas.List.Elements.{All-nil, All-cons, All-head, All-tail, All-append}
use Rattle.definitions.specs.Hall.{InHall, member, degree, degree_of, number_of}
use Rattle.definitions.specs.declared.member.Member.{Member}
use Rattle.definitions.specs.declared.member.Member.TheVariants.{Letter, Pair}
use Rattle.hall_set.proofs.GrownLists.{IsPairOf, IsHall}
use Rattle.hall_set.proofs.Numbers.{IsFound, number_of-found}
use Rattle.lie_bracket.specs.declared.term.Term.{Term}
use Rattle.lie_bracket.specs.Brackets.{term, scaled, over_terms, by_parents, by_number, by_degree, bracket_within, enough, bracket}

-- a term of a member of degree n
pub record IsTermOf (hall : List Member) (n : ℕ) (t : Term) : Type 0 where
  -- its number is that of a member
  pub inside : InHall hall t.number
  -- which has this degree
  pub degree_is : degree hall t.number ≡ n

-- other factors change no degree
pub terms-scaled : (hall : List Member) (n : ℕ) (f : ℤ → ℤ) (xs : List Term) → All (IsTermOf hall n) xs → All (IsTermOf hall n) (scaled f xs)
terms-scaled hall n f [] h = All-nil (IsTermOf hall n)
terms-scaled hall n f (t ∷ xs) h =
    let first : IsTermOf hall n t = All-head (IsTermOf hall n) t xs h in
    All-cons (IsTermOf hall n) (term (f t.factor) t.number) (scaled f xs) (record { inside = first.inside; degree_is = first.degree_is })
    (terms-scaled hall n f xs (All-tail (IsTermOf hall n) t xs h))

-- the terms of a sum over members of degree m have degree n where each summand's have
pub terms-over : (hall : List Member) (m n : ℕ) (f : ℕ → List Term) (xs : List Term) → All (IsTermOf hall m) xs
    → ((c : ℕ) → InHall hall c → degree hall c ≡ m → All (IsTermOf hall n) (f c)) → All (IsTermOf hall n) (over_terms xs f)
terms-over hall m n f [] h ok = All-nil (IsTermOf hall n)
terms-over hall m n f (t ∷ xs) h ok =
    let first : IsTermOf hall m t = All-head (IsTermOf hall m) t xs h in
    All-append (IsTermOf hall n) (scaled (λ k. t.factor *ℤ k) (f t.number)) (over_terms xs f)
    (terms-scaled hall n (λ k. t.factor *ℤ k) (f t.number) (ok t.number first.inside first.degree_is))
    (terms-over hall m n f xs (All-tail (IsTermOf hall m) t xs h) ok)

-- what is known of brackets with less fuel
abbrev pub Homogeneous : List Member → (ℕ → ℕ → List Term) → Type 0
Homogeneous hall rest = (a b : ℕ) → InHall hall a → InHall hall b → All (IsTermOf hall (degree hall a + degree hall b)) (rest a b)

by_parents-terms : (depth : ℕ) (hall : List Member) (minus : ℤ → ℤ) (rest : ℕ → ℕ → List Term) → IsHall depth hall → Homogeneous hall rest
    → (a b : ℕ) (m : Member) → InHall hall a → InHall hall b → member hall b ≡ m → All (IsTermOf hall (degree hall a + degree hall b)) (by_parents minus rest a m)
by_parents-terms depth hall minus rest ok before a b Letter ha hb e = All-nil (IsTermOf hall (degree hall a + degree hall b))
by_parents-terms depth hall minus rest ok before a b (Pair n l r) ha hb e =
    let p : IsPairOf hall b n l r = ok.pairs b n l r hb e in
    let d : degree hall b ≡ degree hall l + degree hall r = ap degree_of e ∙ p.sum in
    let left : (c : ℕ) → InHall hall c → degree hall c ≡ degree hall a + degree hall l → All (IsTermOf hall (degree hall a + degree hall b)) (rest c r) =
    λ c hc dc. subst (λ (k : ℕ). All (IsTermOf hall k) (rest c r)) (let s : degree hall c + degree hall r ≡ degree hall a + degree hall b = omega arith in s) (before c r hc p.right_in) in
    let right : (c : ℕ) → InHall hall c → degree hall c ≡ degree hall a + degree hall r → All (IsTermOf hall (degree hall a + degree hall b)) (rest c l) =
    λ c hc dc. subst (λ (k : ℕ). All (IsTermOf hall k) (rest c l)) (let s : degree hall c + degree hall l ≡ degree hall a + degree hall b = omega arith in s) (before c l hc p.left_in) in
    All-append (IsTermOf hall (degree hall a + degree hall b)) (over_terms (rest a l) (λ c. rest c r)) (scaled minus (over_terms (rest a r) (λ c. rest c l)))
    (terms-over hall (degree hall a + degree hall l) (degree hall a + degree hall b) (λ c. rest c r) (rest a l) (before a l ha p.left_in) left)
    (terms-scaled hall (degree hall a + degree hall b) minus (over_terms (rest a r) (λ c. rest c l))
    (terms-over hall (degree hall a + degree hall r) (degree hall a + degree hall b) (λ c. rest c l) (rest a r) (before a r ha p.right_in) right))

by_number-terms : (depth : ℕ) (hall : List Member) (minus : ℤ → ℤ) (rest : ℕ → ℕ → List Term) → IsHall depth hall → Homogeneous hall rest
    → (a b n : ℕ) → InHall hall a → InHall hall b → number_of hall a b ≡ n → All (IsTermOf hall (degree hall a + degree hall b)) (by_number minus rest a (member hall b) n)
by_number-terms depth hall minus rest ok before a b zero ha hb e = by_parents-terms depth hall minus rest ok before a b (member hall b) ha hb refl
by_number-terms depth hall minus rest ok before a b (suc n) ha hb e =
    let f : IsFound hall a b (suc n) = number_of-found hall a b n e in
    let p : IsPairOf hall (suc n) f.of_degree a b = ok.pairs (suc n) f.of_degree a b f.inside f.is in
    All-cons (IsTermOf hall (degree hall a + degree hall b)) (term (pos 1) (suc n)) [] (record { inside = f.inside; degree_is = ap degree_of f.is ∙ p.sum }) (All-nil (IsTermOf hall (degree hall a + degree hall b)))

by_degree-terms : (depth : ℕ) (hall : List Member) (minus : ℤ → ℤ) (rest : ℕ → ℕ → List Term) → IsHall depth hall → Homogeneous hall rest
    → (a b : ℕ) (above none : Bool) → InHall hall a → InHall hall b → All (IsTermOf hall (degree hall a + degree hall b)) (by_degree minus rest a b (member hall b) (number_of hall a b) above none)
by_degree-terms depth hall minus rest ok before a b above true ha hb = All-nil (IsTermOf hall (degree hall a + degree hall b))
by_degree-terms depth hall minus rest ok before a b true false ha hb =
    terms-scaled hall (degree hall a + degree hall b) minus (rest b a)
    (subst (λ (k : ℕ). All (IsTermOf hall k) (rest b a)) (let s : degree hall b + degree hall a ≡ degree hall a + degree hall b = omega arith in s) (before b a hb ha))
by_degree-terms depth hall minus rest ok before a b false false ha hb = by_number-terms depth hall minus rest ok before a b (number_of hall a b) ha hb refl

-- the terms of a bracket have the degree of both members together, with whatever fuel
pub bracket_within-terms : (depth : ℕ) (hall : List Member) (minus : ℤ → ℤ) → IsHall depth hall → (fuel : ℕ) → Homogeneous hall (bracket_within minus depth hall fuel)
bracket_within-terms depth hall minus ok zero a b ha hb = All-nil (IsTermOf hall (degree hall a + degree hall b))
bracket_within-terms depth hall minus ok (suc fuel) a b ha hb =
    by_degree-terms depth hall minus (bracket_within minus depth hall fuel) ok (bracket_within-terms depth hall minus ok fuel) a b (ltb b a) (eqb a b || ltb depth (degree hall a + degree hall b)) ha hb

-- the terms of the bracket of a and b are members of the degree of a and b together
pub bracket-terms : (depth : ℕ) (hall : List Member) → IsHall depth hall → (a b : ℕ) → InHall hall a → InHall hall b → All (IsTermOf hall (degree hall a + degree hall b)) (bracket depth hall a b)
unfolding bracket
bracket-terms depth hall ok a b ha hb = bracket_within-terms depth hall neg_ℤ ok (enough depth hall) a b ha hb
