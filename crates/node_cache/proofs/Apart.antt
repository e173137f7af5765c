-- No pair stands twice in the list of entries, before and after a call.
use Rattle.std.proofs.Common.{◌≡◌, ◌∙◌, ℕ, zero, suc, ◌<◌, ◌≤◌, arith, refl, sym, ap, subst, List, [], ◌∷◌, length, take, None, Some, Bool, true, false, cond, not, inl, inr}
use Rattle.std.specs.Prelude.{filter}
use Rattle.std.specs.List.{IsDistinct, AllByRecursion}
use Rattle.std.proofs.lemmas.Bool.{cases_Bool}
use Rattle.std.proofs.lemmas.Bool.Decides.{nat_tests}
use Rattle.dyadic.specs.Nodes.{NodeValue}
use Rattle.node_cache.specs.Entries.{Entry, is_of, are_of_one_pair, entry_of, without_pair}

-- an entry is of the pair that it tells
pub is_of-same : (node : NodeValue) (since : ℕ) (e : Entry) → is_of node since e ≡ true → (node ≡ e.node) × (since ≡ e.since)
is_of-same node since e h = grind (arith, nat_tests)

-- an entry that is of the pair is of one pair with the entries that are
pub is_of-along : (node : NodeValue) (since : ℕ) (e f : Entry) → is_of node since e ≡ true → is_of node since f ≡ are_of_one_pair e f
is_of-along node since e f h =
    let same = is_of-same node since e h in
    ap (λ (n : NodeValue). is_of n since f) same.0 ∙ ap (λ (s : ℕ). is_of e.node s f) same.1

AllByRecursion-filter : (P : Entry → Type 0) (p : Entry → Bool) (es : List Entry) → AllByRecursion P es → AllByRecursion P (filter p es)
AllByRecursion-filter P p [] all = all
AllByRecursion-filter P p (e ∷ es) all =
    elim (p e) as (λ b. AllByRecursion P (cond b (e ∷ filter p es) (filter p es))) [
      | true ↦ (all.0, AllByRecursion-filter P p es all.1)
      | false ↦ AllByRecursion-filter P p es all.1
    ]

AllByRecursion-take : (P : Entry → Type 0) (n : ℕ) (es : List Entry) → AllByRecursion P es → AllByRecursion P (take n es)
AllByRecursion-take P zero es all = tt
AllByRecursion-take P (suc n) [] all = tt
AllByRecursion-take P (suc n) (e ∷ es) all = (all.0, AllByRecursion-take P n es all.1)

apart-filter : (p : Entry → Bool) (es : List Entry) → IsDistinct are_of_one_pair es → IsDistinct are_of_one_pair (filter p es)
unfolding IsDistinct
apart-filter p [] apart = tt
apart-filter p (e ∷ es) apart =
    elim (p e) as (λ b. IsDistinct are_of_one_pair (cond b (e ∷ filter p es) (filter p es))) [
      | true ↦ (AllByRecursion-filter (λ f. are_of_one_pair e f ≡ false) p es apart.0, apart-filter p es apart.1)
      | false ↦ apart-filter p es apart.1
    ]

-- entries of distinct pairs, cut short
pub apart-take : (n : ℕ) (es : List Entry) → IsDistinct are_of_one_pair es → IsDistinct are_of_one_pair (take n es)
unfolding IsDistinct
apart-take zero es apart = tt
apart-take (suc n) [] apart = tt
apart-take (suc n) (e ∷ es) apart = (AllByRecursion-take (λ f. are_of_one_pair e f ≡ false) n es apart.0, apart-take n es apart.1)

-- entries of distinct pairs, one taken out
pub apart-without : (node : NodeValue) (since : ℕ) (es : List Entry) → IsDistinct are_of_one_pair es → IsDistinct are_of_one_pair (without_pair node since es)
apart-without node since es apart = apart-filter (λ e. not (is_of node since e)) es apart

-- no other entry is of the pair
none_without : (node : NodeValue) (since : ℕ) (es : List Entry) → AllByRecursion (λ f. is_of node since f ≡ false) (without_pair node since es)
none_without node since [] = tt
none_without node since (e ∷ es) =
    elim (cases_Bool (is_of node since e)) [
      | inl here ↦ subst (λ b. AllByRecursion (λ f. is_of node since f ≡ false) (cond (not b) (e ∷ without_pair node since es) (without_pair node since es))) (sym here) (none_without node since es)
      | inr other ↦ subst (λ b. AllByRecursion (λ f. is_of node since f ≡ false) (cond (not b) (e ∷ without_pair node since es) (without_pair node since es))) (sym other) (other, none_without node since es)
    ]

AllByRecursion-map : (P Q : Entry → Type 0) → ((e : Entry) → P e → Q e) → (es : List Entry) → AllByRecursion P es → AllByRecursion Q es
AllByRecursion-map P Q f [] all = tt
AllByRecursion-map P Q f (e ∷ es) all = (f e all.0, AllByRecursion-map P Q f es all.1)

-- an entry of the pair may go to the front of the others
pub apart-front : (node : NodeValue) (since : ℕ) (e : Entry) (es : List Entry) → is_of node since e ≡ true → IsDistinct are_of_one_pair es → IsDistinct are_of_one_pair (e ∷ without_pair node since es)
unfolding IsDistinct
apart-front node since e es here apart = (
  AllByRecursion-map (λ f. is_of node since f ≡ false) (λ f. are_of_one_pair e f ≡ false) (λ f other. sym (is_of-along node since e f here) ∙ other) (without_pair node since es) (none_without node since es),
  apart-without node since es apart,
)

-- where no entry is of the pair, the others are all
pub without-none : (node : NodeValue) (since : ℕ) (es : List Entry) → AllByRecursion (λ f. is_of node since f ≡ false) es → without_pair node since es ≡ es
without-none node since [] none = refl
without-none node since (e ∷ es) none =
    ap (λ b. cond (not b) (e ∷ without_pair node since es) (without_pair node since es)) none.0 ∙ ap (λ fs. e ∷ fs) (without-none node since es none.1)

-- no more entries than before
pub length-without : (node : NodeValue) (since : ℕ) (es : List Entry) → length (without_pair node since es) ≤ length es
length-without node since [] = omega arith
length-without node since (e ∷ es) =
    elim (is_of node since e) as (λ b. length (cond (not b) (e ∷ without_pair node since es) (without_pair node since es)) ≤ length (e ∷ es)) [
      | true ↦ omega (arith, length-without node since es)
      | false ↦ omega (arith, length-without node since es)
    ]

-- the entry of the pair is one of the list, and not one of the others
pub entry_of-found : (node : NodeValue) (since : ℕ) (es : List Entry) (e : Entry) → entry_of node since es ≡ Some e → (is_of node since e ≡ true) × (length (without_pair node since es) < length es)
entry_of-found node since [] e h = cc
entry_of-found node since (f ∷ es) e h =
    elim (cases_Bool (is_of node since f)) [
      | inl here ↦ (
          let same : f ≡ e = (let k : Some f ≡ Some e = sym (ap (λ b. cond b (Some f) (entry_of node since es)) here) ∙ h in cc) in (
            subst (λ x. is_of node since x ≡ true) same here,
            subst (λ b. length (cond (not b) (f ∷ without_pair node since es) (without_pair node since es)) < length (f ∷ es)) (sym here) (omega (arith, length-without node since es)),
          ))
      | inr other ↦ (
          let rest = entry_of-found node since es e (sym (ap (λ b. cond b (Some f) (entry_of node since es)) other) ∙ h) in
          (rest.0, subst (λ b. length (cond (not b) (f ∷ without_pair node since es) (without_pair node since es)) < length (f ∷ es)) (sym other) (omega (arith, rest.1))))
    ]

-- nothing goes where the pair isn't there
pub entry_of-none : (node : NodeValue) (since : ℕ) (es : List Entry) → entry_of node since es ≡ None → without_pair node since es ≡ es
entry_of-none node since [] none = refl
entry_of-none node since (f ∷ es) none =
    elim (cases_Bool (is_of node since f)) [
      | inl here ↦ (let k : Some f ≡ None = sym (ap (λ b. cond b (Some f) (entry_of node since es)) here) ∙ none in absurd (cc))
      | inr other ↦
          ap (λ b. cond (not b) (f ∷ without_pair node since es) (without_pair node since es)) other
          ∙ ap (λ fs. f ∷ fs) (entry_of-none node since es (sym (ap (λ b. cond b (Some f) (entry_of node since es)) other) ∙ none))
    ]
