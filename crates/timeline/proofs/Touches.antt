-- Which versions touch an interval.
use Rattle.std.proofs.Common.{ap, ◌≡◌, ◌∙◌, ℕ, zero, suc, ◌+◌, ◌*◌, ◌<◌, ◌≤◌, ◌^◌, ◌⊎◌, inl, inr, List, get_or, refl, sym, arith, cond, ◌-◌, subst, length}
use Rattle.std.specs.Prelude.{map}
use Rattle.std.proofs.lemmas.Bool.{cases_Bool}
use Rattle.std.proofs.lemmas.Bool.Decides.{nat_tests}
use Rattle.std.proofs.lemmas.List.{get_or-map}
use Rattle.definitions.specs.Rows.{lies_in}
use Rattle.timeline.specs.Keys.{tick_of}
use Rattle.timeline.specs.Moments.{since, IsFirstAfter}
use Rattle.timeline.specs.Puts.{Keeps}

-- the last version up to v that touches [a, b) stays the same when the list of what is touched grows
pub since-kept : (a b : ℕ) (xs ys : List ℕ) (v : ℕ) → Keeps 0 xs ys → v ≤ length xs → since a b ys v ≡ since a b xs v
unfolding since
since-kept a b xs ys zero k h = refl
since-kept a b xs ys (suc v) k h =
    let key : get_or ys v 0 ≡ get_or xs v 0 = k.same v (omega arith) in
    let rest = since-kept a b xs ys v k (omega arith) in
    ap (λ (t : ℕ). cond (lies_in a b t) (suc v) (since a b ys v)) key ∙ ap (λ (s : ℕ). cond (lies_in a b (get_or xs v 0)) (suc v) s) rest

-- up to version 0 none touches [a, b)
pub since-none : (a b : ℕ) (touched : List ℕ) → since a b touched 0 ≡ 0
unfolding since
since-none a b touched = refl

-- the last version up to v + 1 that touches [a, b) is v + 1 if that one does, else the last one up to v
pub since-next : (a b : ℕ) (touched : List ℕ) (v : ℕ) → since a b touched (suc v) ≡ cond (lies_in a b (get_or touched v 0)) (suc v) (since a b touched v)
unfolding since
since-next a b touched v = refl

-- a key is in an interval of keys where its tick is in that of their ticks
tick-in : (a b k : ℕ) → lies_in (a * 2 ^ 31 + 0) (b * 2 ^ 31 + 0) k ≡ lies_in a b (tick_of k)
tick-in a b k = grind (arith, nat_tests)

-- the last version that touches the keys of the ticks in [a, b) is the last one whose tick is in [a, b)
pub since-ticks : (a b : ℕ) (keys : List ℕ) (v : ℕ) → v ≤ length keys → since (a * 2 ^ 31 + 0) (b * 2 ^ 31 + 0) keys v ≡ since a b (map tick_of keys) v
unfolding since
since-ticks a b keys zero h = refl
since-ticks a b keys (suc v) h =
    let tick : get_or (map tick_of keys) v 0 ≡ tick_of (get_or keys v 0) = get_or-map tick_of keys v 0 0 (omega arith) in
    ap (λ t. cond t (suc v) (since (a * 2 ^ 31 + 0) (b * 2 ^ 31 + 0) keys v)) (tick-in a b (get_or keys v 0) ∙ sym (ap (lies_in a b) tick))
    ∙ ap (λ (s : ℕ). cond (lies_in a b (get_or (map tick_of keys) v 0)) (suc v) s) (since-ticks a b keys v (omega arith))

-- ---- the first version that touches an interval
le-step : (a b t v x : ℕ) → x ≤ v → cond (lies_in a b t) (suc v) x ≤ suc v
le-step a b t v x h = grind (arith, nat_tests)

-- the last version up to v that touches [a, b) is at most v
pub since-le : (a b : ℕ) (touched : List ℕ) (v : ℕ) → since a b touched v ≤ v
unfolding since
since-le a b touched zero = omega arith
since-le a b touched (suc v) = le-step a b (get_or touched v 0) v (since a b touched v) (since-le a b touched v)

step-cases : (a b t v x : ℕ) → x ≤ v → (cond (lies_in a b t) (suc v) x ≡ suc v) ⊎ (cond (lies_in a b t) (suc v) x ≡ x)
step-cases a b t v x h = elim (cases_Bool (lies_in a b t)) [ inl e ↦ inl (ap (λ c. cond c (suc v) x) e) | inr e ↦ inr (ap (λ c. cond c (suc v) x) e) ]

since-step : (a b : ℕ) (touched : List ℕ) (v : ℕ) → (since a b touched (suc v) ≡ suc v) ⊎ (since a b touched (suc v) ≡ since a b touched v)
unfolding since
since-step a b touched v = step-cases a b (get_or touched v 0) v (since a b touched v) (since-le a b touched v)

first-suc : (a b : ℕ) (touched : List ℕ) (v u : ℕ) → v ≤ u → suc u ≤ length touched → since a b touched u ≤ v → v < since a b touched (suc u) → IsFirstAfter a b touched v (suc u)
first-suc a b touched v u h within before after =
    let e : suc u - 1 ≡ u = omega arith in
    record {
      later = omega (arith, h);
      within = within;
      touches = elim (since-step a b touched u) [ inl e ↦ e | inr e ↦ absurd (omega (arith, e, before, after)) ];
      first = subst (λ (n : ℕ). since a b touched n ≤ v) (sym e) before;
    }

-- if none after v and up to u touches [a, b), but u + 1 does, this is the first one after v that does
pub first-after : (a b : ℕ) (touched : List ℕ) (v u t : ℕ) → v ≤ u → t ≡ suc u → t ≤ length touched → since a b touched u ≤ v → v < since a b touched t → IsFirstAfter a b touched v t
first-after a b touched v u t h e within before after =
    subst (λ (n : ℕ). IsFirstAfter a b touched v n) (sym e)
    (first-suc a b touched v u h (omega (arith, e, within)) before (subst (λ (n : ℕ). v < since a b touched n) e after))
