-- Plans one after another, and one plan more.
use Rattle.std.proofs.Common.{◌≡◌, ◌∙◌, ℕ, ◌+◌, ◌^◌, ◌<◌, ◌≤◌, refl, sym, ap, subst, arith, List, [], ◌∷◌, ◌++◌, length, take, get_or, append_assoc, append-nil}
use Rattle.std.specs.Prelude.{sum_by}
use Rattle.std.proofs.lemmas.List.{take_more}
use Rattle.std.proofs.lemmas.List.Sums.{sum_by_more, sum_by_more_le}
use Rattle.std.proofs.lemmas.Grind.{flat_map-append}
use Rattle.definitions.specs.Words.{Extent}
use Rattle.definitions.specs.Moves.{Parts}
use Rattle.definitions.specs.Signature.{limit}
use Rattle.tensor_product.specs.Sigs.{SigValue, StandsFor}
use Rattle.solve.specs.Plans.{plan_weight, total_weight, PlanStands, PlansStand, missed, all_missed, IsUnit}
use Rattle.solve.specs.Solutions.{SolvesPlan, SolvesPlans}
use Rattle.solve.specs.declared.plan.Plan.{Plan}
use Rattle.solve.proofs.Halves.{lighter-fits}

-- what plans and one plan more stand for
PlansStand-push : (plans : List Plan) (plan : Plan) (moves : List Parts) → PlansStand (plans ++ plan ∷ []) moves
    → (a : List Parts) × (b : List Parts) × PlansStand plans a × PlanStands plan b × (moves ≡ a ++ b)
PlansStand-push [] plan moves stands = ([], stands.0, refl, stands.2, stands.4 ∙ ap (λ b. stands.0 ++ b) stands.3 ∙ append-nil stands.0)
PlansStand-push (first ∷ plans) plan moves stands =
    let rest = PlansStand-push plans plan stands.1 stands.3 in
    (stands.0 ++ rest.0, rest.1, (stands.0, rest.0, stands.2, rest.2, refl), rest.3, stands.4 ∙ ap (λ b. stands.0 ++ b) rest.4 ∙ sym (append_assoc stands.0 rest.0 rest.1))

module _ (plans : List Plan) (i : ℕ) (plan : Plan) (within : i < length plans) (at : plan ≡ get_or plans i plan) where
  one_more : take (i + 1) plans ≡ take i plans ++ plan ∷ []
  one_more = take_more plans i plan within ∙ ap (λ (p : Plan). take i plans ++ p ∷ []) (sym at)

  weight-more : total_weight (take (i + 1) plans) ≡ total_weight (take i plans) + plan_weight plan
  weight-more = sum_by_more plan_weight plans i plan within ∙ ap (λ (p : Plan). total_weight (take i plans) + plan_weight p) (sym at)

  weight-within : total_weight (take i plans) + plan_weight plan ≤ total_weight plans
  weight-within = omega (arith, sum_by_more_le plan_weight plans i plan within, ap plan_weight at)

  -- where a power of the weight of all plans is within the limit, so is that of the one at place i
  pub plan-fits : (n : ℕ) → total_weight plans ^ n ≤ limit → plan_weight plan ^ n ≤ limit
  plan-fits n = lighter-fits (plan_weight plan) (total_weight plans) n (omega (arith, weight-within))

  -- so is that of the first i plans and this one together
  pub sum-fits : (v n : ℕ) → v ≡ total_weight (take i plans) + plan_weight plan → total_weight plans ^ n ≤ limit → v ^ n ≤ limit
  sum-fits v n is = lighter-fits v (total_weight plans) n (omega (arith, weight-within, is))

  -- what the first i plans miss, then what this one misses, is what the first i + 1 miss
  pub missed-more : all_missed (take i plans) ++ missed plan ≡ all_missed (take (i + 1) plans)
  missed-more =
      sym (ap all_missed one_more ∙ flat_map-append missed (take i plans) (plan ∷ []) ∙ ap (λ last. all_missed (take i plans) ++ last) (append-nil (missed plan)))

  -- a sum over the first i + 1 plans is that over the first i, and what this one has
  pub count-more : (f : Plan → ℕ) → sum_by f (take (i + 1) plans) ≡ sum_by f (take i plans) + f plan
  count-more f = sum_by_more f plans i plan within ∙ ap (λ (p : Plan). sum_by f (take i plans) + f p) (sym at)

  -- it is at most the sum over all plans
  pub count-within : (f : Plan → ℕ) → sum_by f (take i plans) + f plan ≤ sum_by f plans
  count-within f = omega (arith, sum_by_more_le f plans i plan within, ap f at)

  -- the product of the signature of the first i plans with that of this one is that of the first i + 1
  pub solves-more : (extent : Extent) (a b sig : SigValue) → SolvesPlans extent (take i plans) a → SolvesPlan extent plan b
      → sig.tensor.extent ≡ a.tensor.extent → sig.weight ≡ a.weight + b.weight
      → ((first second : List Parts) → StandsFor a first → StandsFor b second → StandsFor sig (first ++ second))
      → SolvesPlans extent (take (i + 1) plans) sig
  solves-more extent a b sig before last same weighs joined = record {
    same_extent = same ∙ before.same_extent;
    weighs = omega (arith, weighs, before.weighs, last.weighs, weight-more);
    stands = λ moves stands.
        let split = PlansStand-push (take i plans) plan moves (subst (λ ps. PlansStand ps moves) one_more stands) in
        subst (StandsFor sig) (sym split.4) (joined split.0 split.1 (before.stands split.0 split.2) (last.stands split.1 split.3));
  }

  -- a plan without rows changes nothing
  pub solves-same : (extent : Extent) (a : SigValue) → IsUnit plan → SolvesPlans extent (take i plans) a → SolvesPlans extent (take (i + 1) plans) a
  solves-same extent a unit before = record {
    same_extent = before.same_extent;
    weighs = omega (arith, before.weighs, weight-more, ap plan_weight unit.1);
    stands = λ moves stands.
        let split = PlansStand-push (take i plans) plan moves (subst (λ ps. PlansStand ps moves) one_more stands) in
        let none : split.1 ≡ [] = subst (λ (p : Plan). PlanStands p split.1) unit.1 split.3 in
        subst (StandsFor a) (sym (split.4 ∙ ap (λ b. split.0 ++ b) none ∙ append-nil split.0)) (before.stands split.0 split.2);
  }
