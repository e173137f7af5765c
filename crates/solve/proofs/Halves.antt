-- The halves of a split: they miss fewer nodes, and fit where the split does.
use Rattle.std.proofs.Common.{◌≡◌, ◌∙◌, ap, arith, ℕ, ◌+◌, ◌^◌, ◌<◌, ◌≤◌, [], ◌∷◌, ◌++◌, length, length-append, Box, Global}
use Rattle.std.proofs.Math.Nat.{pow-le-pow_left, le_trans}
use Rattle.definitions.specs.Signature.{limit}
use Rattle.dyadic.specs.Nodes.{NodeValue}
use Rattle.solve.specs.Plans.{missed, plan_weight}
use Rattle.solve.specs.declared.plan.Plan.{Plan}
use Rattle.solve.specs.declared.plan.Plan.TheViews.{Split}

-- what is lighter fits too
pub lighter-fits : (a b n : ℕ) → a ≤ b → b ^ n ≤ limit → a ^ n ≤ limit
lighter-fits a b n h fits = le_trans (pow-le-pow_left h n) fits

module _ (plan : Plan) (node : NodeValue) (left right : Box Plan Global) (is : plan ≡ Split node left right) where
  misses : length (missed plan) ≡ length (missed left.value) + length (missed right.value) + 1
  misses =
      ap (λ (p : Plan). length (missed p)) is
      ∙ length-append (missed left.value ++ missed right.value) (Split node left right ∷ [])
      ∙ ap (λ n. n + 1) (length-append (missed left.value) (missed right.value))

  -- the left half misses fewer nodes than the split
  pub left-misses : length (missed left.value) < length (missed plan)
  left-misses = omega (arith, misses)

  -- so does the right one
  pub right-misses : length (missed right.value) < length (missed plan)
  right-misses = omega (arith, misses)

  weighs : plan_weight plan ≡ plan_weight left.value + plan_weight right.value
  weighs = ap plan_weight is

  -- where a power of the split's weight is within the limit, so is that of the left half's
  pub left-fits : (n : ℕ) → plan_weight plan ^ n ≤ limit → plan_weight left.value ^ n ≤ limit
  left-fits n = lighter-fits (plan_weight left.value) (plan_weight plan) n (omega (arith, weighs))

  -- so is that of the right half's
  pub right-fits : (n : ℕ) → plan_weight plan ^ n ≤ limit → plan_weight right.value ^ n ≤ limit
  right-fits n = lighter-fits (plan_weight right.value) (plan_weight plan) n (omega (arith, weighs))
