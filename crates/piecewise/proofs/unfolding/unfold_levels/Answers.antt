use Rattle.std.proofs.Common.{◌≤◌, ◌+◌, ◌∙◌, ap, sym, subst, arith, ℕ, ℤ, List}
use Rattle.definitions.specs.Words.{Extent, IsWord}
use Rattle.scaled_tensor.specs.Tensors.{coefficient}
use Rattle.piecewise.specs.Faults.{Unfolds, IsLevelFault}
use Rattle.piecewise.proofs.Errors.{error-kept}
use Rattle.piecewise.proofs.LevelSteps.{each-none, each-more, each-fewer, fault-at, known-none}
use Rattle.piecewise.proofs.unfolding.unfold_levels.Goals as goal

pub loop-before-init : goal.loop-before-init
loop-before-init c = record {
  known = known-none c.args.log.now.extent (coefficient c.args.log.now) c.args.weight c.in_ok-known.known (c.in_ok-known.ensures.extent ∙ c.shape.ensures.value)
      (λ word is_word. c.in_ok-known.ensures.value word (subst (λ (e : Extent). IsWord e word) (sym c.shape.ensures.value) is_word));
  levels = each-none (Unfolds c.args.log.now.extent (coefficient c.args.log.now) c.args.weight);
  within = omega arith;
}

pub loop-before-preserved : goal.loop-before-preserved
loop-before-preserved c =
    let k : ℕ = c.loop-before.before + 1 in
    let within : k ≤ c.args.log.now.extent.depth = omega (arith, c.loop-before-test.true, c.depth-before-end.ensures.value, ap (λ (e : Extent). e.depth) c.shape-2.ensures.value) in
    record {
      known = c.in_ok-unfold_level.ensures.known;
      levels = each-more (Unfolds c.args.log.now.extent (coefficient c.args.log.now) c.args.weight) k c.loop-before.invariant.levels c.in_ok-unfold_level.ensures.level;
      within = within;
    }

pub returns-in_err-unfold_level-clause-fault : goal.returns-in_err-unfold_level-clause-fault
returns-in_err-unfold_level-clause-fault c =
    let k : ℕ = c.loop-before.before + 1 in
    let extent : Extent = c.args.log.now.extent in
    let z : List ℕ → ℤ = coefficient c.args.log.now in
    let within : k ≤ extent.depth = omega (arith, c.loop-before-test.true, c.depth-before-end.ensures.value, ap (λ (e : Extent). e.depth) c.shape-2.ensures.value) in
    error-kept c.from_residual-in_err-unfold_level.result c.in_err-unfold_level.field-0.0 (IsLevelFault extent z c.args.weight) c.from_residual-in_err-unfold_level.ensures.1
    (fault-at extent z c.args.weight k c.in_err-unfold_level.field-0.0 (omega arith) within c.loop-before.invariant.levels c.in_err-unfold_level.ensures.fault)

pub returns-clause-levels : goal.returns-clause-levels
returns-clause-levels c =
    each-fewer (Unfolds c.args.log.now.extent (coefficient c.args.log.now) c.args.weight) (c.loop-before.before + 1) (c.args.log.now.extent.depth + 1)
    (omega (arith, c.loop-before-test.false, c.depth-before-end.ensures.value, ap (λ (e : Extent). e.depth) c.shape-2.ensures.value)) c.loop-before.invariant.levels
