use Rattle.std.proofs.Common.{◌≡◌, ◌<◌, ◌≤◌, ◌^◌, ◌-◌, suc, ℕ, subst, arith, length}
use Rattle.definitions.specs.Signature.{limit}
use Rattle.scaled_tensor.specs.Tensors.{coefficient}
use Rattle.tensor_product.specs.Multiplication.{JoinsAt}
use Rattle.tensor_product.proofs.LevelLaws.{fewer-words}
use Rattle.tensor_product.proofs.JoinLaws.{room-shorter, levels-step, levels-all}
use Rattle.tensor_product.proofs.multiply.join_levels.Goals as goal

pub join_level-requires-clause-scaled : goal.join_level-requires-clause-scaled
join_level-requires-clause-scaled c =
    let fewer : c.args.a.now.extent.width ^ (c.wide.k - 1) ≤ c.args.a.now.extent.width ^ (c.args.a.now.extent.depth - 1) =
    fewer-words c.args.a.now.extent.width (c.wide.k - 1) (c.args.a.now.extent.depth - 1) c.requires.shape.some_width (omega (arith, c.wide.invariant.within)) in
    rw c.wide.invariant.progress.same_extent (omega (arith, fewer, c.requires.scaled, c.wide.auto.scaled))

pub join_level-requires-clause-room : goal.join_level-requires-clause-room
join_level-requires-clause-room c =
    room-shorter limit c.wide.k (coefficient c.args.b.now) c.args.a.now c.wide.a c.wide.invariant.progress (λ word is_word few. c.requires.room word is_word)

pub wide-preserved : goal.wide-preserved
wide-preserved c =
    let one_less : suc (c.wide.k - 1) ≡ c.wide.k = omega arith in
    record {
      within = omega (arith, c.wide.invariant.within);
      above = omega arith;
      progress = levels-step c.wide.k (c.wide.k - 1) (coefficient c.args.b.now) c.args.a.now c.wide.a c.join_level.new.a one_less c.wide.invariant.progress c.join_level.ensures;
    }

pub join_level-requires-in-short-clause-scaled : goal.join_level-requires-in-short-clause-scaled
join_level-requires-in-short-clause-scaled c =
    let fewer : c.args.a.now.extent.width ^ (c.short.k - 1) ≤ c.args.a.now.extent.width ^ (c.args.a.now.extent.depth - 1) =
    fewer-words c.args.a.now.extent.width (c.short.k - 1) (c.args.a.now.extent.depth - 1) c.requires.shape.some_width (omega (arith, c.short.invariant.within, c.requires.narrow)) in
    rw c.short.invariant.progress.same_extent (omega (arith, fewer, c.requires.scaled, c.short.auto.scaled, c.wide.auto.scaled))

pub join_level-requires-in-short-clause-room : goal.join_level-requires-in-short-clause-room
join_level-requires-in-short-clause-room c =
    room-shorter (2 ^ 63 - 1) c.short.k (coefficient c.args.b.now) c.args.a.now c.short.a c.short.invariant.progress (λ word is_word few. c.requires.short word is_word (omega (arith, few, c.short.invariant.within)))

pub short-preserved : goal.short-preserved
short-preserved c =
    let one_less : suc (c.short.k - 1) ≡ c.short.k = omega arith in
    record {
      within = omega (arith, c.short.invariant.within);
      progress = levels-step c.short.k (c.short.k - 1) (coefficient c.args.b.now) c.args.a.now c.short.a c.join_level-in-short.new.a one_less c.short.invariant.progress c.join_level-in-short.ensures;
    }

pub returns : goal.returns
returns c =
    let none : c.short.k ≡ 0 = omega arith in
    levels-all c.args.b.now c.args.a.now c.short.a c.requires.starts
    (subst (λ (n : ℕ). JoinsAt (λ w. n < length w) (coefficient c.args.b.now) c.args.a.now c.short.a) none c.short.invariant.progress)
