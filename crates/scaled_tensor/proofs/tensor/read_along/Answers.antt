use Rattle.std.proofs.Common.{ℕ, ◌+◌, ◌*◌, ◌-◌, ◌∙◌, ap₂, arith, rules, ℤ, pos, get_or, length, length-set, take, to_z-of_z, FitsSigned}
use mir.Syntax.{w128}
use Rattle.definitions.specs.Words.{shorter, number}
use Rattle.definitions.proofs.WordLaws.{some-words}
use Rattle.scaled_tensor.proofs.PrefixLaws.{IsNext, next, written-next}
use Rattle.scaled_tensor.proofs.tensor.read_along.Goals as goal

pub bounds-coefficients-0 : goal.bounds-coefficients-0
bounds-coefficients-0 c = omega (arith, some-words c.args.width (length c.args.word.now), c.requires.enough)

pub overflow_mul-number : goal.overflow_mul-number
overflow_mul-number c =
    let n : IsNext c.args.width c.loop-at.at c.loop-at.before c.loop-at.level c.loop-at.number (length c.args.coefficients.now) c.args.word.now =
    next _ _ _ _ _ _ _ c.requires.letters c.loop-at-test.true c.requires.enough c.loop-at.invariant.before c.loop-at.invariant.level c.loop-at.invariant.index in
    omega (arith, n.place, c.requires.few)

pub overflow_add-number : goal.overflow_add-number
overflow_add-number c =
    let n : IsNext c.args.width c.loop-at.at c.loop-at.before c.loop-at.level c.loop-at.number (length c.args.coefficients.now) c.args.word.now =
    next _ _ _ _ _ _ _ c.requires.letters c.loop-at-test.true c.requires.enough c.loop-at.invariant.before c.loop-at.invariant.level c.loop-at.invariant.index in
    omega (arith, n.place, c.requires.few)

pub overflow_add-before : goal.overflow_add-before
overflow_add-before c =
    let n : IsNext c.args.width c.loop-at.at c.loop-at.before c.loop-at.level c.loop-at.number (length c.args.coefficients.now) c.args.word.now =
    next _ _ _ _ _ _ _ c.requires.letters c.loop-at-test.true c.requires.enough c.loop-at.invariant.before c.loop-at.invariant.level c.loop-at.invariant.index in
    omega (arith, n.place, c.requires.few)

pub overflow_mul-level : goal.overflow_mul-level
overflow_mul-level c =
    let n : IsNext c.args.width c.loop-at.at c.loop-at.before c.loop-at.level c.loop-at.number (length c.args.coefficients.now) c.args.word.now =
    next _ _ _ _ _ _ _ c.requires.letters c.loop-at-test.true c.requires.enough c.loop-at.invariant.before c.loop-at.invariant.level c.loop-at.invariant.index in
    omega (arith, n.level_fits, c.requires.few)

pub overflow_add-values : goal.overflow_add-values
overflow_add-values c =
    let n : IsNext c.args.width c.loop-at.at c.loop-at.before c.loop-at.level c.loop-at.number (length c.args.coefficients.now) c.args.word.now =
    next _ _ _ _ _ _ _ c.requires.letters c.loop-at-test.true c.requires.enough c.loop-at.invariant.before c.loop-at.invariant.level c.loop-at.invariant.index in
    omega (arith, n.place, c.requires.few)

pub offset_bounds-coefficients-before : goal.offset_bounds-coefficients-before
offset_bounds-coefficients-before c =
    let n : IsNext c.args.width c.loop-at.at c.loop-at.before c.loop-at.level c.loop-at.number (length c.args.coefficients.now) c.args.word.now =
    next _ _ _ _ _ _ _ c.requires.letters c.loop-at-test.true c.requires.enough c.loop-at.invariant.before c.loop-at.invariant.level c.loop-at.invariant.index in
    omega (arith, n.place, c.requires.few)

pub bounds-coefficients-before : goal.bounds-coefficients-before
bounds-coefficients-before c =
    let n : IsNext c.args.width c.loop-at.at c.loop-at.before c.loop-at.level c.loop-at.number (length c.args.coefficients.now) c.args.word.now =
    next _ _ _ _ _ _ _ c.requires.letters c.loop-at-test.true c.requires.enough c.loop-at.invariant.before c.loop-at.invariant.level c.loop-at.invariant.index in
    n.place

pub loop-at-preserved : goal.loop-at-preserved
loop-at-preserved c =
    let n : IsNext c.args.width c.loop-at.at c.loop-at.before c.loop-at.level c.loop-at.number (length c.args.coefficients.now) c.args.word.now =
    next _ _ _ _ _ _ _ c.requires.letters c.loop-at-test.true c.requires.enough c.loop-at.invariant.before c.loop-at.invariant.level c.loop-at.invariant.index in
    let fits : FitsSigned w128 (get_or c.args.coefficients.now (c.loop-at.before + c.loop-at.level + (c.loop-at.number * c.args.width + (get_or c.args.word.now c.loop-at.at 0 - 1))) (pos 0)) = search rules in
    record {
      before = n.next_before;
      level = n.next_level;
      index = n.next_index;
      read = written-next c.loop-at.values _ c.loop-at.at (λ i. get_or c.args.coefficients.now (shorter c.args.width i + number c.args.width (take i c.args.word.now)) (pos 0))
          (omega (arith, c.loop-at.auto.values, length-set {A = ℤ}, c.requires.room, c.loop-at-test.true))
          c.loop-at.invariant.read
          (to_z-of_z fits ∙ ap₂ (λ (a b : ℕ). get_or c.args.coefficients.now (a + b) (pos 0)) n.next_before n.next_index);
    }
