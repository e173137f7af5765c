use Rattle.std.proofs.Common.{arith, ap, ◌*◌, ℕ}
use Rattle.functionals.proofs.Rooms.{behind-bound, place-behind}
use Rattle.functionals.proofs.shuffling.place_behind.Goals as goal

pub overflow_mul-result : goal.overflow_mul-result
overflow_mul-result c =
    omega (
      arith,
      behind-bound c.args.shape c.args.start c.args.index c.args.rest.now c.requires.prefix c.requires.letters,
      ap (λ (n : ℕ). c.args.index * n) c.count.ensures,
      c.index_of-last.ensures.shape.within_words,
    )

pub overflow_add-result : goal.overflow_add-result
overflow_add-result c =
    omega (
      arith,
      behind-bound c.args.shape c.args.start c.args.index c.args.rest.now c.requires.prefix c.requires.letters,
      ap (λ (n : ℕ). c.args.index * n) c.count.ensures,
      c.index_of-last.ensures.shape.within_words,
    )

pub overflow_add-result-2 : goal.overflow_add-result-2
overflow_add-result-2 c =
    omega (
      arith,
      behind-bound c.args.shape c.args.start c.args.index c.args.rest.now c.requires.prefix c.requires.letters,
      ap (λ (n : ℕ). c.args.index * n) c.count.ensures,
      c.index_of-last.ensures.value,
      c.index_of-last.ensures.shape.within_words,
    )

pub returns-clause-value : goal.returns-clause-value
returns-clause-value c = λ p is.
    omega (
      arith,
      place-behind c.args.shape c.args.start c.args.index p c.args.rest.now is,
      ap (λ (n : ℕ). c.args.index * n) c.count.ensures,
      c.index_of-last.ensures.value,
    )

pub returns-clause-bound : goal.returns-clause-bound
returns-clause-bound c =
    omega (
      arith,
      behind-bound c.args.shape c.args.start c.args.index c.args.rest.now c.requires.prefix c.requires.letters,
      ap (λ (n : ℕ). c.args.index * n) c.count.ensures,
      c.index_of-last.ensures.value,
    )
