use Rattle.std.proofs.Common.{◌≡◌, ◌≢◌, sym, pos, arith, string_bytes, to_z, of_z}
use Rattle.std.specs.Int.{w128}
use Rattle.std.proofs.lemmas.List.{append-nil}
use Rattle.std.proofs.lemmas.Int.{ints, to_z-of_z}
use Rattle.answers.proofs.LevelTexts.{term-shown}
use Rattle.answers.proofs.levels.push_numbered.Goals as goal

pub returns-then-value-eq0 : goal.returns-then-value-eq0
returns-then-value-eq0 c =
    let none : c.args.value ≡ pos 0 = omega (arith, ints) in
    rw none (sym (append-nil (string_bytes c.args.text.now)))

pub returns : goal.returns
returns c =
    let some : c.args.value ≢ pos 0 = omega (arith, ints) in
    let same : to_z w128 (of_z w128 c.args.value) ≡ c.args.value = to_z-of_z w128 c.args.value c.ranges.value in
    rw (← c.text.ensures) (rw (term-shown c.text.result.now c.args.value some) (rw same at c.push_term.ensures))
