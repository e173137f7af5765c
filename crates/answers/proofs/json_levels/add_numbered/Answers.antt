use Rattle.std.proofs.Common.{◌≡◌, ◌≢◌, pos, arith, to_z, of_z}
use Rattle.std.specs.Int.{w128}
use Rattle.std.proofs.lemmas.Int.{ints, to_z-of_z}
use Rattle.answers.proofs.JsonLevels.{value-more, term-told}
use Rattle.answers.proofs.json_levels.add_numbered.Goals as goal

pub returns : goal.returns
returns c =
    let some : c.args.value ≢ pos 0 = omega (arith, ints) in
    let same : to_z w128 (of_z w128 c.args.value) ≡ c.args.value = to_z-of_z w128 c.args.value c.ranges.value in
    rw (← c.text.ensures) (rw (term-told c.text.result.now c.args.value some)
    (value-more c.args.terms.now.items c.push.new.self.items c.in_ok-term.term _ c.in_ok-push.ensures.items (rw same at c.in_ok-term.ensures)))
