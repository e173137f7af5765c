use Rattle.std.proofs.Common.{◌≡◌, ◌∙◌, ◌+◌, true, false, sym}
use Rattle.session.specs.Play.{has_next}
use Rattle.session.specs.Runs.{run_of}
use Rattle.session.proofs.TurnLaws.{found-next, passed-next, none-next}
use Rattle.session.proofs.orders.first_with.Goals as goal

pub returns-then-has_next : goal.returns-then-has_next
returns-then-has_next c =
    let p = has_next c.args.script.now.extent (run_of c.args.script.now c.args.run.now.book) in
    let t : p (c.loop-before.before + 1) ≡ true = sym c.has_next.ensures ∙ c.if-has_next.true in
    sym (c.loop-before.invariant ∙ found-next p c.loop-before.before c.args.to c.loop-before-test.true t)

pub loop-before-preserved : goal.loop-before-preserved
loop-before-preserved c =
    let p = has_next c.args.script.now.extent (run_of c.args.script.now c.args.run.now.book) in
    let t : p (c.loop-before.before + 1) ≡ false = sym c.has_next.ensures ∙ c.if-has_next.false in
    c.loop-before.invariant ∙ passed-next p c.loop-before.before c.args.to c.loop-before-test.true t

pub returns : goal.returns
returns c =
    let p = has_next c.args.script.now.extent (run_of c.args.script.now c.args.run.now.book) in
    sym (c.loop-before.invariant ∙ none-next p c.loop-before.before c.args.to c.loop-before-test.false)
