use Rattle.std.proofs.Common.{◌≡◌, ◌∙◌, ℕ, ◌≤◌, arith, length, drop, ap, sym}
use Rattle.std.specs.List.{find}
use Rattle.definitions.specs.Words.{up_to}
use Rattle.session.specs.Play.{has_next}
use Rattle.session.specs.Runs.{run_of}
use Rattle.session.proofs.TurnLaws.{turn-later, turn-earlier}
use Rattle.session.proofs.orders.next_turn.Goals as goal

pub returns-then-is_some : goal.returns-then-is_some
returns-then-is_some c =
    let run = run_of c.args.script.now c.args.run.now.book in
    let p = has_next c.args.script.now.extent run in
    let same : length c.sessions.result.now ≡ length run.left = ap length c.sessions.ensures.value ∙ sym c.requires.run.left_of in
    turn-later p c.args.last (length run.left) c.first_with-later.result
    (c.first_with-later.ensures ∙ ap (λ (n : ℕ). find p (drop c.args.last (up_to n))) same)
    (sym c.is_some.ensures ∙ c.if-is_some.true)

pub returns : goal.returns
returns c =
    let run = run_of c.args.script.now c.args.run.now.book in
    let p = has_next c.args.script.now.extent run in
    let same : length c.sessions.result.now ≡ length run.left = ap length c.sessions.ensures.value ∙ sym c.requires.run.left_of in
    let within : c.args.last ≤ length run.left = omega (arith, c.requires.last, c.requires.run.left_of) in
    turn-earlier p c.args.last (length run.left) c.first_with-later.result c.first_with.result within
    (c.first_with-later.ensures ∙ ap (λ (n : ℕ). find p (drop c.args.last (up_to n))) same)
    (sym c.is_some.ensures ∙ c.if-is_some.false)
    c.first_with.ensures
