use Rattle.std.proofs.Common.{◌≡◌, ◌∙◌, ℕ, ap, arith, false, [], None, length, replicate}
use Rattle.definitions.specs.Words.{Extent}
use Rattle.book.specs.Books.{BookValue}
use Rattle.session.specs.declared.run.Run.{Run}
use Rattle.session.proofs.OpeningLaws.{is_run-opening}
use Rattle.session.proofs.run.opening.Goals as goal

pub returns-clause-run : goal.returns-clause-run
returns-clause-run c =
    let count : c.loop-session._session ≡ length c.args.script.now.sessions =
    omega (arith, c.loop-session-test.false, c.loop-session.auto._session-end, ap length c.sessions-sessions.ensures.value) in
    let run : Run = record { book = c.in_ok-book.book; taken = c.loop-session.taken; solved = c.loop-session.solved; transcripts = c.loop-session.transcripts } in
    let with_parts : Extent → ℕ → BookValue = λ extent sessions. record { extent = extent; capacity = c.args.capacity; sessions = sessions; history = []; spent = false } in
    is_run-opening c.args.script.now run c.args.capacity
    (c.in_ok-book.ensures ∙ ap (λ (e : Extent). with_parts e (length c.sessions-sessions.result.now)) c.shape.ensures.value
    ∙ ap (λ (n : ℕ). with_parts c.args.script.now.extent n) (ap length c.sessions-sessions.ensures.value))
    (c.loop-session.invariant.taken ∙ ap (λ (n : ℕ). replicate n 0) count)
    (c.loop-session.invariant.solved ∙ ap (λ (n : ℕ). replicate n None) count)
    (c.loop-session.invariant.transcripts ∙ ap (λ (n : ℕ). replicate n []) count)
