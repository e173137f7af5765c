use Rattle.std.proofs.Common.{◌≡◌, ◌∙◌, ℕ, ◌-◌, arith, sym, ap, inl, inr, List, [], length}
use Rattle.std.specs.Prelude.{nat_lt, slice_index_or}
use Rattle.std.proofs.lemmas.List.{get_or_read}
use Rattle.script_reader.specs.declared.command.Command.{Command}
use Rattle.book.specs.Books.{IsSession}
use Rattle.session.specs.Play.{of_session}
use Rattle.session.proofs.NextLaws.{has_next-none, has_next-left}
use Rattle.session.proofs.run.has_next.Goals as goal
use Rattle.session.proofs.run.has_next.Goals.{then-session-lt1-via-then-session-lt1, then-session-lt1-via-else-session-lt1+then-session-sessions}

pub returns-then-session-lt1 : goal.returns-then-session-lt1
returns-then-session-lt1 c =
    elim c.then-session-lt1.branch [
      | then-session-lt1-via-then-session-lt1 w ↦ sym (has_next-none c.args.script.now c.args.run.now c.args.session c.requires (inl (omega arith)))
      | then-session-lt1-via-else-session-lt1+then-session-sessions w ↦
          sym (has_next-none c.args.script.now c.args.run.now c.args.session c.requires (inr (omega (arith, ap length c.sessions-sessions.ensures.value))))
    ]

pub returns-else-pending : goal.returns-else-pending
returns-else-pending c =
    let count = ap length c.sessions-sessions.ensures.value in
    let here : IsSession (length c.args.script.now.sessions) c.args.session = record { some = omega arith; within = omega arith } in
    let taken = get_or_read c.args.run.now.taken.items (c.args.session - 1) c.index.result.now (omega (arith, c.requires.taken)) c.index.ensures 0 in
    let commands : c.list.result.now ≡ of_session c.args.session c.args.script.now.sessions =
    c.list.ensures
    ∙ get_or_read c.sessions-sessions.result.now (c.args.session - 1) c.index-sessions-at.result (omega arith) c.index-sessions-at.is []
    ∙ ap (of_session c.args.session) c.sessions-sessions.ensures.value in
    ap (λ (n : ℕ). nat_lt n (length c.list.result.now)) taken
    ∙ ap (λ (xs : List Command). nat_lt (slice_index_or c.args.run.now.taken.items (c.args.session - 1) 0) (length xs)) commands
    ∙ sym (has_next-left c.args.script.now c.args.run.now c.args.session c.requires here (sym c.pending.ensures ∙ c.if-pending.false))
