use Rattle.std.proofs.Common.{◌≡◌, ◌++◌, List, take, string_bytes}
use Rattle.session.specs.Play.{Due}
use Rattle.session.specs.Answers.{ShowsAll}
use Rattle.answers.specs.Text.{sessions_text}
use Rattle.answers.proofs.text.push_sessions.Given as goal

abbrev pub invariant-loop-before : goal.invariant-loop-before
invariant-loop-before l =
    (sessions : List (List Due)) → ShowsAll l.hall (take l.before l.transcripts) sessions → string_bytes l.text ≡ string_bytes l.initial.text ++ sessions_text l.hall 1 sessions
