use Rattle.std.proofs.Common.{◌≡◌, ◌++◌, List, take, string_bytes}
use Rattle.session.specs.Play.{Due}
use Rattle.session.specs.Answers.{ShowsEach}
use Rattle.answers.specs.Text.{answers_text}
use Rattle.answers.proofs.text.push_answers.Given as goal

abbrev pub invariant-loop-before : goal.invariant-loop-before
invariant-loop-before l =
    (dues : List Due) → ShowsEach l.hall (take l.before l.answers) dues → string_bytes l.text ≡ string_bytes l.initial.text ++ answers_text l.hall 1 dues
