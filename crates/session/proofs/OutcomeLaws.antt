-- What the transcripts of a run show.
use Rattle.std.proofs.Common.{◌≡◌, ◌∙◌, ℕ, suc, ◌+◌, ◌-◌, ◌<◌, List, [], ◌∷◌, length, get_or, sym, subst, arith}
use Rattle.std.specs.Prelude.{All}
use Rattle.std.proofs.lemmas.List.Elements.{All-from_get_or}
use Rattle.definitions.specs.Words.{Extent}
use Rattle.script_reader.specs.Script.{ScriptValue}
use Rattle.session.specs.declared.answer.Answer.{Answer}
use Rattle.session.specs.declared.run.Run.{Run as TheRun}
use Rattle.session.specs.Play.{Due}
use Rattle.session.specs.Answers.{ShowsEach, ShowsAll, HasMembers}
use Rattle.session.specs.Runs.{IsRun, IsAt, IsTold, run_of}

-- each list shows what is due in its place
pub shows-all : (extent : Extent) (transcripts : List (List Answer)) (dues : List (List Due)) → length transcripts ≡ length dues
    → ((i : ℕ) → i < length transcripts → ShowsEach extent (get_or transcripts i []) (get_or dues i []))
    → ShowsAll extent transcripts dues
shows-all extent [] [] e each = tt
shows-all extent [] (due ∷ dues) e each = absurd (omega arith)
shows-all extent (transcript ∷ transcripts) [] e each = absurd (omega arith)
shows-all extent (transcript ∷ transcripts) (due ∷ dues) e each =
    (each 0 (omega arith), shows-all extent transcripts dues (omega arith) (λ i h. each (suc i) (omega arith)))

module _ (script : ScriptValue) (run : TheRun) (is_run : IsRun script run) where
  -- what is kept of the session in this place
  at-place : (i : ℕ) → i < length run.transcripts.items → IsAt script run (i + 1)
  at-place i h = is_run.each (i + 1) (record { some = omega arith; within = omega (arith, is_run.transcripts) })

  run-shows : ShowsAll script.extent run.transcripts.items (run_of script run.book).transcripts
  run-shows =
      shows-all script.extent run.transcripts.items (run_of script run.book).transcripts (is_run.transcripts ∙ sym is_run.answers)
      (λ i h.
      let place : (i + 1) - 1 ≡ i = omega arith in
      subst (λ (j : ℕ). ShowsEach script.extent (get_or run.transcripts.items j []) (get_or (run_of script run.book).transcripts j [])) place (at-place i h).shows)

  run-members : All (All (HasMembers script.extent)) run.transcripts.items
  run-members =
      All-from_get_or (All (HasMembers script.extent)) run.transcripts.items []
      (λ i h.
      let place : (i + 1) - 1 ≡ i = omega arith in
      subst (λ (j : ℕ). All (HasMembers script.extent) (get_or run.transcripts.items j [])) place (at-place i h).members)

  -- so the book tells the run
  pub run-told : IsTold script run.book run.transcripts.items
  run-told = record { extent = is_run.extent; state = is_run.state; shows = run-shows; members = run-members }
