-- A run before its first step.
use Rattle.std.proofs.Common.{◌≡◌, ◌∙◌, ℕ, ◌-◌, ◌<◌, refl, sym, ap, subst, arith, false, List, [], length, drop, replicate, Option, None}
use Rattle.std.specs.Prelude.{All, slice_index_or}
use Rattle.std.proofs.lemmas.List.{length-replicate, get_or-replicate}
use Rattle.std.proofs.lemmas.List.Elements.{All-nil}
use Rattle.script_reader.specs.Script.{ScriptValue}
use Rattle.book.specs.Play.{PendingLook, pending_of}
use Rattle.book.specs.Books.{BookValue, IsSession, log_of}
use Rattle.session.specs.declared.answer.Answer.{Answer}
use Rattle.session.specs.declared.run.Run.{Run as TheRun}
use Rattle.session.specs.Play.{of_session, opening_run}
use Rattle.session.specs.Answers.{ShowsEach, HasMembers}
use Rattle.session.specs.Runs.{IsRun, IsAt, IsSolvedFor, begun}

module _ (script : ScriptValue) (run : TheRun) (capacity : ℕ)
    (book_is : run.book ≡ record { extent = script.extent; capacity = capacity; sessions = length script.sessions; history = []; spent = false })
    (taken_is : run.taken.items ≡ replicate (length script.sessions) 0) (solved_is : run.solved.items ≡ replicate (length script.sessions) None)
    (transcripts_are : run.transcripts.items ≡ replicate (length script.sessions) []) where
  abbrev book : BookValue
  book = record { extent = script.extent; capacity = capacity; sessions = length script.sessions; history = []; spent = false }

  -- the run by its first book
  abbrev first : TheRun
  first = record run { book = book }

  at-first : (session : ℕ) → IsSession (length script.sessions) session → IsAt script first session
  at-first session here =
      let n : ℕ = length script.sessions in
      let place : session - 1 < n = omega (arith, here.some, here.within) in
      let none : slice_index_or run.taken.items (session - 1) 0 ≡ 0 = ap (λ (ts : List ℕ). slice_index_or ts (session - 1) 0) taken_is ∙ get_or-replicate n (session - 1) 0 0 place in
      let free : pending_of session (replicate n None) ≡ None = get_or-replicate n (session - 1) None None place in
      let unanswered : of_session session run.transcripts.items ≡ [] = ap (of_session session) transcripts_are ∙ get_or-replicate n (session - 1) [] [] place in
      let nothing : of_session session (opening_run script).transcripts ≡ [] = get_or-replicate n (session - 1) [] [] place in
      record {
        left = ap (λ (k : ℕ). drop k (of_session session script.sessions)) (sym none);
        within = omega (arith, none);
        shows =
            subst (λ (answers : List Answer). ShowsEach script.extent answers (of_session session (opening_run script).transcripts)) (sym unanswered)
            (subst (ShowsEach script.extent []) (sym nothing) tt);
        members = subst (All (HasMembers script.extent)) (sym unanswered) (All-nil (HasMembers script.extent));
        solved =
            subst (λ (look : Option PendingLook). IsSolvedFor (log_of book) look (slice_index_or run.solved.items (session - 1) None)) (sym free) tt;
        steps = omega (arith, ap begun free);
      }

  is_run-first : IsRun script first
  is_run-first = record {
    extent = refl;
    sessions = refl;
    unspent = refl;
    state = refl;
    taken = ap length taken_is ∙ length-replicate (length script.sessions) 0;
    solved = ap length solved_is ∙ length-replicate (length script.sessions) None;
    transcripts = ap length transcripts_are ∙ length-replicate (length script.sessions) [];
    left_of = refl;
    answers = length-replicate (length script.sessions) [];
    each = at-first;
  }

  -- a run is one before its first step
  pub is_run-opening : IsRun script run
  is_run-opening = subst (IsRun script) (ap (λ (b : BookValue). record run { book = b }) (sym book_is)) is_run-first
