-- What a step leaves of a run.
use Rattle.std.proofs.Common.{◌≡◌, ◌∙◌, ℕ, ◌+◌, ◌-◌, ◌<◌, sym, ap, subst, arith, List, [], ◌∷◌, ◌++◌, length, Option, None, set, get_or}
use Rattle.std.proofs.lemmas.List.{set-get_or, get_or-set_same, get_or_read, append-nil}
use Rattle.std.proofs.lemmas.List.Elements.{All-nil, All-cons}
use Rattle.definitions.specs.Words.{Extent}
use Rattle.solve.specs.declared.solution.Solved.{Solved}
use Rattle.versions.specs.declared.edit.Edit.{Edit}
use Rattle.book.specs.Play.{State, Request, Editing, Settling, pending_of, after}
use Rattle.book.specs.Books.{BookValue, IsReady, IsFree, state_of, log_of, with_request}
use Rattle.book.proofs.StateLaws.{state-push}
use Rattle.session.specs.declared.answer.Answer.{Answer}
use Rattle.session.specs.declared.run.Run.{Run as TheRun}
use Rattle.session.specs.Play.{Due, of_session, takes}
use Rattle.session.specs.Answers.{Shows, HasMembers}
use Rattle.session.specs.Runs.{IsSolvedFor, IsAfter, HasPlaces}
use Rattle.session.proofs.PlaceLaws.{pending-put, solved-none}

-- ---- settles
-- what a settle leaves of a run
pub after-settle : (session : ℕ) (old new : TheRun) → IsReady old.book session → HasPlaces session old → new.book ≡ with_request (Settling session) old.book
    → new.taken.items ≡ old.taken.items → new.solved.items ≡ set old.solved.items (session - 1) None → new.transcripts.items ≡ old.transcripts.items
    → IsAfter old.book.extent session (Settling session) [] old new
after-settle session old new ready places book taken solved transcripts =
    let at : ℕ = session - 1 in
    let within : at < length old.solved.items = omega (arith, places.some, places.solved) in
    let none : get_or new.solved.items at None ≡ None = ap (λ (xs : List (Option Solved)). get_or xs at None) solved ∙ get_or-set_same old.solved.items at None None within in
    let pending : pending_of session (state_of new.book).pending ≡ None =
    ap (λ (b : BookValue). pending_of session (state_of b).pending) book ∙ ap (λ (s : State). pending_of session s.pending) (state-push old.book (Settling session))
    ∙ pending-put old.book session None ready.of_book in
    record {
      book = book;
      answers = [];
      shows = tt;
      members = All-nil (HasMembers old.book.extent);
      transcripts =
          transcripts ∙ sym (set-get_or old.transcripts.items at [])
          ∙ ap (set old.transcripts.items at) (sym (append-nil (of_session session old.transcripts.items)));
      taken = taken ∙ sym (set-get_or old.taken.items at 0) ∙ ap (set old.taken.items at) (omega arith);
      solved = solved ∙ ap (set old.solved.items at) (sym none);
      is_solved = solved-none (log_of new.book) (pending_of session (state_of new.book).pending) (get_or new.solved.items at None) pending;
    }

-- ---- commands
-- a command's answer follows those before it, one command more is taken, and the solution is put beside the pending look
module _ (extent : Extent) (session : ℕ) (request : Request) (old new : TheRun) (places : HasPlaces session old) (book : new.book ≡ with_request request old.book) where
  abbrev at : ℕ
  at = session - 1

  -- what a command leaves of a run: its answer, one command taken, and the solution beside a pending look
  pub after-command : takes request ≡ 1 → (answer : Answer) (due : Due) → Shows extent answer due → HasMembers extent answer
      → (count : ℕ) → count ≡ get_or old.taken.items (session - 1) count → new.taken.items ≡ set old.taken.items (session - 1) (count + 1)
      → (held after : List Answer) → held ≡ get_or old.transcripts.items (session - 1) held → after ≡ held ++ answer ∷ []
      → new.transcripts.items ≡ set old.transcripts.items (session - 1) after
      → (kept : Option Solved) → new.solved.items ≡ set old.solved.items (session - 1) kept → IsSolvedFor (log_of new.book) (pending_of session (state_of new.book).pending) kept
      → IsAfter extent session request (due ∷ []) old new
  after-command one answer due shows members count count_is taken held after held_is after_is transcripts kept solved is_solved =
      let kept_is : get_or new.solved.items at None ≡ kept =
      ap (λ (xs : List (Option Solved)). get_or xs at None) solved ∙ get_or-set_same old.solved.items at kept None (omega (arith, places.some, places.solved)) in
      let count_at : count ≡ get_or old.taken.items at 0 = get_or_read old.taken.items at count (omega (arith, places.some, places.taken)) count_is 0 in
      let held_at : held ≡ of_session session old.transcripts.items = get_or_read old.transcripts.items at held (omega (arith, places.some, places.transcripts)) held_is [] in
      record {
        book = book;
        answers = answer ∷ [];
        shows = (shows, tt);
        members = All-cons (HasMembers extent) answer [] members (All-nil (HasMembers extent));
        transcripts = transcripts ∙ ap (set old.transcripts.items at) (after_is ∙ ap (λ (before : List Answer). before ++ answer ∷ []) held_at);
        taken = taken ∙ ap (set old.taken.items at) (omega (arith, count_at, one));
        solved = solved ∙ ap (set old.solved.items at) (sym kept_is);
        is_solved = subst (IsSolvedFor (log_of new.book) (pending_of session (state_of new.book).pending)) (sym kept_is) is_solved;
      }

-- an edit leaves the session free
pub free-after_edit : (session : ℕ) (edit : Edit) (old new : BookValue) (kept : Option Solved) → IsFree old session → new ≡ with_request (Editing session edit) old
    → IsSolvedFor (log_of new) (pending_of session (state_of new).pending) kept
free-after_edit session edit old new kept free book =
    solved-none (log_of new) (pending_of session (state_of new).pending) kept
    (ap (λ (b : BookValue). pending_of session (state_of b).pending) book ∙ ap (λ (s : State). pending_of session s.pending) (state-push old (Editing session edit)) ∙ free)
