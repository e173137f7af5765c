-- The units of a session's steps in a run are those of its moments.
use Rattle.std.proofs.Common.{◌≡◌, ◌∙◌, ℕ, ◌+◌, refl, sym, ap, arith, Bool, true, false, List, [], ◌∷◌, ◌++◌, length, Option, Some}
use Rattle.std.specs.Prelude.{map, nat_eq, if◌then◌else◌}
use Rattle.std.proofs.lemmas.List.Sums.{sum_by-cons}
use Rattle.definitions.specs.Words.{Extent}
use Rattle.script_reader.specs.Script.{ScriptValue}
use Rattle.book.specs.Play.{State, Request, opening, after, request_of}
use Rattle.book.specs.Seen.{asker}
use Rattle.book.specs.Books.{BookValue, IsBook, IsSession, state_of}
use Rattle.session.specs.declared.answer.Answer.{Answer}
use Rattle.session.specs.Play.{Run, Due, opening_run, stepped, of_session}
use Rattle.session.specs.Runs.{order_of, units_of, units_of_session, counter_of, AreCounted}
use Rattle.session.specs.Moments.{Moment, own_moment, moments, moments_of, units_by}
use Rattle.session.specs.Serving.{IsServed}
use Rattle.session.proofs.TogetherLaws.{AllFinish, first-next, first-step, finish-after, askers-are, all-finish}

-- a moment counts where it is the session's own
units-own : (mine : Bool) (moment : Moment) (rest : List Moment)
    → units_by (own_moment mine moment ++ rest) ≡ (if mine then units_of moment.state (Some moment.request) else 0) + units_by rest
units-own true moment rest = sum_by-cons (λ (moment : Moment). units_of moment.state (Some moment.request)) moment rest
units-own false moment rest = omega arith

module _ (capacity : ℕ) (extent : Extent) (sessions : ℕ) (end : State) (dues : ℕ → List Due) (session : ℕ) where
  -- the steps of a run that these requests finish have the units of the session's moments among them
  units-finish : (requests : List Request) (run : Run) → AllFinish capacity extent sessions end dues requests run
      → units_of_session capacity extent session (map asker requests) run ≡ units_by (moments capacity session run.state requests)
  units-finish [] run finish = refl
  units-finish (request ∷ requests) run finish =
      let by : ℕ = asker request in
      let mine : Bool = nat_eq session by in
      let next_run : Run = stepped capacity extent by run in
      let units : Option Request → ℕ = λ next. if mine then units_of run.state next else 0 in
      let later : units_of_session capacity extent session (map asker requests) next_run ≡ units_by (moments capacity session (after capacity run.state request) requests) =
      units-finish requests next_run (finish-after capacity extent sessions end dues request requests run finish)
      ∙ ap (λ (r : Run). units_by (moments capacity session r.state requests)) (first-step capacity extent sessions end dues request requests run finish) in
      ap (λ (next : Option Request). units next + units_of_session capacity extent session (map asker requests) next_run) (first-next capacity extent sessions end dues request requests run finish)
      ∙ ap (λ (n : ℕ). units (Some request) + n) later
      ∙ sym (units-own mine (record { state = run.state; request = request }) (moments capacity session (after capacity run.state request) requests))

module _ (script : ScriptValue) (book : BookValue) (is_book : IsBook book) (transcripts : List (List Answer)) (count : length transcripts ≡ length script.sessions)
    (sessions : book.sessions ≡ length script.sessions)
    (each : (session : ℕ) → IsSession (length script.sessions) session → IsServed script session book (length (of_session session script.sessions)) (of_session session transcripts)) where
  units-all : (session : ℕ) → units_of_session book.capacity script.extent session (order_of book) (opening_run script) ≡ units_by (moments_of book session)
  units-all session =
      ap (λ (order : List ℕ). units_of_session book.capacity script.extent session order (opening_run script)) (sym (askers-are book.history))
      ∙ units-finish book.capacity script.extent (length script.sessions) (state_of book) _ session
      (map request_of book.history) (opening_run script) (all-finish script book is_book transcripts count sessions each)
      ∙ ap (λ (n : ℕ). units_by (moments book.capacity session (opening n) (map request_of book.history))) (sym sessions)

  -- counters that were raised by the units of their sessions' moments in the book were raised by those of their steps
  pub all-counted : (before after : List ℕ) → length after ≡ length before
      → ((session : ℕ) → IsSession (length script.sessions) session → counter_of session after ≡ counter_of session before + units_by (moments_of book session))
      → AreCounted book.capacity script (order_of book) before after
  all-counted before after same raised = record {
    same_number = same;
    each = λ session here. raised session here ∙ ap (λ (n : ℕ). counter_of session before + n) (sym (units-all session));
  }
