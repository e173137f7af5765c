-- What sessions did together, each of them served, is a run of their script.
use Rattle.std.proofs.Common.{◌≡◌, ◌∙◌, ℕ, zero, suc, ◌+◌, ◌-◌, ◌<◌, ◌≤◌, ◌≢◌, refl, sym, ap, subst, arith, Bool, true, false, List, [], ◌∷◌, ◌++◌, length, drop, get_or, append_assoc, append-nil, eq-eqb, ne_eqb, inl, inr, Option, Some, None}
use Rattle.std.specs.Prelude.{All, map, is_some, if◌then◌else◌}
use Rattle.std.proofs.lemmas.Bool.{cases_eq}
use Rattle.std.proofs.lemmas.List.{get_or-replicate, get_or-set_same, get_or-set_other, length-drop, length-replicate, length-set, nil_from_length}
use Rattle.std.proofs.lemmas.List.Elements.{All-from_get_or, All-head, All-map, All-tail, All-weaker}
use Rattle.std.proofs.lemmas.List.Folds.{list_any_none}
use Rattle.std.proofs.lemmas.List.Sums.{sum_by-cons}
use Rattle.definitions.specs.Words.{Extent, up_to}
use Rattle.script_reader.specs.declared.command.Command.{Command}
use Rattle.script_reader.specs.Script.{ScriptValue}
use Rattle.book.specs.declared.step.Step.{Step}
use Rattle.book.specs.Play.{State, Request, PendingLook, opening, played, pending_of, request_of, session_of}
use Rattle.book.specs.Seen.{asker}
use Rattle.book.specs.Books.{BookValue, IsBook, IsSession, state_of}
use Rattle.session.specs.declared.answer.Answer.{Answer}
use Rattle.session.specs.Play.{Run, Due, opening_run, run_in, stepped, has_next, has_any, next_request, next_of, of_session, takes, answers_at, with_next, with_request, illegal_from, illegal_place}
use Rattle.session.specs.Answers.{ShowsEach, HasMembers}
use Rattle.session.specs.Runs.{IsTold, order_of, run_of}
use Rattle.session.specs.Moments.{Moment, own_moment, moments, moments_of, AreNext, taken_by, dues_of}
use Rattle.session.specs.Serving.{IsServed}
use Rattle.session.proofs.MomentLaws.{asker-step}
use Rattle.session.proofs.OrderLaws.{legal-here}
use Rattle.session.proofs.OutcomeLaws.{shows-all}
use Rattle.session.proofs.RunLaws.{next-is, left-here, left-other, left-length}
use Rattle.session.proofs.TurnLaws.{numbers-within}

-- a session's requests among these are its next ones in a run, take all that is left to it, and bring its answers to these
record Finishes (capacity : ℕ) (extent : Extent) (dues : List Due) (requests : List Request) (run : Run) (session : ℕ) : Type 0 where
  next : AreNext extent session (of_session session run.left) (moments capacity session run.state requests)
  all : taken_by (moments capacity session run.state requests) ≡ length (of_session session run.left)
  told : of_session session run.transcripts ++ dues_of extent (of_session session run.left) (moments capacity session run.state requests) ≡ dues

-- these requests finish a run of so many sessions in this state and with these answers
pub record AllFinish (capacity : ℕ) (extent : Extent) (sessions : ℕ) (end : State) (dues : ℕ → List Due) (requests : List Request) (run : Run) : Type 0 where
  askers : All (λ request. IsSession sessions (asker request)) requests
  left : length run.left ≡ sessions
  transcripts : length run.transcripts ≡ sessions
  state : played capacity run.state requests ≡ end
  each : (session : ℕ) → IsSession sessions session → Finishes capacity extent (dues session) requests run session

-- ---- the first request
module _ (capacity : ℕ) (extent : Extent) (request : Request) (requests : List Request) (run : Run) where
  abbrev by : ℕ
  by = asker request

  abbrev first : Moment
  first = record { state = run.state; request = request }

  abbrev next_run : Run
  next_run = with_request capacity extent by request run

  abbrev later_of : ℕ → List Moment
  later_of session = moments capacity session next_run.state requests

  own-first : moments capacity by run.state (request ∷ requests) ≡ first ∷ later_of by
  own-first = ap (λ (b : Bool). own_moment b first ++ later_of by) (eq-eqb by by refl)

  others-first : (session : ℕ) → session ≢ by → moments capacity session run.state (request ∷ requests) ≡ later_of session
  others-first session other = ap (λ (b : Bool). own_moment b first ++ later_of session) (ne_eqb session by other)

  module _ (dues : List Due) where
    -- it is the next one of its session
    asked-first : 1 ≤ by → Finishes capacity extent dues (request ∷ requests) run by → next_request extent by run ≡ Some request
    asked-first some finishes =
        let are : AreNext extent by (of_session by run.left) (first ∷ later_of by) = subst (AreNext extent by (of_session by run.left)) own-first finishes.next in
        next-is extent by run some ∙ are.0

    finishes-own : IsSession (length run.left) by → length run.transcripts ≡ length run.left
        → Finishes capacity extent dues (request ∷ requests) run by → Finishes capacity extent dues requests next_run by
    finishes-own here long finishes =
        let commands : List Command = of_session by run.left in
        let answered : List Due = of_session by run.transcripts in
        let answers : List Due = answers_at extent run.state commands request in
        let are : AreNext extent by commands (first ∷ later_of by) = subst (AreNext extent by commands) own-first finishes.next in
        let left : of_session by next_run.left ≡ drop (takes request) commands = left-here by request run.left (omega (arith, here.some, here.within)) in
        let transcript : of_session by next_run.transcripts ≡ answered ++ answers =
        get_or-set_same run.transcripts (by - 1) (answered ++ answers) [] (omega (arith, here.some, here.within, long)) in
        record {
          next = subst (λ (commands : List Command). AreNext extent by commands (later_of by)) (sym left) are.1;
          all =
              omega (
                arith,
                finishes.all,
                ap taken_by own-first,
                sum_by-cons (λ (moment : Moment). takes moment.request) first (later_of by),
                ap length left,
                length-drop (takes request) commands,
              );
          told =
              ap (λ (transcript : List Due). transcript ++ dues_of extent (of_session by next_run.left) (later_of by)) transcript
              ∙ ap (λ (commands : List Command). (answered ++ answers) ++ dues_of extent commands (later_of by)) left
              ∙ append_assoc answered answers (dues_of extent (drop (takes request) commands) (later_of by))
              ∙ ap (λ (ms : List Moment). answered ++ dues_of extent commands ms) (sym own-first)
              ∙ finishes.told;
        }

    finishes-other : (session : ℕ) → 1 ≤ session → 1 ≤ by → session ≢ by → Finishes capacity extent dues (request ∷ requests) run session
        → Finishes capacity extent dues requests next_run session
    finishes-other session some some_by other finishes =
        let apart : session - 1 ≢ by - 1 = omega arith in
        let same : moments capacity session run.state (request ∷ requests) ≡ later_of session = others-first session other in
        let left : of_session session next_run.left ≡ of_session session run.left = left-other by request run.left session apart in
        let transcript : of_session session next_run.transcripts ≡ of_session session run.transcripts =
        get_or-set_other run.transcripts (by - 1) (session - 1) (of_session by run.transcripts ++ answers_at extent run.state (of_session by run.left) request) [] apart in
        record {
          next =
              subst (λ (commands : List Command). AreNext extent session commands (later_of session)) (sym left)
              (subst (AreNext extent session (of_session session run.left)) same finishes.next);
          all = ap taken_by (sym same) ∙ finishes.all ∙ ap length (sym left);
          told =
              ap (λ (transcript : List Due). transcript ++ dues_of extent (of_session session next_run.left) (later_of session)) transcript
              ∙ ap (λ (commands : List Command). of_session session run.transcripts ++ dues_of extent commands (later_of session)) left
              ∙ ap (λ (ms : List Moment). of_session session run.transcripts ++ dues_of extent (of_session session run.left) ms) (sym same)
              ∙ finishes.told;
        }

-- ---- all requests
module _ (capacity : ℕ) (extent : Extent) (sessions : ℕ) (end : State) (dues : ℕ → List Due) where
  module _ (request : Request) (requests : List Request) (run : Run) (finish : AllFinish capacity extent sessions end dues (request ∷ requests) run) where
    first-asker : IsSession sessions (asker request)
    first-asker = All-head (λ request. IsSession sessions (asker request)) request requests finish.askers

    pub first-next : next_request extent (asker request) run ≡ Some request
    first-next = asked-first capacity extent request requests run (dues (asker request)) first-asker.some (finish.each (asker request) first-asker)

    pub first-step : stepped capacity extent (asker request) run ≡ with_request capacity extent (asker request) request run
    first-step = ap (λ (next : Option Request). with_next capacity extent (asker request) next run) first-next

    each-after : (session : ℕ) → IsSession sessions session
        → Finishes capacity extent (dues session) requests (with_request capacity extent (asker request) request run) session
    each-after session here =
        elim (cases_eq session (asker request)) [
          | inl own ↦
              subst (λ (by : ℕ). Finishes capacity extent (dues by) requests (with_request capacity extent (asker request) request run) by) (sym own)
              (finishes-own capacity extent request requests run (dues (asker request))
              (subst (λ (n : ℕ). IsSession n (asker request)) (sym finish.left) first-asker) (finish.transcripts ∙ sym finish.left) (finish.each (asker request) first-asker))
          | inr other ↦ finishes-other capacity extent request requests run (dues session) session here.some first-asker.some other (finish.each session here)
        ]

    pub finish-after : AllFinish capacity extent sessions end dues requests (stepped capacity extent (asker request) run)
    finish-after =
        subst (AllFinish capacity extent sessions end dues requests) (sym first-step)
        (record {
          askers = All-tail (λ request. IsSession sessions (asker request)) request requests finish.askers;
          left = left-length (asker request) request run.left ∙ finish.left;
          transcripts =
              length-set run.transcripts (asker request - 1) (of_session (asker request) run.transcripts ++ answers_at extent run.state (of_session (asker request) run.left) request) ∙ finish.transcripts;
          state = finish.state;
          each = each-after;
        })

  -- the run of all these requests is finished
  finish-all : (requests : List Request) (run : Run) → AllFinish capacity extent sessions end dues requests run
      → AllFinish capacity extent sessions end dues [] (run_in capacity extent (map asker requests) run)
  finish-all [] run finish = finish
  finish-all (request ∷ requests) run finish = finish-all requests (stepped capacity extent (asker request) run) (finish-after request requests run finish)

  module _ (free : (session : ℕ) → IsSession sessions session → pending_of session end.pending ≡ None) where
    -- in a finished run no session has anything to do
    idle : (run : Run) → AllFinish capacity extent sessions end dues [] run → (session : ℕ) → session ≤ sessions → has_next extent run session ≡ false
    idle run finish zero within = refl
    idle run finish (suc n) within =
        let here : IsSession sessions (suc n) = record { some = omega arith; within = within } in
        let none : pending_of (suc n) run.state.pending ≡ None = ap (λ (state : State). pending_of (suc n) state.pending) finish.state ∙ free (suc n) here in
        let empty : of_session (suc n) run.left ≡ [] = nil_from_length (of_session (suc n) run.left) (sym (finish.each (suc n) here).all) in
        ap (λ (look : Option PendingLook). is_some (next_of extent (suc n) look (of_session (suc n) run.left))) none
        ∙ ap (λ (commands : List Command). is_some (next_of extent (suc n) None commands)) empty

    none-has_next : (run : Run) → AllFinish capacity extent sessions end dues [] run → has_any extent run ≡ false
    none-has_next run finish =
        let n : ℕ = length run.left in
        list_any_none (has_next extent run) (up_to n)
        (All-weaker (λ session. session ≤ n) (λ session. has_next extent run session ≡ false)
        (λ session within. idle run finish session (subst (λ (m : ℕ). session ≤ m) finish.left within)) (up_to n) (numbers-within n n (omega arith)))

    -- the order of these requests is legal
    finish-legal : (place : ℕ) (requests : List Request) (run : Run) → AllFinish capacity extent sessions end dues requests run
        → illegal_from capacity place extent (map asker requests) run ≡ None
    finish-legal place [] run finish = ap (λ (b : Bool). if b then Some place else None) (none-has_next run finish)
    finish-legal place (request ∷ requests) run finish =
        let has : has_next extent run (asker request) ≡ true = ap (λ (next : Option Request). is_some next) (first-next request requests run finish) in
        legal-here capacity extent place (asker request) (map asker requests) run has
        ∙ finish-legal (suc place) requests (stepped capacity extent (asker request) run) (finish-after request requests run finish)

-- ---- the steps of a book
pub askers-are : (steps : List Step) → map asker (map request_of steps) ≡ map session_of steps
askers-are [] = refl
askers-are (step ∷ steps) = cc (asker-step step, askers-are steps)

module _ (script : ScriptValue) (book : BookValue) (is_book : IsBook book) (transcripts : List (List Answer)) (count : length transcripts ≡ length script.sessions)
    (sessions : book.sessions ≡ length script.sessions)
    (each : (session : ℕ) → IsSession (length script.sessions) session → IsServed script session book (length (of_session session script.sessions)) (of_session session transcripts)) where
  abbrev requests : List Request
  requests = map request_of book.history

  abbrev dues : ℕ → List Due
  dues session = dues_of script.extent (of_session session script.sessions) (moments_of book session)

  -- before the first step, in the state of the book
  abbrev first_run : Run
  first_run = record (opening_run script) { state = opening book.sessions }

  finishes-each : (session : ℕ) → IsSession (length script.sessions) session → Finishes book.capacity script.extent (dues session) requests first_run session
  finishes-each session here =
      let unanswered : of_session session first_run.transcripts ≡ [] =
      get_or-replicate (length script.sessions) (session - 1) [] [] (omega (arith, here.some, here.within)) in
      record {
        next = (each session here).next;
        all = (each session here).taken_is;
        told = ap (λ (transcript : List Due). transcript ++ dues session) unanswered;
      }

  asker-each : All (λ request. IsSession (length script.sessions) (asker request)) requests
  asker-each =
      All-map (λ request. IsSession (length script.sessions) (asker request)) request_of book.history
      (All-weaker (λ step. IsSession book.sessions (session_of step)) (λ step. IsSession (length script.sessions) (asker (request_of step)))
      (λ step is. subst (IsSession (length script.sessions)) (sym (asker-step step)) (subst (λ (n : ℕ). IsSession n (session_of step)) sessions is)) book.history is_book.sessions)

  pub all-finish : AllFinish book.capacity script.extent (length script.sessions) (state_of book) dues requests (opening_run script)
  all-finish =
      subst (λ (n : ℕ). AllFinish book.capacity script.extent (length script.sessions) (state_of book) dues requests (record (opening_run script) { state = opening n })) sessions
      (record { askers = asker-each; left = refl; transcripts = length-replicate (length script.sessions) []; state = refl; each = finishes-each })

  all-finished : AllFinish book.capacity script.extent (length script.sessions) (state_of book) dues [] (run_of script book)
  all-finished =
      subst (λ (order : List ℕ). AllFinish book.capacity script.extent (length script.sessions) (state_of book) dues [] (run_in book.capacity script.extent order (opening_run script)))
      (askers-are book.history) (finish-all book.capacity script.extent (length script.sessions) (state_of book) dues requests (opening_run script) all-finish)

  -- the transcript of the session in this place
  shows-place : (i : ℕ) → i < length transcripts → ShowsEach script.extent (get_or transcripts i []) (get_or (run_of script book).transcripts i [])
  shows-place i h =
      let here : IsSession (length script.sessions) (i + 1) = record { some = omega arith; within = omega (arith, count) } in
      let place : (i + 1) - 1 ≡ i = omega arith in
      let told : of_session (i + 1) (run_of script book).transcripts ≡ dues (i + 1) =
      sym (append-nil (of_session (i + 1) (run_of script book).transcripts)) ∙ (all-finished.each (i + 1) here).told in
      subst (λ (j : ℕ). ShowsEach script.extent (get_or transcripts j []) (get_or (run_of script book).transcripts j [])) place
      (subst (ShowsEach script.extent (of_session (i + 1) transcripts)) (sym told) (each (i + 1) here).shows)

  members-place : (i : ℕ) → i < length transcripts → All (HasMembers script.extent) (get_or transcripts i [])
  members-place i h =
      let here : IsSession (length script.sessions) (i + 1) = record { some = omega arith; within = omega (arith, count) } in
      let place : (i + 1) - 1 ≡ i = omega arith in
      subst (λ (j : ℕ). All (HasMembers script.extent) (get_or transcripts j [])) place (each (i + 1) here).members

  -- the book took the steps of the script's run, and these answers are due in it
  pub all-told : book.extent ≡ script.extent → IsTold script book transcripts
  all-told extent = record {
    extent = extent;
    state = all-finished.state;
    shows = shows-all script.extent transcripts (run_of script book).transcripts (count ∙ sym all-finished.transcripts) shows-place;
    members = All-from_get_or (All (HasMembers script.extent)) transcripts [] members-place;
  }

  -- its order is legal, and leaves nothing to do
  pub all-legal : illegal_place book.capacity script (order_of book) ≡ None
  all-legal =
      ap (λ (order : List ℕ). illegal_from book.capacity 1 script.extent order (opening_run script)) (sym (askers-are book.history))
      ∙ finish-legal book.capacity script.extent (length script.sessions) (state_of book) dues (λ session here. (each session here).free) 1 requests (opening_run script) all-finish
