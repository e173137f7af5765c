-- How a session goes on: after an edit, a look, and a look that is settled.
use Rattle.std.proofs.Common.{◌≡◌, ◌∙◌, ℕ, suc, ◌+◌, ◌-◌, ◌*◌, ◌<◌, ◌≤◌, refl, sym, ap, subst, arith, List, [], ◌∷◌, ◌++◌, length, drop, append_assoc}
use Rattle.std.specs.Prelude.{All, map, take, Option, Some, None}
use Rattle.std.proofs.Math.Seq.{drop-drop}
use Rattle.std.proofs.lemmas.List.{append-nil, length-append, length-drop}
use Rattle.std.proofs.lemmas.List.Elements.{All-nil, All-cons, All-append}
use Rattle.std.proofs.lemmas.List.Sums.{sum_by-cons, sum_by_push, get_or-le-sum_by}
use Rattle.turnstile.specs.declared.view.PassView.{PassView}
use Rattle.turnstile.specs.Entries.{of_label}
use Rattle.turnstile.proofs.EntryLists.{of_label_same}
use Rattle.definitions.specs.Words.{Extent}
use Rattle.versions.specs.declared.edit.Edit.{Edit}
use Rattle.versions.specs.declared.edit.EditReply.{EditReply}
use Rattle.versions.specs.Versions.{edit_reply}
use Rattle.script_reader.specs.declared.command.Command.{Command}
use Rattle.script_reader.specs.declared.command.Command.TheVariants as commands
use Rattle.script_reader.specs.Script.{ScriptValue, IsScript}
use Rattle.book.specs.declared.step.Step.{Step}
use Rattle.book.specs.Play.{State, Request, Editing, Looking, Settling, PendingLook, after, pending_of, session_of, step_of}
use Rattle.book.specs.Seen.{asker}
use Rattle.book.specs.Books.{BookValue, IsSession, count_of, state_of, with_request}
use Rattle.book.proofs.StateLaws.{state-push}
use Rattle.session.specs.declared.answer.Answer.{Answer}
use Rattle.session.specs.declared.answer.Answer.TheVariants as answers
use Rattle.session.specs.Play.{Due, request_for, takes, next_of, of_session, answer_to, answers_at}
use Rattle.session.specs.Answers.{Shows, ShowsEach, HasMembers}
use Rattle.session.specs.Runs.{units_of}
use Rattle.session.specs.Moments.{Moment, moments_of, AreNext, taken_by, dues_of, units_by}
use Rattle.session.specs.Holds.{book_of, seen_book, pending_in, with_step, CanStep, Adds}
use Rattle.session.specs.Serving.{IsServing, IsNextCommand}
use Rattle.session.proofs.FrameLaws.{book-extent, book-sessions, book-history, book-push}
use Rattle.session.proofs.MomentLaws.{moments-later, moments-step, moments-count}
use Rattle.session.proofs.PlaceLaws.{pending-put}
use Rattle.session.proofs.RunLaws.{shows-append}
use Rattle.session.proofs.TakenLaws.{count-own, taken-ready, taken-pending}

-- ---- lists
drop-taken : (m : Moment) (ms : List Moment) (left : List Command) → drop (taken_by (m ∷ ms)) left ≡ drop (taken_by ms) (drop (takes m.request) left)
drop-taken m ms left = ap (λ (n : ℕ). drop n left) (sum_by-cons (λ (x : Moment). takes x.request) m ms) ∙ sym (drop-drop (taken_by ms) (takes m.request) left)

next-append : (extent : Extent) (session : ℕ) (left : List Command) (ms : List Moment) (moment : Moment) → AreNext extent session left ms
    → next_of extent session (pending_of session moment.state.pending) (drop (taken_by ms) left) ≡ Some moment.request → AreNext extent session left (ms ++ moment ∷ [])
next-append extent session left [] moment are next = (next, tt)
next-append extent session left (m ∷ ms) moment are next = (
  are.0,
  next-append extent session (drop (takes m.request) left) ms moment are.1
      (subst (λ (rest : List Command). next_of extent session (pending_of session moment.state.pending) rest ≡ Some moment.request) (drop-taken m ms left) next),
)

dues-push : (extent : Extent) (left : List Command) (ms : List Moment) (moment : Moment)
    → dues_of extent left (ms ++ moment ∷ []) ≡ dues_of extent left ms ++ answers_at extent moment.state (drop (taken_by ms) left) moment.request
dues-push extent left [] moment = append-nil (answers_at extent moment.state left moment.request)
dues-push extent left (m ∷ ms) moment =
    let first : List Due = answers_at extent m.state left m.request in
    let rest : List Command = drop (takes m.request) left in
    ap (λ (dues : List Due). first ++ dues) (dues-push extent rest ms moment)
    ∙ sym (append_assoc first (dues_of extent rest ms) (answers_at extent moment.state (drop (taken_by ms) rest) moment.request))
    ∙ ap (λ (commands : List Command). dues_of extent left (m ∷ ms) ++ answers_at extent moment.state commands moment.request) (sym (drop-taken m ms left))

step-by : (state : State) (request : Request) → session_of (step_of state request) ≡ asker request
step-by state (Editing session edit) = refl
step-by state (Looking session q) = refl
step-by state (Settling session) = refl

-- ---- one hold
-- after a hold the pass sees the book with the request
pub adds-book : (v w : PassView Step) (history : List Step) (request : Request) → Adds v w history request → seen_book w ≡ with_request request (book_of v.frame history)
adds-book v w history request adds = ap (λ (u : PassView Step). seen_book u) adds.after ∙ book-push v.frame history request

-- it keeps its label
pub adds-label : (v w : PassView Step) (history : List Step) (request : Request) → Adds v w history request → w.label ≡ v.label
adds-label v w history request adds = ap (λ (u : PassView Step). u.label) adds.after

-- a hold adds one moment to those of its session
pub adds-moment : (v w : PassView Step) (history : List Step) (request : Request) → CanStep v → asker request ≡ v.label → Adds v w history request
    → moments_of (seen_book w) v.label ≡ moments_of (seen_book v) v.label ++ record { state = state_of (book_of v.frame history); request = request } ∷ []
adds-moment v w history request can of adds =
    let moment : Moment = record { state = state_of (book_of v.frame history); request = request } in
    ap (λ (b : BookValue). moments_of b v.label) (adds-book v w history request adds)
    ∙ moments-step v.label (book_of v.frame history) request of
    ∙ ap (λ (ms : List Moment). ms ++ moment ∷ []) (moments-later v.label v.frame v.seen history adds.taken.seen (adds.taken.own ∙ sym can.own))

-- and its step units
pub adds-units : (v w : PassView Step) (history : List Step) (request : Request) → CanStep v → asker request ≡ v.label → Adds v w history request
    → units_by (moments_of (seen_book w) v.label) ≡ units_by (moments_of (seen_book v) v.label) + units_of (state_of (book_of v.frame history)) (Some request)
adds-units v w history request can of adds =
    ap units_by (adds-moment v w history request can of adds)
    ∙ sum_by_push (λ (m : Moment). units_of m.state (Some m.request)) (moments_of (seen_book v) v.label) (record { state = state_of (book_of v.frame history); request = request })

-- what is pending after it
pending-after : (v w : PassView Step) (history : List Step) (request : Request) → Adds v w history request
    → pending_in w ≡ pending_of v.label (after (book_of v.frame history).capacity (state_of (book_of v.frame history)) request).pending
pending-after v w history request adds =
    ap (λ (l : ℕ). pending_of l (state_of (seen_book w)).pending) (adds-label v w history request adds)
    ∙ ap (λ (b : BookValue). pending_of v.label (state_of b).pending) (adds-book v w history request adds)
    ∙ ap (λ (s : State). pending_of v.label s.pending) (state-push (book_of v.frame history) request)

-- so many commands of the session were taken, with these answers, and a look may be pending
record HasTaken (script : ScriptValue) (v : PassView Step) (taken : ℕ) (answered : List Answer) : Type 0 where
  session : IsSession (length script.sessions) v.label
  own : of_label session_of v.label v.seen ≡ v.own
  extent : (seen_book v).extent ≡ script.extent
  sessions : (seen_book v).sessions ≡ length script.sessions
  next : AreNext script.extent v.label (of_session v.label script.sessions) (moments_of (seen_book v) v.label)
  taken_is : taken_by (moments_of (seen_book v) v.label) ≡ taken
  shows : ShowsEach script.extent answered (dues_of script.extent (of_session v.label script.sessions) (moments_of (seen_book v) v.label))
  members : All (HasMembers script.extent) answered

-- a hold for the session's next request
module _ (script : ScriptValue) (v w : PassView Step) (taken : ℕ) (answered : List Answer) (history : List Step) (request : Request) (has : HasTaken script v taken answered)
    (can : CanStep v) (of : asker request ≡ v.label) (adds : Adds v w history request)
    (next : next_of script.extent v.label (pending_in v) (drop taken (of_session v.label script.sessions)) ≡ Some request) where
  abbrev met : State
  met = state_of (book_of v.frame history)

  abbrev step : Step
  step = step_of met request

  abbrev moment : Moment
  moment = record { state = met; request = request }

  abbrev before : List Moment
  before = moments_of (seen_book v) v.label

  abbrev all_commands : List Command
  all_commands = of_session v.label script.sessions

  moments_are : moments_of (book_of v.frame (history ++ step ∷ [])) v.label ≡ before ++ moment ∷ []
  moments_are = adds-moment v (with_step v history step) history request can of (record { taken = adds.taken; after = refl })

  asked : next_of script.extent v.label (pending_of v.label met.pending) (drop (taken_by before) all_commands) ≡ Some request
  asked =
      ap (λ (n : ℕ). next_of script.extent v.label (pending_of v.label met.pending) (drop n all_commands)) has.taken_is
      ∙ ap (λ (o : Option PendingLook). next_of script.extent v.label o (drop taken all_commands)) (taken-pending v history can adds.taken)
      ∙ next

  dues_are : dues_of script.extent all_commands (moments_of (book_of v.frame (history ++ step ∷ [])) v.label)
      ≡ dues_of script.extent all_commands before ++ answers_at script.extent met (drop taken all_commands) request
  dues_are =
      ap (dues_of script.extent all_commands) moments_are ∙ dues-push script.extent all_commands before moment
      ∙ ap (λ (n : ℕ). dues_of script.extent all_commands before ++ answers_at script.extent met (drop n all_commands) request) has.taken_is

  -- so many commands more were taken then
  has_taken-more : (more : List Answer) → ShowsEach script.extent more (answers_at script.extent met (drop taken all_commands) request) → All (HasMembers script.extent) more
      → HasTaken script w (taken + takes request) (answered ++ more)
  has_taken-more more shows members =
      subst (λ (u : PassView Step). HasTaken script u (taken + takes request) (answered ++ more)) (sym adds.after)
      (record {
        session = has.session;
        own = of_label_same session_of v.label history step (step-by met request ∙ of) ∙ ap (λ (own : List Step). own ++ step ∷ []) adds.taken.own;
        extent = book-extent v.frame v.seen (history ++ step ∷ []) ∙ has.extent;
        sessions = book-sessions v.frame v.seen (history ++ step ∷ []) ∙ has.sessions;
        next = subst (AreNext script.extent v.label all_commands) (sym moments_are) (next-append script.extent v.label all_commands before moment has.next asked);
        taken_is = ap taken_by moments_are ∙ sum_by_push (λ (m : Moment). takes m.request) before moment ∙ ap (λ (n : ℕ). n + takes request) has.taken_is;
        shows =
            subst (ShowsEach script.extent (answered ++ more)) (sym dues_are)
            (shows-append script.extent answered more (dues_of script.extent all_commands before) (answers_at script.extent met (drop taken all_commands) request) has.shows shows);
        members = All-append (HasMembers script.extent) answered more has.members members;
      })

-- ---- the next command
takes-command : (extent : Extent) (session : ℕ) (command : Command) → takes (request_for extent session command) ≡ 1
takes-command extent session (commands.Edit edit) = refl
takes-command extent session (commands.Ask ask) = refl

asker-command : (extent : Extent) (session : ℕ) (command : Command) → asker (request_for extent session command) ≡ session
asker-command extent session (commands.Edit edit) = refl
asker-command extent session (commands.Ask ask) = refl

module _ (script : ScriptValue) (v : PassView Step) (taken : ℕ) (answered : List Answer) (serving : IsServing script v taken answered) where
  few-commands : IsScript script → length (of_session v.label script.sessions) ≤ 65536
  few-commands is =
      let place : v.label - 1 < length script.sessions = omega (arith, serving.session.some, serving.session.within) in
      omega (arith, get_or-le-sum_by length script.sessions (v.label - 1) [] place, is.few_commands)

  -- each command takes two steps at most
  own-most : length v.own ≤ 2 * taken
  own-most =
      let count : length v.own ≡ length (moments_of (seen_book v) v.label) =
      ap length (sym serving.own) ∙ count-own v.label v.seen ∙ ap (count_of v.label) (sym (book-history v.frame v.seen)) ∙ sym (moments-count (seen_book v) v.label) in
      omega (arith, count, serving.served.steps)

  own-few : IsScript script → (command : Command) → IsNextCommand script v.label taken command → length v.own < 2 * 65536
  own-few is command next =
      let left : length (of_session v.label script.sessions) - taken ≡ suc (length next.rest) = sym (length-drop taken (of_session v.label script.sessions)) ∙ ap length next.left in
      omega (arith, few-commands is, left, own-most)

  -- a session with commands left, or just without, may do a step more, as far as steps are counted
  pub can-serve : IsScript script → taken ≤ length (of_session v.label script.sessions) → CanStep v
  can-serve is within = record {
    session = record { some = serving.session.some; within = omega (arith, serving.served.sessions, serving.session.within) };
    own = serving.own;
    few = omega (arith, own-most, few-commands is, within);
  }

  -- so may one that has a next command
  pub can-step : IsScript script → (command : Command) → IsNextCommand script v.label taken command → CanStep v
  can-step is command next =
      let left : length (of_session v.label script.sessions) - taken ≡ suc (length next.rest) = sym (length-drop taken (of_session v.label script.sessions)) ∙ ap length next.left in
      can-serve is (omega (arith, left))

  has_taken : HasTaken script v taken answered
  has_taken = record {
    session = serving.session;
    own = serving.own;
    extent = serving.served.extent;
    sessions = serving.served.sessions;
    next = serving.served.next;
    taken_is = serving.served.taken_is;
    shows = serving.served.shows;
    members = serving.served.members;
  }

  -- the command is asked for next
  command-next : (command : Command) → IsNextCommand script v.label taken command
      → next_of script.extent v.label (pending_in v) (drop taken (of_session v.label script.sessions)) ≡ Some (request_for script.extent v.label command)
  command-next command next =
      ap (λ (o : Option PendingLook). next_of script.extent v.label o (drop taken (of_session v.label script.sessions))) serving.served.free
      ∙ ap (next_of script.extent v.label None) next.left

  -- and its answer is due alone
  command-due : (state : State) (command : Command) → IsNextCommand script v.label taken command
      → answers_at script.extent state (drop taken (of_session v.label script.sessions)) (request_for script.extent v.label command) ≡ answer_to script.extent state command ∷ []
  command-due state command next =
      let answer : Command → Due = answer_to script.extent state in
      ap (λ (n : ℕ). map answer (take n (drop taken (of_session v.label script.sessions)))) (takes-command script.extent v.label command)
      ∙ ap (λ (left : List Command). map answer (take 1 left)) next.left

  -- after one step or two without a pending look one command more was taken
  serving-more : (w : PassView Step) (answer : Answer) → HasTaken script w (taken + 1) (answered ++ answer ∷ []) → pending_in w ≡ None
      → length (moments_of (seen_book w) w.label) ≤ length (moments_of (seen_book v) v.label) + 2 → IsServing script w (taken + 1) (answered ++ answer ∷ [])
  serving-more w answer has free few = record {
    session = has.session;
    own = has.own;
    served =
        record {
          extent = has.extent;
          sessions = has.sessions;
          free = free;
          next = has.next;
          taken_is = has.taken_is;
          shows = has.shows;
          members = has.members;
          steps = omega (arith, few, serving.served.steps);
        };
  }

  -- a hold is one step
  one-more : (u w : PassView Step) (history : List Step) (request : Request) → CanStep u → asker request ≡ u.label → Adds u w history request
      → length (moments_of (seen_book w) w.label) ≡ length (moments_of (seen_book u) u.label) + 1
  one-more u w history request can of adds =
      let moment : Moment = record { state = state_of (book_of u.frame history); request = request } in
      ap (λ (l : ℕ). length (moments_of (seen_book w) l)) (adds-label u w history request adds)
      ∙ ap length (adds-moment u w history request can of adds)
      ∙ length-append (moments_of (seen_book u) u.label) (moment ∷ [])

  -- the answer to the session's next command
  module _ (w : PassView Step) (history : List Step) (command : Command) (answer : Answer) (is_script : IsScript script) (next : IsNextCommand script v.label taken command)
      (adds : Adds v w history (request_for script.extent v.label command)) (shows : Shows script.extent answer (answer_to script.extent (state_of (book_of v.frame history)) command))
      (members : HasMembers script.extent answer) where
    abbrev request : Request
    request = request_for script.extent v.label command

    command-can : CanStep v
    command-can = can-step is_script command next

    command-taken : HasTaken script w (taken + 1) (answered ++ answer ∷ [])
    command-taken =
        subst (λ (n : ℕ). HasTaken script w (taken + n) (answered ++ answer ∷ [])) (takes-command script.extent v.label command)
        (has_taken-more script v w taken answered history request has_taken command-can (asker-command script.extent v.label command) adds (command-next command next) (answer ∷ [])
        (subst (ShowsEach script.extent (answer ∷ [])) (sym (command-due (state_of (book_of v.frame history)) command next)) (shows, tt))
        (All-cons (HasMembers script.extent) answer [] members (All-nil (HasMembers script.extent))))

    command-one : length (moments_of (seen_book w) w.label) ≡ length (moments_of (seen_book v) v.label) + 1
    command-one = one-more v w history request command-can (asker-command script.extent v.label command) adds

    -- without a pending look, one command more is done
    pub after-command : pending_in w ≡ None → IsServing script w (taken + 1) (answered ++ answer ∷ [])
    after-command none = serving-more w answer command-taken none (omega (arith, command-one))

    -- a pending look may be settled
    pub can-settle : CanStep w
    can-settle =
        let step : Step = step_of (state_of (book_of v.frame history)) request in
        let own : length w.own ≡ length v.own + 1 = ap (λ (u : PassView Step). length u.own) adds.after ∙ length-append v.own (step ∷ []) in
        record {
          session = record { some = command-taken.session.some; within = omega (arith, command-taken.sessions, command-taken.session.within) };
          own = command-taken.own;
          few = omega (arith, own, own-few is_script command next);
        }

    -- after its settle, one command more is done
    pub after-settle : (u : PassView Step) (later : List Step) → Adds w u later (Settling w.label) → (look : _) → pending_in w ≡ Some look
        → IsServing script u (taken + 1) (answered ++ answer ∷ [])
    after-settle u later settles look pending =
        let settling : HasTaken script u (taken + 1 + 0) ((answered ++ answer ∷ []) ++ []) =
        has_taken-more script w u (taken + 1) (answered ++ answer ∷ []) later (Settling w.label) command-taken can-settle refl settles
        (ap (λ (o : Option PendingLook). next_of script.extent w.label o (drop (taken + 1) (of_session w.label script.sessions))) pending) [] tt (All-nil (HasMembers script.extent)) in
        let same : taken + 1 + 0 ≡ taken + 1 = omega arith in
        serving-more u answer
        (subst (HasTaken script u (taken + 1)) (append-nil (answered ++ answer ∷ []))
        (subst (λ (n : ℕ). HasTaken script u n ((answered ++ answer ∷ []) ++ [])) same settling))
        (pending-after w u later (Settling w.label) settles
        ∙ pending-put (book_of w.frame later) w.label None (taken-ready w later can-settle settles.taken).of_book)
        (omega (arith, command-one, one-more w u later (Settling w.label) can-settle refl settles))

  -- after an edit, one command more is done
  pub after-edit : (w : PassView Step) (history : List Step) (edit : Edit) (reply : EditReply) → IsScript script → IsNextCommand script v.label taken (commands.Edit edit)
      → Adds v w history (Editing v.label edit) → reply ≡ edit_reply (state_of (book_of v.frame history)).edits edit
      → IsServing script w (taken + 1) (answered ++ answers.Edit reply ∷ [])
  after-edit w history edit reply is_script next adds is =
      after-command w history (commands.Edit edit) (answers.Edit reply) is_script next adds is tt
      (pending-after v w history (Editing v.label edit) adds ∙ taken-pending v history (can-step is_script (commands.Edit edit) next) adds.taken ∙ serving.served.free)
