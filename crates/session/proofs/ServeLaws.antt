-- What the commands of a session on its pass require, and what they leave.
use Rattle.std.proofs.Common.{◌≡◌, ◌∙◌, ℕ, suc, ◌+◌, ◌-◌, ◌<◌, refl, sym, ap, subst, arith, List, [], ◌∷◌, ◌++◌, length, drop, get_or}
use Rattle.std.specs.Prelude.{true, false, is_some, Option, Some, None}
use Rattle.std.proofs.Math.Seq.{drop-cons}
use Rattle.std.proofs.lemmas.List.{get_or_read}
use Rattle.turnstile.specs.declared.view.PassView.{PassView}
use Rattle.definitions.specs.Words.{Extent}
use Rattle.solve.specs.declared.solution.Solved.{Solved}
use Rattle.versions.specs.Versions.{LogValue}
use Rattle.script_reader.specs.declared.command.Command.{Command}
use Rattle.script_reader.specs.declared.command.Command.TheVariants as commands
use Rattle.script_reader.specs.Script.{ScriptValue, IsScript}
use Rattle.book.specs.declared.query.Query.{Query}
use Rattle.book.specs.declared.step.Step.{Step}
use Rattle.book.specs.Play.{State, Request, Looking, Settling, PendingLook, pending_of}
use Rattle.book.specs.Looks.{look_visits}
use Rattle.book.specs.Books.{BookValue, IsSession, IsReady, IsFree, IsSettledBy, state_of, log_of, with_request}
use Rattle.session.specs.declared.answer.Answer.{Answer}
use Rattle.session.specs.declared.asked.Asked.{Asked}
use Rattle.session.specs.declared.look.Looked.{Looked}
use Rattle.session.specs.Play.{Asks, query_for, request_for, looked, answer_to, of_session}
use Rattle.session.specs.Answers.{Shows, HasMembers}
use Rattle.session.specs.Runs.{IsSolvedFor, exps_for}
use Rattle.session.specs.Looks.{IsLooked, IsLookedFor}
use Rattle.session.specs.Moments.{moments_of, units_by}
use Rattle.session.specs.Holds.{book_of, seen_book, pending_in, IsStill, CanStep, Adds}
use Rattle.session.specs.Serving.{IsServing, IsNextCommand}
use Rattle.session.proofs.ServingLaws.{adds-book, adds-label, adds-units, can-step, after-command, can-settle, after-settle}
use Rattle.session.proofs.TakenLaws.{taken-extent, taken-pending, taken-ready}

-- the same pass goes on
pub still-on : (u v w : PassView Step) → IsStill u v → IsStill v w → IsStill u w
still-on u v w first then = record { label = then.label ∙ first.label; frame = then.frame ∙ first.frame }

-- ---- commands
-- the command that is read at this place of the session's list is the next one after so many
pub next-at : (script : ScriptValue) (v w : PassView Step) → IsStill v w → IsSession (length script.sessions) w.label → (sessions : List (List Command)) (label : ℕ) (read list : List Command) (index : ℕ)
    (command : Command) → sessions ≡ script.sessions → label ≡ v.label → read ≡ get_or sessions (label - 1) read → list ≡ read → index < length list → command ≡ get_or list index command
    → IsNextCommand script w.label index command
next-at script v w still of sessions label read list index command sessions_are label_is read_at list_is within at =
    let number : label ≡ w.label = label_is ∙ sym still.label in
    let place : label - 1 < length sessions = omega (arith, number, ap length sessions_are, of.some, of.within) in
    let is : list ≡ of_session w.label script.sessions =
    list_is ∙ get_or_read sessions (label - 1) read place read_at [] ∙ ap (λ (n : ℕ). of_session n sessions) number ∙ ap (of_session w.label) sessions_are in
    record {
      rest = drop (suc index) list;
      left = ap (drop index) (sym is) ∙ drop-cons list index command within ∙ ap (λ (c : Command). c ∷ drop (suc index) list) (sym at);
    }

-- the step units after one command more
pub units-on : (v w u : PassView Step) (start before last : ℕ) → IsStill v w → before ≡ start + units_by (moments_of (seen_book w) v.label)
    → last + units_by (moments_of (seen_book w) w.label) ≡ before + units_by (moments_of (seen_book u) w.label) → last ≡ start + units_by (moments_of (seen_book u) v.label)
units-on v w u start before last still were then =
    omega (
      arith,
      were,
      then,
      ap (λ (label : ℕ). units_by (moments_of (seen_book w) label)) still.label,
      ap (λ (label : ℕ). units_by (moments_of (seen_book u) label)) still.label,
    )

-- ---- looks
settled-by : (log : LogValue) (look : Option PendingLook) (solved : Solved) → is_some look ≡ true → IsSolvedFor log look (Some solved) → IsSettledBy log look solved.nodes.items
settled-by log None solved some is = absurd (cc)
settled-by log (Some look) solved some is = is

-- what a command asks for is its request
asks-request : (extent : Extent) (session : ℕ) (command : Command) (asked : Asked) → Asks command asked → request_for extent session command ≡ Looking session (query_for extent asked)
asks-request extent session (commands.Edit edit) asked asks = absurd asks
asks-request extent session (commands.Ask ask) asked asks = ap (λ (a : Asked). Looking session (query_for extent a)) (sym asks)

-- and its answer is what is looked for
asks-answer : (extent : Extent) (state : State) (command : Command) (asked : Asked) → Asks command asked
    → answer_to extent state command ≡ looked extent state asked.wanted (query_for extent asked)
asks-answer extent state (commands.Edit edit) asked asks = absurd asks
asks-answer extent state (commands.Ask ask) asked asks = ap (λ (a : Asked). looked extent state a.wanted (query_for extent a)) (sym asks)

-- what an answer to a command that looks leaves: its moment, and its solution where the look is pending
pub record IsAnswered (script : ScriptValue) (v w : PassView Step) (history : List Step) (command : Command) (answer : Answer) (solved : Option Solved) : Type 0 where
  -- the hold added the request of the command
  pub adds : Adds v w history (request_for script.extent v.label command)
  -- the answer is the one that is due to it
  pub shows : Shows script.extent answer (answer_to script.extent (state_of (book_of v.frame history)) command)
  -- its numbers are those of members
  pub members : HasMembers script.extent answer
  -- the solution settles the look that is pending
  pub settles : IsSolvedFor (log_of (seen_book w)) (pending_in w) solved
  -- there is one exactly where the look is pending
  pub pending : is_some solved ≡ is_some (pending_in w)

-- the look that a session takes by the shape and the number that it read, for its next command
module _ (script : ScriptValue) (v w : PassView Step) (taken : ℕ) (answers : List Answer) (serving : IsServing script v taken answers) (is_script : IsScript script)
    (command : Command) (next : IsNextCommand script v.label taken command) (asked : Asked) (asks : Asks command asked) (extent : Extent) (shape : extent ≡ script.extent)
    (session : ℕ) (of : session ≡ v.label) (q : Query) (query_is : q ≡ query_for extent asked) (gave : Looked) (history : List Step) (adds : Adds v w history (Looking v.label q))
    (is : IsLooked v.label q (book_of v.frame history) gave) where
  abbrev old : BookValue
  old = book_of v.frame history

  abbrev new : BookValue
  new = with_request (Looking session (query_for extent asked)) old

  can : CanStep v
  can = can-step script v taken answers serving is_script command next

  -- what the session looked at is the query of its next command
  pub looked-for : IsLookedFor extent session asked old gave
  looked-for = record {
    extent_is = shape ∙ sym serving.served.extent ∙ sym (taken-extent v history can adds.taken);
    ready = subst (IsReady old) (sym of) (taken-ready v history can adds.taken);
    free = subst (IsFree old) (sym of) (taken-pending v history can adds.taken ∙ serving.served.free);
    looked_is = subst (λ (s : ℕ). IsLooked s (query_for extent asked) old gave) (sym of) (subst (λ (query : Query). IsLooked v.label query old gave) query_is is);
  }

  new-seen : new ≡ seen_book w
  new-seen =
      ap (λ (s : ℕ). with_request (Looking s (query_for extent asked)) old) of
      ∙ ap (λ (query : Query). with_request (Looking v.label query) old) (sym query_is)
      ∙ sym (adds-book v w history (Looking v.label q) adds)

  -- an answer that is due, with its solution, is what such a look leaves
  pub answered : (answer : Answer) (solved : Option Solved) → ((b : BookValue) → IsLookedFor extent session asked b gave → Shows extent answer (looked extent (state_of b) asked.wanted (query_for extent asked)))
      → HasMembers extent answer
      → ((b : BookValue) → IsLookedFor extent session asked b gave
      → IsSolvedFor (log_of (with_request (Looking session (query_for extent asked)) b)) (pending_of session (state_of (with_request (Looking session (query_for extent asked)) b)).pending) solved)
      → ((b : BookValue) → IsLookedFor extent session asked b gave → is_some solved ≡ is_some (pending_of session (state_of (with_request (Looking session (query_for extent asked)) b)).pending))
      → IsAnswered script v w history command answer solved
  answered answer solved shows members settles pending =
      let number : session ≡ w.label = of ∙ sym (adds-label v w history (Looking v.label q) adds) in
      record {
        adds =
            subst (λ (request : Request). Adds v w history request)
            (ap (λ (query : Query). Looking v.label query) (query_is ∙ ap (λ (e : Extent). query_for e asked) shape) ∙ sym (asks-request script.extent v.label command asked asks)) adds;
        shows =
            subst (Shows script.extent answer) (sym (asks-answer script.extent (state_of old) command asked asks))
            (subst (λ (e : Extent). Shows e answer (looked e (state_of old) asked.wanted (query_for e asked))) shape (shows old looked-for));
        members = subst (λ (e : Extent). HasMembers e answer) shape members;
        settles =
            subst (λ (s : ℕ). IsSolvedFor (log_of (seen_book w)) (pending_of s (state_of (seen_book w)).pending) solved) number
            (subst (λ (b : BookValue). IsSolvedFor (log_of b) (pending_of session (state_of b).pending) solved) new-seen (settles old looked-for));
        pending =
            pending old looked-for ∙ ap (λ (b : BookValue). is_some (pending_of session (state_of b).pending)) new-seen
            ∙ ap (λ (s : ℕ). is_some (pending_of s (state_of (seen_book w)).pending)) number;
      }

  -- its step units
  pub look-units : (before between last : ℕ) → between ≡ before + look_visits (state_of old) q
      → ((b : BookValue) → IsLookedFor extent session asked b gave → last ≡ between + exps_for (state_of b) (query_for extent asked))
      → last + units_by (moments_of (seen_book v) v.label) ≡ before + units_by (moments_of (seen_book w) v.label)
  look-units before between last visits exps =
      omega (arith, visits, exps old looked-for, ap (exps_for (state_of old)) query_is, adds-units v w history (Looking v.label q) can refl adds)

-- ---- after the answer
module _ (script : ScriptValue) (v w : PassView Step) (taken : ℕ) (answers : List Answer) (serving : IsServing script v taken answers) (is_script : IsScript script)
    (command : Command) (next : IsNextCommand script v.label taken command) (history : List Step) (answer : Answer) where
  -- without a solution the command is done with this answer
  pub serving-alone : IsAnswered script v w history command answer None → IsServing script w (taken + 1) (answers ++ answer ∷ [])
  serving-alone is =
      after-command script v taken answers serving w history command answer is_script next is.adds is.shows is.members (none-pending (pending_in w) (sym is.pending))
    where
      none-pending : (look : Option PendingLook) → is_some look ≡ false → look ≡ None
      none-pending None none = refl
      none-pending (Some look) none = absurd (cc)

  module _ (solved : Solved) (is : IsAnswered script v w history command answer (Some solved)) where
    -- with one the session may settle
    pub settle-can : CanStep w
    settle-can = can-settle script v taken answers serving w history command answer is_script next is.adds is.shows is.members

    -- and the solution is that of its pending look
    pub settle-by : IsSettledBy (log_of (seen_book w)) (pending_in w) solved.nodes.items
    settle-by = settled-by (log_of (seen_book w)) (pending_in w) solved (sym is.pending) is.settles

    module _ (u : PassView Step) (later : List Step) (settles : Adds w u later (Settling w.label)) where
      pub serving-settled : IsServing script u (taken + 1) (answers ++ answer ∷ [])
      serving-settled =
          some-pending (pending_in w) (sym is.pending)
          (after-settle script v taken answers serving w history command answer is_script next is.adds is.shows is.members u later settles)
        where
          some-pending : (look : Option PendingLook) → is_some look ≡ true → ((l : PendingLook) → look ≡ Some l → IsServing script u (taken + 1) (answers ++ answer ∷ []))
              → IsServing script u (taken + 1) (answers ++ answer ∷ [])
          some-pending None some from = absurd (cc)
          some-pending (Some look) some from = from look refl

      -- a settle takes no step units
      pub settle-units : units_by (moments_of (seen_book u) v.label) ≡ units_by (moments_of (seen_book w) v.label)
      settle-units =
          let none : units_by (moments_of (seen_book u) w.label) ≡ units_by (moments_of (seen_book w) w.label) =
          omega (arith, adds-units w u later (Settling w.label) settle-can refl settles) in
          subst (λ (label : ℕ). units_by (moments_of (seen_book u) label) ≡ units_by (moments_of (seen_book w) label)) (adds-label v w history (request_for script.extent v.label command) is.adds) none
