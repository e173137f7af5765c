-- What a session keeps while it takes its steps among those of others.
use Rattle.std.specs.Prelude.{◌≡◌, ℕ, ◌*◌, ◌≤◌, List, [], ◌∷◌, All, drop, length, None}
use Rattle.turnstile.specs.declared.view.PassView.{PassView}
use Rattle.turnstile.specs.Entries.{of_label}
use Rattle.script_reader.specs.declared.command.Command.{Command}
use Rattle.script_reader.specs.Script.{ScriptValue}
use Rattle.book.specs.declared.step.Step.{Step}
use Rattle.book.specs.Play.{pending_of, session_of}
use Rattle.book.specs.Books.{BookValue, IsSession, state_of}
use Rattle.session.specs.declared.answer.Answer.{Answer}
use Rattle.session.specs.Play.{of_session}
use Rattle.session.specs.Answers.{ShowsEach, HasMembers}
use Rattle.session.specs.Moments.{moments_of, AreNext, taken_by, dues_of}
use Rattle.session.specs.Holds.{seen_book}

-- so many commands of the session were taken, with these answers, and none is pending
pub record IsServed (script : ScriptValue) (session : ℕ) (book : BookValue) (taken : ℕ) (answers : List Answer) : Type 0 where
  pub extent : book.extent ≡ script.extent
  pub sessions : book.sessions ≡ length script.sessions
  pub free : pending_of session (state_of book).pending ≡ None
  pub next : AreNext script.extent session (of_session session script.sessions) (moments_of book session)
  pub taken_is : taken_by (moments_of book session) ≡ taken
  pub shows : ShowsEach script.extent answers (dues_of script.extent (of_session session script.sessions) (moments_of book session))
  pub members : All (HasMembers script.extent) answers
  pub steps : length (moments_of book session) ≤ 2 * taken

-- so it is of the session of a pass, as far as this has seen
pub record IsServing (script : ScriptValue) (v : PassView Step) (taken : ℕ) (answers : List Answer) : Type 0 where
  pub session : IsSession (length script.sessions) v.label
  pub own : of_label session_of v.label v.seen ≡ v.own
  pub served : IsServed script v.label (seen_book v) taken answers

-- the next command of the session is this one
pub record IsNextCommand (script : ScriptValue) (session taken : ℕ) (command : Command) : Type 0 where
  pub rest : List Command
  pub left : drop taken (of_session session script.sessions) ≡ command ∷ rest

-- the pass of a session, before its first step
pub record IsOpening (script : ScriptValue) (v : PassView Step) : Type 0 where
  pub session : IsSession (length script.sessions) v.label
  pub extent : (seen_book v).extent ≡ script.extent
  pub sessions : (seen_book v).sessions ≡ length script.sessions
  pub seen : v.seen ≡ []
  pub own : v.own ≡ []
