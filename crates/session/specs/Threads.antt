-- The passes of a script's sessions with their counters, before and after their work, and what the book then tells.
use Rattle.std.specs.Prelude.{◌≡◌, ℕ, suc, ◌+◌, ◌<◌, List, [], ◌∷◌, length, slice_index_or, Some, Contains}
use mathlib.Core.List.{IsPrefix}
use Rattle.turnstile.specs.declared.turnstile.Turnstile.{Turnstile}
use Rattle.turnstile.specs.declared.view.PassView.{PassView}
use Rattle.turnstile.specs.Passes.{view}
use Rattle.turnstile.specs.Views.{new_pass}
use Rattle.script_reader.specs.Script.{ScriptValue}
use Rattle.book.specs.declared.step.Step.{Step}
use Rattle.session.specs.declared.answer.Answer.{Answer}
use Rattle.session.specs.declared.held.BookInTurn.{BookInTurn}
use Rattle.session.specs.declared.threads.Job.{Job}
use Rattle.session.specs.declared.threads.Worked.{Worked}
use Rattle.session.specs.Play.{of_session}
use Rattle.session.specs.Runs.{counter_of}
use Rattle.session.specs.Moments.{moments_of, units_by}
use Rattle.session.specs.Holds.{seen_book}
use Rattle.session.specs.Serving.{IsServing, IsOpening}
use Rattle.session.specs.Turns.{IsIdle}

-- the job of a session: a pass that has seen and added nothing, and this counter
module _ {L : Type 0} (t : Turnstile BookInTurn Step) (frame : List ℕ) where
  pub record IsNew (label counter : ℕ) (job : Job L) : Type 0 where
    pub idle : IsIdle t job.pass
    pub new : view job.pass ≡ new_pass label frame []
    pub counter_is : job.steps ≡ counter

  -- such jobs, with the labels from this one on, and the counters of the sessions that have these numbers
  abbrev pub AreNew : List ℕ → ℕ → List (Job L) → Type 0
  AreNew counters label [] = Unit {0}
  AreNew counters label (job ∷ jobs) = IsNew label (counter_of label counters) job × AreNew counters (suc label) jobs

-- the job of a session that is to take its steps
module _ {L : Type 0} (t : Turnstile BookInTurn Step) (script : ScriptValue) where
  pub record IsReadyJob (job : Job L) : Type 0 where
    pub idle : IsIdle t job.pass
    pub opening : IsOpening script (view job.pass)

  -- each of these jobs is ready
  abbrev pub AreReadyJobs : List (Job L) → Type 0
  AreReadyJobs jobs = (i : ℕ) (d : Job L) → i < length jobs → IsReadyJob (slice_index_or jobs i d)

-- the units of a session's steps as far as a pass has seen
abbrev pub units_seen : ℕ → PassView Step → ℕ
units_seen session v = units_by (moments_of (seen_book v) session)

-- the pass of a session that took its steps: where none wanted memory, its answers are there, and its counter was raised by the units of its steps
module _ {L : Type 0} (t : Turnstile BookInTurn Step) (frame : List ℕ) (script : ScriptValue) where
  pub record HasWorked (label before : ℕ) (w : Worked L) : Type 0 where
    pub idle : IsIdle t w.pass
    pub label_is : (view w.pass).label ≡ label
    pub frame_is : (view w.pass).frame ≡ frame
    pub served : (answers : List Answer) → w.transcript ≡ Some answers → IsServing script (view w.pass) (length (of_session label script.sessions)) answers
    pub ticks : (answers : List Answer) → w.transcript ≡ Some answers → w.steps ≡ before + units_seen label (view w.pass)

  -- such passes, with the labels from this one on, whose sessions had these counters before
  abbrev pub HaveWorked : List ℕ → ℕ → List (Worked L) → Type 0
  HaveWorked before label [] = Unit {0}
  HaveWorked before label (w ∷ ws) = HasWorked label (counter_of label before) w × HaveWorked before (suc label) ws

-- each job that was ready was done so
abbrev pub EachWorked : {L : Type 0} → Turnstile BookInTurn Step → ScriptValue → List (Job L) → List (Worked L) → Type 0
EachWorked {L} t script jobs ws = (i : ℕ) (d : Job L) (e : Worked L) → i < length jobs
    → HasWorked t (view (slice_index_or jobs i d).pass).frame script (view (slice_index_or jobs i d).pass).label (slice_index_or jobs i d).steps (slice_index_or ws i e)

-- the session of this number was served on a pass that was joined into this one, and its counter was raised by the units of its steps
pub record IsJoined (script : ScriptValue) (head : PassView Step) (label before after : ℕ) (answers : List Answer) : Type 0 where
  pub pass : PassView Step
  pub label_is : pass.label ≡ label
  pub frame_is : pass.frame ≡ head.frame
  pub serving : IsServing script pass (length (of_session label script.sessions)) answers
  pub seen : IsPrefix pass.seen head.seen
  pub own : Contains head.joined (label, pass.own)
  pub ticks : after ≡ before + units_seen label pass

-- the sessions from this label on were joined, each with its answers, and with the counters that all sessions had before and after
abbrev pub AreJoined : ScriptValue → PassView Step → List ℕ → List ℕ → ℕ → List (List Answer) → Type 0
AreJoined script head before after label [] = Unit {0}
AreJoined script head before after label (answers ∷ transcripts) =
    IsJoined script head label (counter_of label before) (counter_of label after) answers × AreJoined script head before after (suc label) transcripts
