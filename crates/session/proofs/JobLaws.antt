-- The jobs of sessions: passes that are split off, and the work on them.
use Rattle.std.proofs.Common.{◌≡◌, ◌∙◌, ℕ, zero, suc, ◌+◌, ◌<◌, refl, sym, ap, subst, arith, List, [], ◌∷◌, ◌++◌, length, slice_index_or}
use Rattle.turnstile.specs.declared.turnstile.Turnstile.{Turnstile}
use Rattle.turnstile.specs.declared.view.PassView.{PassView}
use Rattle.turnstile.specs.Passes.{view}
use Rattle.turnstile.specs.Views.{new_pass}
use Rattle.script_reader.specs.Script.{ScriptValue}
use Rattle.book.specs.declared.step.Step.{Step}
use Rattle.book.specs.Books.{BookValue, IsSession}
use Rattle.session.specs.declared.held.BookInTurn.{BookInTurn}
use Rattle.session.specs.declared.threads.Job.{Job}
use Rattle.session.specs.declared.threads.Worked.{Worked}
use Rattle.session.specs.Runs.{counter_of}
use Rattle.session.specs.Holds.{frame_of, seen_book}
use Rattle.session.specs.Serving.{IsOpening}
use Rattle.session.specs.Threads.{IsNew, AreNew, AreReadyJobs, HasWorked, HaveWorked, EachWorked}

-- a list with a place has an item
some-item : {A : Type 0} (xs : List A) (i : ℕ) → i < length xs → A
some-item [] i below = absurd (omega arith)
some-item (x ∷ xs) i below = x

-- ---- jobs that are new
module _ {L : Type 0} (t : Turnstile BookInTurn Step) (frame counters : List ℕ) where
  abbrev IsNewOf : ℕ → Job L → Type 0
  IsNewOf label job = IsNew t frame label (counter_of label counters) job

  -- one new job more, with the next label and the counter of its session
  pub new-more : (label : ℕ) (jobs : List (Job L)) (job : Job L) → AreNew t frame counters label jobs → IsNewOf (label + length jobs) job → AreNew t frame counters label (jobs ++ job ∷ [])
  new-more label [] job all new = (subst (λ (n : ℕ). IsNewOf n job) (omega arith) new, tt)
  new-more label (first ∷ jobs) job all new = (all.0, new-more (suc label) jobs job all.1 (subst (λ (n : ℕ). IsNewOf n job) (omega arith) new))

  -- the i-th of them has the i-th label
  new-at : (label : ℕ) (jobs : List (Job L)) (i : ℕ) (d job : Job L) → AreNew t frame counters label jobs → i < length jobs → slice_index_or jobs i d ≡ job → IsNewOf (label + i) job
  new-at label [] i d job all below is = absurd (omega arith)
  new-at label (first ∷ jobs) zero d job all below is = subst (λ (n : ℕ). IsNewOf n job) (omega arith) (subst (IsNewOf label) is all.0)
  new-at label (first ∷ jobs) (suc i) d job all below is = subst (λ (n : ℕ). IsNewOf n job) (omega arith) (new-at (suc label) jobs i d job all.1 (omega arith) is)

-- ---- jobs that are ready
-- a pass of a session that has seen nothing
opening-pass : (script : ScriptValue) (book : BookValue) (label : ℕ) (v : PassView Step) → v ≡ new_pass label (frame_of book) [] → book.extent ≡ script.extent
    → book.sessions ≡ length script.sessions → IsSession (length script.sessions) label → IsOpening script v
opening-pass script book label v is extent sessions here = record {
  session = subst (λ (u : PassView Step). IsSession (length script.sessions) u.label) (sym is) here;
  extent = ap (λ (u : PassView Step). (seen_book u).extent) is ∙ extent;
  sessions = ap (λ (u : PassView Step). (seen_book u).sessions) is ∙ sessions;
  seen = ap (λ (u : PassView Step). u.seen) is;
  own = ap (λ (u : PassView Step). u.own) is;
}

-- each new job is ready
pub all-ready : {L : Type 0} (t : Turnstile BookInTurn Step) (script : ScriptValue) (book : BookValue) (frame counters : List ℕ) (jobs : List (Job L)) → AreNew t frame counters 1 jobs
    → frame ≡ frame_of book → book.extent ≡ script.extent → book.sessions ≡ length script.sessions → length jobs ≡ length script.sessions → AreReadyJobs t script jobs
all-ready t script book frame counters jobs new framed extent sessions count = λ i d below.
    let is = new-at t frame counters 1 jobs i d (slice_index_or jobs i d) new below refl in
    record {
      idle = is.idle;
      opening =
          opening-pass script book (1 + i) (view (slice_index_or jobs i d).pass) (is.new ∙ ap (λ (f : List ℕ). new_pass (1 + i) f []) framed) extent sessions
          (record { some = omega arith; within = omega (arith, below, count) });
    }

-- ---- passes that come back
module _ {L : Type 0} (t : Turnstile BookInTurn Step) (frame : List ℕ) (script : ScriptValue) (before : List ℕ) where
  abbrev HasWorkedOn : ℕ → Worked L → Type 0
  HasWorkedOn label w = HasWorked t frame script label (counter_of label before) w

  -- works that are done under labels one after another are done as a list
  worked-each : (label : ℕ) (ws : List (Worked L)) → ((i : ℕ) (d : Worked L) → i < length ws → HasWorkedOn (label + i) (slice_index_or ws i d)) → HaveWorked t frame script before label ws
  worked-each label [] each = tt
  worked-each label (w ∷ ws) each = (
    subst (λ (n : ℕ). HasWorkedOn n w) (omega arith) (each 0 w (omega arith)),
    worked-each (suc label) ws (λ i d below. subst (λ (n : ℕ). HasWorkedOn n (slice_index_or ws i d)) (omega arith) (each (suc i) d (omega arith))),
  )

  -- the i-th of those that worked has the i-th label
  pub worked-at : (label : ℕ) (ws : List (Worked L)) (i : ℕ) (d w : Worked L) → HaveWorked t frame script before label ws → i < length ws → slice_index_or ws i d ≡ w → HasWorkedOn (label + i) w
  worked-at label [] i d w all below is = absurd (omega arith)
  worked-at label (v ∷ ws) zero d w all below is = subst (λ (n : ℕ). HasWorkedOn n w) (omega arith) (subst (HasWorkedOn label) is all.0)
  worked-at label (v ∷ ws) (suc i) d w all below is = subst (λ (n : ℕ). HasWorkedOn n w) (omega arith) (worked-at (suc label) ws i d w all.1 (omega arith) is)

-- the works of new jobs are those of their sessions
pub all-worked : {L : Type 0} (t : Turnstile BookInTurn Step) (frame : List ℕ) (script : ScriptValue) (counters : List ℕ) (jobs : List (Job L)) (ws : List (Worked L))
    → AreNew t frame counters 1 jobs → length ws ≡ length jobs → EachWorked t script jobs ws → HaveWorked t frame script counters 1 ws
all-worked t frame script counters jobs ws new size each = worked-each t frame script counters 1 ws (λ i e below.
    let within : i < length jobs = omega (arith, below, size) in
    let d : Job _ = some-item jobs i within in
    let job : Job _ = slice_index_or jobs i d in
    let is = new-at t frame counters 1 jobs i d job new within refl in
    let framed : HasWorked t frame script (view job.pass).label job.steps (slice_index_or ws i e) =
    subst (λ (f : List ℕ). HasWorked t f script (view job.pass).label job.steps (slice_index_or ws i e)) (ap (λ (v : PassView Step). v.frame) is.new) (each i d e within) in
    subst (λ (l : ℕ). HasWorked t frame script l (counter_of (1 + i) counters) (slice_index_or ws i e)) (ap (λ (v : PassView Step). v.label) is.new)
    (subst (λ (n : ℕ). HasWorked t frame script (view job.pass).label n (slice_index_or ws i e)) is.counter_is framed))
