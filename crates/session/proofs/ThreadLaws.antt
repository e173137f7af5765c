-- The passes of sessions, joined, and what they saw.
use Rattle.std.proofs.Common.{◌≡◌, ◌∙◌, ℕ, zero, suc, ◌+◌, ◌-◌, ◌*◌, ◌<◌, ◌≤◌, Bool, false, sym, ap, subst, arith, List, [], ◌∷◌, ◌++◌, length, slice_index_or}
use Rattle.std.specs.Prelude.{All, Contains}
use Rattle.std.proofs.lemmas.List.{get_or_append_left, get_or_push}
use Rattle.std.proofs.lemmas.List.Elements.{All-contains}
use mathlib.Core.List.{IsPrefix}
use base.Growing.{prefix_trans}
use Rattle.turnstile.specs.declared.view.PassView.{PassView}
use Rattle.turnstile.specs.Entries.{of_label, longer}
use Rattle.script_reader.specs.declared.command.Command.{Command}
use Rattle.script_reader.specs.Script.{ScriptValue, IsScript}
use Rattle.book.specs.declared.step.Step.{Step}
use Rattle.book.specs.Play.{session_of}
use Rattle.book.specs.Books.{BookValue, IsBook, IsSession}
use Rattle.session.specs.declared.answer.Answer.{Answer}
use Rattle.session.specs.declared.answer.Outcome.{Outcome}
use Rattle.session.specs.Play.{of_session, due_outcome}
use Rattle.session.specs.Answers.{ShowsEach, IsOutcome}
use Rattle.session.specs.Runs.{order_of, counter_of}
use Rattle.session.specs.Moments.{Moment, moments_of, AreNext, taken_by, dues_of, units_by}
use Rattle.session.specs.Holds.{frame_of, book_of, seen_book, CanStep, IsTaken}
use Rattle.session.specs.Serving.{IsServing, IsServed}
use Rattle.session.specs.Threads.{units_seen, IsJoined, AreJoined}
use Rattle.session.proofs.MomentLaws.{moments-later}
use Rattle.session.proofs.TakenLaws.{taken-extent, taken-sessions, taken-pending}
use Rattle.session.proofs.ServingLaws.{can-serve}

-- ---- passes that are joined
-- a pass knows more than another: it has seen more, and joined more
pub record KnowsMore (old new : PassView Step) : Type 0 where
  -- the frame stays
  pub frame : new.frame ≡ old.frame
  -- nothing that was seen is forgotten
  pub seen : IsPrefix old.seen new.seen
  -- nor any pass that was joined
  pub joined : (j : ℕ × List Step) → Contains old.joined j → Contains new.joined j

abbrev joining : PassView Step → PassView Step → PassView Step
joining old other = record old { seen = longer old.seen other.seen; joined = (other.label, other.own) ∷ old.joined }

-- a pass knows more once another is joined into it
pub knows-more : (old new other : PassView Step) → new ≡ joining old other → IsPrefix old.seen new.seen → KnowsMore old new
knows-more old new other is seen = record {
  frame = ap (λ (v : PassView Step). v.frame) is;
  seen = seen;
  joined = λ j c. subst (λ (js : List (ℕ × List Step)). Contains js j) (sym (ap (λ (v : PassView Step). v.joined) is)) (suc c.0, omega (arith, c.1), c.2);
}

-- the pass that is joined is that of this session
pub joined-new : (script : ScriptValue) (old new pass : PassView Step) (label before after : ℕ) (answers : List Answer) → new ≡ joining old pass → IsPrefix pass.seen new.seen → pass.label ≡ label
    → pass.frame ≡ old.frame → IsServing script pass (length (of_session label script.sessions)) answers → after ≡ before + units_seen label pass → IsJoined script new label before after answers
joined-new script old new pass label before after answers is seen label_is frame_is serving ticks = record {
  pass = pass;
  label_is = label_is;
  frame_is = frame_is ∙ sym (ap (λ (v : PassView Step). v.frame) is);
  serving = serving;
  seen = seen;
  own =
      subst (λ (js : List (ℕ × List Step)). Contains js (label, pass.own)) (sym (ap (λ (v : PassView Step). v.joined) is))
      (0, omega arith, ap (λ (l : ℕ). (l, pass.own)) label_is);
  ticks = ticks;
}

module _ (script : ScriptValue) (old new : PassView Step) (more : KnowsMore old new) where
  joined-later : (label before after : ℕ) (answers : List Answer) → IsJoined script old label before after answers → IsJoined script new label before after answers
  joined-later label before after answers is = record {
    pass = is.pass;
    label_is = is.label_is;
    frame_is = is.frame_is ∙ sym more.frame;
    serving = is.serving;
    seen = prefix_trans is.pass.seen old.seen new.seen is.seen more.seen;
    own = more.joined (label, is.pass.own) is.own;
    ticks = is.ticks;
  }

  -- what was joined into a pass stays so when it knows more
  pub are-joined-later : (before after : List ℕ) (label : ℕ) (transcripts : List (List Answer)) → AreJoined script old before after label transcripts
      → AreJoined script new before after label transcripts
  are-joined-later before after label [] are = tt
  are-joined-later before after label (answers ∷ transcripts) are =
      (joined-later label (counter_of label before) (counter_of label after) answers are.0, are-joined-later before after (suc label) transcripts are.1)

module _ (script : ScriptValue) (head : PassView Step) (before : List ℕ) where
  abbrev IsJoinedWith : List ℕ → ℕ → List Answer → Type 0
  IsJoinedWith after label answers = IsJoined script head label (counter_of label before) (counter_of label after) answers

  -- a counter more at the end leaves the earlier ones
  counter-more : (after : List ℕ) (counter label : ℕ) (transcripts : List (List Answer)) → (label - 1) + length transcripts ≤ length after → 1 ≤ label
      → AreJoined script head before after label transcripts → AreJoined script head before (after ++ counter ∷ []) label transcripts
  counter-more after counter label [] room some are = tt
  counter-more after counter label (answers ∷ transcripts) room some are = (
    subst (λ (n : ℕ). IsJoined script head label (counter_of label before) n answers) (sym (get_or_append_left after (counter ∷ []) 0 (label - 1) (omega arith))) are.0,
    counter-more after counter (suc label) transcripts (omega arith) (omega arith) are.1,
  )

  transcript-more : (after : List ℕ) (label : ℕ) (transcripts : List (List Answer)) (answers : List Answer) → AreJoined script head before after label transcripts
      → IsJoinedWith after (label + length transcripts) answers → AreJoined script head before after label (transcripts ++ answers ∷ [])
  transcript-more after label [] answers are is = (subst (λ (n : ℕ). IsJoinedWith after n answers) (omega arith) is, tt)
  transcript-more after label (first ∷ transcripts) answers are is =
      (are.0, transcript-more after (suc label) transcripts answers are.1 (subst (λ (n : ℕ). IsJoinedWith after n answers) (omega arith) is))

  -- one session more was joined, with its counter
  pub joined-more : (after : List ℕ) (counter : ℕ) (transcripts : List (List Answer)) (answers : List Answer) → length after ≡ length transcripts → AreJoined script head before after 1 transcripts
      → IsJoined script head (1 + length transcripts) (counter_of (1 + length transcripts) before) counter answers
      → AreJoined script head before (after ++ counter ∷ []) 1 (transcripts ++ answers ∷ [])
  joined-more after counter transcripts answers same are is =
      let label : ℕ = 1 + length transcripts in
      let last : counter_of label (after ++ counter ∷ []) ≡ counter = get_or_push after counter 0 (label - 1) (omega (arith, same)) in
      transcript-more (after ++ counter ∷ []) 1 transcripts answers (counter-more after counter 1 transcripts (omega (arith, same)) (omega arith) are)
      (subst (λ (n : ℕ). IsJoined script head label (counter_of label before) n answers) (sym last) is)

  -- the session at a place was joined
  joined-at : (after : List ℕ) (label : ℕ) (transcripts : List (List Answer)) (i : ℕ) → AreJoined script head before after label transcripts → i < length transcripts
      → IsJoinedWith after (label + i) (slice_index_or transcripts i [])
  joined-at after label [] i are below = absurd (omega arith)
  joined-at after label (first ∷ transcripts) zero are below = subst (λ (n : ℕ). IsJoinedWith after n first) (omega arith) are.0
  joined-at after label (first ∷ transcripts) (suc i) are below =
      subst (λ (n : ℕ). IsJoinedWith after n (slice_index_or transcripts i [])) (omega arith) (joined-at after (suc label) transcripts i are.1 (omega arith))

  -- each session was joined
  pub joined-each : (after : List ℕ) (transcripts : List (List Answer)) (session : ℕ) → AreJoined script head before after 1 transcripts → IsSession (length transcripts) session
      → IsJoinedWith after session (of_session session transcripts)
  joined-each after transcripts session are here =
      let place : 1 + (session - 1) ≡ session = omega (arith, here.some) in
      subst (λ (n : ℕ). IsJoinedWith after n (of_session session transcripts)) place (joined-at after 1 transcripts (session - 1) are (omega (arith, here.some, here.within)))

-- ---- what all passes saw
book-is : (book : BookValue) (frame : List ℕ) → book.spent ≡ false → frame_of book ≡ frame → book ≡ book_of frame book.history
book-is book frame unspent framed = ap (λ (s : Bool). record book { spent = s }) unspent ∙ ap (λ (f : List ℕ). book_of f book.history) framed

-- the moments of a session that was served stay while others take their steps
moments-kept : (script : ScriptValue) (v : PassView Step) (taken : ℕ) (answers : List Answer) (history : List Step) → IsServing script v taken answers → IsTaken v history
    → moments_of (seen_book v) v.label ≡ moments_of (book_of v.frame history) v.label
moments-kept script v taken answers history serving found = sym (moments-later v.label v.frame v.seen history found.seen (found.own ∙ sym serving.own))

-- a session that was served is so while others take their steps
served-later : (script : ScriptValue) (v : PassView Step) (taken : ℕ) (answers : List Answer) (history : List Step) → IsServing script v taken answers → CanStep v → IsTaken v history
    → IsServed script v.label (book_of v.frame history) taken answers
served-later script v taken answers history serving can found =
    let served = serving.served in
    let same : moments_of (seen_book v) v.label ≡ moments_of (book_of v.frame history) v.label = moments-kept script v taken answers history serving found in
    record {
      extent = taken-extent v history can found ∙ served.extent;
      sessions = taken-sessions v history can found ∙ served.sessions;
      free = taken-pending v history can found ∙ served.free;
      next = subst (AreNext script.extent v.label (of_session v.label script.sessions)) same served.next;
      taken_is = ap taken_by (sym same) ∙ served.taken_is;
      shows = subst (λ (ms : List Moment). ShowsEach script.extent answers (dues_of script.extent (of_session v.label script.sessions) ms)) same served.shows;
      members = served.members;
      steps = subst (λ (ms : List Moment). length ms ≤ 2 * taken) same served.steps;
    }

module _ (script : ScriptValue) (is_script : IsScript script) (head : PassView Step) (book : BookValue) (is_book : IsBook book) (unspent : book.spent ≡ false)
    (framed : frame_of book ≡ head.frame) (begins : IsPrefix head.seen book.history) (own : All (λ j. of_label session_of j.0 book.history ≡ j.1) head.joined) where
  abbrev commands : ℕ → List Command
  commands label = of_session label script.sessions

  module _ (label before after : ℕ) (answers : List Answer) (is : IsJoined script head label before after answers) where
    abbrev pass : PassView Step
    pass = is.pass

    is-book : book ≡ book_of pass.frame book.history
    is-book = book-is book pass.frame unspent (framed ∙ sym is.frame_is)

    is-taken : IsTaken pass book.history
    is-taken = record {
      book = subst IsBook is-book is_book;
      seen = prefix_trans pass.seen head.seen book.history is.seen begins;
      own = ap (λ (l : ℕ). of_label session_of l book.history) is.label_is ∙ All-contains (λ (j : ℕ × List Step). of_label session_of j.0 book.history ≡ j.1) head.joined (label, pass.own) own is.own;
    }

    joined-served : IsServed script label book (length (commands label)) answers
    joined-served =
        let served = served-later script pass (length (commands label)) answers book.history is.serving (can-serve script pass (length (commands label)) answers is.serving is_script few) is-taken in
        subst (λ (l : ℕ). IsServed script l book (length (commands label)) answers) is.label_is
        (subst (λ (b : BookValue). IsServed script pass.label b (length (commands label)) answers) (sym is-book) served)
      where
        few : length (commands label) ≤ length (commands pass.label)
        few = omega (arith, ap (λ (l : ℕ). length (commands l)) is.label_is)

    joined-units : after ≡ before + units_by (moments_of book label)
    joined-units =
        let seen : units_seen pass.label pass ≡ units_by (moments_of book pass.label) =
        ap units_by (moments-kept script pass (length (commands label)) answers book.history is.serving is-taken) ∙ ap (λ (b : BookValue). units_by (moments_of b pass.label)) (sym is-book) in
        is.ticks ∙ ap (λ (n : ℕ). before + n) (subst (λ (l : ℕ). units_seen l pass ≡ units_by (moments_of book l)) is.label_is seen)

  module _ (before after : List ℕ) (transcripts : List (List Answer)) (count : length transcripts ≡ length script.sessions) (are : AreJoined script head before after 1 transcripts)
      (session : ℕ) (here : IsSession (length script.sessions) session) where
    joined-here : IsJoined script head session (counter_of session before) (counter_of session after) (of_session session transcripts)
    joined-here = joined-each script head before after transcripts session are (subst (λ (n : ℕ). IsSession n session) (sym count) here)

    -- each session was served, as the book that comes out tells it
    pub all-served : IsServed script session book (length (commands session)) (of_session session transcripts)
    all-served = joined-served session (counter_of session before) (counter_of session after) (of_session session transcripts) joined-here

    -- and its counter was raised by the units of its steps in that book
    pub all-raised : counter_of session after ≡ counter_of session before + units_by (moments_of book session)
    all-raised = joined-units session (counter_of session before) (counter_of session after) (of_session session transcripts) joined-here

-- ---- the outcome
-- the outcome in its own order
pub own-outcome : (outcome : Outcome) (script : ScriptValue) (book : BookValue) (capacity : ℕ) → book.capacity ≡ capacity
    → IsOutcome script.extent outcome (due_outcome book.capacity script (order_of book)) → outcome.order.items ≡ order_of book
    → IsOutcome script.extent outcome (due_outcome capacity script outcome.order.items)
own-outcome outcome script book capacity is due order =
    subst (λ (n : ℕ). IsOutcome script.extent outcome (due_outcome n script outcome.order.items)) is
    (subst (λ (o : List ℕ). IsOutcome script.extent outcome (due_outcome book.capacity script o)) (sym order) due)
