-- What the book tells when all sessions have ended.
use Rattle.std.proofs.Common.{◌≡◌, ◌∙◌, ℕ, ap, List, [], length, None}
use Rattle.std.specs.Prelude.{All, false}
use mathlib.Core.List.{IsPrefix}
use Rattle.turnstile.specs.declared.view.PassView.{PassView}
use Rattle.turnstile.specs.Entries.{of_label}
use Rattle.script_reader.specs.Script.{ScriptValue, IsScript}
use Rattle.book.specs.declared.step.Step.{Step}
use Rattle.book.specs.Play.{session_of}
use Rattle.book.specs.Books.{BookValue, IsBook, IsSession}
use Rattle.session.specs.declared.answer.Answer.{Answer}
use Rattle.session.specs.Play.{illegal_place, of_session}
use Rattle.session.specs.Runs.{IsTold, order_of, AreCounted}
use Rattle.session.specs.Holds.{frame_of, book_of}
use Rattle.session.specs.Serving.{IsServed}
use Rattle.session.specs.Threads.{AreJoined}
use Rattle.session.proofs.ThreadLaws.{all-served, all-raised}
use Rattle.session.proofs.TogetherLaws.{all-told, all-legal}
use Rattle.session.proofs.UnitLaws.{all-counted}

-- the book that comes out goes on from what the first pass knows, into which those of all sessions were joined
pub record IsEnd (script : ScriptValue) (first : BookValue) (head : PassView Step) (book : BookValue) (transcripts : List (List Answer)) (before after : List ℕ) : Type 0 where
  -- the script has its form
  pub is_script : IsScript script
  -- the book began with the script's shape
  pub extent : first.extent ≡ script.extent
  -- and with as many sessions as the script has
  pub sessions : first.sessions ≡ length script.sessions
  -- the first pass has the frame of that book
  pub frame : head.frame ≡ frame_of first
  -- what comes out is a book
  pub is_book : IsBook book
  -- which isn't spent
  pub unspent : book.spent ≡ false
  -- it has the frame, too
  pub framed : frame_of book ≡ head.frame
  -- all that the first pass has seen is in it
  pub seen : IsPrefix head.seen book.history
  -- the steps of each joined pass are those with its label
  pub own : All (λ j. of_label session_of j.0 book.history ≡ j.1) head.joined
  -- each session of the script has its answers
  pub count : length transcripts ≡ length script.sessions
  -- there are as many counters as before
  pub counters : length after ≡ length before
  -- and each was served on a pass that was joined, with its counter
  pub joined : AreJoined script head before after 1 transcripts

module _ (script : ScriptValue) (first : BookValue) (head : PassView Step) (book : BookValue) (transcripts : List (List Answer)) (before after : List ℕ)
    (is : IsEnd script first head book transcripts before after) where
  same-frame : frame_of book ≡ frame_of first
  same-frame = is.framed ∙ is.frame

  -- the capacity stays
  pub end-capacity : book.capacity ≡ first.capacity
  end-capacity = ap (λ (f : List ℕ). (book_of f []).capacity) same-frame

  end-extent : book.extent ≡ script.extent
  end-extent = ap (λ (f : List ℕ). (book_of f []).extent) same-frame ∙ is.extent

  end-sessions : book.sessions ≡ length script.sessions
  end-sessions = ap (λ (f : List ℕ). (book_of f []).sessions) same-frame ∙ is.sessions

  each : (session : ℕ) → IsSession (length script.sessions) session → IsServed script session book (length (of_session session script.sessions)) (of_session session transcripts)
  each = all-served script is.is_script head book is.is_book is.unspent is.framed is.seen is.own before after transcripts is.count is.joined

  -- the book's steps are those of the run of the script, with these answers
  pub end-told : IsTold script book transcripts
  end-told = all-told script book is.is_book transcripts is.count end-sessions each end-extent

  -- their order is legal
  pub end-legal : illegal_place book.capacity script (order_of book) ≡ None
  end-legal = all-legal script book is.is_book transcripts is.count end-sessions each

  -- each counter was raised by the units of its session's steps
  pub end-counted : AreCounted book.capacity script (order_of book) before after
  end-counted =
      all-counted script book is.is_book transcripts is.count end-sessions each before after is.counters
      (all-raised script is.is_script head book is.is_book is.unspent is.framed is.seen is.own before after transcripts is.count is.joined)
