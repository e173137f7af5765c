use Rattle.std.proofs.Common.{rules, ◌≡◌, ◌∙◌, ℕ, List, length, sym, subst, ap, false}
use Rattle.std.specs.Prelude.{All}
use mathlib.Core.List.{IsPrefix}
use Rattle.turnstile.specs.declared.view.PassView.{PassView}
use Rattle.turnstile.specs.Entries.{of_label}
use Rattle.turnstile.specs.Passes.{view}
use Rattle.book.specs.declared.step.Step.{Step}
use Rattle.book.specs.Play.{session_of}
use Rattle.book.specs.Books.{BookValue, IsBook}
use Rattle.session.specs.Play.{illegal_place}
use Rattle.session.specs.Runs.{order_of, AreCounted}
use Rattle.session.specs.Holds.{frame_of}
use Rattle.session.specs.Threads.{HaveWorked}
use Rattle.session.proofs.JobLaws.{all-ready, all-worked}
use Rattle.session.proofs.ThreadLaws.{own-outcome}
use Rattle.session.proofs.ExpansionLaws.{expand-in}
use Rattle.session.proofs.EndLaws.{IsEnd, end-capacity, end-told, end-legal, end-counted}
use Rattle.session.proofs.threads.run_all.Given as given
use Rattle.session.proofs.threads.run_all.Goals as goal
use Rattle.session.proofs.threads.run_all.Goals.{In_ok-jobs, In_ok-transcripts}

-- the frame that the turnstile began with
first-frame : (g : given.Over) (c : In_ok-jobs g) → (view c.in-Ok.head).frame ≡ frame_of c.in_ok-book.book
first-frame g c = ap (λ (v : PassView Step). v.frame) c.in-Ok.ensures.first ∙ ap frame_of c.of.ensures

first-sessions : (g : given.Over) (c : In_ok-jobs g) → c.in_ok-book.book.sessions ≡ length c.args.script.now.sessions
first-sessions g c = search rules

first-extent : (g : given.Over) (c : In_ok-jobs g) → c.in_ok-book.book.extent ≡ c.args.script.now.extent
first-extent g c = search rules

pub work_all-requires : goal.work_all-requires
work_all-requires g c =
    let at = (goal.at.work_all-requires g c).In_ok-jobs in
    let jobs = c.in_ok-jobs.jobs.items in
    let ready =
    all-ready c.in-Ok.turns c.args.script.now c.in_ok-book.book (view c.in-Ok.head).frame c.args.steps.items jobs c.in_ok-jobs.ensures.new
    (first-frame g at) (first-extent g at) (first-sessions g at) (c.in_ok-jobs.ensures.len ∙ c.requires.counters) in
    let same : c.in_ok-basis.basis ≡ c.args.script.now.extent = search rules in
    (c.type_bounds.send-L, (c.type_bounds.sync-R, (c.type_bounds.sync-G, (same, ready))))

pub join_all-requires-clause-each : goal.join_all-requires-clause-each
join_all-requires-clause-each g c κs lives =
    let frame : (view c.split_all.new.head).frame ≡ (view c.in-Ok.head).frame = ap (λ (v : PassView Step). v.frame) c.in_ok-jobs.ensures.same in
    let worked : HaveWorked c.in-Ok.turns (view c.split_all.new.head).frame c.args.script.now c.args.steps.items 1 c.in_ok-worked.worked.items =
    subst (λ (f : List ℕ). HaveWorked c.in-Ok.turns f c.args.script.now c.args.steps.items 1 c.in_ok-worked.worked.items) (sym frame)
    (all-worked c.in-Ok.turns (view c.in-Ok.head).frame c.args.script.now c.args.steps.items c.in_ok-jobs.jobs.items c.in_ok-worked.worked.items
    c.in_ok-jobs.ensures.new c.in_ok-worked.ensures.len c.in_ok-worked.ensures.worked) in
    (c.args.steps.items, worked)

-- ---- the end
ends : (g : given.Over) (c : In_ok-transcripts g) (book : BookValue) → IsBook book → book.spent ≡ false → frame_of book ≡ (view c.join_all.new.head).frame
    → IsPrefix (view c.join_all.new.head).seen book.history → All (λ j. of_label session_of j.0 book.history ≡ j.1) (view c.join_all.new.head).joined
    → IsEnd c.args.script.now c.in_ok-book.book (view c.join_all.new.head) book c.in_ok-transcripts.transcripts.items c.args.steps.items c.in_ok-transcripts.counters.items
ends g c book is_book unspent framed seen own =
    let extent : c.in_ok-book.book.extent ≡ c.args.script.now.extent = search rules in
    let sessions : c.in_ok-book.book.sessions ≡ length c.args.script.now.sessions = search rules in
    let frame : (view c.split_all.new.head).frame ≡ (view c.in-Ok.head).frame = ap (λ (v : PassView Step). v.frame) c.in_ok-jobs.ensures.same in
    let worked : HaveWorked c.in-Ok.turns (view c.split_all.new.head).frame c.args.script.now c.args.steps.items 1 c.in_ok-worked.worked.items =
    subst (λ (f : List ℕ). HaveWorked c.in-Ok.turns f c.args.script.now c.args.steps.items 1 c.in_ok-worked.worked.items) (sym frame)
    (all-worked c.in-Ok.turns (view c.in-Ok.head).frame c.args.script.now c.args.steps.items c.in_ok-jobs.jobs.items c.in_ok-worked.worked.items
    c.in_ok-jobs.ensures.new c.in_ok-worked.ensures.len c.in_ok-worked.ensures.worked) in
    let jobs : length c.in_ok-worked.worked.items ≡ length c.args.steps.items = c.in_ok-worked.ensures.len ∙ c.in_ok-jobs.ensures.len in
    record {
      is_script = c.sessions.ensures.script;
      extent = extent;
      sessions = sessions;
      frame = c.in_ok-transcripts.ensures.frame ∙ frame ∙ ap (λ (v : PassView Step). v.frame) c.in-Ok.ensures.first ∙ ap frame_of c.of.ensures;
      is_book = is_book;
      unspent = unspent;
      framed = framed;
      seen = seen;
      own = own;
      count = c.in_ok-transcripts.ensures.len.0 ∙ jobs ∙ c.requires.counters;
      counters = c.in_ok-transcripts.ensures.len.1 ∙ jobs;
      joined = c.in_ok-transcripts.ensures.joined c.args.steps.items worked;
    }

pub outcome_of-requires : goal.outcome_of-requires
outcome_of-requires g c =
    let found = c.finish-book.ensures.value in
    end-told c.args.script.now c.in_ok-book.book (view c.join_all.new.head) c.finish-book.result.book c.in_ok-transcripts.transcripts.items c.args.steps.items c.in_ok-transcripts.counters.items
    (ends g (goal.at.outcome_of-requires g c).In_ok-transcripts c.finish-book.result.book c.version-version.ensures.book (sym c.spent.ensures ∙ c.if-spent.false) found.framed found.seen found.joined)

pub returns-clause-legal : goal.returns-clause-legal
returns-clause-legal g c =
    let found = c.finish-book.ensures.value in
    let script = c.args.script.now in
    let book : BookValue = c.finish-book.result.book in
    let end =
    ends g (goal.at.returns-clause-legal g c).In_ok-transcripts book c.version-version.ensures.book (sym c.spent.ensures ∙ c.if-spent.false) found.framed found.seen found.joined in
    let capacity : book.capacity ≡ c.args.capacity =
    end-capacity script c.in_ok-book.book (view c.join_all.new.head) book c.in_ok-transcripts.transcripts.items c.args.steps.items c.in_ok-transcripts.counters.items end
    ∙ ap (λ (b : BookValue). b.capacity) c.in_ok-book.ensures in
    ap (illegal_place c.args.capacity script) c.in_ok-outcome.ensures.order
    ∙ ap (λ (n : ℕ). illegal_place n script (order_of book)) (sym capacity)
    ∙ end-legal script c.in_ok-book.book (view c.join_all.new.head) book c.in_ok-transcripts.transcripts.items c.args.steps.items c.in_ok-transcripts.counters.items end

pub returns-clause-outcome : goal.returns-clause-outcome
returns-clause-outcome g c =
    let found = c.finish-book.ensures.value in
    let script = c.args.script.now in
    let book : BookValue = c.finish-book.result.book in
    let end =
    ends g (goal.at.returns-clause-outcome g c).In_ok-transcripts book c.version-version.ensures.book (sym c.spent.ensures ∙ c.if-spent.false) found.framed found.seen found.joined in
    let capacity : book.capacity ≡ c.args.capacity =
    end-capacity script c.in_ok-book.book (view c.join_all.new.head) book c.in_ok-transcripts.transcripts.items c.args.steps.items c.in_ok-transcripts.counters.items end
    ∙ ap (λ (b : BookValue). b.capacity) c.in_ok-book.ensures in
    own-outcome c.in_ok-outcome.outcome script book c.args.capacity capacity c.in_ok-outcome.ensures.outcome c.in_ok-outcome.ensures.order

pub returns-clause-expands : goal.returns-clause-expands
returns-clause-expands g c = expand-in c.args.script.now c.sessions.ensures.script c.args.capacity c.in_ok-outcome.outcome.order.items

pub returns-clause-ticks : goal.returns-clause-ticks
returns-clause-ticks g c =
    let found = c.finish-book.ensures.value in
    let script = c.args.script.now in
    let book : BookValue = c.finish-book.result.book in
    let before : List ℕ = c.args.steps.items in
    let after : List ℕ = c.in_ok-transcripts.counters.items in
    let end =
    ends g (goal.at.returns-clause-ticks g c).In_ok-transcripts book c.version-version.ensures.book (sym c.spent.ensures ∙ c.if-spent.false) found.framed found.seen found.joined in
    let capacity : book.capacity ≡ c.args.capacity =
    end-capacity script c.in_ok-book.book (view c.join_all.new.head) book c.in_ok-transcripts.transcripts.items before after end ∙ ap (λ (b : BookValue). b.capacity) c.in_ok-book.ensures in
    subst (λ (order : List ℕ). AreCounted c.args.capacity script order before after) (sym c.in_ok-outcome.ensures.order)
    (subst (λ (n : ℕ). AreCounted n script (order_of book) before after) capacity
    (end-counted script c.in_ok-book.book (view c.join_all.new.head) book c.in_ok-transcripts.transcripts.items before after end))
