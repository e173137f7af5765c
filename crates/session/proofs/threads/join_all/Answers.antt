use Rattle.std.proofs.Common.{rules, ◌≡◌, ◌∙◌, ◌+◌, ◌<◌, ◌++◌, ◌∷◌, [], ℕ, List, length, get_or, sym, subst, ap}
use Rattle.std.proofs.lemmas.List.{length_push}
use Rattle.std.proofs.lemmas.Iterator.Adapters.{YieldsList-from_vec}
use Rattle.std.proofs.lemmas.Iterator.Consumers.{YieldsList-turn}
use Rattle.turnstile.specs.declared.view.PassView.{PassView}
use Rattle.turnstile.specs.Passes.{view}
use Rattle.book.specs.declared.step.Step.{Step}
use Rattle.session.specs.declared.answer.Answer.{Answer}
use Rattle.session.specs.Runs.{counter_of}
use Rattle.session.specs.Threads.{HasWorked, HaveWorked, IsJoined, AreJoined}
use Rattle.session.proofs.JobLaws.{worked-at}
use Rattle.session.proofs.ThreadLaws.{knows-more, joined-new, joined-more, are-joined-later}
use Rattle.session.proofs.threads.join_all.Given as given
use Rattle.session.proofs.threads.join_all.Goals as goal
use Rattle.session.proofs.threads.join_all.Goals.{In-Some}

-- the pass that is joined is the next one that came back
came-back : (g : given.Over) (c : In-Some g) (before : List ℕ) → HaveWorked c.args.turns.now (view c.args.head.now).frame c.args.script.now before 1 c.args.worked.items
    → HasWorked c.args.turns.now (view c.args.head.now).frame c.args.script.now (1 + length c.loop-one.yielded) (counter_of (1 + length c.loop-one.yielded) before) c.in-Some.one
came-back g c before worked =
    let item : (length c.loop-one.yielded < length c.args.worked.items) × (c.in-Some.one ≡ get_or c.args.worked.items (length c.loop-one.yielded) c.in-Some.one) =
    YieldsList-turn (YieldsList-from_vec {s = c.into_iter-one-iterator.result} c.args.worked.items (search rules) (search rules))
    c.loop-one.yielded c.loop-one.one-iterator c.loop-one.yielded_by c.next.result c.next.new.self c.in-Some.one c.in-Some.is c.next.ensures.steps in
    worked-at c.args.turns.now (view c.args.head.now).frame c.args.script.now before 1 c.args.worked.items (length c.loop-one.yielded) c.in-Some.one c.in-Some.one worked item.0 (sym item.1)

pub join-requires-clause-own : goal.join-requires-clause-own
join-requires-clause-own g c =
    let each = c.requires.each in
    (c.loop-one.invariant.idle.0, (came-back g (goal.at.join-requires-clause-own g c).In-Some each.0 each.1).idle.0)

pub join-requires-clause-free : goal.join-requires-clause-free
join-requires-clause-free g c =
    let each = c.requires.each in
    (c.loop-one.invariant.idle.1, (came-back g (goal.at.join-requires-clause-free g c).In-Some each.0 each.1).idle.1)

pub loop-one-preserved : goal.loop-one-preserved
loop-one-preserved g c =
    let at = (goal.at.loop-one-preserved g c).In-Some in
    let so_far = c.loop-one.invariant in
    let script = c.args.script.now in
    let old : PassView Step = view c.loop-one.head in
    let new : PassView Step = view c.join.new.pass in
    let pass : PassView Step = view c.in-Some.one.pass in
    let given : List (List Answer) = c.loop-one.transcripts.items in
    let counted : List ℕ = c.loop-one.counters.items in
    let transcript : List Answer = c.in-Some-transcript.transcript in
    let counter : ℕ = c.in-Some.one.steps in
    let n : ℕ = length c.loop-one.yielded in
    let is = c.join.ensures.joined in
    let items : c.push.new.self.items ≡ given ++ transcript ∷ [] = search rules in
    let counters : c.push-in-loop-one.new.self.items ≡ counted ++ counter ∷ [] = search rules in
    let longer : length (c.loop-one.yielded ++ c.in-Some.one ∷ []) ≡ n + 1 = length_push c.loop-one.yielded c.in-Some.one in
    record {
      idle = (c.join.ensures.own, ap (λ (v : PassView Step). v.turn) is ∙ so_far.idle.1);
      label = ap (λ (v : PassView Step). v.label) is ∙ so_far.label;
      frame = ap (λ (v : PassView Step). v.frame) is ∙ so_far.frame;
      count = ap length items ∙ length_push given transcript ∙ ap (λ (m : ℕ). m + 1) so_far.count ∙ sym longer;
      counters = ap length counters ∙ length_push counted counter ∙ ap (λ (m : ℕ). m + 1) so_far.counters ∙ sym longer;
      joined = λ before worked.
          let did = came-back g at before worked in
          let joined : IsJoined script new (1 + n) (counter_of (1 + n) before) counter transcript =
          joined-new script old new pass (1 + n) (counter_of (1 + n) before) counter transcript is c.join.ensures.seen.1 did.label_is (did.frame_is ∙ sym so_far.frame)
          (did.served transcript c.in-Some-transcript.is) (did.ticks transcript c.in-Some-transcript.is) in
          subst (λ (cs : List ℕ). AreJoined script new before cs 1 c.push.new.self.items) (sym counters)
          (subst (AreJoined script new before (counted ++ counter ∷ []) 1) (sym items)
          (joined-more script new before counted counter given transcript (so_far.counters ∙ sym so_far.count)
          (are-joined-later script old new (knows-more old new pass is c.join.ensures.seen.0) before counted 1 given (so_far.joined before worked))
          (subst (λ (m : ℕ). IsJoined script new (1 + m) (counter_of (1 + m) before) counter transcript) (sym so_far.count) joined)));
    }
