use Rattle.std.proofs.Common.{rules, ◌≡◌, ◌∙◌, ◌+◌, ◌-◌, ◌<◌, ◌++◌, ◌∷◌, [], ℕ, List, length, get_or, slice_index_or, sym, subst, ap, arith}
use Rattle.std.proofs.lemmas.List.{length_push}
use Rattle.std.proofs.lemmas.Grind.{get_or_default_zero}
use Rattle.std.proofs.lemmas.Iterator.Adapters.{YieldsList-from_vec}
use Rattle.std.proofs.lemmas.Iterator.Consumers.{YieldsList-turn}
use Rattle.turnstile.specs.declared.view.PassView.{PassView}
use Rattle.turnstile.specs.Passes.{view}
use Rattle.turnstile.specs.Views.{new_pass}
use Rattle.book.specs.declared.step.Step.{Step}
use Rattle.session.specs.declared.threads.Job.{Job}
use Rattle.session.specs.Runs.{counter_of}
use Rattle.session.specs.Threads.{IsNew, AreNew}
use Rattle.session.proofs.JobLaws.{new-more}
use Rattle.session.proofs.threads.split_all.Given as given
use Rattle.session.proofs.threads.split_all.Goals as goal
use Rattle.session.proofs.threads.split_all.Goals.{In-Some}

-- there is a next counter, and it is the one that is taken
next-counter : (g : given.Over) (c : In-Some g) → (length c.loop-one.yielded < length c.args.steps.items) × (c.in-Some.one ≡ slice_index_or c.args.steps.items (length c.loop-one.yielded) 0)
next-counter g c =
    let item : (length c.loop-one.yielded < length c.args.steps.items) × (c.in-Some.one ≡ get_or c.args.steps.items (length c.loop-one.yielded) c.in-Some.one) =
    YieldsList-turn (YieldsList-from_vec {s = c.into_iter-one-iterator.result} c.args.steps.items (search rules) (search rules))
    c.loop-one.yielded c.loop-one.one-iterator c.loop-one.yielded_by c.next.result c.next.new.self c.in-Some.one c.in-Some.is c.next.ensures.steps in
    (item.0, item.1 ∙ get_or_default_zero c.args.steps.items (length c.loop-one.yielded) c.in-Some.one item.0)

pub split-pass-requires-clause-few : goal.split-pass-requires-clause-few
split-pass-requires-clause-few g c =
    let taken = next-counter g (goal.at.split-pass-requires-clause-few g c).In-Some in
    omega (arith, ap (λ (v : PassView Step). v.splits) c.loop-one.invariant.splits, taken.0, c.requires.few)

pub loop-one-init : goal.loop-one-init
loop-one-init g c = record {
  idle = c.requires.idle;
  splits = c.requires.first.1 ∙ ap (λ (v : PassView Step). record v { splits = 0 }) (sym c.requires.first.1);
  count = search rules;
  new = search rules;
}

pub loop-one-preserved : goal.loop-one-preserved
loop-one-preserved g c =
    let before = c.loop-one.invariant in
    let turns = c.args.turns.now in
    let frame : List ℕ = (view c.args.head.now).frame in
    let counters : List ℕ = c.args.steps.items in
    let given : List (Job _) = c.loop-one.jobs.items in
    let n : ℕ = length c.loop-one.yielded in
    let job : Job _ = record { pass = c.split-pass.result; steps = c.in-Some.one } in
    let items : c.push.new.self.items ≡ given ++ job ∷ [] = search rules in
    let first = c.requires.first in
    let head : view c.loop-one.head ≡ record (new_pass 0 first.0 []) { splits = n } = before.splits ∙ ap (λ (v : PassView Step). record v { splits = n }) first.1 in
    let made : view c.split-pass.result ≡ new_pass (1 + n) first.0 [] =
    c.split-pass.ensures.new ∙ ap (λ (v : PassView Step). new_pass (v.splits + 1) v.frame v.seen) head ∙ ap (λ (m : ℕ). new_pass m first.0 []) (omega arith) in
    let is_new : IsNew turns frame (1 + n) (counter_of (1 + n) counters) job = record {
      idle = (c.split-pass.ensures.own.1, ap (λ (v : PassView Step). v.turn) made);
      new = made ∙ ap (λ (f : List ℕ). new_pass (1 + n) f []) (sym (ap (λ (v : PassView Step). v.frame) first.1));
      counter_is = (next-counter g (goal.at.loop-one-preserved g c).In-Some).1 ∙ ap (λ (m : ℕ). slice_index_or counters m 0) (omega arith);
    } in
    let longer : length (c.loop-one.yielded ++ c.in-Some.one ∷ []) ≡ n + 1 = length_push c.loop-one.yielded c.in-Some.one in
    record {
      idle = (c.split-pass.ensures.own.0, ap (λ (v : PassView Step). v.turn) c.split-pass.ensures.counted ∙ before.idle.1);
      splits =
          c.split-pass.ensures.counted ∙ ap (λ (v : PassView Step). record v { splits = v.splits + 1 }) before.splits
          ∙ ap (λ (m : ℕ). record (view c.args.head.now) { splits = m }) (sym longer);
      count = ap length items ∙ length_push given job ∙ ap (λ (m : ℕ). m + 1) before.count ∙ sym longer;
      new =
          subst (AreNew turns frame counters 1) (sym items)
          (new-more turns frame counters 1 given job before.new (subst (λ (m : ℕ). IsNew turns frame (1 + m) (counter_of (1 + m) counters) job) (sym before.count) is_new));
    }
