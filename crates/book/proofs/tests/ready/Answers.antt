use Rattle.std.proofs.Common.{◌≡◌, ◌∙◌, sym, ℕ, ◌<◌, ◌≤◌, ◌+◌, ◌^◌, refl, arith, subst, not, List, length}
use Rattle.std.specs.Prelude.{nat_eq, filter}
use Rattle.std.proofs.lemmas.List.Filters.{length-filter_both}
use Rattle.book.specs.declared.step.Step.{Step}
use Rattle.book.specs.Play.{session_of}
use Rattle.book.specs.Books.{count_of}
use Rattle.book.proofs.tests.ready.Goals as goal

count-within : (session : ℕ) (history : List Step) → count_of session history ≤ length history
count-within session history =
    omega (arith, length-filter_both (λ (step : Step). nat_eq session (session_of step)) (λ (step : Step). not (nat_eq session (session_of step))) (λ step. refl) history)

pub returns : goal.returns
returns c =
    let few : length c.history.result.now < 2 ^ 32 = omega (arith, c.if-history-ge4096.false) in
    let history : length c.args.book.now.history < 2 ^ 32 = subst (λ (steps : List Step). length steps < 2 ^ 32) c.history.ensures few in
    record {
      unspent = sym c.spent.ensures ∙ c.if-spent.false;
      of_book = record { some = c.requires.some; within = c.requires.within };
      steps = omega (arith, history, count-within c.args.session c.args.book.now.history);
    }
