use Rattle.timeline.proofs.view.+totals_under.Given as goal

abbrev pub decreases-totals_under : goal.decreases-totals_under
decreases-totals_under l = l.limit
