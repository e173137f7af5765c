use Rattle.timeline.proofs.view.+copy_under.Given as goal

abbrev pub decreases-copy_under : goal.decreases-copy_under
decreases-copy_under l = l.limit
