use Rattle.timeline.proofs.node_view.+find_under.Given as goal

abbrev pub decreases-find_under : goal.decreases-find_under
decreases-find_under l = l.limit
