use Rattle.timeline.proofs.tree.Tree.+put.Given as goal

abbrev pub decreases-put : goal.decreases-put
decreases-put l = l.limit
