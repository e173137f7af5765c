use Rattle.timeline.proofs.view.+copy_all.Given as goal

abbrev pub decreases-copy_all : goal.decreases-copy_all
decreases-copy_all l = l.limit
