use Rattle.book.proofs.walk.+visit.Given as goal

abbrev pub decreases-visit : goal.decreases-visit
decreases-visit g l = l.here.now.node.height
