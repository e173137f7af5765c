use Rattle.book.proofs.expiry.+drop_ended.Given as goal

abbrev pub decreases-drop_ended : goal.decreases-drop_ended
decreases-drop_ended l = l.here.now.node.height
