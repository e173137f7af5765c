use Rattle.definitions.specs.Hall.{hall_list}
use Rattle.lie_bracket.specs.Tables.{pairs_at}
use Rattle.lie_bracket.proofs.PairOrder.{down-more}
use Rattle.lie_bracket.proofs.pairs.add_pairs_at.Goals as goal

pub loop-done-preserved : goal.loop-done-preserved
loop-done-preserved c =
    down-more (pairs_at (hall_list c.args.hall.now.width c.args.hall.now.depth) c.args.sum) c.len-len.result c.loop-done.done c.loop-done.pairs.items c.add_pairs_of.new.pairs.items _ c.loop-done-test.true c.loop-done.invariant
    c.in_ok-add_pairs_of.ensures
