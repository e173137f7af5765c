use Rattle.std.proofs.Common.{arith, sym, subst, List, take}
use Rattle.functionals.specs.declared.term.WordTerm.{WordTerm}
use Rattle.functionals.specs.Functionals.{norm, shuffled_pair, shuffled_by}
use Rattle.functionals.specs.Tables.{IsAdded}
use Rattle.functionals.proofs.Added.{added-both}
use Rattle.functionals.proofs.Rooms.{room-after, reach-at, shuffled_by-more, shuffled_by-part}
use Rattle.functionals.proofs.shuffling.add_term.Goals as goal

pub add_pair-requires-clause-short : goal.add_pair-requires-clause-short
add_pair-requires-clause-short c = omega (arith, c.requires.short, reach-at c.args.g.now c.loop-r.r-index c.r-item.result c.loop-r-test.true c.r-item.is)

pub add_pair-requires-clause-room : goal.add_pair-requires-clause-room
add_pair-requires-clause-room c =
    room-after c.args.shape c.args.sums.now c.loop-r.sums (shuffled_by c.args.t.now (take c.loop-r.r-index c.args.g.now)) (norm (shuffled_by c.args.t.now c.args.g.now)) (norm (shuffled_pair c.args.t.now c.r-item.result)) c.requires.room c.loop-r.invariant
    (shuffled_by-part c.args.t.now c.args.g.now c.loop-r.r-index c.r-item.result c.loop-r-test.true c.r-item.is)

pub loop-r-preserved : goal.loop-r-preserved
loop-r-preserved c =
    subst (λ (terms : List WordTerm). IsAdded c.args.shape c.args.sums.now c.add_pair.new.sums terms)
    (sym (shuffled_by-more c.args.t.now c.args.g.now c.loop-r.r-index c.r-item.result c.loop-r-test.true c.r-item.is))
    (added-both c.args.shape c.args.sums.now c.loop-r.sums c.add_pair.new.sums (shuffled_by c.args.t.now (take c.loop-r.r-index c.args.g.now)) (shuffled_pair c.args.t.now c.r-item.result) c.loop-r.invariant c.add_pair.ensures)
