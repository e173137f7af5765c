use Rattle.std.proofs.Common.{arith, sym, subst, List, take}
use Rattle.functionals.specs.declared.term.WordTerm.{WordTerm}
use Rattle.functionals.specs.Functionals.{norm, shuffled_by, shuffled}
use Rattle.functionals.specs.Tables.{IsAdded}
use Rattle.functionals.proofs.Added.{added-both}
use Rattle.functionals.proofs.Rooms.{room-after, reach-at, shuffled-more, shuffled-part}
use Rattle.functionals.proofs.shuffling.add_terms.Goals as goal

pub add_term-requires-clause-short : goal.add_term-requires-clause-short
add_term-requires-clause-short c = omega (arith, c.requires.short, reach-at c.args.f.now c.loop-t.t-index c.t-item.result c.loop-t-test.true c.t-item.is)

pub add_term-requires-clause-room : goal.add_term-requires-clause-room
add_term-requires-clause-room c =
    room-after c.args.shape c.args.sums.now c.loop-t.sums (shuffled (take c.loop-t.t-index c.args.f.now) c.args.g.now) (norm (shuffled c.args.f.now c.args.g.now)) (norm (shuffled_by c.t-item.result c.args.g.now)) c.requires.room c.loop-t.invariant
    (shuffled-part c.args.f.now c.args.g.now c.loop-t.t-index c.t-item.result c.loop-t-test.true c.t-item.is)

pub loop-t-preserved : goal.loop-t-preserved
loop-t-preserved c =
    subst (λ (terms : List WordTerm). IsAdded c.args.shape c.args.sums.now c.add_term.new.sums terms)
    (sym (shuffled-more c.args.f.now c.args.g.now c.loop-t.t-index c.t-item.result c.loop-t-test.true c.t-item.is))
    (added-both c.args.shape c.args.sums.now c.loop-t.sums c.add_term.new.sums (shuffled (take c.loop-t.t-index c.args.f.now) c.args.g.now) (shuffled_by c.t-item.result c.args.g.now) c.loop-t.invariant c.add_term.ensures)
