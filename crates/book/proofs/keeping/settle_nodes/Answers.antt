use Rattle.std.proofs.Common.{◌∙◌, sym, arith, List}
use Rattle.std.specs.Arc.{arc_value}
use Rattle.node_cache.specs.Entries.{CacheValue}
use Rattle.solve.specs.declared.solution.SolvedNode.{SolvedNode}
use Rattle.versions.specs.Versions.{LogValue}
use Rattle.book.proofs.SettledLaws.{settled-past, settled-recent}
use Rattle.book.proofs.keeping.settle_nodes.Goals as goal
use Rattle.book.proofs.keeping.settle_nodes.Goals.{then-not-is_past+in_ok-try_clone+in_ok-keep, else-not-is_past}

pub loop-s-preserved : goal.loop-s-preserved
loop-s-preserved c =
    let log : LogValue = c.args.log.now in
    let solved : List SolvedNode = c.args.solved.now in
    let s : SolvedNode = c.s-item.result in
    let old : CacheValue = c.args.cache.now in
    let is = c.loop-s.invariant.settled in
    elim c.if-not-is_past.branch [
      | then-not-is_past+in_ok-try_clone+in_ok-keep w ↦ rw (w.count-is, w.cache-is) (
          record {
            settled = settled-recent log c.args.version old solved c.loop-s.s-index s c.loop-s-test.true c.s-item.is c.is_past.ensures.log c.requires.version c.requires.nodes c.requires.signatures
                w.since.result (arc_value w.in_ok-try_clone.field-0) c.loop-s.count c.loop-s.cache w.keep.new.self is (sym c.is_past.ensures.value ∙ w.if-not-is_past.true) w.since.ensures w.in_ok-try_clone.ensures w.in_ok-keep.ensures.ok;
            few = omega arith;
          })
      | else-not-is_past w ↦ rw (w.count-is, w.cache-is) (
          record {
            settled = settled-past log c.args.version old solved c.loop-s.s-index s c.loop-s-test.true c.s-item.is c.loop-s.count c.loop-s.cache is (sym c.is_past.ensures.value ∙ w.if-not-is_past.false);
            few = omega arith;
          })
    ]
