use Rattle.std.proofs.Common.{take-add, length-drop, arith, ◌∙◌}
use Rattle.std.proofs.lemmas.List.{take_rest}
use Rattle.std.proofs.KnownBytes.{Appends-trans}
use Rattle.rough_io.proofs.sink.send.Goals as goal

pub loop-done-preserved : goal.loop-done-preserved
loop-done-preserved g c =
    let added = rw take_rest at c.in_ok-done.ensures.bytes in
    let within = simp (take_rest, length-drop) at c.in_ok-done.ensures.bound in (
      omega (arith, within),
      rw take-add (Appends-trans _ _ _ _ _ c.loop-done.invariant.1 added),
      c.in_ok-done.ensures.cause ∙ c.loop-done.invariant.2,
    )
