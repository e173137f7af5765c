use Rattle.std.proofs.Common.{ap, ◌∙◌, arith}
use Rattle.definitions.specs.Hall.{hall_list}
use Rattle.script_reader.proofs.Degrees.{counts-next, counts-all}
use Rattle.script_reader.proofs.coordinates.counts_of.Goals as goal

pub loop-before-preserved : goal.loop-before-preserved
loop-before-preserved c =
    counts-next c.args.shape c.loop-before.before c.members.result.now _ _ c.members_to.result c.loop-before.invariant
    (c.members.ensures.value ∙ ap (λ e. hall_list e.width e.depth) c.in_ok-set.ensures) c.members_to.ensures c.in_ok-push.ensures.items

pub returns : goal.returns
returns c = counts-all c.args.shape c.loop-before.before _ c.loop-before.invariant (omega arith)
