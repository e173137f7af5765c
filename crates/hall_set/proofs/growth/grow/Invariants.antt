use Rattle.std.proofs.Common.{◌≡◌, ◌-◌, replicate}
use Rattle.definitions.specs.Hall.{grown}
use Rattle.definitions.specs.declared.member.Member.TheVariants.{Letter}
use Rattle.hall_set.proofs.growth.grow.Given as goal

abbrev pub invariant-loop-letter : goal.invariant-loop-letter
invariant-loop-letter l = l.hall.items ≡ replicate l._letter Letter

abbrev pub invariant-loop-degree : goal.invariant-loop-degree
invariant-loop-degree l = l.hall.items ≡ grown l.fn.shape.width (l.degree - 1)
