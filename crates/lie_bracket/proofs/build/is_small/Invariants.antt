use Rattle.std.proofs.Common.{◌≡◌, ◌-◌, ◌^◌, min, take}
use Rattle.lie_bracket.specs.Entries.{sizes}
use Rattle.lie_bracket.proofs.build.is_small.Given as goal

abbrev pub invariant-loop-t : goal.invariant-loop-t
invariant-loop-t l = l.size ≡ min (sizes (take l.t-index l.element)) (2 ^ 128 - 1)
