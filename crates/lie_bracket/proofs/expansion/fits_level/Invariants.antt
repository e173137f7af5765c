use Rattle.std.proofs.Common.{◌≡◌, ◌-◌, ◌^◌, min, take}
use Rattle.lie_bracket.specs.Expanding.{level_size}
use Rattle.lie_bracket.proofs.expansion.fits_level.Given as goal

abbrev pub invariant-loop-t : goal.invariant-loop-t
invariant-loop-t l = l.size ≡ min (level_size l.members l.k (take l.t-index l.terms)) (2 ^ 128 - 1)
