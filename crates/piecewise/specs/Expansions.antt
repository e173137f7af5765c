-- The refusal of an expansion, as one of unfolding.
use Rattle.std.specs.Prelude.{◌≡◌}
use Rattle.lie_bracket.specs.declared.fault.ExpandFault.{ExpandFault}
use Rattle.lie_bracket.specs.declared.fault.ExpandFault.TheVariants.{Level, Memory as NoMemory}
use Rattle.piecewise.specs.declared.fault.UnfoldFault.{UnfoldFault}
use Rattle.piecewise.specs.declared.fault.UnfoldFault.TheVariants.{Expand, Memory}

-- each by its name
abbrev pub IsTaken : ExpandFault → UnfoldFault → Type 0
IsTaken (Level k) f = f ≡ Expand k
IsTaken NoMemory f = f ≡ Memory
