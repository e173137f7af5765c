use Rattle.std.specs.Prelude.{All}
use Rattle.definitions.specs.Moves.{IsMove}
use Rattle.cbh_calc.proofs.tests.moves_of.Given as goal

abbrev pub invariant-loop-parts : goal.invariant-loop-parts
invariant-loop-parts l = All (IsMove l.shape) l.moves.items
