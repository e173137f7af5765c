use Rattle.std.proofs.Common.{◌≡◌, ◌++◌}
use Rattle.std.specs.BTreeMap.{values}
use Rattle.std.specs.Map.{values_of}
use Rattle.increments.specs.Tables.{AreTied}
use Rattle.increments.proofs.tables.copy_tables.Given as goal

abbrev pub invariant-loop-place : goal.invariant-loop-place
invariant-loop-place l = record {
  tied : AreTied l.places l.keys;
  value : values l.places ++ values_of l._place-iterator ≡ values l.rows;
}
