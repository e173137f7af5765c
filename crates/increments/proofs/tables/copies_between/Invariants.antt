use Rattle.std.proofs.Common.{◌≡◌, ◌++◌}
use Rattle.std.specs.BTreeMap.{values}
use Rattle.std.specs.Map.{values_of}
use Rattle.definitions.specs.Rows.{rows_in}
use Rattle.increments.proofs.tables.copies_between.Given as goal

abbrev pub invariant-loop-place : goal.invariant-loop-place
invariant-loop-place l = l.list.items ++ values_of l._place-iterator ≡ rows_in l.from l.to (values l.rows)
