use Rattle.std.proofs.Common.{◌≡◌, ◌++◌, drop}
use Rattle.script_reader.specs.Forms.{queries_from}
use Rattle.script_reader.proofs.form.partitions.partition_queries.Given as goal

abbrev pub invariant-loop-to : goal.invariant-loop-to
invariant-loop-to l = l.queries ++ queries_from l.r l.version l.start l.from (drop l.to-index l.ends) ≡ queries_from l.r l.version l.start l.start l.ends
