use Rattle.std.proofs.Common.{◌≡◌, drop}
use Rattle.script_reader.specs.Forms.{rises_from}
use Rattle.script_reader.proofs.form.partitions.rises.Given as goal

abbrev pub invariant-loop-to : goal.invariant-loop-to
invariant-loop-to l = rises_from l.from (drop l.to-index l.ticks) ≡ rises_from 0 l.ticks
