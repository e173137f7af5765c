use Rattle.std.proofs.Common.{◌≡◌, ◌≤◌, ◌-◌, [], length, drop, MatchOption}
use Rattle.script_reader.specs.Coordinates.{degree_counts}
use Rattle.cbh_calc.specs.ElementReading.{Keeps}
use Rattle.cbh_calc.proofs.ElementLoop.{IsReading}
use Rattle.cbh_calc.proofs.elements.read_moves.Given as goal

abbrev pub invariant-loop-end : goal.invariant-loop-end
invariant-loop-end l = record {
  within : l.from ≤ length l.bytes;
  reading : IsReading l.bytes l.number (drop l.from l.bytes) l.reader.shape l.reader.moves.items;
  keeps : Keeps l.reader.shape l.reader.moves.items;
  counted : MatchOption l.reader.shape (l.reader.moves.items ≡ []) (λ shape. l.reader.counts.items ≡ degree_counts shape);
}

abbrev pub decreases-loop-end : goal.decreases-loop-end
decreases-loop-end l = length l.bytes - l.from
