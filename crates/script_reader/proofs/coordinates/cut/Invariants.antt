use Rattle.std.proofs.Common.{◌≡◌, ◌+◌, ◌++◌, length, drop}
use Rattle.script_reader.specs.Coordinates.{cut_from, AreEnds}
use Rattle.script_reader.proofs.coordinates.cut.Given as goal

abbrev pub invariant-loop-place : goal.invariant-loop-place
invariant-loop-place l = record {
  ends : AreEnds l.from (drop l.place-index l.places) (length l.initial.rest.items);
  left : l.from + length l.rest.items ≡ length l.initial.rest.items;
  value : l.parts.items ++ cut_from l.from (drop l.place-index l.places) l.rest.items ≡ cut_from 0 l.places l.initial.rest.items;
}
