use Rattle.std.proofs.Common.{◌≡◌, map, suc}
use Rattle.definitions.specs.AllWords.{words_below}
use Rattle.dynkin_map.specs.Table.{row_of}
use Rattle.dynkin_map.proofs.images.images_of.Given as goal

abbrev pub invariant-loop-k : goal.invariant-loop-k
invariant-loop-k l = l.rows ≡ map (row_of l.table) (words_below l.table.width (suc l.k))
