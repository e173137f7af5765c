use Rattle.std.proofs.Common.{◌≡◌, ◌++◌, ◌∷◌, map, take}
use Rattle.definitions.specs.Words.{words_of}
use Rattle.dynkin_map.specs.Table.{row_of}
use Rattle.dynkin_map.proofs.images.push_images.Given as goal

abbrev pub invariant-loop-i : goal.invariant-loop-i
invariant-loop-i l = l.rows ≡ l.initial.rows ++ map (row_of l.table) (map (λ word. l.a ∷ word) (take l.i (words_of l.table.width l.k)))
