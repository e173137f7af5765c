use Rattle.std.proofs.Common.{◌≡◌, ◌++◌, ◌∷◌, map}
use Rattle.std.specs.Prelude.{flat_map}
use Rattle.definitions.specs.Words.{words_of, up_to}
use Rattle.dynkin_map.specs.Table.{row_of}
use Rattle.dynkin_map.proofs.images.push_level.Given as goal

abbrev pub invariant-loop-before : goal.invariant-loop-before
invariant-loop-before l = l.rows ≡ l.initial.rows ++ map (row_of l.table) (flat_map (λ a. map (λ word. a ∷ word) (words_of l.table.width l.k)) (up_to l.before))
