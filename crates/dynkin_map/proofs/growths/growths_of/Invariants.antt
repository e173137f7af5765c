use Rattle.std.proofs.Common.{◌≡◌, ◌≤◌, ◌-◌, ◌^◌, ℕ, length}
use Rattle.std.specs.Prelude.{slice_index_or}
use Rattle.definitions.specs.Hall.{hall_list}
use Rattle.lie_bracket.specs.Entries.{sizes}
use Rattle.lie_bracket.specs.Tables.{nonzero}
use Rattle.dynkin_map.specs.Table.{growth_of, majorant_sum}
use Rattle.dynkin_map.proofs.growths.growths_of.Given as goal

abbrev pub invariant-loop-k : goal.invariant-loop-k
invariant-loop-k l = record {
  eight : length l.growths ≡ 8;
  values : (j : ℕ) → 1 ≤ j → j ≤ l.k → slice_index_or l.growths (j - 1) 0 ≡ growth_of l.table j;
  small : (j : ℕ) → 1 ≤ j → j ≤ l.k → growth_of l.table j ≤ 2 ^ 40;
  words : 1 ≤ l.k → l.words ≡ nonzero (length (hall_list l.table.width l.table.depth)) (majorant_sum l.table l.k);
  sizes : sizes l.words ≤ 2 ^ 50;
}
