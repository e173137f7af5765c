-- The rows of the maps are in order.
use Rattle.std.proofs.Common.{◌≡◌, ℕ, ◌<◌, ◌⊎◌, arith, subst, List, [], ◌∷◌}
use Rattle.std.specs.Prelude.{map, String}
use Rattle.std.specs.declared.cmp.Ordering.TheVariants.{Less}
use Rattle.std.specs.List.{AllByRecursion}
use Rattle.std.specs.List.Sorted.{IsStrictlySortedBy}
use Rattle.std.specs.Map.{keys_of}
use Rattle.std.specs.HashMap.{HashMap}
use Rattle.std.specs.BTreeMap.{BTreeMap, values}
use Rattle.std.proofs.lemmas.Bool.Decides.{nat_tests}
use Rattle.std.proofs.lemmas.List.Elements.{All-from_recursion}
use Rattle.std.proofs.lemmas.List.Kept.{AllPairs-cons}
use Rattle.std.proofs.lemmas.Map.Keys.{sorted_head, sorted_tail}
use Rattle.definitions.specs.Rows.{RowValue}
use Rattle.increments.specs.Edits.{IsBefore, IsInOrder}
use Rattle.increments.specs.Tables.{AreTied, place_of, entry_of, place_cmp}

before : (a b c d : ℕ) → place_cmp (a, b) (c, d) ≡ Less → (a < c) ⊎ ((a ≡ c) × (b < d))
before a b c d h = grind (arith, nat_tests)

each-before : (r : RowValue) (rows : List RowValue) → AllByRecursion (λ p. place_cmp (place_of r) p ≡ Less) (keys_of (map entry_of rows)) → AllByRecursion (IsBefore r) rows
each-before r [] less = tt
each-before r (s ∷ rows) less = (before r.tick r.birth s.tick s.birth less.0, each-before r rows less.1)

in_order : (rows : List RowValue) → IsStrictlySortedBy place_cmp (keys_of (map entry_of rows)) → IsInOrder rows
in_order [] sorted = λ i j d h k. absurd (omega arith)
in_order (r ∷ rows) sorted =
    AllPairs-cons IsBefore r rows (All-from_recursion (IsBefore r) rows (each-before r rows (sorted_head place_cmp (place_of r) (keys_of (map entry_of rows)) sorted)))
    (in_order rows (sorted_tail place_cmp (place_of r) (keys_of (map entry_of rows)) sorted))

-- the rows of tied maps are in the order of tick and birth
pub tied-in_order : {Y S : Type 0} (rows : BTreeMap (ℕ × ℕ) RowValue) (names : HashMap (String Y) (ℕ × ℕ) S) → AreTied rows names → IsInOrder (values rows)
tied-in_order rows names tied = in_order (values rows) (subst (λ es. IsStrictlySortedBy place_cmp (keys_of es)) tied.placed tied.ordered)
