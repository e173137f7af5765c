-- The entries between two ticks are the rows that lie there.
use Rattle.std.proofs.Common.{◌≡◌, ◌∙◌, ℕ, refl, ap, arith, List, [], ◌∷◌, Bool, true, false, cond, not, ◌&&◌}
use Rattle.std.specs.Prelude.{map, nat_le, nat_lt}
use Rattle.std.specs.Ordering.{is_le}
use Rattle.std.specs.declared.ops.Bound.TheVariants.{Included, Excluded}
use Rattle.std.specs.Prelude.{String}
use Rattle.std.specs.Map.{values_of}
use Rattle.std.specs.HashMap.{HashMap}
use Rattle.std.specs.BTreeMap.{BTreeMap, values}
use Rattle.std.specs.BTreeMap.Range.{range_contains, entries_between}
use Rattle.std.proofs.lemmas.Bool.Decides.{nat_tests}
use Rattle.definitions.specs.Rows.{RowValue, lies_in, rows_in}
use Rattle.increments.specs.Tables.{AreTied, place_of, entry_of, place_cmp}
use Rattle.increments.proofs.Places.{values_of-entries}

-- a place is at tick a or later
from-tick : (a t n : ℕ) → is_le (place_cmp (a, 0) (t, n)) ≡ nat_le a t
from-tick a t n = grind (arith, nat_tests)

-- a place is before tick b
before-tick : (b t n : ℕ) → not (is_le (place_cmp (b, 0) (t, n))) ≡ nat_lt t b
before-tick b t n = grind (arith, nat_tests)

entries_between-rows : (a b : ℕ) (rows : List RowValue) → entries_between place_cmp (Included (a, 0)) (Excluded (b, 0)) (map entry_of rows) ≡ map entry_of (rows_in a b rows)
entries_between-rows a b [] = refl
entries_between-rows a b (r ∷ rows) =
    let test : range_contains place_cmp (Included (a, 0)) (Excluded (b, 0)) (place_of r) ≡ lies_in a b r.tick =
    ap (λ t. t && not (is_le (place_cmp (b, 0) (place_of r)))) (from-tick a r.tick r.birth) ∙ ap (λ t. nat_le a r.tick && t) (before-tick b r.tick r.birth) in
    let rest = entries_between-rows a b rows in
    ap (λ t. cond t (entry_of r ∷ entries_between place_cmp (Included (a, 0)) (Excluded (b, 0)) (map entry_of rows)) (entries_between place_cmp (Included (a, 0)) (Excluded (b, 0)) (map entry_of rows))) test
    ∙ ap (λ es. cond (lies_in a b r.tick) (entry_of r ∷ es) es) rest
    ∙ out (lies_in a b r.tick) r (rows_in a b rows)
  where
    out : (t : Bool) (r : RowValue) (rs : List RowValue) → cond t (entry_of r ∷ map entry_of rs) (map entry_of rs) ≡ map entry_of (cond t (r ∷ rs) rs)
    out true r rs = refl
    out false r rs = refl

-- the same, at the map by places
pub rows_between : {Y S : Type 0} (rows : BTreeMap (ℕ × ℕ) RowValue) (names : HashMap (String Y) (ℕ × ℕ) S) (a b : ℕ) (es : List ((ℕ × ℕ) × RowValue)) → AreTied rows names
    → es ≡ entries_between place_cmp (Included (a, 0)) (Excluded (b, 0)) rows.entries → values_of es ≡ rows_in a b (values rows)
rows_between rows names a b es tied h =
    ap values_of (h ∙ ap (entries_between place_cmp (Included (a, 0)) (Excluded (b, 0))) tied.placed ∙ entries_between-rows a b (values rows)) ∙ values_of-entries (rows_in a b (values rows))
