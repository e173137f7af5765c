use Rattle.std.proofs.Common.{◌≡◌, ◌∙◌, ◌++◌, ◌∷◌, sym, ap, arith, List, [], append_assoc}
use Rattle.std.specs.BTreeMap.{values}
use Rattle.std.specs.Map.{values_of}
use Rattle.std.proofs.lemmas.Grind.{common_steps}
use Rattle.definitions.specs.Rows.{RowValue}
use Rattle.increments.proofs.Ties.{tied-none}
use Rattle.increments.proofs.Copies.{next-row, youngest, with_row-last}
use Rattle.increments.proofs.tables.copy_tables.Goals as goal

pub loop-place-init : goal.loop-place-init
loop-place-init c = record {
  tied = tied-none c.new-places.result c.new-keys.result c.new-places.ensures.ordered c.new-places.ensures.empty c.new-keys.ensures.empty;
  value =
      ap (λ (rs : List RowValue). rs ++ values_of c.into_iter-place-iterator.result) (ap values_of c.new-places.ensures.empty)
      ∙ ap values_of c.into_iter-place-iterator.ensures.into_iter_gives.0;
}

-- the rows that stand, the next one and the rest
whole : (first left rest all : List RowValue) (row : RowValue) → left ≡ row ∷ rest → first ++ left ≡ all → first ++ row ∷ rest ≡ all
whole first left rest all row split value = ap (λ (rs : List RowValue). first ++ rs) (sym split) ∙ value

pub insert_equal-requires-clause-new : goal.insert_equal-requires-clause-new
insert_equal-requires-clause-new c =
    let split : values_of c.loop-place._place-iterator ≡ c.in-Some.row.now ∷ values_of c.next.new.self = grind (arith, common_steps) in
    (next-row c.args.rows.now c.args.names.now c.requires c.in-Some.row.now (values c.loop-place.places) (values_of c.next.new.self)
    (whole (values c.loop-place.places) (values_of c.loop-place._place-iterator) (values_of c.next.new.self) (values c.args.rows.now) c.in-Some.row.now split c.loop-place.invariant.value)).unnamed

pub insert_equal-requires-clause-birth : goal.insert_equal-requires-clause-birth
insert_equal-requires-clause-birth c =
    let split : values_of c.loop-place._place-iterator ≡ c.in-Some.row.now ∷ values_of c.next.new.self = grind (arith, common_steps) in
    youngest c.in-Some.row.now (values c.loop-place.places)
    (next-row c.args.rows.now c.args.names.now c.requires c.in-Some.row.now (values c.loop-place.places) (values_of c.next.new.self)
    (whole (values c.loop-place.places) (values_of c.loop-place._place-iterator) (values_of c.next.new.self) (values c.args.rows.now) c.in-Some.row.now split c.loop-place.invariant.value)).after

pub loop-place-preserved : goal.loop-place-preserved
loop-place-preserved c =
    let row : RowValue = c.in-Some.row.now in
    let first : List RowValue = values c.loop-place.places in
    let rest : List RowValue = values_of c.next.new.self in
    let split : values_of c.loop-place._place-iterator ≡ row ∷ rest = grind (arith, common_steps) in
    let all : first ++ row ∷ rest ≡ values c.args.rows.now = whole first (values_of c.loop-place._place-iterator) rest (values c.args.rows.now) row split c.loop-place.invariant.value in
    let grown : values c.insert_equal.new.rows ≡ first ++ row ∷ [] =
    c.in_ok-insert_equal.ensures.ok ∙ with_row-last row first (next-row c.args.rows.now c.args.names.now c.requires row first rest all).after in
    record {
      tied = c.insert_equal.ensures.tied;
      value = ap (λ (rs : List RowValue). rs ++ rest) grown ∙ append_assoc first (row ∷ []) rest ∙ all;
    }
