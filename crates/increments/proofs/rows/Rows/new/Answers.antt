use Rattle.std.proofs.Common.{◌≡◌, sym, ap, subst, []}
use Rattle.std.specs.Prelude.{All}
use Rattle.std.specs.Map.{values_of}
use Rattle.std.specs.BTreeMap.{values}
use Rattle.std.proofs.lemmas.List.Elements.{All-nil}
use Rattle.definitions.specs.Moves.{IsMove}
use Rattle.definitions.specs.Rows.{RowValue}
use Rattle.increments.proofs.Ties.{tied-none}
use Rattle.increments.proofs.rows.Rows.new.Goals as goal

pub invariant_of-result : goal.invariant_of-result
invariant_of-result c =
    let none : [] ≡ values c.new.result = sym (ap values_of c.new.ensures.empty) in (
      tied-none c.new.result c.new-2.result c.new.ensures.ordered c.new.ensures.empty c.new-2.ensures.empty,
      subst (All (λ (row : RowValue). IsMove c.args.shape row.x)) none (All-nil (λ (row : RowValue). IsMove c.args.shape row.x)),
    )
