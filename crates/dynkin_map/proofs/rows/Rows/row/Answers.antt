use Rattle.std.proofs.Common.{◌≡◌, ℕ, List, ap, arith, rules}
use Rattle.std.specs.Prelude.{length}
use Rattle.lie_bracket.specs.declared.term.Term.{Term}
use Rattle.dynkin_map.specs.Rows.{rows_from}
use Rattle.dynkin_map.proofs.RowLaws.{length-rows}
use Rattle.dynkin_map.proofs.rows.Rows.row.Goals as goal

pub row_of-requires-clause-at : goal.row_of-requires-clause-at
row_of-requires-clause-at c =
    let ends : c.deref-2.result.now ≡ c.self.inside.ends.items = c.deref-2.ensures.value in
    let rows : c.args.self.now ≡ rows_from c.self.inside.terms.items 0 c.self.inside.ends.items = search rules in
    omega (arith, c.requires, ap (λ (xs : List ℕ). length xs) ends, ap (λ (rs : List (List Term)). length rs) rows, length-rows c.self.inside.terms.items 0 c.self.inside.ends.items)
