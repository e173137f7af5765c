use Rattle.std.proofs.Common.{◌∙◌, ap, sym, subst, arith, ℕ, ℤ, List, pos, suc, ◌+ℤ◌}
use Rattle.std.specs.Prelude.{slice_index_or}
use Rattle.definitions.specs.Words.{Extent, IsShape}
use Rattle.definitions.specs.Hall.{hall_list}
use Rattle.definitions.specs.declared.member.Member.{Member}
use Rattle.hall_set.proofs.GrownLists.{IsHall, hall_list-IsHall}
use Rattle.lie_bracket.specs.declared.sign.Sign.TheVariants.{Minus}
use Rattle.lie_bracket.specs.Entries.{AreSmall, IsTable}
use Rattle.lie_bracket.proofs.TableSteps.{table-over}
use Rattle.lie_bracket.proofs.table.BracketTable.add_brackets.Goals as goal

pub add_brackets_with-requires-clause-small : goal.add_brackets_with-requires-clause-small
add_brackets_with-requires-clause-small c =
    let extent : Extent = c.args.self.now in
    let table : IsTable Minus extent.depth (hall_list extent.width extent.depth) c.self.inside.brackets = subst (λ (e : Extent). IsTable Minus e.depth (hall_list e.width e.depth) c.self.inside.brackets) c.self.view_is c.self.invariant.2.brackets_all in
    subst (λ (n : ℕ). AreSmall n c.self.inside.brackets) (sym c.requires.len) table.small

pub returns-clause-value : goal.returns-clause-value
returns-clause-value c = λ h within.
    let extent : Extent = c.args.self.now in
    let hall : List Member = hall_list extent.width extent.depth in
    let shape : IsShape extent = subst IsShape c.self.view_is c.self.invariant.0 in
    let ok : IsHall extent.depth hall = hall_list-IsHall extent.width extent.depth shape.some_depth in
    let table : IsTable Minus extent.depth hall c.self.inside.brackets = subst (λ (e : Extent). IsTable Minus e.depth (hall_list e.width e.depth) c.self.inside.brackets) c.self.view_is c.self.invariant.2.brackets_all in
    c.add_brackets_with.ensures.value h within
    ∙ ap (λ (z : ℤ). slice_index_or c.args.sum.now h (pos 0) +ℤ z)
    (table-over Minus extent.depth hall ok c.self.inside.brackets table c.args.a (suc h) c.args.terms.now c.requires.left c.requires.right (omega arith) (omega (arith, within, c.add_brackets_with.auto.sum, c.requires.len)))
