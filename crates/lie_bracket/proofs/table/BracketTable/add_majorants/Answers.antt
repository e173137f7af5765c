use Rattle.std.proofs.Common.{◌∙◌, ap, sym, subst, arith, ℕ, ℤ, List, pos, suc, ◌+ℤ◌}
use Rattle.std.specs.Prelude.{slice_index_or}
use Rattle.definitions.specs.Words.{Extent, IsShape}
use Rattle.definitions.specs.Hall.{hall_list}
use Rattle.definitions.specs.declared.member.Member.{Member}
use Rattle.hall_set.proofs.GrownLists.{IsHall, hall_list-IsHall}
use Rattle.lie_bracket.specs.declared.sign.Sign.TheVariants.{Plus}
use Rattle.lie_bracket.specs.Entries.{AreSmall, IsTable}
use Rattle.lie_bracket.proofs.TableSteps.{table-over}
use Rattle.lie_bracket.proofs.table.BracketTable.add_majorants.Goals as goal

pub add_brackets_with-requires-clause-small : goal.add_brackets_with-requires-clause-small
add_brackets_with-requires-clause-small c =
    let extent : Extent = c.args.self.now in
    let table : IsTable Plus extent.depth (hall_list extent.width extent.depth) c.self.inside.majorants = subst (λ (e : Extent). IsTable Plus e.depth (hall_list e.width e.depth) c.self.inside.majorants) c.self.view_is c.self.invariant.2.majorants_all in
    subst (λ (n : ℕ). AreSmall n c.self.inside.majorants) (sym c.requires.len) table.small

pub returns-clause-value : goal.returns-clause-value
returns-clause-value c = λ h within.
    let extent : Extent = c.args.self.now in
    let hall : List Member = hall_list extent.width extent.depth in
    let shape : IsShape extent = subst IsShape c.self.view_is c.self.invariant.0 in
    let ok : IsHall extent.depth hall = hall_list-IsHall extent.width extent.depth shape.some_depth in
    let table : IsTable Plus extent.depth hall c.self.inside.majorants = subst (λ (e : Extent). IsTable Plus e.depth (hall_list e.width e.depth) c.self.inside.majorants) c.self.view_is c.self.invariant.2.majorants_all in
    c.add_brackets_with.ensures.value h within
    ∙ ap (λ (z : ℤ). slice_index_or c.args.sum.now h (pos 0) +ℤ z)
    (table-over Plus extent.depth hall ok c.self.inside.majorants table c.args.a (suc h) c.args.terms.now c.requires.left c.requires.right (omega arith) (omega (arith, within, c.add_brackets_with.auto.sum, c.requires.len)))
