use Rattle.std.proofs.Common.{◌≡◌, ◌-◌, ◌∙◌, ap, subst, arith, ℤ, List, pos, length}
use Rattle.std.specs.Prelude.{slice_index_or, IfOk}
use Rattle.std.proofs.lemmas.List.{take_at}
use Rattle.definitions.specs.Hall.{hall_list}
use Rattle.lie_bracket.specs.Tables.{nonzero}
use Rattle.lie_bracket.specs.Entries.{entry_of, bracket_by}
use Rattle.lie_bracket.proofs.TableSteps.{sums-list}
use Rattle.lie_bracket.proofs.build.entry.Goals as goal

pub returns : goal.returns
returns c =
    let len : length c.write_factors.new.sum ≡ length (hall_list c.args.hall.now.width c.args.hall.now.depth) = omega (arith, c.write_factors.auto.sum, ap length c.deref_mut.ensures.value, c.in_ok-sum.ensures.len, c.len.ensures.value) in
    let same : c.deref.result.now ≡ c.write_factors.new.sum = c.deref.ensures.value ∙ take_at c.write_factors.new.sum _ c.in_ok-sum.sum.len (omega (arith, c.write_factors.auto.sum, ap length c.deref_mut.ensures.value, c.in_ok-sum.ensures.len)) in
    let list : nonzero (length c.deref.result.now) (λ h. slice_index_or c.deref.result.now (h - 1) (pos 0)) ≡ entry_of c.args.sign c.args.hall.now.depth (hall_list c.args.hall.now.width c.args.hall.now.depth) c.args.a c.args.b =
    ap (λ (xs : List ℤ). nonzero (length xs) (λ h. slice_index_or xs (h - 1) (pos 0))) same
    ∙ sums-list (length (hall_list c.args.hall.now.width c.args.hall.now.depth)) (bracket_by c.args.sign c.args.hall.now.depth (hall_list c.args.hall.now.width c.args.hall.now.depth) c.args.a c.args.b) c.write_factors.new.sum len c.write_factors.ensures.value in
    subst (λ (ts : _). IfOk c.from_sums.result (λ z. z ≡ ts)) list c.from_sums.ensures
