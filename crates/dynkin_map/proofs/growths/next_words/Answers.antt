use Rattle.std.proofs.Common.{◌≡◌, ◌<◌, ◌-◌, ◌∙◌, ap, subst, arith, ℕ, ℤ, List, pos, suc, length}
use Rattle.std.specs.Prelude.{slice_index_or, IfOk}
use Rattle.std.proofs.lemmas.List.{take_at}
use Rattle.lie_bracket.specs.declared.term.Term.{Term}
use Rattle.lie_bracket.specs.Tables.{nonzero}
use Rattle.lie_bracket.proofs.NonzeroLaws.{nonzero-same}
use Rattle.dynkin_map.specs.Table.{majorant_sum}
use Rattle.dynkin_map.proofs.CoordinateSteps.{members_of}
use Rattle.dynkin_map.proofs.growths.next_words.Goals as goal

listed : (n : ℕ) (f : ℕ → ℤ) (sum : List ℤ) → length sum ≡ n → ((i : ℕ) → i < length sum → slice_index_or sum i (pos 0) ≡ f (suc i)) → nonzero (length sum) (λ h. slice_index_or sum (h - 1) (pos 0)) ≡ nonzero n f
listed n f sum len value =
    nonzero-same (length sum) (λ h. slice_index_or sum (h - 1) (pos 0)) f (λ h least most. value (h - 1) (omega arith) ∙ (let e : suc (h - 1) ≡ h = omega arith in ap f e))
    ∙ ap (λ (k : ℕ). nonzero k f) len

pub returns : goal.returns
returns c =
    let n : ℕ = length (members_of c.args.table.now) in
    let len : length c.write_words.new.sum ≡ n = omega (arith, c.write_words.auto.sum, ap length c.deref_mut.ensures.value, c.in_ok-sum.ensures.len, c.requires.members) in
    let same : c.deref.result.now ≡ c.write_words.new.sum = c.deref.ensures.value ∙ take_at c.write_words.new.sum _ c.in_ok-sum.sum.len (omega (arith, c.write_words.auto.sum, ap length c.deref_mut.ensures.value, c.in_ok-sum.ensures.len)) in
    let list : nonzero (length c.deref.result.now) (λ h. slice_index_or c.deref.result.now (h - 1) (pos 0)) ≡ nonzero n (majorant_sum c.args.table.now (suc c.args.k)) =
    ap (λ (xs : List ℤ). nonzero (length xs) (λ h. slice_index_or xs (h - 1) (pos 0))) same ∙ listed n (majorant_sum c.args.table.now (suc c.args.k)) c.write_words.new.sum len c.write_words.ensures.value in
    subst (λ (ts : List Term). IfOk c.from_sums.result (λ z. z ≡ ts)) list c.from_sums.ensures
