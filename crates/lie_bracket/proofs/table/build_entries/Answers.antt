use Rattle.std.proofs.Common.{refl, inl, inr, ◌≡◌, ◌≤◌, ◌<◌, ◌^◌, ◌∙◌, ap, sym, subst, arith, ℕ, List, length}
use Rattle.std.specs.Prelude.{true, false, Some}
use Rattle.std.proofs.lemmas.Bool.{cases_eq, false≢true}
use Rattle.definitions.specs.Hall.{hall_list}
use Rattle.definitions.specs.declared.member.Member.{Member}
use Rattle.hall_set.proofs.GrownLists.{IsHall, hall_list-IsHall}
use Rattle.lie_bracket.specs.declared.sign.Sign.TheVariants.{Minus, Plus}
use Rattle.lie_bracket.specs.Tables.{pairs_in_order, is_heavy}
use Rattle.lie_bracket.specs.Entries.{IsPair, AreDone, sizes}
use Rattle.lie_bracket.proofs.PairOrder.{first-heavy_pair}
use Rattle.lie_bracket.proofs.TableLoop.{pair_at, pair-read, pair-valid, filled-done, filled-next, heavy-size, light-size, bracket-size, built-tables}
use Rattle.lie_bracket.proofs.table.build_entries.Goals as goal

pub entry-requires-clause-pair : goal.entry-requires-clause-pair
entry-requires-clause-pair c =
    let hall : List Member = (hall_list c.args.hall.now.width c.args.hall.now.depth) in
    let lt : c.loop-k.k < length c.in_ok-pairs.pairs.items = omega (arith, c.loop-k-test.true, c.len-k-end.ensures) in
    let within : c.loop-k.k < length (pairs_in_order c.args.hall.now.depth hall) = omega (arith, lt, ap length c.in_ok-pairs.ensures.value) in
    let here : c.index.result.now ≡ pair_at c.args.hall.now.depth hall c.loop-k.k = pair-read c.args.hall.now.depth hall c.in_ok-pairs.pairs.items c.loop-k.k c.index.result.now c.in_ok-pairs.ensures.value lt c.index.ensures in
    let valid : IsPair c.args.hall.now.depth hall (c.index.result.now.0) (c.index.result.now.1) = subst (λ (p : ℕ × ℕ). IsPair c.args.hall.now.depth hall (p.0) (p.1)) (sym here) (pair-valid c.args.hall.now.depth hall c.loop-k.k within) in
    valid

pub entry-requires-in-loop-k-clause-pair : goal.entry-requires-in-loop-k-clause-pair
entry-requires-in-loop-k-clause-pair c =
    let hall : List Member = (hall_list c.args.hall.now.width c.args.hall.now.depth) in
    let lt : c.loop-k.k < length c.in_ok-pairs.pairs.items = omega (arith, c.loop-k-test.true, c.len-k-end.ensures) in
    let within : c.loop-k.k < length (pairs_in_order c.args.hall.now.depth hall) = omega (arith, lt, ap length c.in_ok-pairs.ensures.value) in
    let here : c.index.result.now ≡ pair_at c.args.hall.now.depth hall c.loop-k.k = pair-read c.args.hall.now.depth hall c.in_ok-pairs.pairs.items c.loop-k.k c.index.result.now c.in_ok-pairs.ensures.value lt c.index.ensures in
    let valid : IsPair c.args.hall.now.depth hall (c.index.result.now.0) (c.index.result.now.1) = subst (λ (p : ℕ × ℕ). IsPair c.args.hall.now.depth hall (p.0) (p.1)) (sym here) (pair-valid c.args.hall.now.depth hall c.loop-k.k within) in
    valid

pub entry-requires-clause-done : goal.entry-requires-clause-done
entry-requires-clause-done c =
    let hall : List Member = (hall_list c.args.hall.now.width c.args.hall.now.depth) in
    let lt : c.loop-k.k < length c.in_ok-pairs.pairs.items = omega (arith, c.loop-k-test.true, c.len-k-end.ensures) in
    let within : c.loop-k.k < length (pairs_in_order c.args.hall.now.depth hall) = omega (arith, lt, ap length c.in_ok-pairs.ensures.value) in
    let here : c.index.result.now ≡ pair_at c.args.hall.now.depth hall c.loop-k.k = pair-read c.args.hall.now.depth hall c.in_ok-pairs.pairs.items c.loop-k.k c.index.result.now c.in_ok-pairs.ensures.value lt c.index.ensures in
    let ok : IsHall c.args.hall.now.depth hall = hall_list-IsHall c.args.hall.now.width c.args.hall.now.depth c.in_ok-pairs.ensures.shape.some_depth in
    subst (λ (p : ℕ × ℕ). AreDone Plus c.args.hall.now.depth hall c.loop-k.majorants (p.0) (p.1)) (sym here) (filled-done Plus c.args.hall.now.depth hall ok c.loop-k.majorants c.loop-k.k within c.loop-k.invariant.majorants_filled)

pub entry-requires-in-loop-k-clause-done : goal.entry-requires-in-loop-k-clause-done
entry-requires-in-loop-k-clause-done c =
    let hall : List Member = (hall_list c.args.hall.now.width c.args.hall.now.depth) in
    let lt : c.loop-k.k < length c.in_ok-pairs.pairs.items = omega (arith, c.loop-k-test.true, c.len-k-end.ensures) in
    let within : c.loop-k.k < length (pairs_in_order c.args.hall.now.depth hall) = omega (arith, lt, ap length c.in_ok-pairs.ensures.value) in
    let here : c.index.result.now ≡ pair_at c.args.hall.now.depth hall c.loop-k.k = pair-read c.args.hall.now.depth hall c.in_ok-pairs.pairs.items c.loop-k.k c.index.result.now c.in_ok-pairs.ensures.value lt c.index.ensures in
    let ok : IsHall c.args.hall.now.depth hall = hall_list-IsHall c.args.hall.now.width c.args.hall.now.depth c.in_ok-pairs.ensures.shape.some_depth in
    subst (λ (p : ℕ × ℕ). AreDone Minus c.args.hall.now.depth hall c.loop-k.brackets (p.0) (p.1)) (sym here) (filled-done Minus c.args.hall.now.depth hall ok c.loop-k.brackets c.loop-k.k within c.loop-k.invariant.brackets_filled)

pub returns-then-not-is_small-clause-fault : goal.returns-then-not-is_small-clause-fault
returns-then-not-is_small-clause-fault c =
    let hall : List Member = (hall_list c.args.hall.now.width c.args.hall.now.depth) in
    let lt : c.loop-k.k < length c.in_ok-pairs.pairs.items = omega (arith, c.loop-k-test.true, c.len-k-end.ensures) in
    let within : c.loop-k.k < length (pairs_in_order c.args.hall.now.depth hall) = omega (arith, lt, ap length c.in_ok-pairs.ensures.value) in
    let here : c.index.result.now ≡ pair_at c.args.hall.now.depth hall c.loop-k.k = pair-read c.args.hall.now.depth hall c.in_ok-pairs.pairs.items c.loop-k.k c.index.result.now c.in_ok-pairs.ensures.value lt c.index.ensures in
    let valid : IsPair c.args.hall.now.depth hall (c.index.result.now.0) (c.index.result.now.1) = subst (λ (p : ℕ × ℕ). IsPair c.args.hall.now.depth hall (p.0) (p.1)) (sym here) (pair-valid c.args.hall.now.depth hall c.loop-k.k within) in
    let ok : IsHall c.args.hall.now.depth hall = hall_list-IsHall c.args.hall.now.width c.args.hall.now.depth c.in_ok-pairs.ensures.shape.some_depth in
    let heavy : is_heavy c.args.hall.now.depth hall (c.index.result.now.0, c.index.result.now.1) ≡ true =
    heavy-size c.args.hall.now.depth hall ok (c.index.result.now.0) (c.index.result.now.1) c.in_ok-majorant.majorant valid c.in_ok-majorant.ensures (λ small. false≢true (c.if-not-is_small.ensures.1 small)) in
    first-heavy_pair c.args.hall.now.depth hall (0, 0) c.loop-k.k within c.loop-k.invariant.light (subst (λ (p : ℕ × ℕ). is_heavy c.args.hall.now.depth hall p ≡ true) here heavy) ∙ ap Some (sym here)

pub loop-k-preserved : goal.loop-k-preserved
loop-k-preserved c =
    let hall : List Member = (hall_list c.args.hall.now.width c.args.hall.now.depth) in
    let lt : c.loop-k.k < length c.in_ok-pairs.pairs.items = omega (arith, c.loop-k-test.true, c.len-k-end.ensures) in
    let within : c.loop-k.k < length (pairs_in_order c.args.hall.now.depth hall) = omega (arith, lt, ap length c.in_ok-pairs.ensures.value) in
    let here : c.index.result.now ≡ pair_at c.args.hall.now.depth hall c.loop-k.k = pair-read c.args.hall.now.depth hall c.in_ok-pairs.pairs.items c.loop-k.k c.index.result.now c.in_ok-pairs.ensures.value lt c.index.ensures in
    let valid : IsPair c.args.hall.now.depth hall (c.index.result.now.0) (c.index.result.now.1) = subst (λ (p : ℕ × ℕ). IsPair c.args.hall.now.depth hall (p.0) (p.1)) (sym here) (pair-valid c.args.hall.now.depth hall c.loop-k.k within) in
    let ok : IsHall c.args.hall.now.depth hall = hall_list-IsHall c.args.hall.now.width c.args.hall.now.depth c.in_ok-pairs.ensures.shape.some_depth in
    let small : sizes c.in_ok-majorant.majorant ≤ 2 ^ 40 = c.if-not-is_small.ensures.0 refl in
    let light : is_heavy c.args.hall.now.depth hall (c.index.result.now.0, c.index.result.now.1) ≡ false =
    light-size c.args.hall.now.depth hall ok (c.index.result.now.0) (c.index.result.now.1) c.in_ok-majorant.majorant valid c.in_ok-majorant.ensures small in
    record {
      majorants_filled =
          filled-next Plus c.args.hall.now.depth hall c.loop-k.majorants c.store.new.entries c.loop-k.k (c.index.result.now.0) (c.index.result.now.1) c.in_ok-majorant.majorant within c.loop-k.invariant.majorants_filled here
          c.in_ok-majorant.ensures small c.in_ok-store.ensures.same c.in_ok-store.ensures.others;
      brackets_filled =
          filled-next Minus c.args.hall.now.depth hall c.loop-k.brackets c.store-in-loop-k.new.entries c.loop-k.k (c.index.result.now.0) (c.index.result.now.1) c.in_ok-bracket.bracket within c.loop-k.invariant.brackets_filled here
          c.in_ok-bracket.ensures
          (bracket-size c.args.hall.now.depth hall ok (c.index.result.now.0) (c.index.result.now.1) c.in_ok-majorant.majorant c.in_ok-bracket.bracket valid c.in_ok-majorant.ensures small c.in_ok-bracket.ensures)
          c.in_ok-store-2.ensures.same c.in_ok-store-2.ensures.others;
      light = λ i l.
          elim (cases_eq i c.loop-k.k) [
            | inl e ↦ subst (λ (p : ℕ × ℕ). is_heavy c.args.hall.now.depth hall p ≡ false) (here ∙ ap (pair_at c.args.hall.now.depth hall) (sym e)) light
            | inr ne ↦ c.loop-k.invariant.light i (omega arith)
          ];
    }

pub returns-clause-ok : goal.returns-clause-ok
returns-clause-ok c =
    let hall : List Member = (hall_list c.args.hall.now.width c.args.hall.now.depth) in
    let ok : IsHall c.args.hall.now.depth hall = hall_list-IsHall c.args.hall.now.width c.args.hall.now.depth c.in_ok-pairs.ensures.shape.some_depth in
    built-tables c.args.hall.now.depth hall ok c.loop-k.majorants c.loop-k.brackets c.loop-k.k c.loop-k.invariant (omega (arith, c.loop-k-test.false, c.len-k-end.ensures, ap length c.in_ok-pairs.ensures.value))
