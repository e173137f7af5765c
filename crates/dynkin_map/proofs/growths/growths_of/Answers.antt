use Rattle.std.proofs.Common.{◌≡◌, ◌≤◌, ◌<◌, ◌+◌, ◌^◌, ◌∙◌, ℕ, List, suc, ap, sym, subst, arith, add-one, length}
use Rattle.definitions.specs.Words.{Extent}
use Rattle.lie_bracket.specs.declared.term.Term.{Term}
use Rattle.lie_bracket.specs.Elements.{top}
use Rattle.lie_bracket.specs.Entries.{sizes}
use Rattle.lie_bracket.specs.Tables.{nonzero}
use Rattle.dynkin_map.specs.Table.{growth_of, majorant_sum}
use Rattle.dynkin_map.proofs.CoordinateSteps.{members_of}
use Rattle.dynkin_map.proofs.GrowthSums.{AreGrowthsTo, growths-more, growth-top, sum-sizes}
use Rattle.dynkin_map.proofs.growths.growths_of.Goals as goal

pub returns-then-growth-clause-fault : goal.returns-then-growth-clause-fault
returns-then-growth-clause-fault c =
    let extent : Extent = c.args.table.now in
    let k : ℕ = c.loop-k.k in
    let words : c.in_ok-words-2.words ≡ nonzero (length (members_of extent)) (majorant_sum extent (suc k)) = c.in_ok-words-2.ensures in
    let growth : c.top-growth.result ≡ growth_of extent (suc k) = c.top-growth.ensures ∙ ap top words ∙ growth-top extent (suc k) c.requires.shape.some_depth in
    record {
      least = omega arith;
      most = omega (arith, c.loop-k-test.true, c.depth-k-end.ensures.value, ap (λ (e : Extent). e.depth) c.shape.ensures.value);
      past = omega (arith, growth, c.if-growth.true, ap (growth_of extent) (add-one k));
      before = λ j some lt. c.loop-k.invariant.small j some (omega arith);
    }

pub loop-k-preserved : goal.loop-k-preserved
loop-k-preserved c =
    let extent : Extent = c.args.table.now in
    let k : ℕ = c.loop-k.k in
    let within : k < 8 = omega (arith, c.loop-k-test.true, c.depth-k-end.ensures.value, ap (λ (e : Extent). e.depth) c.shape.ensures.value, c.requires.shape.within_depth) in
    let words : c.in_ok-words-2.words ≡ nonzero (length (members_of extent)) (majorant_sum extent (suc k)) = c.in_ok-words-2.ensures in
    let growth : c.top-growth.result ≡ growth_of extent (suc k) = c.top-growth.ensures ∙ ap top words ∙ growth-top extent (suc k) c.requires.shape.some_depth in
    let next : AreGrowthsTo extent _ (k + 1) =
    growths-more extent c.loop-k.growths k c.top-growth.result within (record { eight = c.loop-k.invariant.eight; values = c.loop-k.invariant.values; small = c.loop-k.invariant.small })
    (growth ∙ ap (growth_of extent) (sym (add-one k))) (omega (arith, c.if-growth.false)) in
    record {
      eight = next.eight;
      values = next.values;
      small = next.small;
      words = λ some. words ∙ ap (λ (n : ℕ). nonzero (length (members_of extent)) (majorant_sum extent n)) (sym (add-one k));
      sizes = subst (λ (ts : List Term). sizes ts ≤ 2 ^ 50) (sym words) (sum-sizes extent (suc k) c.requires.shape (omega (arith, growth, c.if-growth.false)));
    }
