use Rattle.std.proofs.Common.{◌+◌, ◌∙◌, ℕ, suc, pos, ap, arith, add-one, unsigned_abs}
use Rattle.std.specs.Prelude.{slice_index_or}
use Rattle.dynkin_map.specs.Table.{majorant_sum_with}
use Rattle.dynkin_map.proofs.RowSums.{sum-none, sum-more}
use Rattle.dynkin_map.proofs.growths.write_words.Goals as goal

pub loop-before-init : goal.loop-before-init
loop-before-init c = record {
  values = λ h within. c.requires.zeros h within ∙ sum-none (λ i. majorant_sum_with c.args.table.now c.args.k (suc i) (suc h));
  bound = λ h within. omega (arith, ap unsigned_abs (c.requires.zeros h within));
}

pub loop-before-preserved : goal.loop-before-preserved
loop-before-preserved c = record {
  values = λ h within.
      sum-more c.loop-before.before (λ i. majorant_sum_with c.args.table.now c.args.k (suc i) (suc h)) (slice_index_or c.loop-before.sum h (pos 0)) (slice_index_or c.add_words_with.new.sum h (pos 0))
      (majorant_sum_with c.args.table.now c.args.k (c.loop-before.before + 1) (suc h))
      (c.loop-before.invariant.values h (omega (arith, within, c.add_words_with.auto.sum))) (c.add_words_with.ensures.value h within)
      (ap (λ (a : ℕ). majorant_sum_with c.args.table.now c.args.k a (suc h)) (add-one c.loop-before.before));
  bound = λ h within. omega (arith, c.add_words_with.ensures.bound h within, c.loop-before.invariant.bound h (omega (arith, within, c.add_words_with.auto.sum)));
}
